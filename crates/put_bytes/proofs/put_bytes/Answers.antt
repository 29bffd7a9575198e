use Rattle.std.proofs.Common.{arith}
use Rattle.put_bytes.specs.Puts.{copy_more}
use Rattle.put_bytes.proofs.put_bytes.Goals as goal

pub loop-i-preserved : goal.loop-i-preserved
loop-i-preserved c =
    let l = c.loop-i in
    let a = c.args in
    rw l.invariant (copy_more a.out.now a.s.now a.at l.i (omega arith) (omega arith))
