use Rattle.std.proofs.Common.{◌≡◌, arith}
use Rattle.put_bytes.specs.Length.{row_within}
use Rattle.put_bytes.specs.Puts.{then, none-put, lines_more, lines_none}
use Rattle.put_bytes.proofs.put_rows.Goals as goal

pub loop-i-init : goal.loop-i-init
loop-i-init c = rw lines_none (none-put _ _)

pub put_row-to-requires : goal.put_row-to-requires
put_row-to-requires c =
    let a = c.args in
    omega (arith, row_within a.n a.k c.loop-i.i a.p a.masks.now a.values.now a.words.now (omega arith))

pub loop-i-preserved : goal.loop-i-preserved
loop-i-preserved c =
    let a = c.args in
    rw (lines_more a.n a.k c.loop-i.i a.masks.now a.values.now a.words.now) (then c.loop-i.invariant c.put_row-to.ensures)

pub returns : goal.returns
returns c =
    let e : c.loop-i.i ≡ c.args.p = omega arith in
    rw e at c.loop-i.invariant
