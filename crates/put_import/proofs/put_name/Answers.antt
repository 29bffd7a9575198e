use Rattle.put_import.specs.Line.{shown_byte}
use Rattle.put_import.specs.Copy.{name-more}
use Rattle.put_import.proofs.put_name.Goals as goal

pub loop-i-preserved : goal.loop-i-preserved
loop-i-preserved c =
    rw (c.loop-i.invariant, c.shown_byte.ensures)
    (name-more shown_byte c.args.out.now c.args.name.now c.loop-i.i c.loop-i-test.true)
