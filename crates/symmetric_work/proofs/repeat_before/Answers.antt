-- `symmetric_work::repeat_before` meets its contract: what is copied behind is each entry `count` before. Assumes nothing.
use Rattle.std.proofs.Common.{arith}
use Rattle.symmetric_work.specs.Entries.{repeat-is}
use Rattle.symmetric_work.proofs.repeat_before.Goals as goal

pub returns : goal.returns
returns c =
    let h = c.copy_within.ensures in
    repeat-is c.args.start c.args.count c.args.out.now _ c.requires.0 c.requires.1 h.len
    (λ x b d. h.by_index.0 x 0 b (omega arith)) (λ x b. h.by_index.1 x 0 b) (λ x b. h.by_index.2 x 0 (omega arith))
