-- `symmetric_values::symmetric_measures` meets its contract: the closed forms of both measures. Each number is at most 12 times 4096.
-- Assumes nothing.
use Rattle.block.specs.Symmetric.{of_counts}
use Rattle.symmetric_laws.specs.Blocks.{counts-symmetric}
use Rattle.symmetric_values.specs.Values.{measured-one, measured-more}
use Rattle.symmetric_values.proofs.symmetric_measures.Goals as goal
use Rattle.symmetric_values.proofs.symmetric_measures.Goals.{After-value_at_two-two}

pub returns-then-n-lt2 : goal.returns-then-n-lt2
returns-then-n-lt2 c =
    let words = c.args.words.now in
    measured-one (of_counts words) c.args.n _ (counts-symmetric words c.args.n) c.requires.1 c.if-n-lt2.true c.value_at_one-one.ensures

pub returns : goal.returns
returns c =
    let words = c.args.words.now in
    measured-more (of_counts words) c.args.n _ _ (counts-symmetric words c.args.n) c.requires.1 c.value_at_one-one.ensures
    c.value_at_two-two.ensures
