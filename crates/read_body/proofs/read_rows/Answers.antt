-- `read_body::read_rows` meets its contract: a faulty line leaves the slices alone, and where there is none the rows are copied to them.
-- Assumes nothing.
use mathlib.Core.Path.{sym, ◌∙◌}
use Rattle.read_body.specs.Kept.{filled-not, none-broken, filled-copied}
use Rattle.read_body.proofs.read_rows.Goals as goal

pub returns-then-fault-p-clause-masks_after : goal.returns-then-fault-p-clause-masks_after
returns-then-fault-p-clause-masks_after c = filled-not _ _ _ _ c.if-fault-p.true

pub returns-then-fault-p-clause-values_after : goal.returns-then-fault-p-clause-values_after
returns-then-fault-p-clause-values_after c = filled-not _ _ _ _ c.if-fault-p.true

pub returns-then-fault-p-clause-words_after : goal.returns-then-fault-p-clause-words_after
returns-then-fault-p-clause-words_after c = filled-not _ _ _ _ c.if-fault-p.true

pub returns : goal.returns
returns c =
    let fault = c.first_fault-fault.ensures in
    let read = c.read_sound-sound.ensures in
    let a = c.args in
    let none = read.value ∙ none-broken a.s.now a.n a.k a.p (sym fault ∙ c.if-fault-p.false) in record {
      value = fault;
      masks_after = filled-copied _ _ _ _ _ _ _ _ c.if-fault-p.false none read.masks_after c.copy_first.ensures;
      values_after = filled-copied _ _ _ _ _ _ _ _ c.if-fault-p.false none read.values_after c.copy_first-2.ensures;
      words_after = filled-copied _ _ _ _ _ _ _ _ c.if-fault-p.false none read.words_after c.copy_first-3.ensures;
    }
