-- `symmetric_lines::say_block` is safe: of what is not refused the inputs are at most 12. Assumes nothing.
use mathlib.Core.Path.{refl, sym, ap, ◌∙◌}
use Rattle.block.specs.Symmetric.{symmetric_block}
use Rattle.block.specs.declared.TableMethodAnswer.{TableMethodAnswer}
use Rattle.table_checks.specs.Passed.{symmetric-passed}
use Rattle.symmetric_lines.proofs.say_block.Goals as goal

pub say_linearized-requires : goal.say_linearized-requires
unfolding symmetric_block
say_linearized-requires c =
    let a = c.args in
    (symmetric-passed a.n a.k a.block_type a.words.now _ _ _ refl
    (sym (ap (λ (r : TableMethodAnswer). r.number) c.symmetric_block-r.ensures.answer) ∙ c.if-r-ne0.false)
    ).inputs
