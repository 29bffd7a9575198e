-- `symmetric_lines::say_symmetric` is safe: of what is not refused the inputs are at most 12. Assumes nothing.
use mathlib.Core.Path.{refl, sym, ap, ◌∙◌}
use Rattle.block.specs.Symmetric.{table_symmetric}
use Rattle.block.specs.declared.ValueAnswer.{ValueAnswer}
use Rattle.table_checks.specs.Passed.{table-symmetric-passed}
use Rattle.symmetric_lines.proofs.say_symmetric.Goals as goal

pub say_given_words-requires : goal.say_given_words-requires
unfolding table_symmetric
say_given_words-requires c =
    let a = c.args in
    (table-symmetric-passed a.n a.k a.block_type _ _ refl
    (sym (ap (λ (r : ValueAnswer). r.number) c.table_symmetric-r.ensures.answer) ∙ c.if-r-ne0.false)
    ).inputs
