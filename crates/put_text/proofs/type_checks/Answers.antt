-- `put_text::type_checks` meets its contract: the sizes and the type, and the type's line after them. Assumes nothing.
use mathlib.Core.Path.{refl}
use Rattle.block.specs.Limits.{list_inputs}
use Rattle.refusal_laws.specs.Verdicts.{asked-where}
use Rattle.shared_checks.specs.Sizes.{asked-sizes}
use Rattle.put_text.proofs.type_checks.Goals as goal

pub returns : goal.returns
returns c =
    let a = c.args in
    (asked-where _ _ 3 0 0 _ (asked-sizes list_inputs a.n a.k a.block_type _ c.sizes-size.ensures) refl c.then_where.ensures
    (λ h. c.lacks_line-lacks.ensures)).told
