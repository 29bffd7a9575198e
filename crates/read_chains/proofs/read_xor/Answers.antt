-- `read_chains::read_xor` meets its contract: the second line is read where the first stands. Assumes nothing.
use Rattle.std.proofs.Common.{[], ◌∷◌, refl}
use Rattle.std.proofs.lemmas.Result.{err_from_is_err_and}
use Rattle.model_laws.specs.WordLines.{is_line}
use Rattle.read_names.specs.Fate.{Came, came-after}
use Rattle.block.specs.Model.{cube_line}
use Rattle.block.specs.ModelRead.{Due, xor_due}
use Rattle.read_chains.proofs.read_xor.Goals as goal

pub read_line-requires : goal.read_line-requires
unfolding is_line
read_line-requires c = refl

pub read_line-requires-2 : goal.read_line-requires-2
unfolding is_line
read_line-requires-2 c = refl

pub returns-in_err-next : goal.returns-in_err-next
unfolding Came
returns-in_err-next c =
    let p = err_from_is_err_and c.from_residual.result c.from_residual.ensures.1 in
    rw (p.1, p.2) (λ s. c.in_err-next.ensures (Due (cube_line (49 ∷ 48 ∷ [])) s))

pub returns : goal.returns
unfolding Came
returns c =
    let a = c.args in
    λ s.
    came-after a.text.now (xor_due s) a.at (Due (cube_line (49 ∷ 48 ∷ [])) s) c.in_ok-next.next s c.read_line-2.result
    (c.in_ok-next.ensures (Due (cube_line (49 ∷ 48 ∷ [])) s))
    (c.read_line-2.ensures s)
