-- `read_model::meet_named` meets its contract: the line's pieces are met one after the other. Assumes nothing.
use mathlib.Core.List.{[]}
use mathlib.Core.Path.{ap, ◌∙◌}
use mathlib.Core.List.{List, ◌∷◌, ◌++◌}
use Prim.Native.Nat.{ℕ}
use native.Mathlib.Omega.{arith}
use Rattle.slices.specs.Places.{tab}
use Rattle.block.specs.Model.{spaced}
use Rattle.model_laws.specs.Spaced.{lettered}
use Rattle.read_names.specs.Met.{met_at, met-and}
use Rattle.read_model.specs.Whole.{named-line}
use Rattle.read_model.proofs.meet_named.Goals as goal

pub returns : goal.returns
returns c =
    let a = c.args in
    let t = a.text.now in
    let names : List ℕ = spaced (tab a.n (lettered a.letter)) in
    met-and t (omega arith) a.at a.word.now (names ++ (10 ∷ [])) c.meet_bytes-begun.ensures
    (met-and t (omega arith) c.meet_bytes-begun.result names (10 ∷ []) c.meet_names-names.ensures c.meet_byte.ensures)
    ∙ ap (met_at t a.at) (named-line a.word.now a.letter a.n)
