-- `read_outputs::meet_head` meets its contract: the line's pieces are met one after the other. Assumes nothing.
use mathlib.Core.List.{[]}
use mathlib.Core.Path.{ap, ◌∙◌}
use mathlib.Core.List.{List, ◌∷◌, ◌++◌}
use Prim.Native.Nat.{ℕ}
use native.Mathlib.Omega.{arith}
use Rattle.slices.specs.Places.{tab}
use Rattle.block.specs.Covers.{names_word}
use Rattle.block.specs.Model.{y_name, z_name, spaced}
use Rattle.read_names.specs.Met.{met_at, met-and}
use Rattle.read_outputs.specs.Outputs.{head-line}
use Rattle.read_outputs.proofs.meet_head.Goals as goal

pub returns : goal.returns
returns c =
    let a = c.args in
    let t = a.text.now in
    let name : List ℕ = (32 ∷ y_name a.j) ++ (10 ∷ []) in
    let names = c.meet_names-names in
    let met =
    met-and t (omega arith) names.result (32 ∷ []) (y_name a.j ++ (10 ∷ [])) c.meet_byte-gap.ensures
    (met-and t (omega arith) c.meet_byte-gap.result (y_name a.j) (10 ∷ []) c.meet_name-name.ensures c.meet_byte.ensures) in
    met-and t (omega arith) a.at names_word (spaced (tab a.n z_name) ++ name) c.meet_bytes-word.ensures
    (met-and t (omega arith) c.meet_bytes-word.result (spaced (tab a.n z_name)) name names.ensures met)
    ∙ ap (met_at t a.at) (head-line a.n a.j)
