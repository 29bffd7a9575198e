-- `read_chains::meet_more` meets its contract: the line's pieces are met one after the other. Assumes nothing.
use mathlib.Core.List.{[]}
use mathlib.Core.List.{◌∷◌, ◌++◌}
use native.Mathlib.Omega.{arith}
use Rattle.block.specs.Model.{x_name, part_name}
use Rattle.read_names.specs.Met.{met-and}
use Rattle.read_chains.proofs.meet_more.Goals as goal

pub returns : goal.returns
returns c =
    let a = c.args in
    let t = a.text.now in
    met-and t (omega arith) a.at (32 ∷ x_name a.b) (32 ∷ part_name a.i a.p ++ (10 ∷ [])) c.meet_input-input.ensures
    (met-and t (omega arith) c.meet_input-input.result (32 ∷ []) (part_name a.i a.p ++ (10 ∷ [])) c.meet_byte-gap.ensures
    (met-and t (omega arith) c.meet_byte-gap.result (part_name a.i a.p) (10 ∷ []) c.meet_part-name.ensures c.meet_byte.ensures))
