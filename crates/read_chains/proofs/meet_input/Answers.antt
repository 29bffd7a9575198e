-- `read_chains::meet_input` meets its contract: the space and the name are met one after the other. Assumes nothing.
use mathlib.Core.List.{[]}
use mathlib.Core.List.{◌∷◌}
use native.Mathlib.Omega.{arith}
use Rattle.block.specs.Model.{x_name}
use Rattle.read_names.specs.Met.{met-and}
use Rattle.read_chains.proofs.meet_input.Goals as goal

pub returns : goal.returns
returns c =
    let a = c.args in
    met-and a.text.now (omega arith) a.at (32 ∷ []) (x_name a.b) c.meet_byte-gap.ensures c.meet_name.ensures
