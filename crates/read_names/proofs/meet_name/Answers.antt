-- `read_names::meet_name` meets its contract: the letter and the number are met one after the other. Assumes nothing.
use mathlib.Core.List.{[]}
use mathlib.Core.List.{◌∷◌}
use native.Mathlib.Omega.{arith}
use Rattle.block.specs.Text.{decimal}
use Rattle.read_names.specs.Met.{met-and}
use Rattle.read_names.proofs.meet_name.Goals as goal

pub returns : goal.returns
returns c =
    let a = c.args in
    met-and a.text.now (omega arith) a.at (a.letter ∷ []) (decimal a.v) c.meet_byte-to.ensures c.meet_number.ensures
