-- `read_names::meet_part` meets its contract: the row's name, the dash and the number are met one after the other. Assumes nothing.
use mathlib.Core.List.{[]}
use mathlib.Core.List.{◌∷◌}
use native.Mathlib.Omega.{arith}
use Rattle.block.specs.Text.{decimal}
use Rattle.model_laws.specs.Spaced.{lettered}
use Rattle.read_names.specs.Met.{met-and}
use Rattle.read_names.proofs.meet_part.Goals as goal

pub returns : goal.returns
returns c =
    let a = c.args in
    let t = a.text.now in
    met-and t (omega arith) a.at (lettered 122 a.i) (95 ∷ decimal a.p) c.meet_name-name.ensures
    (met-and t (omega arith) c.meet_name-name.result (95 ∷ []) (decimal a.p) c.meet_byte-dash.ensures c.meet_number.ensures)
