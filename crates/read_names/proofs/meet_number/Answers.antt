-- `read_names::meet_number` meets its contract: a number below 10 is one digit, and one below 100 two. Assumes nothing.
use mathlib.Core.List.{[]}
use mathlib.Core.List.{◌∷◌}
use native.Mathlib.Omega.{arith}
use Rattle.read_names.specs.Met.{one-digit, two_digits, met-and}
use Rattle.read_names.proofs.meet_number.Goals as goal

pub returns-then-v-lt10 : goal.returns-then-v-lt10
returns-then-v-lt10 c = rw (one-digit c.args.v (omega arith)) c.meet_byte.ensures

pub returns : goal.returns
returns c =
    let a = c.args in
    rw (two_digits a.v (omega arith) (omega arith))
    (met-and a.text.now (omega arith) a.at (_ ∷ []) (_ ∷ []) c.meet_byte-to.ensures c.meet_byte-2.ensures)
