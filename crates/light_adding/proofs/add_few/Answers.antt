-- `light_adding::add_few` meets its contract: each branch is the one of so many flipped, and asks for less room. Assumes nothing.
use native.Mathlib.Omega.{arith}
use Rattle.light_adding.specs.Raised.{raised-flat, raised-few}
use Rattle.light_adding.proofs.add_few.Goals as goal

pub returns-then-d-eq0 : goal.returns-then-d-eq0
returns-then-d-eq0 c = raised-few _ _ 0 _ _ _ _ _ (omega arith) (raised-flat _ _ _ _ _ _ c.add_here.ensures)
