-- `read_outputs::read_cube` meets its contract. The loop's invariant: the bytes passed are symbols, and mask and values are what they add up
-- to. Assumes nothing.
use mathlib.Core.Path.{◌≡◌}
use mathlib.Core.Bool.{true}
use Prim.Native.Nat.{ℕ, ◌+◌, ◌^◌, ◌<◌}
use lib.ListN.{get_or}
use Rattle.sums.specs.Sums.{sum}
use Rattle.read_outputs.specs.Cubes.{is_symbol, mask_bit, value_bit}
use Rattle.read_outputs.proofs.read_cube.Given as goal

abbrev pub invariant-loop-i : goal.invariant-loop-i
invariant-loop-i l = ((j : ℕ) → j < l.i → is_symbol (get_or l.text (l.at + j) 0) ≡ true)
    × (l.m ≡ sum (λ j. mask_bit (get_or l.text (l.at + j) 0) j) l.i) × (l.v ≡ sum (λ j. value_bit (get_or l.text (l.at + j) 0) j) l.i)
    × (l.m < 2 ^ l.i) × (l.v < 2 ^ l.i)
