-- `walks::sum_of` meets its contract. The loop's invariant: r is the sum of the values before this term; it fits, since each is below 2^32
-- and there are no more than a list has inputs. Assumes nothing.
use mathlib.Core.Path.{◌≡◌}
use Prim.Native.Nat.{◌≤◌, ◌^◌, ◌*◌}
use Rattle.slices.specs.Places.{at}
use Rattle.sums.specs.Sums.{sum}
use Rattle.walks.specs.Walk.{value_at}
use Rattle.walks.proofs.sum_of.Given as goal

abbrev pub invariant-loop-term : goal.invariant-loop-term
invariant-loop-term l = (l.r ≤ 2 ^ 32 * l.term-index) × (l.r ≡ sum (λ j. value_at l.walk l.values l.count (at l.terms j)) l.term-index)
