-- `choosing::choose` meets its contract. The loop's invariant: b, of value top, is the best of the numbers before this place of the
-- walk, and those passed over have smaller values than it. The measure is what is left. Assumes nothing.
use Prim.Native.Nat.{◌≤◌, ◌-◌}
use Rattle.slices.specs.Places.{at}
use Rattle.walks.specs.Walk.{value_at}
use Rattle.choosing.specs.Steps.{candidate_by}
use Rattle.choosing.specs.Search.{Leads}
use Rattle.choosing.proofs.choose.Given as goal

abbrev pub invariant-loop-place : goal.invariant-loop-place
invariant-loop-place l = (l.place ≤ l.count) × Leads (value_at l.walk l.values l.count) (candidate_by (at l.s) l.n l.k l.w) (at l.walk) l.place l.b l.top

abbrev pub decreases-loop-place : goal.decreases-loop-place
decreases-loop-place l = l.count - l.place
