-- `walks::put_listed` meets its contract. The loop's invariant: what is kept of the numbers before this one lies at the front, and none of them
-- is past the cut. Assumes nothing.
use Prim.Native.Nat.{◌≤◌}
use Rattle.slices.specs.Laid.{Laid}
use Rattle.walks.specs.Printed.{kept, cut}
use Rattle.walks.proofs.put_listed.Given as goal

abbrev pub invariant-loop-t : goal.invariant-loop-t
invariant-loop-t l = (l.t-index ≤ cut l.n l.list) × Laid (kept l.w l.list l.t-index) l.initial.out l.out l.count
