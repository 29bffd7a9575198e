-- `shared_points::first_pair` meets its contract. The outer loop's invariant: no row below i shares a point with a later one; the
-- inner loop's: row i shares none with the rows behind it and below j. Assumes nothing.
use Rattle.std.specs.Prelude.{◌≡◌, None}
use Rattle.shared_points.specs.Pairs.{Passed, PassedBelow}
use Rattle.shared_points.proofs.first_pair.Given as goal

abbrev pub invariant-loop-j : goal.invariant-loop-j
invariant-loop-j l = (l.found ≡ None) × Passed l.masks l.values l.i l.j

abbrev pub invariant-search : goal.invariant-search
invariant-search l = (l.found ≡ None) × PassedBelow l.masks l.values l.i
