-- `region_work::meet_rows` meets its contract. The loop's invariant: the three numbers are what the first i rows say. Assumes
-- nothing.
use Prim.Native.Nat.{◌≤◌}
use Rattle.region_work.specs.Meet.{Says}
use Rattle.region_work.proofs.meet_rows.Given as goal

abbrev pub invariant-loop-i : goal.invariant-loop-i
invariant-loop-i l = (l.rows ≤ l.i) × Says l.q l.masks l.values l.words l.i l.rows l.fixed l.word
