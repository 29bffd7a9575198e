-- `read_row::spelling` meets its contract. The loop's invariant: what is told is what the first i symbols spell, and each number is small.
-- Assumes nothing.
use mathlib.Core.Path.{◌≡◌}
use Prim.Native.Nat.{◌^◌, ◌≤◌, ◌<◌}
use Rattle.read_row.specs.Told.{told_of}
use Rattle.read_laws.specs.ByPlace.{spelled_at}
use Rattle.read_row.proofs.spelling.Given as goal

abbrev pub invariant-loop-i : goal.invariant-loop-i
invariant-loop-i l = (l.m < 2 ^ l.i) × (l.v < 2 ^ l.i) × (l.bad ≤ l.i) × (spelled_at l.s l.from l.free l.i ≡ told_of l.bad l.m l.v)
