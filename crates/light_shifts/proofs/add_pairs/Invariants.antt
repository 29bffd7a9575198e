-- `light_shifts::add_pairs` meets its contract. The invariant of both loops: the array holds what the cubes of the pairs before i, j add at
-- the light numbers. Assumes nothing.
use mathlib.Core.Path.{◌≡◌}
use Rattle.block.specs.Words.{rows_of}
use Rattle.pair_laws.specs.Theorem.{often}
use Rattle.pair_laws.specs.Symmetric.{cubes_to}
use Rattle.light_shifts.specs.Adding.{light_sums}
use Rattle.light_shifts.proofs.add_pairs.Given as goal

abbrev pub invariant-loop-j : goal.invariant-loop-j
invariant-loop-j l = l.acc ≡ light_sums l.n l.w (cubes_to (often l.missing l.more) l.n (rows_of l.masks l.values l.words) l.i l.j)

abbrev pub invariant-loop-i : goal.invariant-loop-i
invariant-loop-i l = l.acc ≡ light_sums l.n l.w (cubes_to (often l.missing l.more) l.n (rows_of l.masks l.values l.words) l.i l.i)
