-- `row_shifts::pairs_add` meets its contract. The invariant of both loops: the sum is what the cubes of the pairs before i, j add. No
-- sum on the way passes the last, which is at most the points twice. Assumes nothing.
use mathlib.Core.Path.{◌≡◌}
use Rattle.block.specs.Words.{rows_of}
use Rattle.pair_laws.specs.Theorem.{often}
use Rattle.pair_laws.specs.Symmetric.{added, cubes_to}
use Rattle.row_shifts.proofs.pairs_add.Given as goal

abbrev pub invariant-loop-j : goal.invariant-loop-j
invariant-loop-j l = l.sum ≡ added l.t (cubes_to (often l.missing l.more) l.n (rows_of l.masks l.values l.words) l.i l.j)

abbrev pub invariant-loop-i : goal.invariant-loop-i
invariant-loop-i l = l.sum ≡ added l.t (cubes_to (often l.missing l.more) l.n (rows_of l.masks l.values l.words) l.i l.i)
