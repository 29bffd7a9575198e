-- `row_shifts::put_cubes` meets its contract. The outer loop's invariant: the cubes of the rows before i with all lie in the slices; the
-- inner loop's: where these lay there, so do the cubes of row i with those before j. Assumes nothing.
use Rattle.block.specs.Words.{rows_of}
use Rattle.pair_laws.specs.Theorem.{often}
use Rattle.pair_laws.specs.Symmetric.{cubes_to}
use Rattle.row_shifts.specs.Stored.{CubesAt, Grown}
use Rattle.row_shifts.proofs.put_cubes.Given as goal

abbrev pub invariant-loop-j : goal.invariant-loop-j
invariant-loop-j l = Grown (cubes_to (often l.missing l.more) l.n (rows_of l.masks l.values l.words) l.i l.i) (cubes_to (often l.missing l.more) l.n (rows_of l.masks l.values l.words) l.i l.j)
    l.initial.cube_masks l.initial.cube_values l.initial.cube_weights l.initial.count l.cube_masks l.cube_values l.cube_weights l.count

abbrev pub invariant-loop-i : goal.invariant-loop-i
invariant-loop-i l = CubesAt (cubes_to (often l.missing l.more) l.n (rows_of l.masks l.values l.words) l.i l.i)
    l.initial.cube_masks l.initial.cube_values l.initial.cube_weights l.cube_masks l.cube_values l.cube_weights l.count
