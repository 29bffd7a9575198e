-- `matrix_work::double_images` meets its contract. The loop's invariant: the values at each z below size + z are there. Assumes nothing.
use Prim.Native.Nat.{◌+◌, ◌≤◌, ◌^◌}
use lib.ListN.{length}
use Rattle.slices.specs.Places.{at}
use Rattle.matrix_laws.specs.Images.{Images}
use Rattle.matrix_work.proofs.double_images.Given as goal

abbrev pub invariant-loop-z : goal.invariant-loop-z
invariant-loop-z l = (l.size + l.size ≤ length l.images) × Images (at l.c) l.n (2 ^ l.i + l.z) l.images
