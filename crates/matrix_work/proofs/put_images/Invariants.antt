-- `matrix_work::put_images` meets its contract. The loop's invariant: the values at each z below 2^i are there. Assumes nothing.
use Prim.Native.Nat.{◌^◌}
use Rattle.slices.specs.Places.{at}
use Rattle.matrix_laws.specs.Images.{Images}
use Rattle.matrix_work.proofs.put_images.Given as goal

abbrev pub invariant-loop-i : goal.invariant-loop-i
invariant-loop-i l = Images (at l.c) l.n (2 ^ l.i) l.images
