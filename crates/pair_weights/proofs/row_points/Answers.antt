-- `pair_weights::row_points` meets its contract: the row fixes at most n inputs, so the power is one of 0 to n. Assumes nothing.
use native.Mathlib.Omega.{arith}
use lib.Count.{ones-le}
use Rattle.pair_weights.proofs.row_points.Goals as goal

pub overflow_sub-n : goal.overflow_sub-n
overflow_sub-n c = omega (arith, ones-le c.args.n c.args.mask c.requires.1)
