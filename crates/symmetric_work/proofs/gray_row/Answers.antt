-- `symmetric_work::gray_row` meets its contract: 2^j is not above 2^n. Assumes nothing.
use native.Mathlib.Omega.{arith}
use lib.Pow.{pow_mono}
use Rattle.symmetric_work.proofs.gray_row.Goals as goal

pub overflow_sub-result : goal.overflow_sub-result
overflow_sub-result c = omega (arith, c.power-2.ensures, c.power.ensures, pow_mono c.requires.0)
