-- `symmetric_lines::count_word` is safe: 2^c - 1 is one of 4,096 entries. Assumes nothing.
use native.Mathlib.Omega.{arith}
use lib.Pow.{pow_mono, pow_pos}
use Rattle.symmetric_lines.proofs.count_word.Goals as goal

pub bounds-table-size : goal.bounds-table-size
bounds-table-size c = omega (arith, c.size.ensures, pow_pos c.args.c, pow_mono c.requires)
