-- `symmetric_lines::say_tables` is safe: each of the 2^n points is one of 4,096. Assumes nothing.
use Rattle.std.proofs.Common.{arith, pow_mono}
use Rattle.symmetric_lines.proofs.say_tables.Goals as goal

pub bounds-table-x : goal.bounds-table-x
bounds-table-x c = omega (arith, c.size-size.ensures, pow_mono c.requires)

pub bounds-smaller-x : goal.bounds-smaller-x
bounds-smaller-x c = omega (arith, c.size-size.ensures, pow_mono c.requires)
