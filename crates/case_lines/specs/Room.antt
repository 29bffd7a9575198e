-- How many numbers and rows a case has at most, as src/lib.rt has them. Assumes nothing.
use Rattle.std.specs.Prelude.{ℕ}

abbrev pub numbers_most : ℕ
numbers_most = 8300

abbrev pub rows_most : ℕ
rows_most = 600
