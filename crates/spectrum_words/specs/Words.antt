-- One output word's points, the next word, and numbers that 2^n divides. Not here: laws. Assumes nothing.
use Rattle.std.specs.Prelude.{◌≡◌, ℕ, ◌+◌, ◌%◌, ◌<◌, ◌≤◌, List, length, ℤ, pos, ◌==◌, unsigned_abs}
use Rattle.slices.specs.Places.{at}
use Rattle.sums.specs.Sums.{one}
use Rattle.walsh_laws.specs.Walsh.{most_number}
use Rattle.walsh_laws.specs.Passes.{val}

-- 1 at the points with the word u, and else 0
abbrev pub marks : (ℕ → ℕ) → ℕ → ℕ → ℕ
marks f u x = one (f x == u)

-- z is at most `far`, and leads from u no further than to w, where w is not below u
pub record Nearer (w u far z : ℕ) : Type 0 where
  pub most : z ≤ far
  pub least : u ≤ w → u + z ≤ w

-- r is from u to 65,535, and no entry from u on lies before it
pub record Next (table : List ℕ) (u r : ℕ) : Type 0 where
  pub from : u ≤ r
  pub most : r ≤ 65535
  pub least : (x : ℕ) → x < length table → u ≤ at table x → r ≤ at table x

-- m numbers that are not negative, multiples of m, and within 2^24
pub record Exact (l : List ℤ) (m : ℕ) : Type 0 where
  pub whole : (x : ℕ) → x < m → val l x ≡ pos (unsigned_abs (val l x))
  pub divides : (x : ℕ) → x < m → unsigned_abs (val l x) % m ≡ 0
  pub small : (x : ℕ) → x < m → unsigned_abs (val l x) ≤ most_number
