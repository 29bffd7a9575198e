-- What a transform asks of the numbers in its room. Assumes nothing.
use Rattle.std.specs.Prelude.{◌≡◌, List, ℕ, ◌≤◌, ◌<◌, ◌^◌, ℤ, pos, nat_abs, length}
use Rattle.sums.specs.Sums.{sum}
use Rattle.walsh_laws.specs.Walsh.{most_number}
use Rattle.walsh_laws.specs.Passes.{val}

-- 2^n numbers, n at most 12, that are not negative and add up to at most 2^24
pub record Ready (l : List ℤ) (n : ℕ) : Type 0 where
  pub long : length l ≡ 2 ^ n
  pub few : n ≤ 12
  pub whole : (x : ℕ) → x < 2 ^ n → val l x ≡ pos (nat_abs (val l x))
  pub within : sum (λ x. nat_abs (val l x)) (2 ^ n) ≤ most_number
