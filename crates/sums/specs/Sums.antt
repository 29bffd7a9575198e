-- Sums and counts over a range. Not here: laws (`Laws`). Assumes nothing.
use Rattle.std.specs.Prelude.{Bool, true, false, ℕ, zero, suc, ◌+◌}

-- f 0 + f 1 + .. + f (m - 1)
unfoldable pub sum : (ℕ → ℕ) → ℕ → ℕ
sum f zero = 0
sum f (suc m) = sum f m + f m

-- 1 for true, 0 for false
abbrev pub one : Bool → ℕ
one true = 1
one false = 0

-- how many numbers below m pass the test p
unfoldable pub count : (ℕ → Bool) → ℕ → ℕ
count p m = sum (λ x. one (p x)) m
