-- Of a function f with values 0 and 1 on 2^n points, n at most 12, as an output word's points have it: every number of both transforms,
-- at every stage, is within 2^24, so no sum leaves 32 bits (by Parseval's equation), and what the second transform gives is a multiple of
-- 2^n, so the division leaves nothing over (by the Wiener-Khinchin theorem). Assumes nothing.
use Rattle.std.specs.Prelude.{◌≡◌, ℕ, ◌+◌, ◌*◌, ◌/◌, ◌%◌, ◌≤◌, ◌<◌, ◌^◌, nat_abs}
use Rattle.std.proofs.Common.{sym, ap, ◌∙◌, le_trans, mul-div_cancel, arith, pow_pos, pow_mono}
use Rattle.std.proofs.Math.Nat.{mul-le-mul, mul-mod_left}
use Rattle.std.specs.Int.Bits.{bit_xor}
use Rattle.sums.specs.Sums.{sum}
use Rattle.sums.specs.Laws.{sum-le}
use Rattle.walsh_laws.specs.Walsh.{spectrum, power, auto, most_points, most_number}
use Rattle.walsh_laws.specs.Stages.{part, part-last, part-bound}
use Rattle.walsh_laws.specs.Theorems.{wiener-khinchin, parseval}

module _ (f : ℕ → ℕ) (n : ℕ) (few : n ≤ 12) (bits : (x : ℕ) → f x ≤ 1) where
  most : 2 ^ n ≤ most_points
  most = pow_mono few

  -- what the first transform is made of
  pub points : sum f (2 ^ n) ≤ most_points
  points = omega (arith, sum-le f 1 (2 ^ n) (λ x h. bits x), most)

  -- each number of each stage of the first transform
  pub first_fits : (i a r : ℕ) → a * 2 ^ i + 2 ^ i ≤ 2 ^ n → nat_abs (part f i a r) ≤ most_points
  first_fits i a r h = omega (arith, part-bound f i a r (2 ^ n) h, points)

  pub spectrum-fits : (w : ℕ) → nat_abs (spectrum f n w) ≤ most_points
  spectrum-fits w = rw (sym (part-last f n w)) (first_fits n 0 w (omega arith))

  auto-le : (t : ℕ) → auto f n t ≤ 2 ^ n
  unfolding auto
  auto-le t = omega (arith, sum-le (λ x. f x * f (bit_xor x t)) 1 (2 ^ n) (λ x h. mul-le-mul (bits x) (bits (bit_xor x t))))

  pub auto-fits : (t : ℕ) → auto f n t * 2 ^ n ≤ most_number
  auto-fits t = omega (arith, mul-le-mul (le_trans (auto-le t) most) most)

  -- what the second transform is made of
  pub powers : sum (power f n) (2 ^ n) ≤ most_number
  powers = rw (parseval f n) (auto-fits 0)

  -- each number of each stage of the second transform
  pub second_fits : (i a r : ℕ) → a * 2 ^ i + 2 ^ i ≤ 2 ^ n → nat_abs (part (power f n) i a r) ≤ most_number
  second_fits i a r h = omega (arith, part-bound (power f n) i a r (2 ^ n) h, powers)

  -- the division leaves nothing over, and gives the autocorrelation
  pub exact : (t : ℕ) → t < 2 ^ n → nat_abs (spectrum (power f n) n t) % 2 ^ n ≡ 0
  exact t h = ap (λ z. nat_abs z % 2 ^ n) (wiener-khinchin f n t h) ∙ mul-mod_left (auto f n t) (2 ^ n)

  pub quotient : (t : ℕ) → t < 2 ^ n → nat_abs (spectrum (power f n) n t) / 2 ^ n ≡ auto f n t
  quotient t h = ap (λ z. nat_abs z / 2 ^ n) (wiener-khinchin f n t h) ∙ mul-div_cancel (auto f n t) (pow_pos n)
