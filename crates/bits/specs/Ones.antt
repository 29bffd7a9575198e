-- Laws of the number of one-bits: n digits tell it of a number below 2^n, and it is 0 of 0 alone. Assumes nothing.
use Rattle.std.specs.Prelude.{◌≡◌, refl, ℕ, zero, suc, ◌+◌, ◌*◌, ◌/◌, ◌%◌, ◌^◌, ◌≤◌, ◌<◌}
use Rattle.std.proofs.Common.{sym, ap, ◌∙◌, pow-suc, arith}
use Rattle.std.proofs.Math.Decide.{dec_lt}
use Rattle.std.proofs.Math.Arith.{bin_ind}
use Rattle.std.specs.Int.Count.{ones, ones_in, ones_step}

pub ones-in : (n x : ℕ) → x < 2 ^ n → ones_in n x ≡ ones x
unfolding ones_in ones
ones-in zero x h = let e : x ≡ 0 = omega arith in rw e
ones-in (suc n) x h = ap (λ (y : ℕ). x % 2 + y) (ones-in n (x / 2) (half (rw pow-suc at h))) ∙ sym (ones_step x)
  where
    half : x < 2 ^ n * 2 → x / 2 < 2 ^ n
    half h = omega arith

pub ones-zero : ones 0 ≡ 0
unfolding ones ones_in
ones-zero = refl

pub ones-some : (x : ℕ) → 0 < x → 1 ≤ ones x
ones-some =
    bin_ind (λ (n : ℕ). 0 < n → 1 ≤ ones n) (λ h. absurd (omega arith)) (λ n ih h. go n ih h (dec_lt 0 (n / 2)))
  where
    go : (n : ℕ) → (0 < n / 2 → 1 ≤ ones (n / 2)) → 0 < n → Dec (0 < n / 2) → 1 ≤ ones n
    go n ih h (yes l) = omega (arith, ones_step n, ih l)
    go n ih h (no f) = omega (arith, ones_step n)

pub ones_above : (x : ℕ) → 1 ≤ ones x → 0 < x
ones_above zero h = absurd (omega (arith, ones-zero))
ones_above (suc x) h = omega arith
