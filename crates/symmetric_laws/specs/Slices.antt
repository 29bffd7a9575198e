-- Numbers whose highest inputs, from j down to i + 1, are 1 and whose input i is 0: with the inputs i and i + 1 exchanged each has as many one-bits,
-- and is smaller by 2^i. Assumes nothing.
use Rattle.std.specs.Prelude.{◌≡◌, ℕ, zero, suc, ◌+◌, ◌-◌, ◌*◌, ◌^◌, ◌≤◌, ◌<◌}
use Rattle.std.proofs.Common.{sym, ap, ◌∙◌, add-one, arith, pow_pos, pow-add}
use Rattle.std.specs.Int.Count.{ones, ones_in, ones-ones}
use Rattle.std.proofs.lemmas.Nat.{ones_cat}
use Rattle.bits.specs.Ones.{ones-zero}

-- one input more
ones-next : (i y : ℕ) → y < 2 ^ i → ones (2 ^ i + y) ≡ ones y + 1
unfolding ones ones_in
ones-next i y b =
    let e : 2 ^ i + y ≡ 1 * 2 ^ i + y = omega arith in
    omega (arith, ap ones e ∙ ones_cat i 1 y b)

pub power-more : (k : ℕ) → 2 ^ (k + 1) ≡ 2 ^ k + 2 ^ k
power-more k = omega (arith, ap (λ (i : ℕ). 2 ^ i) (add-one k))

-- m + 1 ones above, and m of them with a 0 behind
exchanged : (i m y : ℕ) → y < 2 ^ i → ones ((2 ^ (m + 1) - 1) * 2 ^ (i + 1) + y) ≡ ones ((2 ^ (m + 1) - 2) * 2 ^ (i + 1) + (2 ^ i + y))
exchanged i m y h =
    let two = power-more i in
    omega (
      arith,
      ones_cat (i + 1) (2 ^ (m + 1) - 1) y (omega arith),
      ones-ones (m + 1),
      ones_cat (i + 1) (2 ^ (m + 1) - 2) (2 ^ i + y) (omega arith),
      ones-next i y h,
      shifted,
    )
  where
    shifted : ones (2 ^ (m + 1) - 2) ≡ m
    shifted =
        let e : 2 ^ (m + 1) - 2 ≡ (2 ^ m - 1) * 2 ^ 1 + 0 = omega (arith, power-more m, pow_pos m) in
        omega (arith, ap ones e ∙ ones_cat 1 (2 ^ m - 1) 0 (omega arith), ones-ones m, ones-zero)

one_less : (a q : ℕ) → 1 ≤ a → (a - 1) * q + q ≡ a * q
one_less (suc a) q h = let e : suc a - 1 ≡ a = omega arith in rw e (omega arith)
one_less zero q h = absurd (omega arith)

-- x from 2^(j + 1) - 2^(i + 1) on, 2^i of them
pub ones-exchanged : (j i x : ℕ) → i < j → 2 ^ (j + 1) - 2 ^ (i + 1) ≤ x → x < 2 ^ (j + 1) - 2 ^ (i + 1) + 2 ^ i → ones (x - 2 ^ i) ≡ ones x
ones-exchanged j i x h low high =
    let m : ℕ = j - i - 1 in
    let a : ℕ = 2 ^ (m + 1) in
    let q : ℕ = 2 ^ (i + 1) in
    let y : ℕ = x - (2 ^ (j + 1) - q) in
    let w : j + 1 ≡ (m + 1) + (i + 1) = omega arith in
    let whole : 2 ^ (j + 1) ≡ a * q = ap (λ (k : ℕ). 2 ^ k) w ∙ pow-add 2 (m + 1) (i + 1) in
    let two : 2 ≤ a = omega (arith, power-more m, pow_pos m) in
    let first = one_less a q (omega arith) in
    let second = one_less (a - 1) q (omega arith) in
    let third : a - 1 - 1 ≡ a - 2 = omega arith in
    let half = power-more i in
    let x-is : x ≡ (a - 1) * q + y = omega arith in
    let less : x - 2 ^ i ≡ (a - 2) * q + (2 ^ i + y) = omega (arith, ap (λ (b : ℕ). b * q) third) in
    ap ones less ∙ sym (exchanged i m y (omega arith)) ∙ ap ones (sym x-is)
