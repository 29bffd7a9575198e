-- Numbers that are passed over together: from a multiple of 16 with too many one-bits on, 16 have too many. Assumes nothing.
use Rattle.std.specs.Prelude.{◌≡◌, refl, Bool, true, false, ◌&&◌, ℕ, ◌+◌, ◌-◌, ◌*◌, ◌/◌, ◌%◌, ◌^◌, ◌≤◌, ◌<◌, leb}
use Rattle.std.proofs.Common.{ap, ◌∙◌, arith, pow_mono, pow-add}
use Rattle.std.proofs.Math.Decide.{dec_lt}
use Rattle.std.proofs.lemmas.Bool.{lt-leb}
use Rattle.std.specs.Int.Count.{ones}
use Rattle.std.proofs.lemmas.Nat.{ones_cat, ones-le}
use Rattle.candidates.specs.Light.{light}

-- r numbers from t on have not 1 to w one-bits, and none of them is past the numbers below a power of two that t is below
pub record Skips (w t r : ℕ) : Type 0 where
  pub some : 1 ≤ r
  pub none : (i : ℕ) → i < r → light w (t + i) ≡ false
  pub inside : (n : ℕ) → t < 2 ^ n → t + r ≤ 2 ^ n

-- one number
pub skips-one : (w t : ℕ) → light w t ≡ false → Skips w t 1
skips-one w t h =
    record {
      some = omega arith;
      none = λ i l. let e : t + i ≡ t = omega arith in ap (light w) e ∙ h;
      inside = λ n l. omega arith;
    }

heavy : (w t : ℕ) → w < ones t → light w t ≡ false
unfolding light
heavy w t h = rw (lt-leb (ones t) w h) (no (leb 1 (ones t)))
  where
    no : (b : Bool) → b && false ≡ false
    no true = refl
    no false = refl

-- sixteen
pub skips-sixteen : (w t : ℕ) → t % 16 ≡ 0 → w < ones t → Skips w t 16
skips-sixteen w t e h =
    record {
      some = omega arith;
      none = λ i l. heavy w (t + i) (more i l);
      inside = inside;
    }
  where
    more : (i : ℕ) → i < 16 → w < ones (t + i)
    more i l =
        let d : t + i ≡ t / 16 * 2 ^ 4 + i = omega arith in
        let f : t ≡ t / 16 * 2 ^ 4 + 0 = omega arith in
        omega (
          arith,
          h,
          ap ones d,
          ones_cat 4 (t / 16) i l,
          ap ones f,
          ones_cat 4 (t / 16) 0 (omega arith),
          ones-le 0 0 (omega arith),
        )

    inside : (n : ℕ) → t < 2 ^ n → t + 16 ≤ 2 ^ n
    inside n l = go (dec_lt n 4)
      where
        go : Dec (n < 4) → t + 16 ≤ 2 ^ n
        go (yes s) =
            let small : 2 ^ n ≤ 2 ^ 3 = pow_mono {j = 3} (omega arith) in
            absurd (omega (arith, h, ones-le 0 t (omega arith)))
        go (no s) =
            let d : n ≡ n - 4 + 4 = omega arith in
            let k : 2 ^ n ≡ 2 ^ (n - 4) * 16 = ap (λ (i : ℕ). 2 ^ i) d ∙ pow-add 2 (n - 4) 4 in
            omega arith
