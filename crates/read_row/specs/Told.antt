-- What symbols spell, counted without a case for each: a bit of the mask and of the values for each byte, and how many bytes were no
-- symbols. `step-told` says that a symbol more is a step of `read_laws`. Assumes nothing.
use Rattle.std.specs.Prelude.{◌≡◌, refl, Bool, true, false, cond, ℕ, zero, suc, ◌+◌, ◌*◌, ◌^◌, ◌≤◌, ◌<◌, eqb, Option, Some, None}
use Rattle.std.proofs.Common.{add-one, arith, ne_eqb}
use Rattle.read_laws.specs.ByPlace.{step_of}

-- 1 for a symbol that fixes its input
abbrev pub fixed_of : ℕ → ℕ
fixed_of b = cond (eqb b 48) 1 (cond (eqb b 49) 1 0)

-- 1 for the symbol 1
abbrev pub one_of : ℕ → ℕ
one_of b = cond (eqb b 48) 0 (cond (eqb b 49) 1 0)

-- 1 for a byte that is no symbol
abbrev pub strange_of : ℕ → ℕ → ℕ
strange_of b free = cond (eqb b 48) 0 (cond (eqb b 49) 0 (cond (eqb b free) 0 1))

-- what is spelled, where so many bytes were no symbols
abbrev pub told_of : ℕ → ℕ → ℕ → Option (ℕ × ℕ)
told_of bad m v = cond (eqb bad 0) (Some (m, v)) None

bits_small : (x y z : Bool)
    → (cond x 1 (cond y 1 0) ≤ 1) × (cond x 0 (cond y 1 0) ≤ 1) × (cond x 0 (cond y 0 (cond z 0 1)) ≤ 1)
bits_small true y z = omega arith
bits_small false true z = omega arith
bits_small false false true = omega arith
bits_small false false false = omega arith

-- each is at most 1
pub told-small : (b free : ℕ) → (fixed_of b ≤ 1) × (one_of b ≤ 1) × (strange_of b free ≤ 1)
told-small b free = bits_small (eqb b 48) (eqb b 49) (eqb b free)

-- a bit more at the end
pub bit-more : (m x i : ℕ) → m < 2 ^ i → x ≤ 1 → m * 2 + x < 2 ^ (i + 1)
bit-more m x i h l = rw add-one (omega (arith, h, l))

same : {a b c d : ℕ} → a ≡ c → b ≡ d → ◌≡◌ {A = Option (ℕ × ℕ)} (Some (a, b)) (Some (c, d))
same e f = rw (e, f)

-- one symbol more
pub step-told : (bad m v b free : ℕ) → step_of (told_of bad m v) b free ≡ told_of (bad + strange_of b free) (m * 2 + fixed_of b) (v * 2 + one_of b)
unfolding step_of
step-told zero m v b free = go (eqb b 48) (eqb b 49) (eqb b free)
  where
    out : Bool → Bool → Bool → Option (ℕ × ℕ)
    out x y z = cond x (Some (m * 2 + 1, v * 2)) (cond y (Some (m * 2 + 1, v * 2 + 1)) (cond z (Some (m * 2, v * 2)) None))

    go : (x y z : Bool)
        → out x y z ≡ told_of (0 + cond x 0 (cond y 0 (cond z 0 1))) (m * 2 + cond x 1 (cond y 1 0)) (v * 2 + cond x 0 (cond y 1 0))
    go true y z = same refl (omega arith)
    go false true z = refl
    go false false true = same (omega arith) (omega arith)
    go false false false = refl
step-told (suc bad) m v b free = rw (ne_eqb (suc bad + strange_of b free) 0 (λ e. omega arith), ne_eqb (suc bad) 0 (λ e. omega arith))
