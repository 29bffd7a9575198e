-- The inputs of a row: its one-bits, lowest first. One input more, above the others; the inputs ascend and add up to the row.
-- Assumes nothing.
use Rattle.std.specs.Prelude.{◌≡◌, refl, cond, List, [], ◌∷◌, ◌++◌, ℕ, zero, suc, ◌+◌, ◌*◌, ◌%◌, ◌^◌, ◌≤◌, ◌<◌, eqb}
use Rattle.std.proofs.Common.{sym, ap, ap₂, ◌∙◌, append-nil, pow-suc, zero-add, mod-lt, add_comm, one-add, arith, pow_pos, pow_mono}
use Rattle.std.proofs.Math.Decide.{ℕ_discrete}
use Rattle.std.proofs.lemmas.Nat.{mod-pow-add}
use Rattle.bits.specs.Digits.{bit}
use Rattle.bits.specs.Bit.{bit-lt, bit-none, bit_high, bit-low}
use Rattle.block.specs.Model.{inputs_of}

inputs-cong : (n v w : ℕ) → ((i : ℕ) → i < n → bit v i ≡ bit w i) → inputs_of n v ≡ inputs_of n w
unfolding inputs_of
inputs-cong zero v w h = refl
inputs-cong (suc n) v w h =
    ap₂ (λ (l : List ℕ) (d : ℕ). l ++ cond (eqb d 0) [] (n ∷ [])) (inputs-cong n v w (λ i l. h i (omega arith))) (h n (omega arith))

-- a number below 2^b and 2^b are below any higher power
pub more_lt : (m b n : ℕ) → m < 2 ^ b → b < n → m + 2 ^ b < 2 ^ n
more_lt m b n h l = omega (arith, pow-suc 2 b, pow_mono {i = suc b} {j = n} (omega arith))

inputs-step : (n v : ℕ) → v < 2 ^ n → inputs_of (suc n) v ≡ inputs_of n v
unfolding inputs_of
inputs-step n v h = rw (bit-none v n h) (append-nil (inputs_of n v))

inputs-top : (n m : ℕ) → m < 2 ^ n → inputs_of (suc n) (m + 2 ^ n) ≡ inputs_of n m ++ (n ∷ [])
unfolding inputs_of
inputs-top n m h =
    let e : m + 2 ^ n ≡ 1 * 2 ^ n + m = omega arith in
    rw (e, bit_high n 1 m h, inputs-cong n (1 * 2 ^ n + m) m (λ i l. bit-low n i 1 m l))

pub inputs-add : (n m b : ℕ) → m < 2 ^ b → b < n → inputs_of n (m + 2 ^ b) ≡ inputs_of n m ++ (b ∷ [])
inputs-add zero m b h l = absurd (omega arith)
inputs-add (suc n) m b h l = go (ℕ_discrete b n) (λ k. inputs-add n m b h k)
  where
    go : Dec (b ≡ n) → (b < n → inputs_of n (m + 2 ^ b) ≡ inputs_of n m ++ (b ∷ []))
        → inputs_of (suc n) (m + 2 ^ b) ≡ inputs_of (suc n) m ++ (b ∷ [])
    go (yes e) ih =
        let k : m < 2 ^ n = rw e at h in
        rw e (inputs-top n m k ∙ ap (λ (t : List ℕ). t ++ (n ∷ [])) (sym (inputs-step n m k)))
    go (no e) ih =
        let k : b < n = omega arith in
        let q = more_lt m b n h k in
        inputs-step n (m + 2 ^ b) q ∙ ih k ∙ ap (λ (t : List ℕ). t ++ (b ∷ [])) (sym (inputs-step n m (omega arith)))

inputs-zero : (n : ℕ) → inputs_of n 0 ≡ []
unfolding inputs_of
inputs-zero zero = refl
inputs-zero (suc n) = inputs-step n 0 (pow_pos n) ∙ inputs-zero n

pub inputs-pow : (n a : ℕ) → a < n → inputs_of n (2 ^ a) ≡ a ∷ []
inputs-pow n a h =
    ap (inputs_of n) (sym (zero-add (2 ^ a))) ∙ inputs-add n 0 a (pow_pos a) h ∙ ap (λ (t : List ℕ). t ++ (a ∷ [])) (inputs-zero n)

-- ---- from the inputs to the row

-- m and the inputs' powers
unfoldable pub summed : ℕ → List ℕ → ℕ
summed m [] = m
summed m (b ∷ bs) = summed (m + 2 ^ b) bs

-- each input is above m and those before it, and below n
unfoldable pub Ascends : ℕ → ℕ → List ℕ → Type 0
Ascends n m [] = Unit
Ascends n m (b ∷ bs) = (m < 2 ^ b) × (b < n) × Ascends n (m + 2 ^ b) bs

summed-more : (m : ℕ) (bs : List ℕ) (c : ℕ) → summed m (bs ++ (c ∷ [])) ≡ summed m bs + 2 ^ c
unfolding summed
summed-more m [] c = refl
summed-more m (b ∷ bs) c = summed-more (m + 2 ^ b) bs c

ascends-more : (n m : ℕ) (bs : List ℕ) (c : ℕ) → Ascends n m bs → summed m bs < 2 ^ c → c < n → Ascends n m (bs ++ (c ∷ []))
unfolding Ascends summed
ascends-more n m [] c h l k = (l, k, tt)
ascends-more n m (b ∷ bs) c h l k = (h.0, h.1, ascends-more n (m + 2 ^ b) bs c h.2 l k)

-- the inputs of v among the first i ascend, and add up to its low bits
pub inputs-row : (n v i : ℕ) → i ≤ n → Ascends n 0 (inputs_of i v) × (summed 0 (inputs_of i v) ≡ v % 2 ^ i)
unfolding inputs_of Ascends summed
inputs-row n v zero h = (tt, omega arith)
inputs-row n v (suc i) h = go (bit v i) refl (bit-lt v i) (inputs-row n v i (omega arith))
  where
    parts : v % 2 ^ suc i ≡ v % 2 ^ i + bit v i * 2 ^ i
    parts = ap (λ (j : ℕ). v % 2 ^ j) (sym (one-add i)) ∙ mod-pow-add v 1 i ∙ add_comm (bit v i * 2 ^ i) (v % 2 ^ i)

    go : (d : ℕ) → bit v i ≡ d → d < 2 → Ascends n 0 (inputs_of i v) × (summed 0 (inputs_of i v) ≡ v % 2 ^ i)
        → Ascends n 0 (inputs_of i v ++ cond (eqb d 0) [] (i ∷ [])) × (summed 0 (inputs_of i v ++ cond (eqb d 0) [] (i ∷ [])) ≡ v % 2 ^ suc i)
    go zero e l ih = rw (append-nil (inputs_of i v)) (ih.0, ih.1 ∙ sym (parts ∙ rw e (omega arith)))
    go (suc zero) e l ih = (
      ascends-more n 0 (inputs_of i v) i ih.0 (rw ih.1 (mod-lt v (pow_pos i))) (omega arith),
      summed-more 0 (inputs_of i v) i ∙ rw ih.1 (sym (parts ∙ rw e (omega arith))),
    )
    go (suc (suc d)) e l ih = absurd (omega arith)
