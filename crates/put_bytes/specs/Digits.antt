-- Bits, symbols and digits from the right, as the loops put them: the last one, behind those of the half or of the rest. Their
-- lengths. Assumes nothing.
use Rattle.std.specs.Prelude.{◌≡◌, refl, Bool, true, false, cond, List, [], ◌∷◌, ◌++◌, ℕ, zero, suc, ◌+◌, ◌-◌, ◌/◌, ◌%◌, ◌^◌, ◌≤◌, ◌<◌, ltb, length, set, ◌*◌, max}
use Rattle.std.proofs.Common.{sym, ap, ap₂, ◌∙◌, pow-suc, add-one, arith, lt-ltb, le-ltb, ltb-true, length-append}
use Rattle.std.proofs.Math.Decide.{dec_lt}
use Rattle.std.proofs.lemmas.List.Edits.{sets}
use Rattle.bits.specs.Bit.{bit-zero, bit-suc}
use Rattle.block.specs.Text.{digits, decimal, symbols, bits}
use Rattle.block.specs.Model.{symbol_of}
use Rattle.put_bytes.specs.Puts.{sets-append, sets-set}
use Rattle.std.proofs.Math.Nat.{one-le-pow}

-- the last digits of v in a base, so many of them
unfoldable pub last_digits : ℕ → ℕ → ℕ → List ℕ
last_digits base zero v = []
last_digits base (suc i) v = last_digits base i (v / base) ++ ((48 + v % base) ∷ [])

-- ---- lengths

pub length-bits : (n v : ℕ) → length (bits n v) ≡ n
unfolding bits
length-bits zero v = refl
length-bits (suc i) v = ap suc (length-bits i v)

pub length_symbols : (n m v : ℕ) → length (symbols n m v) ≡ n
unfolding symbols
length_symbols zero m v = refl
length_symbols (suc i) m v = ap suc (length_symbols i m v)

pub length_last : (base i v : ℕ) → length (last_digits base i v) ≡ i
unfolding last_digits
length_last base zero v = refl
length_last base (suc i) v = length-append (last_digits base i (v / base)) _ ∙ rw (length_last base i (v / base)) (add-one i)

-- ---- the last one behind the others

bits-more : (i v : ℕ) → bits (suc i) v ≡ bits i (v / 2) ++ ((48 + v % 2) ∷ [])
unfolding bits
bits-more zero v = ap (λ (x : ℕ). (48 + x) ∷ []) (bit-zero v)
bits-more (suc i) v = ap₂ (λ (x : ℕ) (l : List ℕ). (48 + x) ∷ l) (bit-suc v i) (bits-more i v)

-- the bits of a number are its last digits in base 2
pub bits-last : (n v : ℕ) → bits n v ≡ last_digits 2 n v
unfolding bits last_digits
bits-last zero v = refl
bits-last (suc i) v = bits-more i v ∙ ap (λ (l : List ℕ). l ++ ((48 + v % 2) ∷ [])) (bits-last i (v / 2))

symbols-last : (i m v : ℕ) → symbols (suc i) m v ≡ symbols i (m / 2) (v / 2) ++ (symbol_of (m % 2) (v % 2) ∷ [])
unfolding symbols
symbols-last zero m v = ap₂ (λ (x y : ℕ). symbol_of x y ∷ []) (bit-zero m) (bit-zero v)
symbols-last (suc i) m v =
    ap₂ (λ (x : ℕ) (l : List ℕ). x ∷ l) (ap₂ symbol_of (bit-suc m i) (bit-suc v i)) (symbols-last i m v)

-- a number in decimal is its last digits, as many as it has
digits_last : (most v : ℕ) → digits most v ≡ last_digits 10 (length (digits most v)) v
unfolding digits last_digits
digits_last zero v = refl
digits_last (suc most) v = go (ltb v 10) refl (digits_last most (v / 10))
  where
    w : List ℕ
    w = digits most (v / 10)

    go : (b : Bool) → ltb v 10 ≡ b → w ≡ last_digits 10 (length w) (v / 10)
        → cond b ((48 + v) ∷ []) (w ++ ((48 + v % 10) ∷ [])) ≡ last_digits 10 (length (cond b ((48 + v) ∷ []) (w ++ ((48 + v % 10) ∷ [])))) v
    go true e ih =
        let h = ltb-true v 10 e in
        let d : v ≡ v % 10 = omega arith in
        ap (λ (x : ℕ). (48 + x) ∷ []) d
    go false e ih =
        ap (λ (l : List ℕ). l ++ ((48 + v % 10) ∷ [])) ih
        ∙ sym (ap (λ (i : ℕ). last_digits 10 i v) (length-append w ((48 + v % 10) ∷ []) ∙ add-one (length w)))

pub decimal-last : (v r : ℕ) → r ≡ length (decimal v) → decimal v ≡ last_digits 10 r v
decimal-last v r e = digits_last 20 v ∙ ap (λ (i : ℕ). last_digits 10 i v) (sym e)

-- ---- one more, as a loop that counts down stores it

down : (l w : List ℕ) (at i x : ℕ) → length w ≡ i → sets l at (w ++ (x ∷ [])) ≡ sets (set l (at + i) x) at w
down l w at i x e =
    sym (sets-append w (x ∷ []) l at (at + i) (ap (λ (k : ℕ). at + k) (sym e)))
    ∙ sym (sets-set w l at (at + i) x (omega arith))

pub symbols-down : (l : List ℕ) (at left m v : ℕ) → 0 < left
    → sets l at (symbols left m v) ≡ sets (set l (at + (left - 1)) (symbol_of (m % 2) (v % 2))) at (symbols (left - 1) (m / 2) (v / 2))
symbols-down l at left m v h =
    let e : left ≡ suc (left - 1) = omega arith in
    ap (λ (k : ℕ). sets l at (symbols k m v)) e
    ∙ ap (sets l at) (symbols-last (left - 1) m v)
    ∙ down l (symbols (left - 1) (m / 2) (v / 2)) at (left - 1) (symbol_of (m % 2) (v % 2)) (length_symbols (left - 1) (m / 2) (v / 2))

pub last-down : (l : List ℕ) (at base left v : ℕ) → 0 < left
    → sets l at (last_digits base left v) ≡ sets (set l (at + (left - 1)) (48 + v % base)) at (last_digits base (left - 1) (v / base))
unfolding last_digits
last-down l at base left v h =
    let e : left ≡ suc (left - 1) = omega arith in
    ap (λ (k : ℕ). sets l at (last_digits base k v)) e
    ∙ down l (last_digits base (left - 1) (v / base)) at (left - 1) (48 + v % base) (length_last base (left - 1) (v / base))

-- ---- how many decimal digits a number has

-- a digit more than a tenth has
places-step : (most v : ℕ) → 10 ≤ v → length (digits (suc most) v) ≡ length (digits most (v / 10)) + 1
unfolding digits
places-step most v h = rw (le-ltb v 10 h) (length-append (digits most (v / 10)) ((48 + v % 10) ∷ []))

pub places-one : (most v : ℕ) → v < 10 → length (digits (suc most) v) ≡ 1
unfolding digits
places-one most v h = rw (lt-ltb v 10 h)

-- a tenth has one digit less
tenth : (i v : ℕ) → v < 10 ^ suc i → v / 10 < 10 ^ i
tenth i v h = omega (arith, pow-suc 10 i)

-- one turn of the loop that counts
pub places-turn : (m v : ℕ) → v < 10 ^ suc m → 10 ≤ v
    → (0 < m) × (v / 10 < 10 ^ m) × (length (digits (suc m) v) ≡ length (digits m (v / 10)) + 1)
places-turn zero v h l = absurd (omega arith)
places-turn (suc m) v h l = (omega arith, tenth (suc m) v h, places-step (suc m) v l)

-- a number from 10^p to below 10^(p + 1) has p + 1 digits
digits-power : (p most v : ℕ) → p < most → 10 ^ p ≤ v → v < 10 ^ suc p → length (digits most v) ≡ p + 1
digits-power p zero v m l h = absurd (omega arith)
digits-power zero (suc most) v m l h = places-one most v (omega (arith, pow-suc 10 0))
digits-power (suc p) (suc most) v m l h =
    let one = one-le-pow p 10 (omega arith) in
    let less : 10 ^ p ≤ v / 10 = omega (arith, pow-suc 10 p) in
    omega (
      arith,
      places-step most v (omega (arith, pow-suc 10 p)),
      digits-power p most (v / 10) (omega arith) less (tenth (suc p) v h),
    )

-- so the power of ten that a number reaches tells how many it has; 0 has one, as 1 has
pub decimal-power : (v m p : ℕ) → m ≡ max v 1 → p < 20 → 10 ^ p ≤ m → m < 10 * 10 ^ p → p + 1 ≡ length (decimal v)
decimal-power v m p e b l h = go (dec_lt v 1)
  where
    one-of : v < 1 → (p : ℕ) → 10 ^ p ≤ m → p ≡ 0
    one-of z zero l = refl
    one-of z (suc q) l = let one = one-le-pow q 10 (omega arith) in absurd (omega (arith, pow-suc 10 q))

    go : Dec (v < 1) → p + 1 ≡ length (decimal v)
    go (yes z) = omega (arith, one-of z p l, places-one 19 v (omega arith))
    go (no n) = omega (arith, digits-power p 20 v b (omega arith) (omega (arith, pow-suc 10 p)))

-- a number below 10^(d + 1) has at most d + 1 digits
digits_le : (d most v : ℕ) → v < 10 ^ suc d → length (digits most v) ≤ suc d
unfolding digits
digits_le d zero v h = omega arith
digits_le zero (suc most) v h = omega (arith, places-one most v (omega arith))
digits_le (suc d) (suc most) v h = go (digits_le d most (v / 10) (tenth (suc d) v h)) (dec_lt v 10)
  where
    go : length (digits most (v / 10)) ≤ suc d → Dec (v < 10) → length (digits (suc most) v) ≤ suc (suc d)
    go ih (yes s) = omega (arith, places-one most v s)
    go ih (no b) = omega (arith, places-step most v (omega arith))

-- a number below 10^d has at most d digits
pub decimal-le : (d v : ℕ) → 1 ≤ d → v < 10 ^ d → length (decimal v) ≤ d
decimal-le zero v l h = absurd (omega arith)
decimal-le (suc d) v l h = digits_le d 20 v h

-- and any number that is written has at most as many as `decimal` writes
digits-most : (most v : ℕ) → length (digits most v) ≤ most
unfolding digits
digits-most zero v = omega arith
digits-most (suc most) v = go (digits-most most (v / 10)) (dec_lt v 10)
  where
    go : length (digits most (v / 10)) ≤ most → Dec (v < 10) → length (digits (suc most) v) ≤ suc most
    go ih (yes s) = omega (arith, places-one most v s)
    go ih (no b) = omega (arith, places-step most v (omega arith))

pub decimal-most : (v : ℕ) → length (decimal v) ≤ 20
decimal-most v = digits-most 20 v
