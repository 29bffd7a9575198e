-- The Gray matrix: T z is z XOR (z / 2), its n columns are independent, and its inverse is Gray decoding, whose row j has all inputs
-- from j up. Not here: the blocks (`Blocks`). Assumes nothing.
use Rattle.std.specs.Prelude.{◌≡◌, refl, Bool, true, false, ◌||◌, ℕ, zero, suc, ◌+◌, ◌-◌, ◌*◌, ◌/◌, ◌%◌, ◌^◌, ◌≤◌, ◌<◌}
use Rattle.std.proofs.Common.{sym, ap, ap₂, ◌∙◌, mod-eq_of_lt, arith, eqb-true, pow_pos, pow_mono, shr-shr}
use Rattle.std.proofs.lemmas.Bool.{false≢true}
use Rattle.std.specs.Int.Bits.{bit_and, bit_xor, xor_shifted}
use Rattle.std.proofs.lemmas.Nat.{and_comm, xor_lt, ones_cat}
use Rattle.std.proofs.lemmas.Nat.Bits.{and_high}
use Rattle.std.specs.Int.Count.{ones, ones_in}
use Rattle.std.proofs.Math.Pow.{pow-lt, shr_mod}
use Rattle.bits.specs.Digits.{parity}
use Rattle.bits.specs.Xor.{xor-half, xor-swap, xor-cancel-r}
use Rattle.bits.specs.Parity.{parity-step, parity-lt, parity-and-xor}
use Rattle.bits.specs.Bit.{bit-ext}
use Rattle.slices.specs.Places.{at, tab}
use Rattle.slices.specs.Filled.{tab-list, tab-cong}
use Rattle.block.specs.Basis.{span, columns, apply, inverse}
use Rattle.matrix_laws.specs.Linear.{Linear, apply-lt, apply-bit, linear-columns, columns-cong, columns-units}
use Rattle.matrix_laws.specs.Reached.{Independent}
use Rattle.matrix_laws.specs.Inverse.{inverse-unique, length-inverse, columns-kernel}
use Rattle.block.specs.Symmetric.{gray_column, gray_code, gray_row}

-- ---- T

code-linear : Linear gray_code
code-linear x y = ap (bit_xor (bit_xor x y)) (xor-half x y) ∙ xor-swap x y (x / 2) (y / 2)

-- its value at a power of two is a column
pub code-unit : (j : ℕ) → gray_code (2 ^ j) ≡ gray_column j
unfolding gray_column
code-unit zero = refl
code-unit (suc j) =
    let h : 2 ^ suc j / 2 ≡ 2 ^ j = omega arith in
    let e : 2 ^ suc j ≡ 1 * 2 ^ suc j = omega arith in
    let d : 1 * 2 ^ suc j + 2 ^ j ≡ 3 * 2 ^ j = omega arith in
    ap₂ bit_xor e h ∙ xor_shifted 1 (suc j) (2 ^ j) (pow-lt (omega arith)) ∙ d

-- the columns make the Gray code; what rests on it cites this
columns-code : (n z : ℕ) → z < 2 ^ n → columns gray_column n z ≡ gray_code z
columns-code n z h =
    columns-cong gray_column (λ j. gray_code (2 ^ j)) n z (λ j l. sym (code-unit j))
    ∙ sym (linear-columns gray_code code-linear (λ j. 2 ^ j) n z)
    ∙ ap gray_code (columns-units n z ∙ mod-eq_of_lt h)

-- T z is the Gray code of z
pub gray-code : (n z : ℕ) → z < 2 ^ n → columns gray_column n z ≡ gray_code z
gray-code = columns-code

-- ---- independence

-- column j lies from 2^j up, below 2^(j + 1)
pub column-lt : (j : ℕ) → gray_column j < 2 ^ suc j
unfolding gray_column
column-lt zero = omega arith
column-lt (suc j) = omega (arith, pow_pos j)

pub column-ge : (j : ℕ) → 2 ^ j ≤ gray_column j
unfolding gray_column
column-ge zero = omega arith
column-ge (suc j) = omega (arith, pow_pos j)

-- an XOR of numbers of m bits has m bits
span_below : (c : ℕ → ℕ) (m k t : ℕ) → ((j : ℕ) → j < k → c j < 2 ^ m) → span c k t ≡ true → t < 2 ^ m
unfolding span
span_below c m zero t h e = omega (arith, eqb-true t 0 e, pow_pos m)
span_below c m (suc k) t h e =
    go (span c k t) (span c k (bit_xor t (c k))) e
    (λ d. span_below c m k t (λ j l. h j (omega arith)) d)
    (λ d. span_below c m k (bit_xor t (c k)) (λ j l. h j (omega arith)) d)
  where
    back : bit_xor t (c k) < 2 ^ m → t < 2 ^ m
    back l = rw (sym (xor-cancel-r t (c k))) (xor_lt m (bit_xor t (c k)) (c k) l (h k (omega arith)))

    go : (p q : Bool) → p || q ≡ true → (p ≡ true → t < 2 ^ m) → (q ≡ true → bit_xor t (c k) < 2 ^ m) → t < 2 ^ m
    go true q e a b = a refl
    go false true e a b = back (b refl)
    go false false e a b = absurd (false≢true e)

-- no column is an XOR of some before it
pub gray-independent : (n : ℕ) → Independent gray_column n n
gray-independent n =
    record {
      below = λ j l. omega (arith, column-lt j, pow_mono l);
      fresh = λ j l. go j (span gray_column j (gray_column j)) refl;
    }
  where
    go : (j : ℕ) (b : Bool) → span gray_column j (gray_column j) ≡ b → span gray_column j (gray_column j) ≡ false
    go j true e =
        absurd
        (omega (arith, column-ge j, span_below gray_column j j (gray_column j) (λ i l. omega (arith, column-lt i, pow_mono l)) e))
    go j false e = e

-- the Gray matrix is nonsingular: it sends only 0 to 0
pub gray-nonsingular : (n z : ℕ) → z < 2 ^ n → columns gray_column n z ≡ 0 → z ≡ 0
gray-nonsingular n = columns-kernel gray_column n (gray-independent n)

-- ---- sigma

parity-shifted : (a k : ℕ) → parity (a * 2 ^ k) ≡ parity a
unfolding parity ones ones_in
parity-shifted a k =
    let e : a * 2 ^ k ≡ a * 2 ^ k + 0 = omega arith in
    let d : ones a + 0 ≡ ones a = omega arith in
    ap (λ (x : ℕ). x % 2) (ap ones e ∙ ones_cat k a 0 (pow_pos k) ∙ d)

-- the inputs from j up: their parity is that of what stands from bit j on
row-parity : (n j x : ℕ) → j < n → x < 2 ^ n → parity (bit_and (gray_row n j) x) ≡ parity (x / 2 ^ j)
row-parity n j x h l =
    let w : n ≡ (n - j) + j = omega arith in
    let b : x < 2 ^ ((n - j) + j) = rw (sym w) l in
    ap parity
    (and_comm (gray_row n j) x ∙ ap (λ (m : ℕ). bit_and x (2 ^ m - 2 ^ j)) w ∙ and_high x (n - j) j
    ∙ ap (λ (y : ℕ). y * 2 ^ j) (shr_mod (n - j) j b))
    ∙ parity-shifted (x / 2 ^ j) j

-- so Gray decoding undoes the Gray code
pub decode-code : (n z : ℕ) → z < 2 ^ n → apply (gray_row n) n (gray_code z) ≡ z
decode-code n z h =
    bit-ext n (apply (gray_row n) n (gray_code z)) z (apply-lt (gray_row n) n (gray_code z)) h
    (λ j l.
    apply-bit (gray_row n) n (gray_code z) j l
    ∙ parity-and-xor (gray_row n j) z (z / 2)
    ∙ ap₂ (λ (p q : ℕ). (p + q) % 2) (row-parity n j z l h)
    (row-parity n j (z / 2) l (omega arith) ∙ ap parity (halves j))
    ∙ digit (z / 2 ^ j))
  where
    halves : (j : ℕ) → z / 2 / 2 ^ j ≡ z / 2 ^ j / 2
    halves j = omega (arith, shr-shr z 1 j, shr-shr z j 1, ap (λ (i : ℕ). z / 2 ^ i) (swap j))
      where
        swap : (j : ℕ) → 1 + j ≡ j + 1
        swap j = omega arith

    digit : (y : ℕ) → (parity y + parity (y / 2)) % 2 ≡ y % 2
    digit y = omega (arith, parity-step y, parity-lt (y / 2))

row_lt : (n j : ℕ) → gray_row n j < 2 ^ n
row_lt n j = omega (arith, pow_pos n, pow_pos j)

-- row j of the inverse by its definition; what rests on it cites this
inverse-row : (n j : ℕ) → j < n → at (inverse gray_column n) j ≡ gray_row n j
inverse-row n j l =
    sym
    (inverse-unique gray_column n (gray-independent n) (gray_row n) (λ j l. row_lt n j)
    (λ z h. ap (apply (gray_row n) n) (columns-code n z h) ∙ decode-code n z h) j l)

-- row j of the inverse of the Gray matrix has all inputs from j up
pub gray-row : (n j : ℕ) → j < n → at (inverse gray_column n) j ≡ gray_row n j
gray-row = inverse-row

-- the inverse as a list
pub gray-inverse : (n : ℕ) → inverse gray_column n ≡ tab n (gray_row n)
gray-inverse n =
    sym (tab-list 0 (inverse gray_column n))
    ∙ ap (λ (m : ℕ). tab m (at (inverse gray_column n))) (length-inverse gray_column n)
    ∙ tab-cong n _ _ (inverse-row n)
