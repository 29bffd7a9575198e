-- Linear maps on numbers as rows of bits: numbers by their digits, what a linear map keeps, the matrix by rows (`apply`) and by
-- columns (`columns`), and spans under a linear map. Not here: the maps of one step (`Steps`). Assumes nothing.
use Rattle.std.specs.Prelude.{◌≡◌, refl, ◌||◌, eqb, ltb}
use Rattle.std.proofs.Common.{sym, ap, ◌∙◌, subst, add_comm, mul_comm, mul-zero, mul-one, mod-lt, mod-eq_of_lt, pow-suc, add-one, one-add, arith, eq-eqb, ne_eqb, lt-ltb, le-ltb, pow_pos}
use Rattle.std.proofs.Math.Path.{ap₂}
use Prim.Native.Nat.{ℕ, zero, suc, ◌+◌, ◌-◌, ◌*◌, ◌%◌, ◌^◌, ◌≤◌, ◌<◌}
use Rattle.std.proofs.Math.Decide.{ℕ_discrete, dec_lt}
use Rattle.std.proofs.Math.Nat.{mod-one}
use Rattle.std.proofs.Math.Arith.{digits_lt}
use Rattle.std.specs.Int.Bits.{bit_and, bit_xor, xor_self, xor_zero_r, xor_shifted}
use Rattle.std.proofs.lemmas.Nat.{and_comm, xor_block, xor_lt, mod-pow-add}
use Rattle.std.proofs.Math.Pow.{pow-lt}
use Rattle.bits.specs.Digits.{bit, parity}
use Rattle.bits.specs.Xor.{xor-cancel-r, xor-swap, times-xor}
use Rattle.bits.specs.Parity.{parity-lt, parity-and-xor}
use Rattle.bits.specs.Bit.{bit-lt, bit-ext, bit-xor, bit-low, bit_high, bit-pow-same, bit-pow-other, parity-pow, times-lt}
use Rattle.sums.specs.Sums.{sum}
use Rattle.sums.specs.Laws.{sum-zero, sum-suc, sum_more, sum-cong, below_suc}
use Rattle.block.specs.Basis.{span, columns, apply}

-- ---- a number by its digits d 0, d 1, .. d (n - 1), lowest first

module _ (d : ℕ → ℕ) (h : (j : ℕ) → d j < 2) where
  -- it has n bits
  pub digits-below : (n : ℕ) → sum (λ j. d j * 2 ^ j) n < 2 ^ n
  digits-below zero = rw (sum-zero (λ j. d j * 2 ^ j)) (omega arith)
  digits-below (suc n) =
      rw (sum-suc (λ j. d j * 2 ^ j) n, add_comm (sum (λ j. d j * 2 ^ j) n) (d n * 2 ^ n), pow-suc 2 n, mul_comm (2 ^ n) 2)
      (digits_lt (h n) (digits-below n))

  -- and its bits are the digits
  pub digits-bit : (n i : ℕ) → i < n → bit (sum (λ j. d j * 2 ^ j) n) i ≡ d i
  digits-bit zero i l = absurd (omega arith)
  digits-bit (suc n) i l =
      ap (λ (x : ℕ). bit x i) (sum-suc (λ j. d j * 2 ^ j) n ∙ add_comm (sum (λ j. d j * 2 ^ j) n) (d n * 2 ^ n))
      ∙ below_suc (λ i. bit (d n * 2 ^ n + sum (λ j. d j * 2 ^ j) n) i ≡ d i) n
      (λ i k. bit-low n i (d n) (sum (λ j. d j * 2 ^ j) n) k ∙ digits-bit n i k)
      (bit_high n (d n) (sum (λ j. d j * 2 ^ j) n) (digits-below n) ∙ omega (arith, h n))
      i l

-- ---- linear maps

-- the map keeps XOR
abbrev pub Linear : (ℕ → ℕ) → Type 0
Linear f = (x y : ℕ) → f (bit_xor x y) ≡ bit_xor (f x) (f y)

module _ (f : ℕ → ℕ) (l : Linear f) where
  -- it sends 0 to 0
  pub linear-zero : f 0 ≡ 0
  linear-zero = ap f (sym (xor_self 0)) ∙ l 0 0 ∙ xor_self (f 0)

  -- and a digit's multiple to the digit's multiple
  pub linear-times : (x d : ℕ) → d < 2 → f (x * d) ≡ f x * d
  linear-times x zero h = rw (mul-zero x, mul-zero (f x)) linear-zero
  linear-times x (suc zero) h = rw (mul-one x, mul-one (f x))
  linear-times x (suc (suc d)) h = absurd (omega arith)

-- ---- the matrix by rows

-- of no rows
pub apply-none : (s : ℕ → ℕ) (x : ℕ) → apply s 0 x ≡ 0
unfolding apply
apply-none s x = sum-zero (λ j. parity (bit_and (s j) x) * 2 ^ j)

-- with one row more
pub apply-more : (s : ℕ → ℕ) (n x : ℕ) → apply s (n + 1) x ≡ apply s n x + parity (bit_and (s n) x) * 2 ^ n
unfolding apply
apply-more s n x = sum_more (λ j. parity (bit_and (s j) x) * 2 ^ j) n

-- its value has n bits
pub apply-lt : (s : ℕ → ℕ) (n x : ℕ) → apply s n x < 2 ^ n
unfolding apply
apply-lt s n x = digits-below (λ j. parity (bit_and (s j) x)) (λ j. parity-lt (bit_and (s j) x)) n

-- bit j is the parity of row j AND x
pub apply-bit : (s : ℕ → ℕ) (n x j : ℕ) → j < n → bit (apply s n x) j ≡ parity (bit_and (s j) x)
unfolding apply
apply-bit s n x j h = digits-bit (λ j. parity (bit_and (s j) x)) (λ j. parity-lt (bit_and (s j) x)) n j h

-- it is linear
pub apply-xor : (s : ℕ → ℕ) (n : ℕ) → Linear (apply s n)
apply-xor s n x y =
    bit-ext n (apply s n (bit_xor x y)) (bit_xor (apply s n x) (apply s n y)) (apply-lt s n (bit_xor x y))
    (xor_lt n (apply s n x) (apply s n y) (apply-lt s n x) (apply-lt s n y))
    (λ j h.
    apply-bit s n (bit_xor x y) j h
    ∙ parity-and-xor (s j) x y
    ∙ sym
    (bit-xor (apply s n x) (apply s n y) j
    ∙ ap₂ (λ (p q : ℕ). (p + q) % 2) (apply-bit s n x j h) (apply-bit s n y j h)))

-- it depends on its n rows alone
pub apply-cong : (s q : ℕ → ℕ) (n x : ℕ) → ((j : ℕ) → j < n → s j ≡ q j) → apply s n x ≡ apply q n x
unfolding apply
apply-cong s q n x h =
    sum-cong (λ j. parity (bit_and (s j) x) * 2 ^ j) (λ j. parity (bit_and (q j) x) * 2 ^ j) n
    (λ j l. ap (λ (y : ℕ). parity (bit_and y x) * 2 ^ j) (h j l))

-- at a power of two its bits are a column of it
pub apply-unit : (s : ℕ → ℕ) (n i j : ℕ) → j < n → bit (apply s n (2 ^ i)) j ≡ bit (s j) i
apply-unit s n i j h = apply-bit s n (2 ^ i) j h ∙ ap parity (and_comm (s j) (2 ^ i)) ∙ parity-pow i (s j)

-- so that its values say its rows
pub rows-unique : (s q : ℕ → ℕ) (n : ℕ) → ((j : ℕ) → j < n → s j < 2 ^ n) → ((j : ℕ) → j < n → q j < 2 ^ n)
    → ((x : ℕ) → x < 2 ^ n → apply s n x ≡ apply q n x) → (j : ℕ) → j < n → s j ≡ q j
rows-unique s q n hs hq h j l =
    bit-ext n (s j) (q j) (hs j l) (hq j l)
    (λ i k. sym (apply-unit s n i j l) ∙ ap (λ (y : ℕ). bit y j) (h (2 ^ i) (pow-lt k)) ∙ apply-unit q n i j l)

-- ---- the matrix by columns

-- of no columns
pub columns-none : (c : ℕ → ℕ) (z : ℕ) → columns c 0 z ≡ 0
unfolding columns
columns-none c z = refl

-- with one column more
pub columns-more : (c : ℕ → ℕ) (k z : ℕ) → columns c (k + 1) z ≡ bit_xor (c k * bit z k) (columns c k z)
unfolding columns
columns-more c k z = rw add-one

-- its value has the bits of its columns
pub columns-lt : (c : ℕ → ℕ) (n k z : ℕ) → ((j : ℕ) → j < k → c j < 2 ^ n) → columns c k z < 2 ^ n
unfolding columns
columns-lt c n zero z h = pow_pos n
columns-lt c n (suc k) z h =
    xor_lt n (c k * bit z k) (columns c k z) (times-lt (c k) (bit z k) n (bit-lt z k) (h k (omega arith)))
    (columns-lt c n k z (λ j l. h j (omega arith)))

-- it is linear
pub columns-xor : (c : ℕ → ℕ) (k : ℕ) → Linear (columns c k)
unfolding columns
columns-xor c zero y z = refl
columns-xor c (suc k) y z =
    ap₂ bit_xor
    (ap (λ (d : ℕ). c k * d) (bit-xor y z k) ∙ times-xor (c k) (bit y k) (bit z k) (bit-lt y k) (bit-lt z k))
    (columns-xor c k y z)
    ∙ xor-swap (c k * bit y k) (c k * bit z k) (columns c k y) (columns c k z)

-- it depends on its k columns alone
pub columns-cong : (c d : ℕ → ℕ) (k z : ℕ) → ((j : ℕ) → j < k → c j ≡ d j) → columns c k z ≡ columns d k z
unfolding columns
columns-cong c d zero z h = refl
columns-cong c d (suc k) z h = rw (h k (omega arith), columns-cong c d k z (λ j l. h j (omega arith)))

-- the powers of two as columns give the number again
pub columns-units : (k z : ℕ) → columns (λ j. 2 ^ j) k z ≡ z % 2 ^ k
unfolding columns
columns-units zero z = sym (mod-one z)
columns-units (suc k) z =
    ap₂ bit_xor (mul_comm (2 ^ k) (bit z k)) (columns-units k z)
    ∙ xor_shifted (bit z k) k (z % 2 ^ k) (mod-lt z (pow_pos k))
    ∙ sym (ap (λ (i : ℕ). z % 2 ^ i) (sym (one-add k)) ∙ mod-pow-add z 1 k)

-- at a power of two it is a column
pub columns-unit : (c : ℕ → ℕ) (n i : ℕ) → i < n → columns c n (2 ^ i) ≡ c i
unfolding columns
columns-unit c zero i h = absurd (omega arith)
columns-unit c (suc n) i h = go (λ l. columns-unit c n i l) (dec_lt i n)
  where
    above : (k : ℕ) → k ≤ i → columns c k (2 ^ i) ≡ 0
    above zero l = refl
    above (suc k) l = rw (bit-pow-other i k (λ e. omega arith), mul-zero (c k)) (above k (omega arith))

    go : (i < n → columns c n (2 ^ i) ≡ c i) → Dec (i < n) → bit_xor (c n * bit (2 ^ i) n) (columns c n (2 ^ i)) ≡ c i
    go ih (yes l) = rw (bit-pow-other i n (λ e. omega arith), mul-zero (c n)) (ih l)
    go ih (no m) =
        let e : n ≡ i = omega arith in
        rw (above n (omega arith), e, bit-pow-same i, mul-one (c i)) (xor_zero_r (c i))

-- ---- columns and spans under a linear map

module _ (f : ℕ → ℕ) (l : Linear f) (c : ℕ → ℕ) where
  -- the map of a matrix has the mapped columns
  pub linear-columns : (k z : ℕ) → f (columns c k z) ≡ columns (λ j. f (c j)) k z
  unfolding columns
  linear-columns zero z = linear-zero f l
  linear-columns (suc k) z =
      l (c k * bit z k) (columns c k z) ∙ ap₂ bit_xor (linear-times f l (c k) (bit z k) (bit-lt z k)) (linear-columns k z)

  -- a map that sends column j to 2^j undoes the matrix
  pub linear-undoes : (n z : ℕ) → ((j : ℕ) → j < n → f (c j) ≡ 2 ^ j) → z < 2 ^ n → f (columns c n z) ≡ z
  linear-undoes n z h b =
      linear-columns n z ∙ columns-cong (λ j. f (c j)) (λ j. 2 ^ j) n z h ∙ columns-units n z ∙ mod-eq_of_lt b

-- y is below 2 ^ (k + 1) exactly where y, or y with bit k changed, is below 2 ^ k
ltb-top : (k y : ℕ) → ltb y (2 ^ k) || ltb (bit_xor y (2 ^ k)) (2 ^ k) ≡ ltb y (2 ^ suc k)
ltb-top k y = go (dec_lt y (2 ^ k)) (dec_lt y (2 ^ suc k))
  where
    low : 2 ^ k ≤ y → y < 2 ^ suc k → bit_xor y (2 ^ k) ≡ y - 2 ^ k
    low a b =
        ap₂ bit_xor (split a) one
        ∙ xor_block k 1 1 (y - 2 ^ k) 0 (omega arith) (pow_pos k)
        ∙ ap (λ (x : ℕ). 0 * 2 ^ k + x) (xor_zero_r (y - 2 ^ k))
        ∙ nought
      where
        split : 2 ^ k ≤ y → y ≡ 1 * 2 ^ k + (y - 2 ^ k)
        split a = omega arith

        one : 2 ^ k ≡ 1 * 2 ^ k + 0
        one = omega arith

        nought : 0 * 2 ^ k + (y - 2 ^ k) ≡ y - 2 ^ k
        nought = omega arith

    high : 2 ^ suc k ≤ y → bit_xor y (2 ^ k) < 2 ^ k → ⊥
    high a b =
        omega (
          arith,
          subst (λ (x : ℕ). x < 2 ^ suc k) (xor-cancel-r y (2 ^ k))
              (xor_lt (suc k) (bit_xor y (2 ^ k)) (2 ^ k) (omega arith) (omega (arith, pow_pos k))),
        )

    go : Dec (y < 2 ^ k) → Dec (y < 2 ^ suc k) → ltb y (2 ^ k) || ltb (bit_xor y (2 ^ k)) (2 ^ k) ≡ ltb y (2 ^ suc k)
    go (yes a) d = rw (lt-ltb y (2 ^ k) a, lt-ltb y (2 ^ suc k) (omega arith))
    go (no a) (yes b) =
        rw (le-ltb y (2 ^ k) (omega arith), lt-ltb y (2 ^ suc k) b, low (omega arith) b) (lt-ltb (y - 2 ^ k) (2 ^ k) (omega arith))
    go (no a) (no b) =
        rw (le-ltb y (2 ^ k) (omega arith), le-ltb y (2 ^ suc k) (omega arith))
        (le-ltb (bit_xor y (2 ^ k)) (2 ^ k) (not-lt (high (omega arith))))
      where
        not-lt : (bit_xor y (2 ^ k) < 2 ^ k → ⊥) → 2 ^ k ≤ bit_xor y (2 ^ k)
        not-lt h = omega arith

-- a one-to-one linear map that sends c j to 2^j, for j below k, sends exactly the XORs of these below 2^k
pub span-linear : (f : ℕ → ℕ) → Linear f → (c : ℕ → ℕ) (n k : ℕ) → ((t : ℕ) → t < 2 ^ n → f t ≡ 0 → t ≡ 0)
    → ((j : ℕ) → j < k → c j < 2 ^ n) → ((j : ℕ) → j < k → f (c j) ≡ 2 ^ j) → (t : ℕ) → t < 2 ^ n → span c k t ≡ ltb (f t) (2 ^ k)
unfolding span
span-linear f l c n zero inj hc hs t ht = go (ℕ_discrete t 0)
  where
    go : Dec (t ≡ 0) → eqb t 0 ≡ ltb (f t) 1
    go (yes e) = rw (eq-eqb t 0 e) (sym (lt-ltb (f t) 1 (omega (arith, ap f e ∙ linear-zero f l))))
    go (no d) = rw (ne_eqb t 0 d) (sym (le-ltb (f t) 1 (pos (λ e. d (inj t ht e)))))
      where
        pos : (f t ≡ 0 → ⊥) → 1 ≤ f t
        pos h = omega arith
span-linear f l c n (suc k) inj hc hs t ht =
    ap₂ ◌||◌ (span-linear f l c n k inj (λ j hj. hc j (omega arith)) (λ j hj. hs j (omega arith)) t ht)
    (span-linear f l c n k inj (λ j hj. hc j (omega arith)) (λ j hj. hs j (omega arith)) (bit_xor t (c k))
    (xor_lt n t (c k) ht (hc k (omega arith)))
    ∙ ap (λ (y : ℕ). ltb y (2 ^ k)) (l t (c k) ∙ ap (bit_xor (f t)) (hs k (omega arith))))
    ∙ ltb-top k (f t)
