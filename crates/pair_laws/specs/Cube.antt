-- A row as a cube of points, and what an ordered pair of rows with equal words adds to R(t), position by position (01, The measure):
-- it is the number of points x under the first row with x XOR t under the second. Not here: its closed form (`Closed`), and the sum
-- over all pairs (`Theorem`). Assumes nothing.
use Rattle.std.specs.Prelude.{◌≡◌, Bool, ◌&&◌, ℕ, zero, suc, ◌+◌, ◌*◌, ◌/◌, ◌%◌, ◌^◌, ◌<◌, min, eqb, T}
use Rattle.std.proofs.Common.{sym, ap, ◌∙◌, subst₂, pow-suc, mul-add, arith, eq-eqb, ne_eqb, eqb→eq}
use Rattle.std.proofs.Math.Decide.{ℕ_discrete}
use Rattle.std.proofs.Math.Arith.{lt-one}
use Rattle.std.specs.Int.Bits.{bit_and, bit_xor}
use Rattle.std.proofs.lemmas.Nat.{and_le_l}
use Rattle.bits.specs.Xor.{dig-ext, xor-half, and-half, xor-odd, and-odd}
use Rattle.bits.specs.Parts.{part-half, part-odd}
use Rattle.sums.specs.Sums.{sum, one, count}
use Rattle.sums.specs.Laws.{sum-cong, sum-mul, sum-pairs, one-and}
use Rattle.slices.specs.Tests.{and_left, and_right}
use Rattle.block.specs.Words.{under}
use Rattle.block.specs.declared.Row.{Row}

-- the row is well formed for n inputs: it fixes only these, and has no value at a free one
pub record Sound (n : ℕ) (r : Row) : Type 0 where
  pub fixed : r.mask < 2 ^ n
  pub inside : bit_and r.mask r.values ≡ r.values

-- what one position says: 2 where both symbols are free, 1 where one is, and where both are fixed 1 if t meets the demand: a 0 for
-- equal values, a 1 for unequal ones. m is 1 where the symbol is fixed, v its value
abbrev pub position : ℕ → ℕ → ℕ → ℕ → ℕ → ℕ
position zero v₁ zero v₂ t = 2
position zero v₁ (suc m₂) v₂ t = 1
position (suc m₁) v₁ zero v₂ t = 1
position (suc m₁) v₁ (suc m₂) v₂ t = one (eqb ((v₁ + v₂) % 2) t)

-- the product over n positions, the lowest first
unfoldable pub positions : ℕ → ℕ → ℕ → ℕ → ℕ → ℕ → ℕ
positions zero m₁ v₁ m₂ v₂ t = 1
positions (suc n) m₁ v₁ m₂ v₂ t =
    positions n (m₁ / 2) (v₁ / 2) (m₂ / 2) (v₂ / 2) (t / 2) * position (m₁ % 2) (v₁ % 2) (m₂ % 2) (v₂ % 2) (t % 2)

-- what an ordered pair of rows with equal words adds to R(t)
abbrev pub pair : ℕ → Row → Row → ℕ → ℕ
pair n r s t = positions n r.mask r.values s.mask s.values t

-- x lies under r, and x XOR t under s
abbrev pub meets : Row → Row → ℕ → ℕ → Bool
meets r s t x = under r x && under s (bit_xor x t)

-- ---- by digits

-- an equation of numbers, by halves and lowest digits
pub eqb-dig : (a b : ℕ) → eqb a b ≡ eqb (a / 2) (b / 2) && eqb (a % 2) (b % 2)
eqb-dig a b = go (ℕ_discrete a b) (ℕ_discrete (a / 2) (b / 2))
  where
    go : Dec (a ≡ b) → Dec (a / 2 ≡ b / 2) → eqb a b ≡ eqb (a / 2) (b / 2) && eqb (a % 2) (b % 2)
    go (yes e) d =
        simp (eq-eqb a b e, eq-eqb (a / 2) (b / 2) (ap (λ (x : ℕ). x / 2) e), eq-eqb (a % 2) (b % 2) (ap (λ (x : ℕ). x % 2) e))
    go (no n) (yes h) = simp (ne_eqb a b n, eq-eqb (a / 2) (b / 2) h, ne_eqb (a % 2) (b % 2) (λ l. n (dig-ext a b h l)))
    go (no n) (no k) = simp (ne_eqb a b n, ne_eqb (a / 2) (b / 2) k)

-- a mask m with values v, as `under` has it
abbrev fit : ℕ → ℕ → ℕ → Bool
fit m v x = eqb (bit_and m x) v

-- one digit of it
abbrev low : ℕ → ℕ → ℕ → ℕ
low m v x = one (eqb (min m x) v)

fit-dig : (m v x : ℕ) → one (fit m v x) ≡ one (fit (m / 2) (v / 2) (x / 2)) * low (m % 2) (v % 2) (x % 2)
fit-dig m v x = rw (eqb-dig (bit_and m x) v, one-and, and-half, and-odd)

abbrev both : ℕ → ℕ → ℕ → ℕ → ℕ → ℕ → Bool
both m₁ v₁ m₂ v₂ t x = fit m₁ v₁ x && fit m₂ v₂ (bit_xor x t)

-- two products, factor by factor
pub mul4 : (a b c d : ℕ) → (a * b) * (c * d) ≡ (a * c) * (b * d)
mul4 a b c d = omega arith

both-dig : (m₁ v₁ m₂ v₂ t x : ℕ)
    → one (both m₁ v₁ m₂ v₂ t x)
    ≡ one (both (m₁ / 2) (v₁ / 2) (m₂ / 2) (v₂ / 2) (t / 2) (x / 2))
    * (low (m₁ % 2) (v₁ % 2) (x % 2) * low (m₂ % 2) (v₂ % 2) ((x % 2 + t % 2) % 2))
both-dig m₁ v₁ m₂ v₂ t x =
    rw (one-and (fit m₁ v₁ x), fit-dig m₁ v₁ x, fit-dig m₂ v₂ (bit_xor x t), xor-half, xor-odd, one-and) (mul4 _ _ _ _)

-- ---- facts on single digits, by trying each

-- the test passes at both digits
abbrev pub all2 : (ℕ → Bool) → Bool
all2 p = p 0 && p 1

-- what passes at both digits passes at any
pub all2-at : (p : ℕ → Bool) → T (all2 p) → (x : ℕ) → x < 2 → T (p x)
all2-at p h zero l = and_left (p 0) (p 1) h
all2-at p h (suc zero) l = and_right (p 0) (p 1) h
all2-at p h (suc (suc x)) l = absurd (omega arith)

-- a test of five digits
pub all2-five : (p : ℕ → ℕ → ℕ → ℕ → ℕ → Bool) → T (all2 (λ a. all2 (λ b. all2 (λ c. all2 (λ d. all2 (p a b c d))))))
    → (a b c d e : ℕ) → a < 2 → b < 2 → c < 2 → d < 2 → e < 2 → T (p a b c d e)
all2-five p h a b c d e la lb lc ld le =
    all2-at (p a b c d)
    (all2-at (λ d. all2 (p a b c d))
    (all2-at (λ c. all2 (λ d. all2 (p a b c d)))
    (all2-at (λ b. all2 (λ c. all2 (λ d. all2 (p a b c d))))
    (all2-at (λ a. all2 (λ b. all2 (λ c. all2 (λ d. all2 (p a b c d))))) h a la)
    b lb)
    c lc)
    d ld)
    e le

-- both digits x of one position
abbrev fits : ℕ → ℕ → ℕ → ℕ → ℕ → ℕ
fits m₁ v₁ m₂ v₂ t = low m₁ v₁ 0 * low m₂ v₂ ((0 + t) % 2) + low m₁ v₁ 1 * low m₂ v₂ ((1 + t) % 2)

-- for values that lie within their masks
fits-test : ℕ → ℕ → ℕ → ℕ → ℕ → Bool
fits-test m₁ v₁ m₂ v₂ t = eqb (fits m₁ (min m₁ v₁) m₂ (min m₂ v₂) t) (position m₁ (min m₁ v₁) m₂ (min m₂ v₂) t)

fits-position : (m₁ v₁ m₂ v₂ t : ℕ) → m₁ < 2 → v₁ < 2 → m₂ < 2 → v₂ < 2 → t < 2
    → min m₁ v₁ ≡ v₁ → min m₂ v₂ ≡ v₂ → fits m₁ v₁ m₂ v₂ t ≡ position m₁ v₁ m₂ v₂ t
unfolding fits-test
fits-position m₁ v₁ m₂ v₂ t a b c d e p q =
    subst₂ (λ (x y : ℕ). fits m₁ x m₂ y t ≡ position m₁ x m₂ y t) p q
    (eqb→eq _ _ (all2-five fits-test tt m₁ v₁ m₂ v₂ t a b c d e))

-- ---- a pair is a count of points

even-half : (y : ℕ) → y * 2 / 2 ≡ y
even-half y = omega arith

even_odd : (y : ℕ) → y * 2 % 2 ≡ 0
even_odd y = omega arith

odd-half : (y : ℕ) → (y * 2 + 1) / 2 ≡ y
odd-half y = omega arith

odd-odd : (y : ℕ) → (y * 2 + 1) % 2 ≡ 1
odd-odd y = omega arith

-- what the two points above y add
above : (m₁ v₁ m₂ v₂ t y : ℕ) → bit_and m₁ v₁ ≡ v₁ → bit_and m₂ v₂ ≡ v₂
    → one (both m₁ v₁ m₂ v₂ t (y * 2)) + one (both m₁ v₁ m₂ v₂ t (y * 2 + 1))
    ≡ one (both (m₁ / 2) (v₁ / 2) (m₂ / 2) (v₂ / 2) (t / 2) y) * position (m₁ % 2) (v₁ % 2) (m₂ % 2) (v₂ % 2) (t % 2)
above m₁ v₁ m₂ v₂ t y h k =
    rw (both-dig m₁ v₁ m₂ v₂ t (y * 2), both-dig m₁ v₁ m₂ v₂ t (y * 2 + 1), even-half y, even_odd y, odd-half y, odd-odd y)
    (sym (mul-add _ _ _)
    ∙ ap (λ (x : ℕ). one (both (m₁ / 2) (v₁ / 2) (m₂ / 2) (v₂ / 2) (t / 2) y) * x)
    (fits-position (m₁ % 2) (v₁ % 2) (m₂ % 2) (v₂ % 2) (t % 2) (omega arith) (omega arith) (omega arith) (omega arith) (omega arith)
    (part-odd m₁ v₁ h) (part-odd m₂ v₂ k)))

positions-count : (n m₁ v₁ m₂ v₂ t : ℕ) → m₁ < 2 ^ n → m₂ < 2 ^ n → t < 2 ^ n → bit_and m₁ v₁ ≡ v₁ → bit_and m₂ v₂ ≡ v₂
    → count (both m₁ v₁ m₂ v₂ t) (2 ^ n) ≡ positions n m₁ v₁ m₂ v₂ t
unfolding sum count positions
positions-count zero m₁ v₁ m₂ v₂ t a b c h k =
    rw (sym h ∙ ap (λ (x : ℕ). bit_and x v₁) (lt-one a), sym k ∙ ap (λ (x : ℕ). bit_and x v₂) (lt-one b), lt-one a, lt-one b)
positions-count (suc n) m₁ v₁ m₂ v₂ t a b c h k =
    rw (pow-suc 2 n, sum-pairs (λ x. one (both m₁ v₁ m₂ v₂ t x)) (2 ^ n))
    (sum-cong _ _ (2 ^ n) (λ y l. above m₁ v₁ m₂ v₂ t y h k)
    ∙ sum-mul (λ y. one (both (m₁ / 2) (v₁ / 2) (m₂ / 2) (v₂ / 2) (t / 2) y)) (position (m₁ % 2) (v₁ % 2) (m₂ % 2) (v₂ % 2) (t % 2))
    (2 ^ n)
    ∙ ap (λ (x : ℕ). x * position (m₁ % 2) (v₁ % 2) (m₂ % 2) (v₂ % 2) (t % 2))
    (positions-count n (m₁ / 2) (v₁ / 2) (m₂ / 2) (v₂ / 2) (t / 2) (omega arith) (omega arith) (omega arith) (part-half m₁ v₁ h)
    (part-half m₂ v₂ k)))

-- what a pair adds is the number of points x under the first row with x XOR t under the second
pub pair-count : (n : ℕ) (r s : Row) (t : ℕ) → Sound n r → Sound n s → t < 2 ^ n → count (meets r s t) (2 ^ n) ≡ pair n r s t
pair-count n r s t a b h =
    positions-count n r.mask r.values s.mask s.values t a.fixed b.fixed h a.inside b.inside

-- the values of a well-formed row are below 2^n too
pub sound-values : (n : ℕ) (r : Row) → Sound n r → r.values < 2 ^ n
sound-values n r a = omega (arith, a.fixed, a.inside, and_le_l r.mask r.values)
