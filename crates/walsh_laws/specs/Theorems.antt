-- The laws of the transform: orthogonality, the inverse, the transform of an autocorrelation, the Wiener-Khinchin theorem and Parseval's
-- equation, for functions with any natural numbers as values. Assumes nothing.
use Rattle.std.specs.Prelude.{◌≡◌, refl, ℕ, ◌+◌, ◌*◌, ◌^◌, ◌<◌, eqb, pos, ◌*ℤ◌}
use Rattle.std.proofs.Common.{sym, ap, ap₂, ◌∙◌, mul-zero, zero-add, arith, eq-eqb, ne_eqb, pow_pos}
use Rattle.std.proofs.Math.Decide.{ℕ_discrete}
use Rattle.std.specs.Int.Bits.{bit_xor, xor_self, xor_zero_r}
use Rattle.std.proofs.lemmas.Nat.{xor_comm, xor_lt}
use Rattle.std.proofs.Math.IntN.{sub_ℕ}
use Rattle.bits.specs.Xor.{xor-cancel, xor-cancel-r}
use Rattle.sums.specs.Sums.{sum, one}
use Rattle.sums.specs.Laws.{sum-cong, sum-none, sum-add, sum-mul, sum-swap, sum_one, sum_moved}
use Rattle.walsh_laws.specs.Differences.{sub_same, sub-pos, sub-square}
use Rattle.walsh_laws.specs.Signs.{even, odd, even-zero, odd-zero, even-comm, odd-comm, even-xor, odd-xor, balance}
use Rattle.walsh_laws.specs.Walsh.{total, sign, walsh, spectrum, power, auto}
use Rattle.walsh_laws.specs.Sums.{ups, downs, total-sub, sign-difference, sign-one, spectrum-sub}

-- an XOR is 0 where the two are equal
apart : (x y : ℕ) → one (eqb (bit_xor x y) 0) ≡ one (eqb x y)
apart x y = go (ℕ_discrete x y)
  where
    go : Dec (x ≡ y) → one (eqb (bit_xor x y) 0) ≡ one (eqb x y)
    go (yes e) = rw (e, xor_self y, eq-eqb y y refl)
    go (no d) = rw (ne_eqb x y d, ne_eqb (bit_xor x y) 0 (λ e. d (sym (xor-cancel-r x y) ∙ ap (λ (z : ℕ). bit_xor z y) e ∙ xor_comm 0 y ∙ xor_zero_r y)))

-- Orthogonality: the signs of x and of y multiplied, added up over all frequencies, are 2^n where x is y, and else 0.
pub orthogonal : (n x y : ℕ) → x < 2 ^ n → y < 2 ^ n → total (λ w. sign w x *ℤ sign w y) (2 ^ n) ≡ pos (one (eqb x y) * 2 ^ n)
orthogonal n x y h k =
    total-sub _ (λ w. even w (bit_xor x y)) (λ w. odd w (bit_xor x y)) (2 ^ n) (λ w b. both w)
    ∙ sub-pos (sum (λ w. even w (bit_xor x y)) (2 ^ n)) (sum (λ w. odd w (bit_xor x y)) (2 ^ n)) (one (eqb x y) * 2 ^ n)
    (balance n (bit_xor x y) (xor_lt n x y h k) ∙ rw (apart x y))
  where
    both : (w : ℕ) → sign w x *ℤ sign w y ≡ sub_ℕ (even w (bit_xor x y)) (odd w (bit_xor x y))
    both w =
        ap (λ z. sign w x *ℤ z) (sign-one w y) ∙ sign-difference w x (even w y) (odd w y)
        ∙ sub_same (even w y * even w x + odd w y * odd w x) (even w y * odd w x + odd w y * even w x) (even w (bit_xor x y)) (odd w (bit_xor x y))
        (omega (arith, even-xor w x y, odd-xor w x y))

-- two sums of transforms with signs: the sums are exchanged
cross : (f p q : ℕ → ℕ) (u v k : ℕ → ℕ → ℕ) (m : ℕ) → ((w x : ℕ) → k w x ≡ u w x * p w + v w x * q w)
    → sum (λ w. sum (λ x. f x * u w x) m * p w) m + sum (λ w. sum (λ x. f x * v w x) m * q w) m ≡ sum (λ x. sum (λ w. k w x) m * f x) m
cross f p q u v k m e =
    sym (sum-add (λ w. sum (λ x. f x * u w x) m * p w) (λ w. sum (λ x. f x * v w x) m * q w) m)
    ∙ sum-cong _ _ m (λ w h. inner w) ∙ sum-swap (λ w x. k w x * f x) m m ∙ sum-cong _ _ m (λ x h. sum-mul (λ w. k w x) (f x) m)
  where
    inner : (w : ℕ) → sum (λ x. f x * u w x) m * p w + sum (λ x. f x * v w x) m * q w ≡ sum (λ x. k w x * f x) m
    inner w =
        ap₂ ◌+◌ (sym (sum-mul (λ x. f x * u w x) (p w) m)) (sym (sum-mul (λ x. f x * v w x) (q w) m))
        ∙ sym (sum-add (λ x. f x * u w x * p w) (λ x. f x * v w x * q w) m)
        ∙ sum-cong _ _ m (λ x h. omega (arith, ap (λ (y : ℕ). y * f x) (e w x)))

-- the transform of a transform is 2^n times the values: what has sign + twice or - twice, and what has one of each
inverse-signs : (f : ℕ → ℕ) (n t : ℕ) → t < 2 ^ n
    → ups (ups f n) n t + downs (downs f n) n t ≡ downs (ups f n) n t + ups (downs f n) n t + f t * 2 ^ n
inverse-signs f n t h =
    cross f (even t) (odd t) even odd (λ w x. even w (bit_xor x t)) (2 ^ n)
    (λ w x. even-xor w x t ∙ rw (even-comm t w, odd-comm t w))
    ∙ sum-cong _ _ (2 ^ n) (λ x b. weigh x b)
    ∙ sum-add (λ x. sum (λ w. odd w (bit_xor x t)) (2 ^ n) * f x) (λ x. one (eqb (bit_xor x t) 0) * 2 ^ n * f x) (2 ^ n)
    ∙ ap₂ ◌+◌
    (sym
    (cross f (odd t) (even t) even odd (λ w x. odd w (bit_xor x t)) (2 ^ n)
    (λ w x. odd-xor w x t ∙ rw (even-comm t w, odd-comm t w))))
    (sum_one (λ x. one (eqb (bit_xor x t) 0) * 2 ^ n * f x) (2 ^ n) t h alone ∙ here)
  where
    weigh : (x : ℕ) → x < 2 ^ n → sum (λ w. even w (bit_xor x t)) (2 ^ n) * f x
        ≡ sum (λ w. odd w (bit_xor x t)) (2 ^ n) * f x + one (eqb (bit_xor x t) 0) * 2 ^ n * f x
    weigh x b = omega (arith, ap (λ (y : ℕ). y * f x) (balance n (bit_xor x t) (xor_lt n x t b h)))

    alone : (x : ℕ) → x < 2 ^ n → (x ≡ t → ⊥) → one (eqb (bit_xor x t) 0) * 2 ^ n * f x ≡ 0
    alone x b d = rw (apart x t, ne_eqb x t d) (omega arith)

    here : one (eqb (bit_xor t t) 0) * 2 ^ n * f t ≡ f t * 2 ^ n
    here = rw (apart t t, eq-eqb t t refl) (omega arith)

-- The inverse: the transform of the transform is 2^n times the values.
pub inverse : (f : ℕ → ℕ) (n t : ℕ) → t < 2 ^ n → walsh (spectrum f n) n t ≡ pos (f t * 2 ^ n)
unfolding walsh
inverse f n t h =
    total-sub _ (λ w. ups f n w * even t w + downs f n w * odd t w) (λ w. ups f n w * odd t w + downs f n w * even t w) (2 ^ n)
    (λ w b. ap (λ z. sign t w *ℤ z) (spectrum-sub f n w) ∙ sign-difference t w (ups f n w) (downs f n w))
    ∙ sub-pos _ _ (f t * 2 ^ n)
    (sum-add (λ w. ups f n w * even t w) (λ w. downs f n w * odd t w) (2 ^ n) ∙ inverse-signs f n t h
    ∙ ap (λ (z : ℕ). z + f t * 2 ^ n) (sym (sum-add (λ w. ups f n w * odd t w) (λ w. downs f n w * even t w) (2 ^ n))))

-- a signed sum of an autocorrelation, by a sign that splits over XOR
correlate : (f : ℕ → ℕ) (n w : ℕ) (k c d : ℕ → ℕ) → ((x y : ℕ) → k (bit_xor x y) ≡ even w x * c y + odd w x * d y)
    → sum (λ t. auto f n t * k t) (2 ^ n) ≡ ups f n w * sum (λ y. f y * c y) (2 ^ n) + downs f n w * sum (λ y. f y * d y) (2 ^ n)
unfolding auto
correlate f n w k c d e =
    sum-cong _ _ (2 ^ n) (λ t h. sym (sum-mul (λ x. f x * f (bit_xor x t)) (k t) (2 ^ n)))
    ∙ sum-swap (λ t x. f x * f (bit_xor x t) * k t) (2 ^ n) (2 ^ n)
    ∙ sum-cong _ _ (2 ^ n) (λ x h. moved x h ∙ inner x)
    ∙ sum-add (λ x. f x * even w x * sum (λ y. f y * c y) (2 ^ n)) (λ x. f x * odd w x * sum (λ y. f y * d y) (2 ^ n)) (2 ^ n)
    ∙ ap₂ ◌+◌ (sum-mul (λ x. f x * even w x) (sum (λ y. f y * c y) (2 ^ n)) (2 ^ n)) (sum-mul (λ x. f x * odd w x) (sum (λ y. f y * d y) (2 ^ n)) (2 ^ n))
  where
    moved : (x : ℕ) → x < 2 ^ n → sum (λ t. f x * f (bit_xor x t) * k t) (2 ^ n) ≡ sum (λ y. f x * f y * k (bit_xor x y)) (2 ^ n)
    moved x h =
        sum-cong _ _ (2 ^ n) (λ t b. ap (λ (z : ℕ). f x * f (bit_xor x t) * k z) (sym (xor-cancel x t)))
        ∙ sum_moved (λ y. f x * f y * k (bit_xor x y)) (bit_xor x) (bit_xor x) (2 ^ n) (λ z b. xor_lt n x z h b) (λ z b. xor_lt n x z h b)
        (λ z b. xor-cancel x z) (λ z b. xor-cancel x z)

    inner : (x : ℕ) → sum (λ y. f x * f y * k (bit_xor x y)) (2 ^ n)
        ≡ f x * even w x * sum (λ y. f y * c y) (2 ^ n) + f x * odd w x * sum (λ y. f y * d y) (2 ^ n)
    inner x =
        sum-cong _ _ (2 ^ n) (λ y h. omega (arith, ap (λ (z : ℕ). f x * f y * z) (e x y)))
        ∙ sum-add (λ y. f y * c y * (f x * even w x)) (λ y. f y * d y * (f x * odd w x)) (2 ^ n)
        ∙ ap₂ ◌+◌ (sum-mul (λ y. f y * c y) (f x * even w x) (2 ^ n)) (sum-mul (λ y. f y * d y) (f x * odd w x) (2 ^ n))
        ∙ swapped (sum (λ y. f y * c y) (2 ^ n)) (sum (λ y. f y * d y) (2 ^ n))
      where
        swapped : (p q : ℕ) → p * (f x * even w x) + q * (f x * odd w x) ≡ f x * even w x * p + f x * odd w x * q
        swapped p q = omega arith

-- the transform of an autocorrelation is the square of the transform: its values with sign +, and those with sign -
pub auto-ups : (f : ℕ → ℕ) (n w : ℕ) → ups (auto f n) n w ≡ ups f n w * ups f n w + downs f n w * downs f n w
auto-ups f n w = correlate f n w (even w) (even w) (odd w) (even-xor w)

pub auto-downs : (f : ℕ → ℕ) (n w : ℕ) → downs (auto f n) n w ≡ ups f n w * downs f n w + downs f n w * ups f n w
auto-downs f n w = correlate f n w (odd w) (odd w) (even w) (odd-xor w)

power-is : (f : ℕ → ℕ) (n w : ℕ) → power f n w + downs (auto f n) n w ≡ ups (auto f n) n w
power-is f n w =
    rw (spectrum-sub f n w) (omega (arith, sub-square (ups f n w) (downs f n w), auto-ups f n w, auto-downs f n w))

-- the transform of the squares: the values with sign + are those with sign - and 2^n times the autocorrelation
signs-khinchin : (f : ℕ → ℕ) (n t : ℕ) → t < 2 ^ n → ups (power f n) n t ≡ downs (power f n) n t + auto f n t * 2 ^ n
signs-khinchin f n t h =
    omega (arith, inverse-signs (auto f n) n t h, joined (even t), joined (odd t))
  where
    joined : (k : ℕ → ℕ) → sum (λ w. power f n w * k w) (2 ^ n) + sum (λ w. downs (auto f n) n w * k w) (2 ^ n) ≡ sum (λ w. ups (auto f n) n w * k w) (2 ^ n)
    joined k =
        sym (sum-add (λ w. power f n w * k w) (λ w. downs (auto f n) n w * k w) (2 ^ n))
        ∙ sum-cong _ _ (2 ^ n) (λ w b. omega (arith, ap (λ (z : ℕ). z * k w) (power-is f n w)))

-- The Wiener-Khinchin theorem: the transform of the squares of the transform is 2^n times the autocorrelation.
pub wiener-khinchin : (f : ℕ → ℕ) (n t : ℕ) → t < 2 ^ n → spectrum (power f n) n t ≡ pos (auto f n t * 2 ^ n)
wiener-khinchin f n t h =
    spectrum-sub (power f n) n t
    ∙ sub-pos (ups (power f n) n t) (downs (power f n) n t) (auto f n t * 2 ^ n) (signs-khinchin f n t h)

-- Parseval's equation: the squares of the transform add up to 2^n times the sum of the squares of the values.
pub parseval : (f : ℕ → ℕ) (n : ℕ) → sum (power f n) (2 ^ n) ≡ auto f n 0 * 2 ^ n
parseval f n =
    sum-cong _ _ (2 ^ n) (λ w h. rw (even-comm 0 w, even-zero w) (omega arith))
    ∙ signs-khinchin f n 0 (pow_pos n)
    ∙ ap (λ (z : ℕ). z + auto f n 0 * 2 ^ n) (sum-none _ (2 ^ n) (λ w h. rw (odd-comm 0 w, odd-zero w) (mul-zero (power f n w))))
    ∙ zero-add (auto f n 0 * 2 ^ n)
