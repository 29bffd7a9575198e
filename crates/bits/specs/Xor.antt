-- Laws of XOR and AND, and the lowest digit of OR, beside those of the kit's lib.Bits: by halves and lowest digits; associative; an XOR
-- undoes itself; AND distributes; what keeps an equation's truth. Assumes nothing.
use Rattle.std.specs.Prelude.{◌≡◌, refl, ℕ, zero, suc, ◌+◌, ◌*◌, ◌/◌, ◌%◌, ◌<◌, min, max, eqb}
use Rattle.std.proofs.Common.{sym, ap, ◌∙◌, mul-zero, mul-one, arith, eq-eqb, ne_eqb}
use Rattle.std.proofs.Math.Decide.{ℕ_discrete}
use Rattle.std.proofs.Math.Arith.{bin_ind}
use Rattle.std.specs.Int.Bits.{bit_and, bit_or, bit_xor, differ, and_step, or_step, xor_step, xor_self, xor_zero_r, and_zero_r}
use Rattle.std.proofs.lemmas.Nat.{xor_shr, and_shr, xor_comm}

-- halves and lowest digits decide a number
pub dig-ext : (a b : ℕ) → a / 2 ≡ b / 2 → a % 2 ≡ b % 2 → a ≡ b
dig-ext a b h l = omega arith

differ-mod : (x y : ℕ) → x < 2 → y < 2 → differ x y ≡ (x + y) % 2
differ-mod zero zero hx hy = refl
differ-mod zero (suc zero) hx hy = refl
differ-mod zero (suc (suc y)) hx hy = absurd (omega arith)
differ-mod (suc zero) zero hx hy = refl
differ-mod (suc zero) (suc zero) hx hy = refl
differ-mod (suc zero) (suc (suc y)) hx hy = absurd (omega arith)
differ-mod (suc (suc x)) y hx hy = absurd (omega arith)

pub xor-half : (a b : ℕ) → bit_xor a b / 2 ≡ bit_xor (a / 2) (b / 2)
xor-half a b = xor_shr a b 1

pub and-half : (a b : ℕ) → bit_and a b / 2 ≡ bit_and (a / 2) (b / 2)
and-half a b = and_shr a b 1

pub xor-odd : (a b : ℕ) → bit_xor a b % 2 ≡ (a % 2 + b % 2) % 2
xor-odd a b = omega (arith, xor_step a b, differ-mod (a % 2) (b % 2) (omega arith) (omega arith))

pub and-odd : (a b : ℕ) → bit_and a b % 2 ≡ min (a % 2) (b % 2)
and-odd a b = omega (arith, and_step a b)

pub or-odd : (a b : ℕ) → bit_or a b % 2 ≡ max (a % 2) (b % 2)
or-odd a b = omega (arith, or_step a b)

add3 : (a b c : ℕ) → ((a + b) % 2 + c) % 2 ≡ (a + (b + c) % 2) % 2
add3 a b c = omega arith

pub xor_assoc : (a b c : ℕ) → bit_xor (bit_xor a b) c ≡ bit_xor a (bit_xor b c)
xor_assoc a b c =
    bin_ind (λ (n : ℕ). (b c : ℕ) → bit_xor (bit_xor n b) c ≡ bit_xor n (bit_xor b c)) (λ b c. refl)
    (λ n ih b c.
    dig-ext _ _ (simp xor-half (ih (b / 2) (c / 2))) (simp xor-odd (add3 (n % 2) (b % 2) (c % 2))))
    a b c

-- an xor undoes itself
pub xor-cancel : (a b : ℕ) → bit_xor a (bit_xor a b) ≡ b
xor-cancel a b = rw (← xor_assoc a a b, xor_self a)

pub xor-cancel-r : (a b : ℕ) → bit_xor (bit_xor a b) b ≡ a
xor-cancel-r a b = rw (xor_assoc a b b, xor_self b, xor_zero_r)

minx : (a x y : ℕ) → a < 2 → x < 2 → y < 2 → min a ((x + y) % 2) ≡ (min a x + min a y) % 2
minx zero x y ha hx hy = omega arith
minx (suc zero) x y ha hx hy = omega arith
minx (suc (suc a)) x y ha hx hy = absurd (omega arith)

pub and_xor : (a x y : ℕ) → bit_and a (bit_xor x y) ≡ bit_xor (bit_and a x) (bit_and a y)
and_xor a x y =
    bin_ind (λ (n : ℕ). (x y : ℕ) → bit_and n (bit_xor x y) ≡ bit_xor (bit_and n x) (bit_and n y)) (λ x y. refl)
    (λ n ih x y.
    dig-ext _ _ (simp (xor-half, and-half) (ih (x / 2) (y / 2)))
    (simp (xor-odd, and-odd) (minx (n % 2) (x % 2) (y % 2) (omega arith) (omega arith) (omega arith))))
    a x y

-- XOR of both sides keeps an equation's truth
pub eqb-xor : (a b w : ℕ) → eqb (bit_xor a w) (bit_xor b w) ≡ eqb a b
eqb-xor a b w = go (ℕ_discrete a b)
  where
    go : Dec (a ≡ b) → eqb (bit_xor a w) (bit_xor b w) ≡ eqb a b
    go (yes e) = rw (eq-eqb a b e, eq-eqb (bit_xor a w) (bit_xor b w) (ap (λ (x : ℕ). bit_xor x w) e))
    go (no n) =
        rw (
          ne_eqb a b n,
          ne_eqb (bit_xor a w) (bit_xor b w)
              (λ e. n (sym (xor-cancel-r a w) ∙ ap (λ (x : ℕ). bit_xor x w) e ∙ xor-cancel-r b w)),
        )

-- a number times a digit, under AND
pub and-times : (m u d : ℕ) → d < 2 → bit_and m (u * d) ≡ bit_and m u * d
and-times m u zero h = rw (mul-zero u, mul-zero (bit_and m u)) (and_zero_r m)
and-times m u (suc zero) h = rw (mul-one u, mul-one (bit_and m u))
and-times m u (suc (suc d)) h = absurd (omega arith)

-- an XOR of XORs, grouped the other way
pub xor-swap : (a b c d : ℕ) → bit_xor (bit_xor a b) (bit_xor c d) ≡ bit_xor (bit_xor a c) (bit_xor b d)
xor-swap a b c d =
    xor_assoc a b (bit_xor c d)
    ∙ ap (bit_xor a) (sym (xor_assoc b c d) ∙ ap (λ (x : ℕ). bit_xor x d) (xor_comm b c) ∙ xor_assoc c b d)
    ∙ sym (xor_assoc a c (bit_xor b d))

-- a number times a sum of digits
pub times-xor : (u p q : ℕ) → p < 2 → q < 2 → u * ((p + q) % 2) ≡ bit_xor (u * p) (u * q)
times-xor u zero zero hp hq = rw mul-zero
times-xor u zero (suc zero) hp hq = rw (mul-zero, mul-one)
times-xor u (suc zero) zero hp hq = rw (mul-zero, mul-one) (sym (xor_zero_r u))
times-xor u (suc zero) (suc zero) hp hq = rw (mul-zero, mul-one) (sym (xor_self u))
times-xor u zero (suc (suc q)) hp hq = absurd (omega arith)
times-xor u (suc zero) (suc (suc q)) hp hq = absurd (omega arith)
times-xor u (suc (suc p)) q hp hq = absurd (omega arith)

-- the two sides of an equation may be exchanged
pub eqb-turn : (a b : ℕ) → eqb a b ≡ eqb b a
eqb-turn a b = go (ℕ_discrete a b)
  where
    go : Dec (a ≡ b) → eqb a b ≡ eqb b a
    go (yes e) = rw (eq-eqb a b e, eq-eqb b a (sym e))
    go (no n) = rw (ne_eqb a b n, ne_eqb b a (λ e. n (sym e)))

-- a function that keeps numbers apart keeps an equation's truth
pub eqb-inj : (f : ℕ → ℕ) (a b : ℕ) → (f a ≡ f b → a ≡ b) → eqb (f a) (f b) ≡ eqb a b
eqb-inj f a b h = go (ℕ_discrete a b)
  where
    go : Dec (a ≡ b) → eqb (f a) (f b) ≡ eqb a b
    go (yes e) = rw (eq-eqb a b e, eq-eqb (f a) (f b) (ap f e))
    go (no n) = rw (ne_eqb a b n, ne_eqb (f a) (f b) (λ e. n (h e)))

-- AND with the same number again changes nothing
pub and_again : (a b : ℕ) → bit_and a (bit_and a b) ≡ bit_and a b
and_again a b =
    bin_ind (λ (n : ℕ). (b : ℕ) → bit_and n (bit_and n b) ≡ bit_and n b) (λ b. refl)
    (λ n ih b. dig-ext _ _ (simp and-half (ih (b / 2))) (simp and-odd (omega arith)))
    a b
