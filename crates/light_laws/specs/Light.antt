-- What the ways come to: each light number of a cube once, and nothing else; and that a cube whose value is too heavy has none. The proof
-- adds one input after another: each number is split into what stands from input n on and the n digits below. Assumes nothing.
use Rattle.std.specs.Prelude.{◌≡◌, refl, Bool, true, false, ◌&&◌, List, [], ◌∷◌, ◌++◌, ℕ, zero, suc, ◌+◌, ◌*◌, ◌/◌, ◌%◌, ◌^◌, ◌≤◌, ◌<◌, min, eqb, leb, length}
use Rattle.std.proofs.Common.{sym, ap, ap₂, ◌∙◌, subst, mod-lt, mod-eq_of_lt, pow-suc, add-zero, zero-add, one-add, arith, eq-eqb, ne_eqb, le-leb, pow_pos, shr_lt}
use Rattle.std.proofs.Math.Decide.{dec_lt, ℕ_discrete}
use Rattle.std.proofs.lemmas.Bool.{lt-leb}
use Rattle.std.proofs.Math.Arith.{bin_ind}
use Rattle.std.specs.Int.Bits.{bit_and, bit_xor, and_step, xor_shifted, xor_zero_r}
use Rattle.std.proofs.lemmas.Nat.{and_block, and_mod, and_le_l, and_le_r, xor_block, ones_cat}
use Rattle.std.specs.Int.Count.{ones, ones_in, ones_step}
use Rattle.std.proofs.Math.Pow.{split, high, low}
use Rattle.bits.specs.Bit.{bit-lt}
use Rattle.bits.specs.Digits.{bit}
use Rattle.bits.specs.Xor.{and-half, and-odd}
use Rattle.sums.specs.Sums.{one}
use Rattle.light_laws.specs.Ways.{ways, frees}
use Rattle.light_laws.specs.Counted.{ways-flat, ways-none, ways-push}
use Rattle.light_laws.specs.Free.{frees-zero, frees-by}

-- AND leaves no more one-bits than there were
ones_and : (a b : ℕ) → ones (bit_and a b) ≤ ones a
ones_and a b =
    bin_ind (λ (n : ℕ). (b : ℕ) → ones (bit_and n b) ≤ ones n) (λ b. omega arith)
    (λ n ih b. rw (ones_step (bit_and n b), ones_step n, and-half, and-odd) (omega (arith, ih (b / 2))))
    a b

-- where the value alone is too heavy, no number of the cube is light
pub heavy-none : (mask v w t : ℕ) → bit_and v mask ≡ v → w < ones v → (eqb (bit_and t mask) v && leb (ones t) w) ≡ false
heavy-none mask v w t e h = go (ℕ_discrete (bit_and t mask) v)
  where
    go : Dec (bit_and t mask ≡ v) → (eqb (bit_and t mask) v && leb (ones t) w) ≡ false
    go (yes d) = rw (eq-eqb (bit_and t mask) v d, lt-leb (ones t) w (omega (arith, ones_and t mask, ap ones d)))
    go (no n) = rw (ne_eqb (bit_and t mask) v n)

-- tests that say the same
eqb_same : (a b c d : ℕ) → (a ≡ b → c ≡ d) → (c ≡ d → a ≡ b) → eqb a b ≡ eqb c d
eqb_same a b c d f g = go (ℕ_discrete a b)
  where
    go : Dec (a ≡ b) → eqb a b ≡ eqb c d
    go (yes e) = rw (eq-eqb a b e, eq-eqb c d (f e))
    go (no n) = rw (ne_eqb a b n, ne_eqb c d (λ e. n (g e)))

leb-same : (a b c d : ℕ) → (a ≤ b → c ≤ d) → (c ≤ d → a ≤ b) → leb a b ≡ leb c d
leb-same a b c d f g = go (dec_lt b a) (dec_lt d c)
  where
    go : Dec (b < a) → Dec (d < c) → leb a b ≡ leb c d
    go (yes l) (yes m) = rw (lt-leb a b l, lt-leb c d m)
    go (yes l) (no m) = absurd (omega (arith, g (omega arith)))
    go (no l) (yes m) = absurd (omega (arith, f (omega arith)))
    go (no l) (no m) = rw (le-leb a b (omega arith), le-leb c d (omega arith))

and-all : (p : Bool) → p && true ≡ p
and-all true = refl
and-all false = refl

and_none : (p : Bool) → p && false ≡ false
and_none true = refl
and_none false = refl

-- a digit under AND, and its one-bits
and-digit : (x m : ℕ) → x < 2 → bit_and x m ≡ min x (m % 2)
and-digit zero m h = omega arith
and-digit (suc zero) m h = omega (arith, and_step 1 m)
and-digit (suc (suc x)) m h = absurd (omega arith)

ones-digit : (x : ℕ) → x < 2 → ones x ≡ x
unfolding ones ones_in
ones-digit zero h = refl
ones-digit (suc zero) h = refl
ones-digit (suc (suc x)) h = absurd (omega arith)

-- AND and the one-bits, where a digit stands at n
and_at : (n mask x t : ℕ) → x < 2 → t < 2 ^ n → bit_and (x * 2 ^ n + t) mask ≡ min x (bit mask n) * 2 ^ n + bit_and t mask
and_at n mask x t hx ht =
    ap (bit_and (x * 2 ^ n + t)) (sym (split mask n))
    ∙ and_block n x (mask / 2 ^ n) t (mask % 2 ^ n) ht (mod-lt mask (pow_pos n))
    ∙ ap₂ (λ (y z : ℕ). y * 2 ^ n + z) (and-digit x (mask / 2 ^ n) hx) low
  where
    low : bit_and t (mask % 2 ^ n) ≡ bit_and t mask
    low =
        ap (λ (y : ℕ). bit_and y (mask % 2 ^ n)) (sym (mod-eq_of_lt ht))
        ∙ sym (and_mod t mask n) ∙ mod-eq_of_lt (omega (arith, and_le_l t mask))

ones-at : (n x t : ℕ) → x < 2 → t < 2 ^ n → ones (x * 2 ^ n + t) ≡ x + ones t
ones-at n x t hx ht = omega (arith, ones_cat n x t ht, ones-digit x hx)

-- a digit at n belongs to what stands from n on
above : (n a x r : ℕ) → a * 2 ^ suc n + (x * 2 ^ n + r) ≡ (a * 2 + x) * 2 ^ n + r
above n a x r = rw pow-suc (omega arith)

-- flipping the digit at n, where it is 0
flip-at : (n a r : ℕ) → r < 2 ^ n → bit_xor ((a * 2 + 0) * 2 ^ n + r) (2 ^ n) ≡ (a * 2 + 1) * 2 ^ n + r
flip-at n a r h =
    ap (bit_xor ((a * 2 + 0) * 2 ^ n + r)) whole
    ∙ xor_block n (a * 2 + 0) 1 r 0 h (pow_pos n)
    ∙ ap₂ (λ (y z : ℕ). y * 2 ^ n + z) (ap (λ (y : ℕ). bit_xor y 1) even ∙ xor_shifted a 1 1 (omega arith)) (xor_zero_r r)
  where
    whole : 2 ^ n ≡ 1 * 2 ^ n + 0
    whole = omega arith

    even : a * 2 + 0 ≡ a * 2 ^ 1
    even = omega arith

-- what the law says of numbers split at n: what stands from n on, B and T, is the same, and of the digits below, b and t, those at fixed inputs
-- are the same and at most d others are 1
abbrev found : ℕ → ℕ → ℕ → ℕ → ℕ → ℕ → Bool
found mask d B T b t = eqb T B && (eqb (bit_and t mask) b && leb (ones t) (ones b + d))

abbrev Comes : ℕ → ℕ → List ℕ → Type 0
Comes mask n l =
    (d B T b t : ℕ) → b < 2 ^ n → t < 2 ^ n → bit_and b mask ≡ b
    → ways d l (length l) (B * 2 ^ n + b) (T * 2 ^ n + t) ≡ one (found mask d B T b t)

-- the same with the digits at n apart, y of the value and x of t
abbrev Digits : ℕ → ℕ → List ℕ → Type 0
Digits mask n l =
    (d B T y x b t : ℕ) → x < 2 → b < 2 ^ n → t < 2 ^ n → min y (bit mask n) ≡ y → bit_and b mask ≡ b
    → ways d l (length l) ((B * 2 + y) * 2 ^ n + b) ((T * 2 + x) * 2 ^ n + t)
    ≡ one (eqb T B && (eqb (min x (bit mask n) * 2 ^ n + bit_and t mask) (y * 2 ^ n + b) && leb (x + ones t) (y + ones b + d)))

digits-come : (mask n : ℕ) (l : List ℕ) → Digits mask n l → Comes mask (suc n) l
digits-come mask n l f d B T b t hb ht =
    subst (λ (b : ℕ). Whole b t) (split b n)
    (subst (λ (t : ℕ). Whole (b / 2 ^ n * 2 ^ n + b % 2 ^ n) t) (split t n)
    (apart (b / 2 ^ n) (t / 2 ^ n) (b % 2 ^ n) (t % 2 ^ n) (shr_lt 1 n (rw one-add hb)) (shr_lt 1 n (rw one-add ht))
    (mod-lt b (pow_pos n)) (mod-lt t (pow_pos n))))
  where
    Whole : ℕ → ℕ → Type 0
    Whole b t =
        bit_and b mask ≡ b → ways d l (length l) (B * 2 ^ suc n + b) (T * 2 ^ suc n + t) ≡ one (found mask d B T b t)

    apart : (y x b t : ℕ) → y < 2 → x < 2 → b < 2 ^ n → t < 2 ^ n → Whole (y * 2 ^ n + b) (x * 2 ^ n + t)
    apart y x b t hy hx hb ht e =
        ap₂ (λ (i j : ℕ). ways d l (length l) i j) (above n B y b) (above n T x t)
        ∙ f d B T y x b t hx hb ht
        (sym (high (min y (bit mask n)) n small) ∙ ap (λ (i : ℕ). i / 2 ^ n) both ∙ high y n hb)
        (sym (low (min y (bit mask n)) n small) ∙ ap (λ (i : ℕ). i % 2 ^ n) both ∙ low y n hb)
        ∙ rw (and_at n mask x t hx ht, ones-at n x t hx ht, ones-at n y b hy hb)
      where
        both : min y (bit mask n) * 2 ^ n + bit_and b mask ≡ y * 2 ^ n + b
        both = sym (and_at n mask y b hy hb) ∙ e

        small : bit_and b mask < 2 ^ n
        small = omega (arith, and_le_l b mask)

-- where the digits at n are the same, and where they are not
same-digit : (k j p B T a b c e f g : ℕ) → f + e ≡ c + g
    → (eqb (T * 2 + k) (B * 2 + k) && (eqb a b && leb c e)) ≡ (eqb T B && (eqb (j * p + a) (j * p + b) && leb f g))
same-digit k j p B T a b c e f g h =
    ap₂ ◌&&◌ (eqb_same (T * 2 + k) (B * 2 + k) T B (λ u. omega arith) (λ u. omega arith))
    (ap₂ ◌&&◌ (eqb_same a b (j * p + a) (j * p + b) (λ u. omega arith) (λ u. omega arith))
    (leb-same c e f g (λ u. omega arith) (λ u. omega arith)))

other-digit : (n k m B T a b : ℕ) (q r : Bool) → k < 2 → m < 2 → (k ≡ m → ⊥) → a < 2 ^ n → b < 2 ^ n
    → (eqb (T * 2 + k) (B * 2 + m) && q) ≡ (eqb T B && (eqb (k * 2 ^ n + a) (m * 2 ^ n + b) && r))
other-digit n k m B T a b q r hk hm f ha hb =
    rw (
      ne_eqb (T * 2 + k) (B * 2 + m) (λ e. f (omega arith)),
      ne_eqb (k * 2 ^ n + a) (m * 2 ^ n + b) (λ e. f (sym (high k n ha) ∙ ap (λ (i : ℕ). i / 2 ^ n) e ∙ high m n hb)),
    )
    (sym (and_none (eqb T B)))

-- a fixed input more
come-fixed : (mask n : ℕ) (l : List ℕ) → (bit mask n ≡ 0 → ⊥) → Comes mask n l → Digits mask n l
come-fixed mask n l h ih d B T y x b t hx hb ht ey eb =
    rw kept (ih d (B * 2 + y) (T * 2 + x) b t hb ht eb ∙ ap one (go (ℕ_discrete x y)))
  where
    kept : min x (bit mask n) ≡ x
    kept = omega (arith, bit-lt mask n)

    Says : ℕ → Type 0
    Says y =
        found mask d (B * 2 + y) (T * 2 + x) b t
        ≡ (eqb T B && (eqb (x * 2 ^ n + bit_and t mask) (y * 2 ^ n + b) && leb (x + ones t) (y + ones b + d)))

    go : Dec (x ≡ y) → Says y
    go (yes e) =
        subst Says e
        (same-digit x x (2 ^ n) B T (bit_and t mask) b (ones t) (ones b + d) (x + ones t) (x + ones b + d) (omega arith))
    go (no f) =
        other-digit n x y B T (bit_and t mask) b _ _ hx (omega (arith, bit-lt mask n)) f (omega (arith, and_le_l t mask)) hb

-- a free input more: its digit is 0 in the value, and is left or flipped
come-free : (mask n : ℕ) (l : List ℕ) → bit mask n ≡ 0 → Comes mask n l → Digits mask n (l ++ (2 ^ n ∷ []))
come-free mask n l h ih d B T y x b t hx hb ht ey eb = rw (none, left) (go d x hx)
  where
    none : y ≡ 0
    none = omega arith

    left : min x (bit mask n) ≡ 0
    left = omega arith

    apart : (d i j : ℕ) → (j ≡ i → ⊥) → found mask d i j b t ≡ false
    apart d i j f = rw (ne_eqb j i f)

    flat : (x : ℕ) → ways 0 (l ++ (2 ^ n ∷ [])) (length (l ++ (2 ^ n ∷ []))) ((B * 2 + 0) * 2 ^ n + b) ((T * 2 + x) * 2 ^ n + t)
        ≡ one (found mask 0 (B * 2 + 0) (T * 2 + x) b t)
    flat x =
        ways-flat (l ++ (2 ^ n ∷ [])) _ _ _ ∙ sym (ways-flat l (length l) _ _) ∙ ih 0 (B * 2 + 0) (T * 2 + x) b t hb ht eb

    pushed : (d x : ℕ)
        → ways (suc d) (l ++ (2 ^ n ∷ [])) (length (l ++ (2 ^ n ∷ []))) ((B * 2 + 0) * 2 ^ n + b) ((T * 2 + x) * 2 ^ n + t)
        ≡ one (found mask (suc d) (B * 2 + 0) (T * 2 + x) b t) + one (found mask d (B * 2 + 1) (T * 2 + x) b t)
    pushed d x =
        ways-push d l (2 ^ n) _ _
        ∙ ap₂ ◌+◌ (ih (suc d) (B * 2 + 0) (T * 2 + x) b t hb ht eb)
        (ap (λ (i : ℕ). ways d l (length l) i ((T * 2 + x) * 2 ^ n + t)) (flip-at n B b hb)
        ∙ ih d (B * 2 + 1) (T * 2 + x) b t hb ht eb)

    low : ℕ → ℕ → Bool
    low f g = eqb (0 * 2 ^ n + bit_and t mask) (0 * 2 ^ n + b) && leb f g

    same : (d k f g : ℕ) → f + (ones b + d) ≡ ones t + g → found mask d (B * 2 + k) (T * 2 + k) b t ≡ (eqb T B && low f g)
    same d k f g e = same-digit k 0 (2 ^ n) B T (bit_and t mask) b (ones t) (ones b + d) f g e

    heavy : Dec (bit_and t mask ≡ b) → low (1 + ones t) (0 + ones b + 0) ≡ false
    heavy (yes e) =
        ap (λ (q : Bool). eqb (0 * 2 ^ n + bit_and t mask) (0 * 2 ^ n + b) && q)
        (lt-leb (1 + ones t) (0 + ones b + 0) (omega (arith, ones_and t mask, ap ones e)))
        ∙ and_none (eqb (0 * 2 ^ n + bit_and t mask) (0 * 2 ^ n + b))
    heavy (no f) =
        ap (λ (q : Bool). q && leb (1 + ones t) (0 + ones b + 0))
        (ne_eqb (0 * 2 ^ n + bit_and t mask) (0 * 2 ^ n + b) (λ e. f (omega arith)))

    go : (d x : ℕ) → x < 2 → ways d (l ++ (2 ^ n ∷ [])) (length (l ++ (2 ^ n ∷ []))) ((B * 2 + 0) * 2 ^ n + b) ((T * 2 + x) * 2 ^ n + t)
        ≡ one (eqb T B && low (x + ones t) (0 + ones b + d))
    go zero zero hx = flat 0 ∙ ap one (same 0 0 (0 + ones t) (0 + ones b + 0) (omega arith))
    go zero (suc zero) hx =
        flat 1
        ∙ ap one
        (apart 0 (B * 2 + 0) (T * 2 + 1) (λ e. omega arith)
        ∙ sym (ap (λ (q : Bool). eqb T B && q) (heavy (ℕ_discrete (bit_and t mask) b)) ∙ and_none (eqb T B)))
    go (suc d) zero hx =
        pushed d 0
        ∙ ap₂ (λ (p q : Bool). one p + one q) (same (suc d) 0 (0 + ones t) (0 + ones b + suc d) (omega arith))
        (apart d (B * 2 + 1) (T * 2 + 0) (λ e. omega arith))
        ∙ add-zero _
    go (suc d) (suc zero) hx =
        pushed d 1
        ∙ ap₂ (λ (p q : Bool). one p + one q) (apart (suc d) (B * 2 + 0) (T * 2 + 1) (λ e. omega arith))
        (same d 1 (1 + ones t) (0 + ones b + suc d) (omega arith))
        ∙ zero-add _
    go zero (suc (suc x)) hx = absurd (omega arith)
    go (suc d) (suc (suc x)) hx = absurd (omega arith)

-- no input yet, and then each in turn
come-none : (mask : ℕ) → Comes mask 0 []
unfolding ones ones_in
come-none mask d B T b t hb ht e =
    rw (none b hb, none t ht)
    (ways-none d [] (B * 1 + 0) (T * 1 + 0)
    ∙ ap one
    (eqb_same (T * 1 + 0) (B * 1 + 0) T B (λ u. omega arith) (λ u. omega arith)
    ∙ sym (ap (λ (q : Bool). eqb T B && q) (le-leb 0 (0 + d) (omega arith)) ∙ and-all (eqb T B))))
  where
    none : (i : ℕ) → i < 1 → i ≡ 0
    none i h = omega arith

come : (mask n : ℕ) → Comes mask n (frees mask n)
come mask zero = rw frees-zero (come-none mask)
come mask (suc n) =
    frees-by (Comes mask (suc n)) mask n (λ h. digits-come mask n _ (come-fixed mask n _ h (come mask n)))
    (λ e. digits-come mask n _ (come-free mask n _ e (come mask n)))

-- over at most d of the free inputs, nested loops come to t once where it is in the cube and has at most d one-bits more than the
-- cube's value, and else never
pub light-ways : (n mask v d t : ℕ) → mask < 2 ^ n → bit_and v mask ≡ v → t < 2 ^ n
    → ways d (frees mask n) (length (frees mask n)) v t ≡ one (eqb (bit_and t mask) v && leb (ones t) (ones v + d))
light-ways n mask v d t hm e ht =
    ap₂ (λ (i j : ℕ). ways d (frees mask n) (length (frees mask n)) i j) (omega arith) (omega arith)
    ∙ come mask n d 0 0 v t (omega (arith, and_le_r v mask)) ht e
