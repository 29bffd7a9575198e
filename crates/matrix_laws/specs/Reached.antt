-- The coordinates reached after k steps, for chosen numbers that are independent: a linear map, with its inverse, that sends the
-- j-th of them to 2^j; so it tells their XORs apart from the other numbers. Not here: the matrix of that map (`Reach`), and that the
-- choice is independent (`Candidate`). Assumes nothing.
use Rattle.std.specs.Prelude.{◌≡◌, refl, false, ℕ, zero, suc, ◌^◌, ◌≤◌, ◌<◌, ltb}
use Rattle.std.proofs.Common.{sym, ap, ◌∙◌, arith, ltb-false}
use Rattle.bits.specs.Digits.{bit}
use Rattle.bits.specs.Bit.{bit-pow-other}
use Rattle.sums.specs.Laws.{below_suc}
use Rattle.block.specs.Basis.{span}
use Rattle.block.specs.Rows.{partner, exchange, rest, shear, reached}
use Rattle.choice_laws.specs.Chosen.{span-cong}
use Rattle.matrix_laws.specs.Linear.{Linear, linear-zero, span-linear}
use Rattle.matrix_laws.specs.Steps.{exchange-linear, exchange-lt, exchange-twice, exchange-stays, shear-linear, shear-lt, shear-twice, shear-stays, partner-bit, rest_lt, rest-own, step-sends}

-- the first k of the numbers c have n bits, and none is an XOR of some before it
pub record Independent (c : ℕ → ℕ) (n k : ℕ) : Type 0 where
  pub below : (j : ℕ) → j < k → c j < 2 ^ n
  pub fresh : (j : ℕ) → j < k → span c j (c j) ≡ false

-- so for fewer of them
pub independent-fewer : (c : ℕ → ℕ) (n i k : ℕ) → i ≤ k → Independent c n k → Independent c n i
independent-fewer c n i k h g = record { below = λ j l. g.below j (omega arith); fresh = λ j l. g.fresh j (omega arith) }

-- it is a matter of those k alone
pub independent-cong : (c d : ℕ → ℕ) (n k : ℕ) → ((j : ℕ) → j < k → c j ≡ d j) → Independent c n k → Independent d n k
independent-cong c d n k h g =
    record {
      below = λ j l. rw (sym (h j l)) (g.below j l);
      fresh = λ j l. rw (sym (h j l)) (sym (span-cong c d j (λ i m. h i (omega arith)) (c j)) ∙ g.fresh j l);
    }

-- the point that has the coordinates z after k steps
unfoldable pub returned : ℕ → (ℕ → ℕ) → ℕ → ℕ → ℕ
returned n c zero z = z
returned n c (suc k) z =
    let y : ℕ = reached n c k (c k) in
    returned n c k (exchange k (partner n k y) (shear k (rest n k y) z))

-- the coordinates depend on the first k numbers alone
pub reached-cong : (n : ℕ) (c d : ℕ → ℕ) (k : ℕ) → ((j : ℕ) → j < k → c j ≡ d j) → (x : ℕ) → reached n c k x ≡ reached n d k x
unfolding reached
reached-cong n c d zero h x = refl
reached-cong n c d (suc k) h x =
    rw (h k (omega arith), reached-cong n c d k (λ j l. h j (omega arith)) (d k), reached-cong n c d k (λ j l. h j (omega arith)) x)

-- they are linear
pub reached-linear : (n : ℕ) (c : ℕ → ℕ) (k : ℕ) → Linear (reached n c k)
unfolding reached
reached-linear n c zero x y = refl
reached-linear n c (suc k) x y =
    let t : ℕ = reached n c k (c k) in
    let h : ℕ = partner n k t in
    let v : ℕ = rest n k t in
    ap (λ (z : ℕ). shear k v (exchange k h z)) (reached-linear n c k x y)
    ∙ ap (shear k v) (exchange-linear k h (reached n c k x) (reached n c k y))
    ∙ shear-linear k v (exchange k h (reached n c k x)) (exchange k h (reached n c k y))

-- ---- of independent numbers

-- what k steps reach: coordinates and points have n bits and give each other, and the j-th chosen number has the coordinates 2^j
pub record Coordinates (n : ℕ) (c : ℕ → ℕ) (k : ℕ) : Type 0 where
  pub keeps : (x : ℕ) → x < 2 ^ n → reached n c k x < 2 ^ n
  pub gives : (z : ℕ) → z < 2 ^ n → returned n c k z < 2 ^ n
  pub back : (x : ℕ) → returned n c k (reached n c k x) ≡ x
  pub forth : (z : ℕ) → reached n c k (returned n c k z) ≡ z
  pub sends : (j : ℕ) → j < k → reached n c k (c j) ≡ 2 ^ j

-- only 0 has the coordinates 0
pub reached-kernel : (n : ℕ) (c : ℕ → ℕ) (k : ℕ) → Coordinates n c k → (t : ℕ) → reached n c k t ≡ 0 → t ≡ 0
reached-kernel n c k g t e =
    sym (g.back t) ∙ ap (returned n c k) (e ∙ sym (linear-zero (reached n c k) (reached-linear n c k))) ∙ g.back 0

spans : (n : ℕ) (c : ℕ → ℕ) (k : ℕ) → ((j : ℕ) → j < k → c j < 2 ^ n) → Coordinates n c k → (t : ℕ) → t < 2 ^ n
    → span c k t ≡ ltb (reached n c k t) (2 ^ k)
spans n c k hc g t h =
    span-linear (reached n c k) (reached-linear n c k) c n k (λ t l e. reached-kernel n c k g t e) hc g.sends t h

-- one step more
step : (n : ℕ) (c : ℕ → ℕ) (k : ℕ) → k < n → c k < 2 ^ n → Coordinates n c k → 2 ^ k ≤ reached n c k (c k) → Coordinates n c (suc k)
unfolding reached returned
step n c k hk hc g l =
    record {
      keeps = keeps;
      gives = gives;
      back = back;
      forth = forth;
      sends = below_suc (λ j. reached n c (suc k) (c j) ≡ 2 ^ j) k old new;
    }
  where
    y : ℕ
    y = reached n c k (c k)

    h : ℕ
    h = partner n k y

    v : ℕ
    v = rest n k y

    y-lt : y < 2 ^ n
    y-lt = g.keeps (c k) hc

    h-ge : k ≤ h
    h-ge = (partner-bit n k y hk l y-lt).0

    h-lt : h < n
    h-lt = (partner-bit n k y hk l y-lt).1

    v-lt : v < 2 ^ n
    v-lt = rest_lt n k y hk l y-lt

    v-own : bit v k ≡ 0
    v-own = rest-own n k y hk l y-lt

    keeps : (x : ℕ) → x < 2 ^ n → reached n c (suc k) x < 2 ^ n
    keeps x u = shear-lt n k v (exchange k h (reached n c k x)) v-lt (exchange-lt n k h (reached n c k x) hk h-lt (g.keeps x u))

    gives : (z : ℕ) → z < 2 ^ n → returned n c (suc k) z < 2 ^ n
    gives z u = g.gives (exchange k h (shear k v z)) (exchange-lt n k h (shear k v z) hk h-lt (shear-lt n k v z v-lt u))

    back : (x : ℕ) → returned n c (suc k) (reached n c (suc k) x) ≡ x
    back x =
        ap (λ (z : ℕ). returned n c k (exchange k h z)) (shear-twice k v (exchange k h (reached n c k x)) v-own)
        ∙ ap (returned n c k) (exchange-twice k h (reached n c k x))
        ∙ g.back x

    forth : (z : ℕ) → reached n c (suc k) (returned n c (suc k) z) ≡ z
    forth z =
        ap (λ (x : ℕ). shear k v (exchange k h x)) (g.forth (exchange k h (shear k v z)))
        ∙ ap (shear k v) (exchange-twice k h (shear k v z))
        ∙ shear-twice k v z v-own

    old : (j : ℕ) → j < k → reached n c (suc k) (c j) ≡ 2 ^ j
    old j u =
        let a : bit (2 ^ j) k ≡ 0 = bit-pow-other j k (λ e. omega arith) in
        let b : bit (2 ^ j) h ≡ 0 = bit-pow-other j h (λ e. omega (arith, h-ge)) in
        ap (λ (x : ℕ). shear k v (exchange k h x)) (g.sends j u)
        ∙ ap (shear k v) (exchange-stays k h (2 ^ j) (a ∙ sym b))
        ∙ shear-stays k v (2 ^ j) a

    new : reached n c (suc k) (c k) ≡ 2 ^ k
    new = step-sends n k y hk l y-lt

-- independent numbers give them, at each step
pub reaches : (n : ℕ) (c : ℕ → ℕ) (k : ℕ) → k ≤ n → Independent c n k → Coordinates n c k
unfolding reached returned
reaches n c zero h i =
    record { keeps = λ x u. u; gives = λ z u. u; back = λ x. refl; forth = λ z. refl; sends = λ j u. absurd (omega arith) }
reaches n c (suc k) h i =
    let g : Coordinates n c k = reaches n c k (omega arith) (independent-fewer c n k (suc k) (omega arith) i) in
    step n c k (omega arith) (i.below k (omega arith)) g
    (ltb-false (reached n c k (c k)) (2 ^ k)
    (sym (spans n c k (λ j u. i.below j (omega arith)) g (c k) (i.below k (omega arith))) ∙ i.fresh k (omega arith)))

-- a number is an XOR of some chosen ones exactly where its coordinates are below 2^k
pub reached-span : (n : ℕ) (c : ℕ → ℕ) (k : ℕ) → k ≤ n → Independent c n k → (t : ℕ) → t < 2 ^ n
    → span c k t ≡ ltb (reached n c k t) (2 ^ k)
reached-span n c k h i = spans n c k i.below (reaches n c k h i)

-- the number chosen next has coordinates from 2^k on
pub reached-next : (n : ℕ) (c : ℕ → ℕ) (k : ℕ) → k < n → Independent c n (suc k) → 2 ^ k ≤ reached n c k (c k)
reached-next n c k h i =
    ltb-false (reached n c k (c k)) (2 ^ k)
    (sym (reached-span n c k (omega arith) (independent-fewer c n k (suc k) (omega arith) i) (c k) (i.below k (omega arith)))
    ∙ i.fresh k (omega arith))
