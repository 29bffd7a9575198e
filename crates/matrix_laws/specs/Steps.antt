-- The maps of one step (01, How rows are transformed): the exchange of two positions, the shear by v, the position to exchange and
-- what v is. Each map is linear, keeps the number of bits and undoes itself. Not here: what the steps reach (`Reached`).
-- Assumes nothing.
use Rattle.std.specs.Prelude.{◌≡◌, cond, ℕ, zero, suc, ◌+◌, ◌*◌, ◌%◌, ◌^◌, ◌≤◌, ◌<◌, eqb}
use Rattle.std.proofs.Common.{sym, ap, ap₂, ◌∙◌, mul-zero, zero-mul, arith, eq-eqb, ne_eqb, pow_pos, pow_mono}
use Rattle.std.proofs.Math.Decide.{ℕ_discrete, dec_lt}
use Rattle.std.proofs.Math.Nat.{mul-one}
use Rattle.std.specs.Int.Bits.{bit_xor, xor_lt, xor_self, xor_zero_r}
use Rattle.std.proofs.Math.Pow.{pow-lt}
use Rattle.bits.specs.Digits.{bit}
use Rattle.bits.specs.Xor.{xor-cancel, xor-cancel-r, xor-swap, times-xor}
use Rattle.bits.specs.Parity.{mod2}
use Rattle.bits.specs.Bit.{bit-lt, bit-xor, bit-times, bit-top, bit-pow-same, bit-pow-other, times-lt}
use Rattle.block.specs.Rows.{highest, partner, exchange, rest, shear}
use Rattle.matrix_laws.specs.Linear.{Linear}

mod2-lt : (x : ℕ) → x % 2 < 2
mod2-lt x = omega arith

-- to change the bits of u where a digit d of the number says so is linear, where d is
flips-linear : (u : ℕ) (d : ℕ → ℕ) → ((x : ℕ) → d x < 2) → ((x y : ℕ) → d (bit_xor x y) ≡ (d x + d y) % 2)
    → Linear (λ x. bit_xor x (u * d x))
flips-linear u d h l x y =
    ap (bit_xor (bit_xor x y)) (ap (λ (e : ℕ). u * e) (l x y) ∙ times-xor u (d x) (d y) (h x) (h y)) ∙ xor-swap x y (u * d x) (u * d y)

-- ---- the exchange

-- a position and itself
pub exchange-same : (k y : ℕ) → exchange k k y ≡ y
unfolding exchange
exchange-same k y = rw (xor_self (2 ^ k), zero-mul) (xor_zero_r y)

exchange-bit : (k h y j : ℕ) → bit (exchange k h y) j ≡ (bit y j + (bit (2 ^ k) j + bit (2 ^ h) j) % 2 * ((bit y k + bit y h) % 2)) % 2
unfolding exchange
exchange-bit k h y j =
    bit-xor y (bit_xor (2 ^ k) (2 ^ h) * ((bit y k + bit y h) % 2)) j
    ∙ ap (λ (x : ℕ). (bit y j + x) % 2)
    (bit-times (bit_xor (2 ^ k) (2 ^ h)) ((bit y k + bit y h) % 2) j (mod2-lt (bit y k + bit y h))
    ∙ ap (λ (x : ℕ). x * ((bit y k + bit y h) % 2)) (bit-xor (2 ^ k) (2 ^ h) j))

-- bit k is what bit h was
pub exchange-left : (k h y : ℕ) → bit (exchange k h y) k ≡ bit y h
exchange-left k h y = go (ℕ_discrete k h)
  where
    go : Dec (k ≡ h) → bit (exchange k h y) k ≡ bit y h
    go (yes e) = rw e (ap (λ (x : ℕ). bit x h) (exchange-same h y))
    go (no n) = exchange-bit k h y k ∙ rw (bit-pow-same k, bit-pow-other h k n) (omega (arith, bit-lt y k, bit-lt y h))

-- bit h is what bit k was
pub exchange-right : (k h y : ℕ) → bit (exchange k h y) h ≡ bit y k
exchange-right k h y = go (ℕ_discrete k h)
  where
    go : Dec (k ≡ h) → bit (exchange k h y) h ≡ bit y k
    go (yes e) = rw e (ap (λ (x : ℕ). bit x h) (exchange-same h y))
    go (no n) = exchange-bit k h y h ∙ rw (bit-pow-same h, bit-pow-other k h (λ e. n (sym e))) (omega (arith, bit-lt y k, bit-lt y h))

-- the other bits stay
pub exchange-other : (k h y j : ℕ) → (j ≡ k → ⊥) → (j ≡ h → ⊥) → bit (exchange k h y) j ≡ bit y j
exchange-other k h y j n m = exchange-bit k h y j ∙ rw (bit-pow-other k j n, bit-pow-other h j m) (omega (arith, bit-lt y j))

-- a number with equal bits there stays
pub exchange-stays : (k h y : ℕ) → bit y k ≡ bit y h → exchange k h y ≡ y
unfolding exchange
exchange-stays k h y e =
    let none : (bit y k + bit y h) % 2 ≡ 0 = omega arith in
    rw (none, mul-zero) (xor_zero_r y)

-- twice is nothing
pub exchange-twice : (k h y : ℕ) → exchange k h (exchange k h y) ≡ y
unfolding exchange
exchange-twice k h y =
    ap (λ (d : ℕ). bit_xor (exchange k h y) (bit_xor (2 ^ k) (2 ^ h) * (d % 2)))
    (ap₂ ◌+◌ (exchange-left k h y) (exchange-right k h y) ∙ omega arith)
    ∙ xor-cancel-r y (bit_xor (2 ^ k) (2 ^ h) * ((bit y k + bit y h) % 2))

-- it keeps n bits
pub exchange-lt : (n k h y : ℕ) → k < n → h < n → y < 2 ^ n → exchange k h y < 2 ^ n
unfolding exchange
exchange-lt n k h y hk hh hy =
    xor_lt n y _ hy (times-lt _ _ n (mod2-lt (bit y k + bit y h)) (xor_lt n (2 ^ k) (2 ^ h) (pow-lt hk) (pow-lt hh)))

-- it is linear
pub exchange-linear : (k h : ℕ) → Linear (exchange k h)
unfolding exchange
exchange-linear k h =
    flips-linear (bit_xor (2 ^ k) (2 ^ h)) (λ x. (bit x k + bit x h) % 2) (λ x. mod2-lt (bit x k + bit x h))
    (λ x y.
    ap₂ (λ (p q : ℕ). (p + q) % 2) (bit-xor x y k) (bit-xor x y h)
    ∙ mod2 (bit x k + bit y k) (bit x h + bit y h)
    ∙ ap (λ (e : ℕ). e % 2) (omega arith)
    ∙ sym (mod2 (bit x k + bit x h) (bit y k + bit y h)))

-- ---- the shear

-- bit j changes where v has bit j and the number has bit k
pub shear-bit : (k v x j : ℕ) → bit (shear k v x) j ≡ (bit x j + bit v j * bit x k) % 2
unfolding shear
shear-bit k v x j = bit-xor x (v * bit x k) j ∙ ap (λ (y : ℕ). (bit x j + y) % 2) (bit-times v (bit x k) j (bit-lt x k))

-- bit k itself stays, where v has none there
pub shear-own : (k v x : ℕ) → bit v k ≡ 0 → bit (shear k v x) k ≡ bit x k
shear-own k v x h = shear-bit k v x k ∙ rw (h, zero-mul) (omega (arith, bit-lt x k))

-- a number without bit k stays
pub shear-stays : (k v x : ℕ) → bit x k ≡ 0 → shear k v x ≡ x
unfolding shear
shear-stays k v x h = rw (h, mul-zero) (xor_zero_r x)

-- twice is nothing, where v has no bit k
pub shear-twice : (k v x : ℕ) → bit v k ≡ 0 → shear k v (shear k v x) ≡ x
unfolding shear
shear-twice k v x h = ap (λ (d : ℕ). bit_xor (shear k v x) (v * d)) (shear-own k v x h) ∙ xor-cancel-r x (v * bit x k)

-- it keeps n bits
pub shear-lt : (n k v x : ℕ) → v < 2 ^ n → x < 2 ^ n → shear k v x < 2 ^ n
unfolding shear
shear-lt n k v x hv hx = xor_lt n x (v * bit x k) hx (times-lt v (bit x k) n (bit-lt x k) hv)

-- it is linear
pub shear-linear : (k v : ℕ) → Linear (shear k v)
unfolding shear
shear-linear k v = flips-linear v (λ x. bit x k) (λ x. bit-lt x k) (λ x y. bit-xor x y k)

-- ---- the position to exchange

-- of a number from 2^k on and below 2^m, the highest one-bit stands at k or above, below m
pub highest-bit : (m k y : ℕ) → 2 ^ k ≤ y → y < 2 ^ m → (k ≤ highest m y) × (highest m y < m) × (bit y (highest m y) ≡ 1)
unfolding highest
highest-bit zero k y l h = absurd (omega (arith, pow_pos k))
highest-bit (suc m) k y l h = go (λ u. highest-bit m k y l u) (ℕ_discrete (bit y m) 1)
  where
    go : (y < 2 ^ m → (k ≤ highest m y) × (highest m y < m) × (bit y (highest m y) ≡ 1)) → Dec (bit y m ≡ 1)
        → (k ≤ cond (eqb (bit y m) 1) m (highest m y)) × (cond (eqb (bit y m) 1) m (highest m y) < suc m)
        × (bit y (cond (eqb (bit y m) 1) m (highest m y)) ≡ 1)
    go ih (yes e) = rw (eq-eqb (bit y m) 1 e) (within (dec_lt m k), omega arith, e)
      where
        within : Dec (m < k) → k ≤ m
        within (yes u) = absurd (omega (arith, pow_mono u))
        within (no u) = omega arith
    go ih (no n) =
        let w = ih (bit-top m y h (omega (arith, bit-lt y m))) in
        rw (ne_eqb (bit y m) 1 n) (w.0, omega (arith, w.1), w.2)

-- the position that step k + 1 exchanges with k stands at k or above, below n, and the chosen number has that bit
pub partner-bit : (n k y : ℕ) → k < n → 2 ^ k ≤ y → y < 2 ^ n → (k ≤ partner n k y) × (partner n k y < n) × (bit y (partner n k y) ≡ 1)
unfolding partner
partner-bit n k y hk l h = go (ℕ_discrete (bit y k) 1)
  where
    go : Dec (bit y k ≡ 1)
        → (k ≤ cond (eqb (bit y k) 1) k (highest n y)) × (cond (eqb (bit y k) 1) k (highest n y) < n)
        × (bit y (cond (eqb (bit y k) 1) k (highest n y)) ≡ 1)
    go (yes e) = rw (eq-eqb (bit y k) 1 e) (omega arith, hk, e)
    go (no m) = rw (ne_eqb (bit y k) 1 m) (highest-bit n k y l h)

-- ---- what v is
module _ (n k y : ℕ) (hk : k < n) (l : 2 ^ k ≤ y) (h : y < 2 ^ n) where
  -- it has n bits
  pub rest_lt : rest n k y < 2 ^ n
  unfolding rest
  rest_lt =
      xor_lt n (exchange k (partner n k y) y) (2 ^ k) (exchange-lt n k (partner n k y) y hk (partner-bit n k y hk l h).1 h) (pow-lt hk)

  brought : bit (exchange k (partner n k y) y) k ≡ 1
  brought = exchange-left k (partner n k y) y ∙ (partner-bit n k y hk l h).2

  -- and no bit k
  pub rest-own : bit (rest n k y) k ≡ 0
  unfolding rest
  rest-own = bit-xor (exchange k (partner n k y) y) (2 ^ k) k ∙ rw (brought, bit-pow-same k)

  -- the step sends the chosen number to 2^k
  pub step-sends : shear k (rest n k y) (exchange k (partner n k y) y) ≡ 2 ^ k
  unfolding shear rest
  step-sends = rw (brought, mul-one (rest n k y)) (xor-cancel (exchange k (partner n k y) y) (2 ^ k))
