-- The matrix of the coordinates reached, by rows: what an exchange and a shear do to rows, the rows after k steps, that they give
-- the coordinates, and the candidates by them. Not here: the coordinates themselves (`Reached`). Assumes nothing.
use Rattle.std.specs.Prelude.{◌≡◌, refl, Bool, true, false, not, cond, ◌&&◌, ℕ, zero, suc, ◌+◌, ◌*◌, ◌%◌, ◌^◌, ◌≤◌, ◌<◌, eqb, ltb, leb}
use Rattle.std.proofs.Common.{sym, ap, ap₂, ◌∙◌, mul_comm, add-one, arith, eq-eqb, ne_eqb, lt-ltb, le-ltb, le-leb}
use Rattle.std.proofs.Math.Path.{fun_ext}
use Rattle.std.proofs.Math.Decide.{ℕ_discrete, dec_lt}
use Rattle.std.proofs.lemmas.Bool.{lt-leb}
use Rattle.std.specs.Int.Bits.{bit_and, bit_xor}
use Rattle.std.proofs.lemmas.Nat.{xor_lt}
use Rattle.std.specs.Int.Count.{ones}
use Rattle.std.proofs.Math.Pow.{pow-lt}
use Rattle.bits.specs.Digits.{bit, parity}
use Rattle.bits.specs.Parity.{parity-times, parity-xor-and}
use Rattle.bits.specs.Bit.{bit-lt, bit-ext, parity-pow, times-lt}
use Rattle.block.specs.Basis.{candidate, apply}
use Rattle.block.specs.Rows.{partner, exchange, rest, shear, reached}
use Rattle.matrix_laws.specs.Linear.{apply-lt, apply-bit}
use Rattle.matrix_laws.specs.Steps.{exchange-left, exchange-right, exchange-other, exchange-lt, shear-bit, shear-lt, partner-bit, rest_lt}
use Rattle.matrix_laws.specs.Reached.{Independent, independent-fewer, reached-span, reached-next}

-- rows k and h exchanged
unfoldable pub exchange_rows : ℕ → ℕ → (ℕ → ℕ) → ℕ → ℕ
exchange_rows k h s j = cond (eqb j k) (s h) (cond (eqb j h) (s k) (s j))

-- row k added to the rows where v has a one
unfoldable pub shear_rows : ℕ → ℕ → (ℕ → ℕ) → ℕ → ℕ
shear_rows k v s j = bit_xor (s j) (s k * bit v j)

-- the rows after k steps, in which c 0 .. c (k - 1) were chosen
unfoldable pub reach_rows : ℕ → (ℕ → ℕ) → ℕ → ℕ → ℕ
reach_rows n c zero j = 2 ^ j
reach_rows n c (suc k) j =
    let y : ℕ = apply (reach_rows n c k) n (c k) in
    shear_rows k (rest n k y) (exchange_rows k (partner n k y) (reach_rows n c k)) j

-- ---- rows exchanged and added

-- row k is what row h was
pub exchange-row-left : (k h : ℕ) (s : ℕ → ℕ) → exchange_rows k h s k ≡ s h
unfolding exchange_rows
exchange-row-left k h s = rw (eq-eqb k k refl)

-- row h is what row k was
pub exchange-row-right : (k h : ℕ) (s : ℕ → ℕ) → exchange_rows k h s h ≡ s k
unfolding exchange_rows
exchange-row-right k h s = go (ℕ_discrete h k)
  where
    go : Dec (h ≡ k) → cond (eqb h k) (s h) (cond (eqb h h) (s k) (s h)) ≡ s k
    go (yes e) = rw (eq-eqb h k e, e)
    go (no n) = rw (ne_eqb h k n, eq-eqb h h refl)

-- the other rows stay
pub exchange-row-other : (k h : ℕ) (s : ℕ → ℕ) (j : ℕ) → (j ≡ k → ⊥) → (j ≡ h → ⊥) → exchange_rows k h s j ≡ s j
unfolding exchange_rows
exchange-row-other k h s j a b = rw (ne_eqb j k a, ne_eqb j h b)

-- what holds of each row holds of the exchanged rows
pub exchange-rows-all : (P : ℕ → Type 0) (s : ℕ → ℕ) (n k h : ℕ) → k < n → h < n → ((j : ℕ) → j < n → P (s j)) → (j : ℕ) → j < n
    → P (exchange_rows k h s j)
unfolding exchange_rows
exchange-rows-all P s n k h hk hh all j l = go (eqb j k) (eqb j h)
  where
    go : (a b : Bool) → P (cond a (s h) (cond b (s k) (s j)))
    go true b = all h hh
    go false true = all k hk
    go false false = all j l

-- a matrix with rows exchanged has the bits of its values exchanged
pub exchange-apply : (s : ℕ → ℕ) (n k h x : ℕ) → k < n → h < n → apply (exchange_rows k h s) n x ≡ exchange k h (apply s n x)
exchange-apply s n k h x hk hh =
    bit-ext n (apply (exchange_rows k h s) n x) (exchange k h (apply s n x)) (apply-lt (exchange_rows k h s) n x)
    (exchange-lt n k h (apply s n x) hk hh (apply-lt s n x))
    (λ j hj. apply-bit (exchange_rows k h s) n x j hj ∙ go j hj (ℕ_discrete j k) (ℕ_discrete j h))
  where
    go : (j : ℕ) → j < n → Dec (j ≡ k) → Dec (j ≡ h) → parity (bit_and (exchange_rows k h s j) x) ≡ bit (exchange k h (apply s n x)) j
    go j hj (yes e) d = rw (e, exchange-row-left k h s) (sym (exchange-left k h (apply s n x) ∙ apply-bit s n x h hh))
    go j hj (no a) (yes e) = rw (e, exchange-row-right k h s) (sym (exchange-right k h (apply s n x) ∙ apply-bit s n x k hk))
    go j hj (no a) (no b) = rw (exchange-row-other k h s j a b) (sym (exchange-other k h (apply s n x) j a b ∙ apply-bit s n x j hj))

-- a matrix with rows added has its values sheared
pub shear-apply : (s : ℕ → ℕ) (n k v x : ℕ) → k < n → v < 2 ^ n → apply (shear_rows k v s) n x ≡ shear k v (apply s n x)
unfolding shear_rows
shear-apply s n k v x hk hv =
    bit-ext n (apply (shear_rows k v s) n x) (shear k v (apply s n x)) (apply-lt (shear_rows k v s) n x)
    (shear-lt n k v (apply s n x) hv (apply-lt s n x))
    (λ j hj.
    apply-bit (shear_rows k v s) n x j hj
    ∙ parity-xor-and (s j) (s k * bit v j) x
    ∙ ap (λ (y : ℕ). (parity (bit_and (s j) x) + y) % 2)
    (parity-times (s k) (bit v j) x (bit-lt v j) ∙ mul_comm (parity (bit_and (s k) x)) (bit v j))
    ∙ sym
    (shear-bit k v (apply s n x) j
    ∙ ap₂ (λ (y z : ℕ). (y + bit v j * z) % 2) (apply-bit s n x j hj) (apply-bit s n x k hk)))

-- ---- the rows after k steps

-- before the first step
pub reach-none : (n : ℕ) (c : ℕ → ℕ) (j : ℕ) → reach_rows n c 0 j ≡ 2 ^ j
unfolding reach_rows
reach-none n c j = refl

-- one step more
pub reach-more : (n : ℕ) (c : ℕ → ℕ) (k j : ℕ)
    → reach_rows n c (k + 1) j
    ≡ shear_rows k (rest n k (apply (reach_rows n c k) n (c k)))
    (exchange_rows k (partner n k (apply (reach_rows n c k) n (c k))) (reach_rows n c k)) j
unfolding reach_rows
reach-more n c k j = rw add-one

-- they depend on the first k numbers alone
pub reach-cong : (n : ℕ) (c d : ℕ → ℕ) (k : ℕ) → ((j : ℕ) → j < k → c j ≡ d j) → (i : ℕ) → reach_rows n c k i ≡ reach_rows n d k i
unfolding reach_rows
reach-cong n c d zero h i = refl
reach-cong n c d (suc k) h i =
    let e : reach_rows n c k ≡ reach_rows n d k = fun_ext (reach-cong n c d k (λ j l. h j (omega arith))) in
    rw (h k (omega arith), e)

-- they give the coordinates
pub reach-apply : (n : ℕ) (c : ℕ → ℕ) (k : ℕ) → k ≤ n → Independent c n k → (x : ℕ) → x < 2 ^ n
    → apply (reach_rows n c k) n x ≡ reached n c k x
unfolding reach_rows reached
reach-apply n c zero h i x l =
    bit-ext n (apply (λ j. 2 ^ j) n x) x (apply-lt (λ j. 2 ^ j) n x) l (λ j u. apply-bit (λ j. 2 ^ j) n x j u ∙ parity-pow j x)
reach-apply n c (suc k) h i x l =
    let ih : (x : ℕ) → x < 2 ^ n → apply (reach_rows n c k) n x ≡ reached n c k x
    = reach-apply n c k (omega arith) (independent-fewer c n k (suc k) (omega arith) i) in
    let e : apply (reach_rows n c k) n (c k) ≡ reached n c k (c k) = ih (c k) (i.below k (omega arith)) in
    let y : ℕ = apply (reach_rows n c k) n (c k) in
    let far : 2 ^ k ≤ y = rw e (reached-next n c k (omega arith) i) in
    shear-apply (exchange_rows k (partner n k y) (reach_rows n c k)) n k (rest n k y) x (omega arith)
    (rest_lt n k y (omega arith) far (apply-lt (reach_rows n c k) n (c k)))
    ∙ ap (shear k (rest n k y))
    (exchange-apply (reach_rows n c k) n k (partner n k y) x (omega arith)
    (partner-bit n k y (omega arith) far (apply-lt (reach_rows n c k) n (c k))).1)
    ∙ ap₂ (λ (y z : ℕ). shear k (rest n k y) (exchange k (partner n k y) z)) e (ih x l)

-- the number chosen next has coordinates from 2^k on
pub reach-next : (n : ℕ) (c : ℕ → ℕ) (k : ℕ) → k < n → Independent c n (suc k) → 2 ^ k ≤ apply (reach_rows n c k) n (c k)
reach-next n c k h i =
    rw (reach-apply n c k (omega arith) (independent-fewer c n k (suc k) (omega arith) i) (c k) (i.below k (omega arith)))
    (reached-next n c k h i)

-- they have n bits
pub reach-lt : (n : ℕ) (c : ℕ → ℕ) (k : ℕ) → k ≤ n → Independent c n k → (j : ℕ) → j < n → reach_rows n c k j < 2 ^ n
unfolding reach_rows shear_rows
reach-lt n c zero h i j l = pow-lt l
reach-lt n c (suc k) h i j l =
    let y : ℕ = apply (reach_rows n c k) n (c k) in
    let rows : (j : ℕ) → j < n → exchange_rows k (partner n k y) (reach_rows n c k) j < 2 ^ n
    = exchange-rows-all (λ r. r < 2 ^ n) (reach_rows n c k) n k (partner n k y) (omega arith)
    (partner-bit n k y (omega arith) (reach-next n c k (omega arith) i) (apply-lt (reach_rows n c k) n (c k))).1
    (reach-lt n c k (omega arith) (independent-fewer c n k (suc k) (omega arith) i)) in
    xor_lt n _ _ (rows j l) (times-lt _ (bit (rest n k y) j) n (bit-lt (rest n k y) j) (rows k (omega arith)))

-- ---- the candidates

not-ltb : (a b : ℕ) → not (ltb a b) ≡ leb b a
not-ltb a b = go (dec_lt a b)
  where
    go : Dec (a < b) → not (ltb a b) ≡ leb b a
    go (yes l) = rw (lt-ltb a b l, lt-leb b a l)
    go (no n) = rw (le-ltb a b (omega arith), le-leb b a (omega arith))

-- a candidate has 1 to w one-bits, and coordinates from 2^k on
pub candidate-rows : (w n : ℕ) (c : ℕ → ℕ) (k : ℕ) → k ≤ n → Independent c n k → (t : ℕ) → t < 2 ^ n
    → candidate w c k t ≡ leb 1 (ones t) && (leb (ones t) w && leb (2 ^ k) (apply (reach_rows n c k) n t))
unfolding candidate
candidate-rows w n c k h i t l =
    rw (reached-span n c k h i t l, not-ltb (reached n c k t) (2 ^ k), reach-apply n c k h i t l)
