-- A step of the matrix reached, as the code has it, in which a number was chosen: the matrix after the step, and the coordinates that it
-- gives. Not here: which number is chosen (choosing), and why the matrix reached is that of 01 (matrix_laws). Assumes nothing.
use Rattle.std.specs.Prelude.{◌≡◌, Bool, true, false, cond, List, ℕ, zero, suc, ◌+◌, ◌*◌, ◌^◌, ◌≤◌, ◌<◌, eqb, ltb, length}
use Rattle.std.proofs.Common.{sym, ap, ap₂, ◌∙◌, arith}
use Rattle.std.specs.Int.Bits.{bit_xor}
use Rattle.bits.specs.Digits.{bit}
use Rattle.slices.specs.Places.{at, tab, over}
use Rattle.slices.specs.Filled.{over-at, over-over, tab-cong}
use Rattle.block.specs.Basis.{span, apply}
use Rattle.block.specs.Rows.{highest, partner, rest, reached}
use Rattle.matrix_laws.specs.Linear.{apply-cong}
use Rattle.matrix_laws.specs.Reached.{Independent, reached-span}
use Rattle.matrix_laws.specs.Reach.{exchange_rows, shear_rows, reach_rows, reach-none, reach-more, reach-apply}
use Rattle.matrix_steps.specs.declared.Move.{Move}

-- the rows s after step k + 1, in which t was chosen
unfoldable pub step_rows : ℕ → ℕ → ℕ → (ℕ → ℕ) → ℕ → ℕ
step_rows n k t s =
    let y : ℕ = apply s n t in
    shear_rows k (rest n k y) (exchange_rows k (partner n k y) s)

-- what a step leaves: the new rows in place of the old, and what it did
pub record Advanced (n k t : ℕ) (old new : List ℕ) (m : Move) : Type 0 where
  pub rows : new ≡ over (tab n (step_rows n k t (at old))) old
  pub exchanged : m.partner ≡ partner n k (apply (at old) n t)
  pub flipped : m.rest ≡ rest n k (apply (at old) n t)

-- ---- the position exchanged with k is below n, whatever the number

highest-lt : (n y : ℕ) → highest (suc n) y < suc n
unfolding highest
highest-lt zero y = go (eqb (bit y 0) 1)
  where
    go : (b : Bool) → cond b 0 0 < 1
    go true = omega arith
    go false = omega arith
highest-lt (suc n) y = go (eqb (bit y (suc n)) 1) (highest-lt n y)
  where
    go : (b : Bool) → highest (suc n) y < suc n → cond b (suc n) (highest (suc n) y) < suc (suc n)
    go true ih = omega arith
    go false ih = omega arith

pub partner-lt : (n k y : ℕ) → k < n → partner n k y < n
unfolding partner
partner-lt zero k y h = absurd (omega arith)
partner-lt (suc n) k y h = go (eqb (bit y k) 1)
  where
    go : (b : Bool) → cond b k (highest (suc n) y) < suc n
    go true = h
    go false = highest-lt n y

-- ---- rows that agree below n stay so

exchange-agree : (s q : ℕ → ℕ) (n k h : ℕ) → k < n → h < n → ((j : ℕ) → j < n → s j ≡ q j) → (j : ℕ) → j < n
    → exchange_rows k h s j ≡ exchange_rows k h q j
unfolding exchange_rows
exchange-agree s q n k h hk hh e j hj =
    ap₂ (λ (a b : ℕ). cond (eqb j k) a b) (e h hh) (ap₂ (λ (a b : ℕ). cond (eqb j h) a b) (e k hk) (e j hj))

shear-agree : (s q : ℕ → ℕ) (n k v : ℕ) → k < n → ((j : ℕ) → j < n → s j ≡ q j) → (j : ℕ) → j < n → shear_rows k v s j ≡ shear_rows k v q j
unfolding shear_rows
shear-agree s q n k v hk e j hj = ap₂ (λ (a b : ℕ). bit_xor a (b * bit v j)) (e j hj) (e k hk)

step-agree : (s q : ℕ → ℕ) (n k t : ℕ) → k < n → ((j : ℕ) → j < n → s j ≡ q j) → (j : ℕ) → j < n → step_rows n k t s j ≡ step_rows n k t q j
unfolding step_rows
step-agree s q n k t hk e j hj =
    let d : apply s n t ≡ apply q n t = apply-cong s q n t e in
    let y : ℕ = apply q n t in
    ap (λ (y : ℕ). shear_rows k (rest n k y) (exchange_rows k (partner n k y) s) j) d
    ∙ shear-agree (exchange_rows k (partner n k y) s) (exchange_rows k (partner n k y) q) n k (rest n k y) hk
    (exchange-agree s q n k (partner n k y) hk (partner-lt n k y hk) e) j hj

-- ---- a step in a lent slice

-- an exchange and then a shear are a step
pub step-made : (n k t h v : ℕ) (old between new : List ℕ) → n ≤ length old → k < n → h ≡ partner n k (apply (at old) n t)
    → v ≡ rest n k (apply (at old) n t) → between ≡ over (tab n (exchange_rows k h (at old))) old
    → new ≡ over (tab n (shear_rows k v (at between))) between → new ≡ over (tab n (step_rows n k t (at old))) old
unfolding step_rows
step-made n k t h v old between new room hk e d b l =
    let rows : (j : ℕ) → j < n → at between j ≡ exchange_rows k h (at old) j
    = λ j hj. ap (λ (s : List ℕ). at s j) b ∙ over-at n (exchange_rows k h (at old)) old 0 j hj in
    l
    ∙ ap (λ (s : List ℕ). over s between)
    (tab-cong n (shear_rows k v (at between)) (shear_rows k v (exchange_rows k h (at old)))
    (shear-agree (at between) (exchange_rows k h (at old)) n k v hk rows))
    ∙ ap (over (tab n (shear_rows k v (exchange_rows k h (at old))))) b
    ∙ over-over n (exchange_rows k h (at old)) (shear_rows k v (exchange_rows k h (at old))) old
    ∙ ap₂ (λ (h v : ℕ). over (tab n (shear_rows k v (exchange_rows k h (at old)))) old) e d

module _ (n : ℕ) (c : ℕ → ℕ) where
  -- the rows that a slice holds after k steps
  pub held : (k : ℕ) (l s : List ℕ) → s ≡ over (tab n (reach_rows n c k)) l → (j : ℕ) → j < n → at s j ≡ reach_rows n c k j
  held k l s e j hj = ap (λ (m : List ℕ). at m j) e ∙ over-at n (reach_rows n c k) l 0 j hj

  -- before the first step they are the units
  pub reach-start : (l s : List ℕ) → s ≡ over (tab n (λ j. 2 ^ j)) l → s ≡ over (tab n (reach_rows n c 0)) s
  reach-start l s e =
      let units : tab n (λ (j : ℕ). 2 ^ j) ≡ tab n (reach_rows n c 0)
      = tab-cong n (λ (j : ℕ). 2 ^ j) (reach_rows n c 0) (λ j hj. sym (reach-none n c j)) in
      e ∙ sym (over-over n (λ (j : ℕ). 2 ^ j) (λ (j : ℕ). 2 ^ j) l) ∙ ap₂ over units (sym e)

  -- the rows after one step more
  one_more : (k j : ℕ) → reach_rows n c (k + 1) j ≡ step_rows n k (c k) (reach_rows n c k) j
  unfolding step_rows
  one_more k j = reach-more n c k j

  pub reach-turn : (k t : ℕ) (l s new : List ℕ) → k < n → s ≡ over (tab n (reach_rows n c k)) l → t ≡ c k
      → new ≡ over (tab n (step_rows n k t (at s))) s → new ≡ over (tab n (reach_rows n c (k + 1))) l
  reach-turn k t l s new hk e d f =
      let rows : (j : ℕ) → j < n → step_rows n k t (at s) j ≡ reach_rows n c (k + 1) j
      = λ j hj. step-agree (at s) (reach_rows n c k) n k t hk (held k l s e) j hj ∙ ap (λ (t : ℕ). step_rows n k t (reach_rows n c k) j) d ∙ sym (one_more k j) in
      f ∙ ap₂ over (tab-cong n (step_rows n k t (at s)) (reach_rows n c (k + 1)) rows) e
      ∙ over-over n (reach_rows n c k) (reach_rows n c (k + 1)) l

  -- the rows held give the coordinates reached
  pub apply-held : (k : ℕ) (l s : List ℕ) → k ≤ n → Independent c n k → s ≡ over (tab n (reach_rows n c k)) l → (x : ℕ) → x < 2 ^ n
      → apply (at s) n x ≡ reached n c k x
  apply-held k l s hk i e x h = apply-cong (at s) (reach_rows n c k) n x (held k l s e) ∙ reach-apply n c k hk i x h

  -- a matrix row is an XOR of some set of earlier ones exactly where its coordinates are below 2^j
  pub span-held : (j : ℕ) (l s : List ℕ) → j < n → Independent c n j → c j < 2 ^ n → s ≡ over (tab n (reach_rows n c j)) l
      → span c j (c j) ≡ ltb (apply (at s) n (c j)) (2 ^ j)
  span-held j l s hj i b e =
      reached-span n c j (omega arith) i (c j) b
      ∙ ap (λ (y : ℕ). ltb y (2 ^ j)) (sym (apply-held j l s (omega arith) i e (c j) b))
