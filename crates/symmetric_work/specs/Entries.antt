-- The entries of a symmetric block, those behind others repeated with two inputs exchanged. Assumes nothing.
use Rattle.std.specs.Prelude.{◌≡◌, refl, cond, List, ℕ, ◌+◌, ◌-◌, ◌^◌, ◌≤◌, ◌<◌, ltb, length, get_or, set}
use Rattle.std.proofs.Common.{sym, ap, ◌∙◌, arith, lt-ltb, le-ltb, pow_pos, pow_mono}
use Rattle.std.proofs.Math.Decide.{dec_lt}
use Rattle.std.specs.Int.Count.{ones, ones-ones}
use Rattle.std.proofs.Math.Pow.{pow-lt}
use Rattle.slices.specs.Places.{at, tab, over}
use Rattle.slices.specs.Filled.{over-more, length_over, over-at, over-beyond, over-is, get_d_any}
use Rattle.block.specs.Words.{none}
use Rattle.block.specs.Symmetric.{of_counts}
use Rattle.symmetric_laws.specs.Slices.{power-more, ones-exchanged}
use Rattle.symmetric_work.specs.Points.{laid_one}

-- the entry at x, where from `start` on each is the one `count` before it
unfoldable pub repeated : ℕ → ℕ → List ℕ → ℕ → ℕ
repeated start count l x = cond (ltb x start) (at l x) (at l (x - count))

pub repeated-below : (start count : ℕ) (l : List ℕ) (x : ℕ) → x < start → repeated start count l x ≡ at l x
unfolding repeated
repeated-below start count l x h = rw (lt-ltb x start h)

pub repeated-above : (start count : ℕ) (l : List ℕ) (x : ℕ) → start ≤ x → repeated start count l x ≡ at l (x - count)
unfolding repeated
repeated-above start count l x h = rw (le-ltb x start h)

-- as a loop has it: before the first is repeated, and one more
pub repeat-starts : (start count : ℕ) (l : List ℕ) → start ≤ length l → l ≡ over (tab (start + 0) (repeated start count l)) l
repeat-starts start count l h =
    let e : start + 0 ≡ start = omega arith in
    rw e (over-is start (repeated start count l) l l 0 h refl (λ x b. sym (repeated-below start count l x b)) (λ x b. refl))

pub repeat-next : (start count y : ℕ) (l k : List ℕ) → k ≡ over (tab (start + y) (repeated start count l)) l → count ≤ start → y < count
    → at k (start - count + y) ≡ repeated start count l (start + y)
repeat-next start count y l k e h b =
    let same : start - count + y ≡ start + y - count = omega arith in
    ap (λ (k : List ℕ). at k (start - count + y)) e
    ∙ over-at (start + y) (repeated start count l) l 0 (start - count + y) (omega arith)
    ∙ repeated-below start count l (start - count + y) (omega arith)
    ∙ ap (at l) same
    ∙ sym (repeated-above start count l (start + y) (omega arith))

-- copied behind, the entries are repeated
pub repeat-is : (start count : ℕ) (l k : List ℕ) → count ≤ start → start + count ≤ length l → length k ≡ length l
    → ((x : ℕ) → start ≤ x → x < start + count → at k x ≡ at l (start - count + (x - start))) → ((x : ℕ) → x < start → at k x ≡ at l x)
    → ((x : ℕ) → start + count ≤ x → at k x ≡ at l x) → k ≡ over (tab (start + count) (repeated start count l)) l
repeat-is start count l k h b e copied below beyond =
    over-is (start + count) (repeated start count l) l k 0 b e (λ x w. entry x w (dec_lt x start)) beyond
  where
    entry : (x : ℕ) → x < start + count → Dec (x < start) → at k x ≡ repeated start count l x
    entry x w (yes o) = below x o ∙ sym (repeated-below start count l x o)
    entry x w (no o) =
        let same : start - count + (x - start) ≡ x - count = omega arith in
        copied x (omega arith) w ∙ ap (at l) same ∙ sym (repeated-above start count l x (omega arith))

-- where slice i - 1 of 2^(j + 1) lies
pub places : (i j end p q : ℕ) → 0 < i → i ≤ j → end ≡ 2 ^ (j + 1) → p ≡ 2 ^ i → q ≡ 2 ^ (i - 1)
    → (q ≤ end - p) × (end - p + q ≡ 2 ^ (j + 1) - 2 ^ (i - 1)) × (p ≤ end) × (end - p + q ≤ end)
places i j end p q h b e d f =
    let back : i - 1 + 1 ≡ i = omega arith in
    let half = power-more (i - 1) in
    let whole = power-more j in
    let same = ap (λ (c : ℕ). 2 ^ c) back in
    let low : 2 ^ i ≤ 2 ^ j = pow_mono b in
    (omega arith, omega arith, omega arith, omega arith)

-- a list has the entries of the block below m
pub record Entered (words : List ℕ) (m : ℕ) (l : List ℕ) : Type 0 where
  pub each : (x : ℕ) → x < m → at l x ≡ of_counts words x

module _ (words : List ℕ) where
  pub entered-over : (m : ℕ) (l k : List ℕ) → k ≡ over (tab m (of_counts words)) l → Entered words m k
  entered-over m l k e = record { each = λ x h. ap (λ (k : List ℕ). at k x) e ∙ over-at m (of_counts words) l 0 x h }

  pub entered-held : (m : ℕ) (l : List ℕ) → m ≤ length l → Entered words m l → l ≡ over (tab m (of_counts words)) l
  entered-held m l h e = over-is m (of_counts words) l l 0 h refl e.each (λ x b. refl)

  -- the first is the word for none
  pub entered-first : (n : ℕ) (l : List ℕ) → length words ≡ n + 1 → 0 < length l → set l 0 (get_or words 0 0) ≡ over (tab 1 (of_counts words)) l
  entered-first n l w h =
      laid_one (of_counts words) _ l h (get_d_any words 0 none 0 (omega arith) ∙ ap (λ (c : ℕ). get_or words c none) (sym (ones-ones 0)))

  -- the entries of slice i are those before it with two inputs exchanged
  pub repeated-entries : (j i : ℕ) (l k k' : List ℕ) (start count : ℕ) → i < j → start ≡ 2 ^ (j + 1) - 2 ^ (i + 1) → count ≡ 2 ^ i
      → start + count ≤ length l → k ≡ over (tab start (of_counts words)) l → k' ≡ over (tab (start + count) (repeated start count k)) k
      → k' ≡ over (tab (start + count) (of_counts words)) l
  repeated-entries j i l k k' start count h s c b e d =
      let len : length k ≡ length l = ap length e ∙ length_over start (of_counts words) l (omega arith) in
      over-is (start + count) (of_counts words) l k' 0 b
      (ap length d ∙ length_over (start + count) (repeated start count k) k (omega arith) ∙ len)
      (λ x o. ap (λ (k : List ℕ). at k x) d ∙ over-at (start + count) (repeated start count k) k 0 x o ∙ entry x o (dec_lt x start))
      (λ x o.
      ap (λ (k : List ℕ). at k x) d ∙ over-beyond (start + count) (repeated start count k) k 0 x o
      ∙ ap (λ (k : List ℕ). at k x) e ∙ over-beyond start (of_counts words) l 0 x (omega arith))
    where
      entry : (x : ℕ) → x < start + count → Dec (x < start) → repeated start count k x ≡ of_counts words x
      entry x o (yes w) = repeated-below start count k x w ∙ (entered-over start l k e).each x w
      entry x o (no w) =
          let wide : 2 ^ (i + 1) < 2 ^ (j + 1) = pow-lt (omega arith) in
          repeated-above start count k x (omega arith)
          ∙ (entered-over start l k e).each (x - count) (omega (arith, pow_pos i))
          ∙ ap (λ (o : ℕ). get_or words o none) (ap (λ (p : ℕ). ones (x - p)) c ∙ ones-exchanged j i x h (omega arith) (omega arith))

  -- the same as the loop has it, from i down to i - 1
  pub entries-step : (j i : ℕ) (l k k' : List ℕ) (end p q : ℕ) → 0 < i → i ≤ j → end ≡ 2 ^ (j + 1) → p ≡ 2 ^ i → q ≡ 2 ^ (i - 1)
      → 2 ^ (j + 1) ≤ length l → k ≡ over (tab (2 ^ (j + 1) - 2 ^ i) (of_counts words)) l
      → k' ≡ over (tab (end - p + q) (repeated (end - p) q k)) k → k' ≡ over (tab (2 ^ (j + 1) - 2 ^ (i - 1)) (of_counts words)) l
  entries-step j i l k k' end p q h b e d f len held made =
      let back : i - 1 + 1 ≡ i = omega arith in
      let r = places i j end p q h b e d f in
      let start : end - p ≡ 2 ^ (j + 1) - 2 ^ (i - 1 + 1) = omega (arith, ap (λ (c : ℕ). 2 ^ c) back) in
      let from : k ≡ over (tab (end - p) (of_counts words)) l = held ∙ ap (λ (m : ℕ). over (tab m (of_counts words)) l) (omega arith) in
      repeated-entries j (i - 1) l k k' (end - p) q (omega arith) start f (omega arith) from made
      ∙ ap (λ (m : ℕ). over (tab m (of_counts words)) l) r.1

  -- the last entry of 2^(j + 1) is the word for j + 1 one-bits
  last_entry : (n j : ℕ) → length words ≡ n + 1 → j < n → get_or words (j + 1) 0 ≡ of_counts words (2 ^ (j + 1) - 1)
  last_entry n j l h = get_d_any words 0 none (j + 1) (omega arith) ∙ ap (λ (c : ℕ). get_or words c none) (sym (ones-ones (j + 1)))

  -- which ends them
  pub entries-end : (n j i end : ℕ) (l k : List ℕ) → length words ≡ n + 1 → j < n → i ≤ 0 → end ≡ 2 ^ (j + 1) → 2 ^ (j + 1) ≤ length l
      → k ≡ over (tab (2 ^ (j + 1) - 2 ^ i) (of_counts words)) l → set k (end - 1) (get_or words (j + 1) 0) ≡ over (tab (2 ^ (j + 1)) (of_counts words)) l
  entries-end n j i end l k w h z e len held =
      let none : i ≡ 0 = omega arith in
      let one : 2 ^ i ≡ 1 = rw none in
      let last : end - 1 ≡ 2 ^ (j + 1) - 2 ^ i = omega arith in
      let all : 2 ^ (j + 1) - 2 ^ i + 1 ≡ 2 ^ (j + 1) = omega (arith, pow_pos (j + 1)) in
      let same : 2 ^ (j + 1) - 2 ^ i ≡ 2 ^ (j + 1) - 1 = omega arith in
      ap (λ (p : ℕ). set k p (get_or words (j + 1) 0)) last
      ∙ over-more (2 ^ (j + 1) - 2 ^ i) (of_counts words) l k _ held (last_entry n j w h ∙ ap (of_counts words) (sym same)) (omega (arith, pow_pos (j + 1)))
      ∙ ap (λ (m : ℕ). over (tab m (of_counts words)) l) all
