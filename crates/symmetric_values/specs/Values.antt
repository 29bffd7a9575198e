-- What R at the numbers of one and of two one-bits makes of the measures, and folding in place. Assumes nothing.
use Rattle.std.specs.Prelude.{◌≡◌, refl, Bool, true, false, not, ◌&&◌, List, ℕ, suc, ◌+◌, ◌-◌, ◌*◌, ◌^◌, ◌≤◌, ◌<◌, eqb, length, get_or}
use Rattle.std.proofs.Common.{sym, ap, ap₂, ◌∙◌, one-mul, mul-le-mul, add-one, arith, eq-eqb, ne_eqb, pow_mono}
use Rattle.sums.specs.Sums.{one}
use Rattle.sums.specs.Laws.{one-le, count-le}
use Rattle.slices.specs.Places.{at, tab, over}
use Rattle.slices.specs.Filled.{over-at, get_d_any}
use Rattle.block.specs.Limits.{table_inputs}
use Rattle.block.specs.Words.{none}
use Rattle.block.specs.Measure.{same, shift, measure}
use Rattle.block.specs.Basis.{smaller}
use Rattle.block.specs.Symmetric.{of_counts, gray_column, Symmetric}
use Rattle.block.specs.declared.Measures.{Measures}
use Rattle.symmetric_laws.specs.Weights.{changed, folded, folded_more, folded-cong, folded-le, equal}
use Rattle.symmetric_laws.specs.Blocks.{word_for, shift_one, shift_two, measure-symmetric, measure-gray}

-- both measures of a block f, before and after the Gray matrix
pub record Measured (f : ℕ → ℕ) (n : ℕ) (r : Measures) : Type 0 where
  pub earlier : r.before ≡ measure f n
  pub later : r.after ≡ measure (smaller f gray_column n) n

-- R is at most the number of points
pub shift-most : (f : ℕ → ℕ) (n t r : ℕ) → r ≡ shift f n t → n ≤ table_inputs → r ≤ 4096
unfolding shift
shift-most f n t r e h = omega (arith, e, count-le (same f t) (2 ^ n), pow_mono h)

-- so that its multiples fit
pub times-most : (a r : ℕ) → a ≤ table_inputs → r ≤ 4096 → a * r ≤ 49152
times-most a r h l = mul-le-mul h l

-- with one input both measures are R at 1
pub measured-one : (f : ℕ → ℕ) (n r : ℕ) → Symmetric f n → 1 ≤ n → n < 2 → r ≡ shift f n 1
    → Measured f n (record { before = r; after = r })
measured-one f n r s h l e =
    let w : n ≡ 1 = omega arith in
    record {
      earlier = e ∙ sym (measure-symmetric f n s h ∙ ap (λ (m : ℕ). m * shift f n 1) w ∙ one-mul (shift f n 1));
      later = e ∙ sym (measure-gray f n s h ∙ ap (λ (m : ℕ). shift f n 1 + (m - 1) * shift f n 3) w ∙ nothing);
    }
  where
    nothing : shift f n 1 + 0 * shift f n 3 ≡ shift f n 1
    nothing = omega arith

-- with more they take R at 3 too
pub measured-more : (f : ℕ → ℕ) (n p q : ℕ) → Symmetric f n → 1 ≤ n → p ≡ shift f n 1 → q ≡ shift f n 3
    → Measured f n (record { before = n * p; after = p + (n - 1) * q })
measured-more f n p q s h e d =
    record {
      earlier = ap (λ (r : ℕ). n * r) e ∙ sym (measure-symmetric f n s h);
      later = ap₂ (λ (x y : ℕ). x + (n - 1) * y) e d ∙ sym (measure-gray f n s h);
    }

-- ---- folding in place

-- of the m + 1 values d, those up to `left` hold what was folded m - left times
pub record Folded (d : ℕ → ℕ) (m left : ℕ) (l : List ℕ) : Type 0 where
  pub within : left ≤ m
  pub each : (c : ℕ) → c ≤ left → at l c ≡ folded d (m - left) c

pub fold-starts : (m : ℕ) (l : List ℕ) → Folded (at l) m m l
unfolding folded
fold-starts m l =
    let e : m - m ≡ 0 = omega arith in
    record { within = omega arith; each = λ c h. rw e }

pub fold-goes-on : (d : ℕ → ℕ) (m left : ℕ) (l k : List ℕ) → Folded d m left l → 0 < left
    → k ≡ over (tab left (λ i. at l i + at l (i + 1))) l → Folded d m (left - 1) k
fold-goes-on d m left l k f h e =
    let step : m - (left - 1) ≡ (m - left) + 1 = omega (arith, f.within) in
    record {
      within = omega (arith, f.within);
      each = λ c b.
          rw step
          (ap (λ (k : List ℕ). at k c) e ∙ over-at left (λ i. at l i + at l (i + 1)) l 0 c (omega arith)
          ∙ ap₂ ◌+◌ (f.each c (omega arith)) (f.each (c + 1) (omega arith))
          ∙ sym (folded_more d (m - left) c));
    }

-- values up to 4 stay small
pub fold-bounded : (d : ℕ → ℕ) (m left : ℕ) (l : List ℕ) → Folded d m left l → m < table_inputs → ((i : ℕ) → i ≤ m → d i ≤ 4)
    → (i : ℕ) → i ≤ left → at l i ≤ 16384
fold-bounded d m left l f h b i c =
    let few : m - left ≤ table_inputs = omega arith in
    omega (
      arith,
      f.each i c,
      folded-le d 4 (m - left) i (λ j e. b j (omega (arith, f.within))),
      pow_mono few,
    )

pub fold-ends : (d : ℕ → ℕ) (m left : ℕ) (l : List ℕ) → Folded d m left l → left ≤ 0 → at l 0 ≡ folded d m 0
fold-ends d m left l f h =
    let e : m - left ≡ m = omega arith in
    f.each 0 (omega arith) ∙ ap (λ (j : ℕ). folded d j 0) e

-- ---- the values that are folded

equal-le : (g : ℕ → ℕ) (a b : ℕ) → equal g a b ≤ 1
equal-le g a b = one-le (not (eqb (g a) none) && (not (eqb (g b) none) && eqb (g a) (g b)))

-- two words compared, as the code does: the first is not there, both are the same, or they differ
module _ (words : List ℕ) (a b : ℕ) (ha : a < length words) (hb : b < length words) where
  pub agree-none : get_or words a 0 ≡ none → 0 ≡ equal (word_for words) a b
  agree-none e = rw (get_d_any words none 0 a ha ∙ e)

  pub agree_same : (get_or words a 0 ≡ none → ⊥) → get_or words b 0 ≡ get_or words a 0 → 1 ≡ equal (word_for words) a b
  agree_same d e = rw (get_d_any words none 0 b hb, e, get_d_any words none 0 a ha, ne_eqb (get_or words a 0) none d, eq-eqb (get_or words a 0) _ refl)

  pub agree-other : (get_or words b 0 ≡ get_or words a 0 → ⊥) → 0 ≡ equal (word_for words) a b
  agree-other d =
      rw (get_d_any words none 0 b hb, get_d_any words none 0 a ha, ne_eqb (get_or words a 0) (get_or words b 0) (λ e. d (sym e)))
      (neither (eqb (get_or words a 0) none) (eqb (get_or words b 0) none))
    where
      neither : (p q : Bool) → 0 ≡ one (not p && (not q && false))
      neither true q = refl
      neither false true = refl
      neither false false = refl

pub one-small : (g : ℕ → ℕ) (c : ℕ) → changed (equal g) c c ≤ 4
one-small g c = omega (arith, equal-le g c (suc c), equal-le g (suc c) c)

pub two-small : (g : ℕ → ℕ) (c : ℕ) → changed (changed (equal g)) c c ≤ 4
two-small g c = omega (arith, equal-le g c (suc (suc c)), equal-le g (suc c) (suc c), equal-le g (suc (suc c)) c)

-- what the code adds up is `changed` once, and twice
pub adds_one : (g : ℕ → ℕ) (c p q : ℕ) → p ≡ equal g c (c + 1) → q ≡ equal g (c + 1) c → p + q ≡ changed (equal g) c c
adds_one g c p q e d = ap₂ ◌+◌ (e ∙ ap (equal g c) (add-one c)) (d ∙ ap (λ (i : ℕ). equal g i c) (add-one c))

pub adds-two : (g : ℕ → ℕ) (c p q r : ℕ) → p ≡ equal g (c + 1) (c + 1) → q ≡ equal g c (c + 2) → r ≡ equal g (c + 2) c
    → (q + p) + (p + r) ≡ changed (changed (equal g)) c c
adds-two g c p q r e d f =
    let w : c + 2 ≡ suc (suc c) = omega arith in
    let middle : p ≡ equal g (suc c) (suc c) = e ∙ ap (λ (i : ℕ). equal g i i) (add-one c) in
    ap₂ ◌+◌ (ap₂ ◌+◌ (d ∙ ap (equal g c) w) middle) (ap₂ ◌+◌ middle (f ∙ ap (λ (i : ℕ). equal g i c) w))

-- the values of each count, laid over a list
module _ (f : ℕ → ℕ) (m : ℕ) (z l : List ℕ) (e : l ≡ over (tab m f) z) where
  pub laid-at : (i : ℕ) → i < m → at l i ≡ f i
  laid-at i h = ap (λ (k : List ℕ). at k i) e ∙ over-at m f z 0 i h

  pub laid-small : ((c : ℕ) → f c ≤ 4) → (i : ℕ) → i < m → at l i ≤ 4
  laid-small b i h = rw (laid-at i h) (b i)

module _ (words : List ℕ) (n : ℕ) (z l : List ℕ) where
  pub folded-one : l ≡ over (tab n (λ c. changed (equal (word_for words)) c c)) z → 1 ≤ n → folded (at l) (n - 1) 0 ≡ shift (of_counts words) n 1
  folded-one e h =
      let w : (n - 1) + 1 ≡ n = omega arith in
      folded-cong _ _ (n - 1) 0 (λ i b. laid-at _ n z l e i (omega arith)) ∙ sym (shift_one words (n - 1))
      ∙ ap (λ (m : ℕ). shift (of_counts words) m 1) w

  pub folded_two : l ≡ over (tab (n - 1) (λ c. changed (changed (equal (word_for words))) c c)) z → 2 ≤ n
      → folded (at l) (n - 2) 0 ≡ shift (of_counts words) n 3
  folded_two e h =
      let w : (n - 2) + 2 ≡ n = omega arith in
      folded-cong _ _ (n - 2) 0 (λ i b. laid-at _ (n - 1) z l e i (omega arith)) ∙ sym (shift_two words (n - 2))
      ∙ ap (λ (m : ℕ). shift (of_counts words) m 3) w
