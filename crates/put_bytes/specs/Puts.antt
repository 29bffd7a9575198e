-- The contract of every function that puts text, and its laws: two puts, one after the other, are one; a put of nothing; the rows
-- of flat slices, one more at a time. Not here: what bits, symbols and digits are (block's `Text`). Assumes nothing.
use Rattle.std.specs.Prelude.{◌≡◌, refl, List, [], ◌∷◌, ◌++◌, ℕ, suc, ◌+◌, ◌≤◌, ◌<◌, length, set, get_or, take, drop, ◌-◌}
use Rattle.std.proofs.Common.{sym, ap, ◌∙◌, append_assoc, append-nil, add-zero, zero-add, add-one, arith, length-append, take-suc, length-take-le, drop-drop}
use Rattle.std.proofs.lemmas.List.Edits.{sets, sets-eq}
use Rattle.std.proofs.lemmas.List.{set_comm}
use Rattle.slices.specs.Places.{at, tab, over}
use Rattle.slices.specs.Filled.{tab-suc}
use Rattle.block.specs.Words.{row}
use Rattle.block.specs.Text.{row_line, row_lines}
use Rattle.block.specs.declared.Row.{Row}
use Rattle.flat_rows.specs.Listing.{rows_from}
use borrow.Rule.Slice.PartMut.{put_mid}

-- one run of stores after the other is a run of both
pub sets-append : (a b l : List ℕ) (i j : ℕ) → j ≡ i + length a → sets (sets l i a) j b ≡ sets l i (a ++ b)
sets-append [] b l i j e = rw (e, add-zero i)
sets-append (x ∷ a) b l i j e = sets-append a b (set l i x) (suc i) j (omega (arith, e))

-- a store behind a run goes before it or after it
pub sets-set : (a l : List ℕ) (i j x : ℕ) → i + length a ≤ j → sets (set l j x) i a ≡ set (sets l i a) j x
sets-set [] l i j x h = refl
sets-set (y ∷ a) l i j x h =
    rw (set_comm l j i x y (omega arith)) (sets-set a (set l i y) (suc i) j x (omega arith))

-- the text t was put into l₀ at a place, which left l, and r is the place after it
pub record Put (l₀ : List ℕ) (at : ℕ) (t l : List ℕ) (r : ℕ) : Type 0 where
  pub place : r ≡ at + length t
  pub stored : l ≡ sets l₀ at t

pub then : {l₀ a l₁ b l₂ : List ℕ} {at r₁ r₂ : ℕ} → Put l₀ at a l₁ r₁ → Put l₁ r₁ b l₂ r₂ → Put l₀ at (a ++ b) l₂ r₂
then {l₀} {a} {l₁} {b} {l₂} {at} {r₁} {r₂} p q =
    record {
      place = omega (arith, length-append a b);
      stored = q.stored ∙ rw p.stored (sets-append a b l₀ at r₁ p.place);
    }

-- nothing put yet
pub none-put : (l : List ℕ) (at : ℕ) → Put l at [] l at
none-put l at = record { place = sym (add-zero at); stored = refl }

-- one byte more of a copy
pub copy_more : (l s : List ℕ) (at i : ℕ) → i < length s → i ≤ length s
    → set (sets l at (take i s)) (at + i) (get_or s i 0) ≡ sets l at (take (i + 1) s)
copy_more l s at i h k =
    sets-append (take i s) (get_or s i 0 ∷ []) l at (at + i) (ap (λ (j : ℕ). at + j) (sym (length-take-le i s k)))
    ∙ ap (λ (t : List ℕ). sets l at t) (sym (take-suc s i 0 h) ∙ ap (λ (j : ℕ). take j s) (sym (add-one i)))

-- a copy onto a part is a run of stores
pub copied : (l s w : List ℕ) (at : ℕ) → at + length s ≤ length l → w ≡ s → put_mid at (at + length s - at) l w ≡ sets l at s
copied l s w at h e =
    let k : at + length s - at ≡ length s = omega arith in
    rw (e, k, drop-drop (length s) at l, sets-eq s l at h) (sym (append_assoc (take at l) s (drop (at + length s) l)))

-- ---- the lines of rows

pub lines-append : (n k : ℕ) (rs ss : List Row) → row_lines n k (rs ++ ss) ≡ row_lines n k rs ++ row_lines n k ss
unfolding row_lines
lines-append n k [] ss = refl
lines-append n k (r ∷ rs) ss =
    ap (λ (t : List ℕ). row_line n k r ++ t) (lines-append n k rs ss)
    ∙ sym (append_assoc (row_line n k r) (row_lines n k rs) (row_lines n k ss))

lines-one : (n k : ℕ) (r : Row) → row_lines n k (r ∷ []) ≡ row_line n k r
unfolding row_lines
lines-one n k r = append-nil (row_line n k r)

-- one row more
pub lines_more : (n k i : ℕ) (masks values words : List ℕ)
    → row_lines n k (rows_from (i + 1) masks values words)
    ≡ row_lines n k (rows_from i masks values words) ++ row_line n k (row (at masks i) (at values i) (at words i))
lines_more n k i masks values words = rw (add-one i, tab-suc i f) (lines-append n k (tab i f) (f i ∷ []) ∙ rw (lines-one n k (f i)))
  where
    f : ℕ → Row
    f i = row (at masks i) (at values i) (at words i)

pub lines_none : (n k : ℕ) (masks values words : List ℕ) → row_lines n k (rows_from 0 masks values words) ≡ []
unfolding row_lines tab
lines_none n k masks values words = refl

-- what is put at the front of a list that is long enough lies over it
pub put-over : {l₀ t l : List ℕ} {r : ℕ} → length t ≤ length l₀ → Put l₀ 0 t l r → l ≡ over t l₀
put-over {l₀} {t} {l} {r} h p =
    p.stored ∙ sets-eq t l₀ 0 (omega arith) ∙ ap (λ (i : ℕ). t ++ drop i l₀) (zero-add (length t))
