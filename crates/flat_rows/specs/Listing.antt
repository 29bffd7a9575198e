-- A list of rows in three flat slices: its length and its rows by place; the least malformed row; what the number of
-- rows says of the slices. Assumes nothing.
use Rattle.std.specs.Prelude.{◌≡◌, Bool, cond, ◌&&◌, List, [], map, ℕ, ◌≤◌, ◌<◌}
use Rattle.std.proofs.Math.Path.{refl}
use Rattle.std.proofs.Common.{sym, ap, ◌∙◌, arith}
use Rattle.std.proofs.Math.Bool.{true, false}
use borrow.Author.Tests.{eq-eqb, ne_eqb, eqb-true}
use Rattle.std.proofs.Math.Dec.{eqb}
use Rattle.std.proofs.Math.ListN.{length}
use Rattle.slices.specs.Places.{at, tab, first}
use Rattle.slices.specs.Filled.{length-tab, tab-at, map-tab, tab-list}
use Rattle.slices.specs.Least.{first-is}
use Rattle.block.specs.Words.{row, rows_of, word_part}
use Rattle.block.specs.Refusals.{bad_row, row_at}
use Rattle.block.specs.declared.Row.{Row}

-- the first p rows of three flat slices
abbrev pub rows_from : ℕ → List ℕ → List ℕ → List ℕ → List Row
rows_from p masks values words = tab p (λ i. row (at masks i) (at values i) (at words i))

module _ (masks values words : List ℕ) where
  -- slices of one length are a list
  pub rows-of : length values ≡ length masks → length words ≡ length masks
      → rows_of masks values words ≡ rows_from (length masks) masks values words
  unfolding rows_of
  rows-of e f = rw (eq-eqb _ _ e, eq-eqb _ _ f)

  pub rows-count : length values ≡ length masks → length words ≡ length masks → length (rows_of masks values words) ≡ length masks
  rows-count e f = ap length (rows-of e f) ∙ length-tab (length masks) (λ i. row (at masks i) (at values i) (at words i))

  pub row-at : length values ≡ length masks → length words ≡ length masks → (i : ℕ) → i < length masks
      → row_at (rows_of masks values words) i ≡ row (at masks i) (at values i) (at words i)
  row-at e f i h =
      ap (λ (l : List Row). row_at l i) (rows-of e f)
      ∙ tab-at (length masks) (λ i. row (at masks i) (at values i) (at words i)) (row 0 0 0) i h

  -- the words of the rows are those of the slice
  pub rows_words : length values ≡ length masks → length words ≡ length masks → map word_part (rows_of masks values words) ≡ words
  rows_words e f =
      ap (map word_part) (rows-of e f)
      ∙ map-tab word_part (length masks) (λ i. row (at masks i) (at values i) (at words i))
      ∙ ap (λ (m : ℕ). tab m (at words)) (sym f)
      ∙ tab-list 0 words

  -- slices of unequal lengths are no list
  pub no_rows : (length values ≡ length masks → ⊥) → length (rows_of masks values words) ≡ 0
  unfolding rows_of
  no_rows n = rw (ne_eqb _ _ n)

  pub no_words : length values ≡ length masks → (length words ≡ length masks → ⊥) → length (rows_of masks values words) ≡ 0
  unfolding rows_of
  no_words e n = rw (eq-eqb _ _ e, ne_eqb _ _ n)

  -- a list that is not empty lies in slices of one length
  pub equal-lengths : 0 < length (rows_of masks values words) → (length values ≡ length masks) × (length words ≡ length masks)
  unfolding rows_of
  equal-lengths h = go (eqb (length values) (length masks)) (eqb (length words) (length masks)) refl refl h
    where
      go : (a b : Bool) → eqb (length values) (length masks) ≡ a → eqb (length words) (length masks) ≡ b
          → 0 < length (cond (a && b) (tab (length masks) (λ i. row (at masks i) (at values i) (at words i))) [])
          → (length values ≡ length masks) × (length words ≡ length masks)
      go true true p q h = (eqb-true _ _ p, eqb-true _ _ q)
      go true false p q h = absurd (omega arith)
      go false b p q h = absurd (omega arith)

  -- the least malformed row, as a loop over the slices finds it
  pub first-bad : (n k r : ℕ) → length values ≡ length masks → length words ≡ length masks → r ≤ length masks
      → ((j : ℕ) → j < r → bad_row n k (row (at masks j) (at values j) (at words j)) ≡ false)
      → (r < length masks → bad_row n k (row (at masks r) (at values r) (at words r)) ≡ true)
      → r ≡ first (length (rows_of masks values words)) (λ i. bad_row n k (row_at (rows_of masks values words) i))
  first-bad n k r e f l a b =
      let c = rows-count e f in
      sym
      (first-is (length (rows_of masks values words)) (λ i. bad_row n k (row_at (rows_of masks values words) i)) r (omega arith)
      (λ j h. ap (bad_row n k) (row-at e f j (omega arith)) ∙ a j h)
      (λ h. ap (bad_row n k) (row-at e f r (omega arith)) ∙ b (omega arith)))

-- ---- a list of a bounded number of rows

-- the slices have one length, from 1 to most
pub record Listed (most : ℕ) (masks values words : List ℕ) : Type 0 where
  pub values-too : length values ≡ length masks
  pub words-too : length words ≡ length masks
  pub some : 1 ≤ length masks
  pub few : length masks ≤ most

-- a list of 1 to most rows lies in such slices
pub listed-rows : (most : ℕ) (masks values words : List ℕ) → (1 ≤ length (rows_of masks values words)) × (length (rows_of masks values words) ≤ most)
    → Listed most masks values words
listed-rows most masks values words h =
    let some : 1 ≤ length (rows_of masks values words) = h.0 in
    let few : length (rows_of masks values words) ≤ most = h.1 in
    let e = equal-lengths masks values words (omega arith) in
    let c = rows-count masks values words e.0 e.1 in
    record { values-too = e.0; words-too = e.1; some = omega arith; few = omega arith }
