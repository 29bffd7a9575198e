-- Rows in three arrays, field by field: what `gather` and `scatter` promise of them, and the list of rows that they are.
-- Assumes nothing.
use Rattle.std.specs.Prelude.{◌≡◌, ℕ, ◌+◌, ◌≤◌, ◌<◌, min, List, length, get_or, replicate, take}
use Rattle.std.proofs.Common.{sym, ap, ◌∙◌, arith, length-take, ext_get_or, get_or-take, length-take-le}
use Rattle.std.proofs.lemmas.List.{length-replicate}
use Rattle.slices.specs.Places.{at}
use Rattle.block.specs.Limits.{smaller_rows}
use Rattle.block.specs.Words.{row, rows_of}
use Rattle.block.specs.Refusals.{row_at}
use Rattle.block.specs.declared.Row.{Row}
use Rattle.flat_rows.specs.Listing.{rows-count, row-at}
use Rattle.record_copies.specs.declared.FlatRows.{FlatRows}
use Rattle.record_copies.specs.Copied.{Copied}

-- one row more than the longest list that an operation takes: no more records are copied out
abbrev pub held_rows : ℕ
held_rows = smaller_rows + 1

abbrev pub zeros : List ℕ
zeros = replicate held_rows 0

abbrev pub zero_row : Row
zero_row = row 0 0 0

-- the first m records of a list, copied out
pub record Gathered (rs : List Row) (m : ℕ) (f : FlatRows) : Type 0 where
  pub of-masks : Copied 0 (λ k. (row_at rs k).mask) m zeros f.masks
  pub of_values : Copied 0 (λ k. (row_at rs k).values) m zeros f.values
  pub of_words : Copied 0 (λ k. (row_at rs k).word) m zeros f.words

-- the row at a place of the three arrays
abbrev pub flat_at : FlatRows → ℕ → Row
flat_at f k = row (at f.masks k) (at f.values k) (at f.words k)

-- the first m records of a list, copied in
abbrev pub Scattered : FlatRows → ℕ → List Row → List Row → Type 0
Scattered f m before after = Copied zero_row (flat_at f) m before after

-- the arrays are as long as their types say
pub record Sized (f : FlatRows) : Type 0 where
  pub masks : length f.masks ≡ held_rows
  pub values : length f.values ≡ held_rows
  pub words : length f.words ≡ held_rows

pub gathered-sized : {rs : List Row} {m : ℕ} {f : FlatRows} → Gathered rs m f → Sized f
gathered-sized g =
    record {
      masks = g.of-masks.long ∙ length-replicate {A = ℕ} held_rows 0;
      values = g.of_values.long ∙ length-replicate {A = ℕ} held_rows 0;
      words = g.of_words.long ∙ length-replicate {A = ℕ} held_rows 0;
    }

-- the first m rows of the arrays, as flat slices of that length have them
abbrev pub listed : FlatRows → ℕ → List Row
listed f m = rows_of (take m f.masks) (take m f.values) (take m f.words)

-- the slice of the first m entries of an array is m long
pub lent : (m : ℕ) (l : List ℕ) → length l ≡ held_rows → m ≤ held_rows → m ≡ length (take m l)
lent m l e h = sym (length-take-le m l (omega arith))

-- records copied out, as many as are: the arrays are the list, but for what lies beyond row 512
pub gathered-list : (rs : List Row) (m : ℕ) (f : FlatRows) → m ≡ min (length rs) held_rows → Gathered rs m f → listed f m ≡ take held_rows rs
gathered-list rs m f e g =
    ext_get_or zero_row (listed f m) (take held_rows rs) (omega (arith, rows-count ms vs ws same₁ same₂, long₀, length-take held_rows rs)) (λ k h. go k (omega (arith, rows-count ms vs ws same₁ same₂)))
  where
    ms : List ℕ
    ms = take m f.masks

    vs : List ℕ
    vs = take m f.values

    ws : List ℕ
    ws = take m f.words

    long₀ : length ms ≡ m
    long₀ = length-take-le m f.masks (omega (arith, (gathered-sized g).masks))

    same₁ : length vs ≡ length ms
    same₁ = length-take-le m f.values (omega (arith, (gathered-sized g).values)) ∙ sym long₀

    same₂ : length ws ≡ length ms
    same₂ = length-take-le m f.words (omega (arith, (gathered-sized g).words)) ∙ sym long₀

    fields : (k : ℕ) → k < m → row (at ms k) (at vs k) (at ws k) ≡ row_at rs k
    fields k h i =
        row ((get_or-take m f.masks k 0 h ∙ g.of-masks.low k h) i) ((get_or-take m f.values k 0 h ∙ g.of_values.low k h) i)
        ((get_or-take m f.words k 0 h ∙ g.of_words.low k h) i)

    go : (k : ℕ) → k < length ms → get_or (listed f m) k zero_row ≡ get_or (take held_rows rs) k zero_row
    go k h = row-at ms vs ws same₁ same₂ k h ∙ fields k (omega (arith, long₀)) ∙ sym (get_or-take held_rows rs k zero_row (omega (arith, long₀)))

-- so an operation F that looks no further says the same of the arrays and of the records
pub as-records : {X : Type 0} (F : List Row → X) (rs : List Row) {m : ℕ} {f : FlatRows} → m ≡ min (length rs) held_rows → Gathered rs m f
    → F (take held_rows rs) ≡ F rs → {x : X} → x ≡ F (listed f m) → x ≡ F rs
as-records F rs {m} {f} e g cut eq = eq ∙ ap F (gathered-list rs m f e g) ∙ cut
