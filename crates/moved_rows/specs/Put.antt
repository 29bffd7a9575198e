-- A list of rows laid at the front of three lent slices: mask, values and word of each row, and that the rows lie there. Assumes nothing.
use Rattle.std.specs.Prelude.{◌≡◌, List, map, ℕ, length, get_or}
use Rattle.std.proofs.Common.{sym, ap, ◌∙◌}
use Rattle.slices.specs.Places.{at, tab, over}
use Rattle.slices.specs.Filled.{length-tab, map-tab, tab-cong, tab-list, over-map-at}
use Rattle.block.specs.Words.{row, rows_of}
use Rattle.block.specs.declared.Row.{Row}
use Rattle.flat_rows.specs.Listing.{Listed, rows_from, rows-of}

-- the list rs lies at the front of three lent slices
pub record ListPut (rs : List Row) (m v d m' v' d' : List ℕ) : Type 0 where
  pub masks : m' ≡ over (map (λ (r : Row). r.mask) rs) m
  pub values : v' ≡ over (map (λ (r : Row). r.values) rs) v
  pub words : d' ≡ over (map (λ (r : Row). r.word) rs) d

-- the parts of the first rows of three slices, written out
pub list_put : (count : ℕ) (a b c m v d m' v' d' : List ℕ) → m' ≡ over (tab count (at a)) m → v' ≡ over (tab count (at b)) v
    → d' ≡ over (tab count (at c)) d → ListPut (rows_from count a b c) m v d m' v' d'
list_put count a b c m v d m' v' d' p q r =
    record {
      masks = p ∙ ap (λ (l : List ℕ). over l m) (sym (map-tab (λ (r : Row). r.mask) count (λ i. row (at a i) (at b i) (at c i))));
      values = q ∙ ap (λ (l : List ℕ). over l v) (sym (map-tab (λ (r : Row). r.values) count (λ i. row (at a i) (at b i) (at c i))));
      words = r ∙ ap (λ (l : List ℕ). over l d) (sym (map-tab (λ (r : Row). r.word) count (λ i. row (at a i) (at b i) (at c i))));
    }

-- the rows of a list that lies over three slices
rows-over : (rs : List Row) (m v d : List ℕ)
    → rows_from (length rs) (over (map (λ (r : Row). r.mask) rs) m) (over (map (λ (r : Row). r.values) rs) v)
    (over (map (λ (r : Row). r.word) rs) d) ≡ rs
rows-over rs m v d =
    tab-cong (length rs) _ (λ i. get_or rs i (row 0 0 0))
    (λ i h.
    rw (
      over-map-at (λ (r : Row). r.mask) rs m (row 0 0 0) i h,
      over-map-at (λ (r : Row). r.values) rs v (row 0 0 0) i h,
      over-map-at (λ (r : Row). r.word) rs d (row 0 0 0) i h,
    ))
    ∙ tab-list (row 0 0 0) rs

-- a list that was put lies there, row by row
pub rows-put : {rs : List Row} {m v d m' v' d' : List ℕ} (p : ℕ) → p ≡ length rs → ListPut rs m v d m' v' d' → rows_from p m' v' d' ≡ rs
rows-put {rs} {m} {v} {d} p e l = rw (e, l.masks, l.values, l.words) (rows-over rs m v d)

-- so does one that is copied whole
pub rows-laid : (most : ℕ) (masks values words m v d m' v' d' : List ℕ) → Listed most masks values words
    → ListPut (rows_from (length masks) masks values words) m v d m' v' d' → rows_from (length masks) m' v' d' ≡ rows_of masks values words
rows-laid most masks values words m v d m' v' d' l p =
    rows-put (length masks) (sym (length-tab (length masks) (λ i. row (at masks i) (at values i) (at words i)))) p
    ∙ sym (rows-of masks values words l.values-too l.words-too)
