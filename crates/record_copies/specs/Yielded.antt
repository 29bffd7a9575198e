-- Rows in three arrays that are to be copied in as records: what a function on the arrays promises of them; that the records then are
-- what the operation says; and that the promise holds where an operation on flat slices stored the rows at the front of the arrays.
-- So arrays are lent room for rows, as a slice of records and three flat slices are (crate promises). Assumes nothing.
use Rattle.std.specs.Prelude.{◌≡◌, refl, Bool, true, false, cond, List, ◌++◌, map, ℕ, ◌≤◌, ◌<◌, min, ltb, length, get_or, take, drop}
use Rattle.std.proofs.Common.{sym, ap, ◌∙◌, arith, lt-ltb, le-ltb, ext_get_or, length-take-le}
use Rattle.std.proofs.Math.Decide.{dec_lt}
use Rattle.std.proofs.Math.ListN.{get_or-append}
use Rattle.slices.specs.Places.{at, tab, over}
use Rattle.slices.specs.Filled.{length-tab, tab-at, over-is, over-map-at, length-over-map}
use Rattle.block.specs.Words.{row}
use Rattle.block.specs.Refusals.{answered, carried, stored, row_at}
use Rattle.block.specs.declared.Row.{Row}
use Rattle.block.specs.declared.Answer.{Answer}
use Rattle.promises.specs.Lent.{Lent, FlatHolds, shortest}
use Rattle.record_copies.specs.declared.FlatRows.{FlatRows}
use Rattle.record_copies.specs.Flat.{held_rows, Scattered, Sized, flat_at, zero_row, lent}

-- with the verdict v and the rows s: on 0 the first `count` rows of the arrays are s, and there is room for them; with a refusal there
-- are none
pub record Yielded (v : Answer) (s : List Row) (room : ℕ) (f : FlatRows) (count : ℕ) : Type 0 where
  pub all : count ≡ carried v (length s)
  pub most : count ≤ room
  pub within : count ≤ held_rows
  pub rows : (k : ℕ) → k < count → flat_at f k ≡ row_at s k

abbrev pub lent_arrays : ℕ → FlatRows → ℕ → Lent
lent_arrays room f count = record { room = room; holds = λ v s. Yielded v s room f count }

-- .. and so with the same verdict and more room
pub yielded-wider : {v v' : Answer} {s : List Row} {m room : ℕ} {f : FlatRows} {count : ℕ} → v ≡ v' → m ≤ room → Yielded v s m f count
    → Yielded v' s room f count
yielded-wider {s = s} {count = count} e h y =
    record {
      all = y.all ∙ ap (λ (v : Answer). carried v (length s)) e;
      most = omega (arith, y.most);
      within = y.within;
      rows = y.rows;
    }

-- room is looked at up to as many places as are held: for so many rows or fewer it is too short where the whole room is
pub short-alike : (room rows : ℕ) → rows ≤ held_rows → ltb (min room held_rows) rows ≡ ltb room rows
short-alike room rows h = go (dec_lt room rows)
  where
    go : Dec (room < rows) → ltb (min room held_rows) rows ≡ ltb room rows
    go (yes l) = lt-ltb (min room held_rows) rows (omega arith) ∙ sym (lt-ltb room rows l)
    go (no l) = le-ltb (min room held_rows) rows (omega arith) ∙ sym (le-ltb room rows (omega arith))

-- ---- the records are what the operation says

list-tab : (s : List Row) → s ≡ tab (length s) (row_at s)
list-tab s =
    ext_get_or zero_row s (tab (length s) (row_at s)) (sym (length-tab (length s) (row_at s)))
    (λ k h. sym (tab-at (length s) (row_at s) zero_row k h))

pub yielded-stored : {v : Answer} {s : List Row} {f : FlatRows} {count : ℕ} (before after : List Row)
    → Yielded v s (length before) f count → Scattered f count before after → after ≡ stored v s before
yielded-stored {v} {s} {f} {count} before after y c = go (answered v) refl
  where
    go : (b : Bool) → answered v ≡ b → after ≡ cond b (over s before) before
    go true e =
        let n : count ≡ length s = y.all ∙ ap (λ (b : Bool). cond b (length s) 0) e in
        let m : count ≤ length before = y.most in
        over-is (length s) (row_at s) before after zero_row (omega arith) c.long
        (λ k h. c.low k (omega arith) ∙ y.rows k (omega arith)) (λ k h. c.high k (omega arith))
        ∙ ap (λ (l : List Row). over l before) (sym (list-tab s))
    go false e =
        let n : count ≡ 0 = y.all ∙ ap (λ (b : Bool). cond b (length s) 0) e in
        ext_get_or zero_row after before c.long (λ k h. c.high k (omega arith))

-- ---- rows stored at the front of the arrays, of which the first m places were lent

-- the arrays f, where these places hold masks, values and words
abbrev pub stores : ℕ → FlatRows → List ℕ → List ℕ → List ℕ → FlatRows
stores m f masks values words =
    record { masks = masks ++ drop m f.masks; values = values ++ drop m f.values; words = words ++ drop m f.words }

-- that room is m places
pub lent-room : (m : ℕ) (f : FlatRows) → Sized f → m ≤ held_rows → shortest (take m f.masks) (take m f.values) (take m f.words) ≡ m
lent-room m f z h =
    omega (arith, lent m f.masks z.masks h, lent m f.values z.values h, lent m f.words z.words h)

-- a part of each row, stored in its array
stored_at : (p : Row → ℕ) (s : List Row) (m : ℕ) (l after : List ℕ) → p zero_row ≡ 0 → length l ≡ held_rows → m ≤ held_rows → length s ≤ m
    → after ≡ over (map p s) (take m l) → (k : ℕ) → k < length s → at (after ++ drop m l) k ≡ p (row_at s k)
stored_at p s m l after z e h few d k b =
    let long : length (take m l) ≡ m = length-take-le m l (omega arith) in
    get_or-append after (drop m l) 0 k (omega (arith, ap length d, length-over-map p s (take m l) (omega arith)))
    ∙ ap (λ (a : List ℕ). at a k) d ∙ ap (λ (x : ℕ). get_or (over (map p s) (take m l)) k x) (sym z) ∙ over-map-at p s (take m l) zero_row k b

-- where the answer is 0, there is room for the rows
pub yields : (v : Answer) (s : List Row) (m count : ℕ) (f : FlatRows) (masks values words : List ℕ) → Sized f → m ≤ held_rows
    → count ≡ carried v (length s) → (answered v ≡ true → length s ≤ m)
    → FlatHolds (take m f.masks) (take m f.values) (take m f.words) masks values words v s
    → Yielded v s m (stores m f masks values words) count
yields v s m count f masks values words z h n fits held = go (answered v) refl
  where
    go : (b : Bool) → answered v ≡ b → Yielded v s m (stores m f masks values words) count
    go true e =
        let few : length s ≤ m = fits e in
        let all : count ≡ length s = n ∙ ap (λ (b : Bool). cond b (length s) 0) e in
        let part : (p : Row → ℕ) (l after : List ℕ) → p zero_row ≡ 0 → length l ≡ held_rows → after ≡ stored v (map p s) (take m l)
        → (k : ℕ) → k < length s → at (after ++ drop m l) k ≡ p (row_at s k) =
        λ p l after none long d.
        stored_at p s m l after none long h few (d ∙ ap (λ (b : Bool). cond b (over (map p s) (take m l)) (take m l)) e) in
        record {
          all = n;
          most = omega arith;
          within = omega arith;
          rows = λ k b i.
              row (part (λ r. r.mask) f.masks masks refl z.masks held.masks k (omega arith) i)
              (part (λ r. r.values) f.values values refl z.values held.values k (omega arith) i)
              (part (λ r. r.word) f.words words refl z.words held.words k (omega arith) i);
        }
    go false e =
        let none : count ≡ 0 = n ∙ ap (λ (b : Bool). cond b (length s) 0) e in
        record { all = n; most = omega arith; within = omega arith; rows = λ k b. absurd (no none b) }
      where
        no : count ≡ 0 → {k : ℕ} → k < count → ⊥
        no none b = omega arith
