-- What becomes of a list of rows at a step, one row more at a time. Not here: what becomes of one row (row_halves). Assumes nothing.
use Rattle.std.specs.Prelude.{◌≡◌, refl, List, [], ◌∷◌, ◌++◌, ℕ, ◌+◌, ◌*◌, ◌≤◌, length}
use Rattle.std.proofs.Common.{sym, ap, ◌∙◌, append_assoc, append-nil, add-one, arith}
use Rattle.slices.specs.Places.{at}
use Rattle.slices.specs.Filled.{length-tab, tab-zero, tab-suc}
use Rattle.block.specs.Words.{row}
use Rattle.block.specs.Rows.{split_row, split_rows}
use Rattle.block.specs.declared.Row.{Row}
use Rattle.flat_rows.specs.Listing.{rows_from}
use Rattle.step_laws.specs.Step.{split-length}
use Rattle.row_adding.specs.Held.{Added, added_then}

split-append : (k v : ℕ) (rs ss : List Row) → split_rows k v (rs ++ ss) ≡ split_rows k v rs ++ split_rows k v ss
unfolding split_rows
split-append k v [] ss = refl
split-append k v (r ∷ rs) ss =
    ap (λ (l : List Row). split_row k v r ++ l) (split-append k v rs ss)
    ∙ sym (append_assoc (split_row k v r) (split_rows k v rs) (split_rows k v ss))

one-row : (k v : ℕ) (r : Row) → split_rows k v (r ∷ []) ≡ split_row k v r
unfolding split_rows
one-row k v r = append-nil (split_row k v r)

module _ (k v : ℕ) (masks values words : List ℕ) where
  -- no row
  pub split-none : split_rows k v (rows_from 0 masks values words) ≡ []
  unfolding split_rows
  split-none = rw (tab-zero (λ i. row (at masks i) (at values i) (at words i)))

  -- at most two rows for each
  pub split-bound : (i : ℕ) → length (split_rows k v (rows_from i masks values words)) ≤ i * 2
  split-bound i =
      let e : length (rows_from i masks values words) ≡ i = length-tab i (λ i. row (at masks i) (at values i) (at words i)) in
      omega (arith, (split-length k v (rows_from i masks values words)).1)

  -- one row more
  split-more : (i : ℕ)
      → split_rows k v (rows_from (i + 1) masks values words)
      ≡ split_rows k v (rows_from i masks values words) ++ split_row k v (row (at masks i) (at values i) (at words i))
  split-more i =
      ap (split_rows k v) (ap (λ (j : ℕ). rows_from j masks values words) (add-one i) ∙ tab-suc i (λ i. row (at masks i) (at values i) (at words i)))
      ∙ split-append k v (rows_from i masks values words) (row (at masks i) (at values i) (at words i) ∷ [])
      ∙ ap (λ (l : List Row). split_rows k v (rows_from i masks values words) ++ l) (one-row k v (row (at masks i) (at values i) (at words i)))

  -- a turn: what becomes of the first i rows was added, and then what becomes of row i
  pub split-added : (i : ℕ) {count between next : ℕ} {a b c a' b' c' a'' b'' c'' : List ℕ}
      → Added count (split_rows k v (rows_from i masks values words)) a b c a' b' c' between
      → Added between (split_row k v (row (at masks i) (at values i) (at words i))) a' b' c' a'' b'' c'' next
      → Added count (split_rows k v (rows_from (i + 1) masks values words)) a b c a'' b'' c'' next
  split-added i p q = rw (split-more i) (added_then p q)
