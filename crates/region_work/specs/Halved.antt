-- The rows of a region as the code decides them, from what the rows that meet it say: none, one, or those of its two halves, each with
-- one free input fewer. Assumes nothing.
use Rattle.std.specs.Prelude.{◌≡◌, List, [], ◌∷◌, ◌++◌, ℕ, suc, ◌≤◌, ◌<◌, length}
use Rattle.std.proofs.Common.{sym, ◌∙◌, arith}
use Rattle.std.proofs.Math.Path.{ap}
use Rattle.bits.specs.Digits.{bit}
use Rattle.block.specs.Limits.{given_rows}
use Rattle.block.specs.Words.{row}
use Rattle.block.specs.Rows.{highest, half}
use Rattle.block.specs.declared.Row.{Row}
use Rattle.pair_laws.specs.Cube.{Sound}
use Rattle.pair_laws.specs.Theorem.{Every}
use Rattle.step_laws.specs.Shear.{sound-half}
use Rattle.flat_rows.specs.Listing.{rows_from}
use Rattle.block.specs.Overlaps.{met, cut, free_inputs, region_rows}
use Rattle.region_laws.specs.Open.{beyond, open_inputs, cut-highest, cut-open, cut-free}
use Rattle.region_laws.specs.Free.{free-half}
use Rattle.region_laws.specs.Pieces.{region-none, region-one, region-two}
use Rattle.region_work.specs.Put.{Put, put-none, put_then}
use Rattle.region_work.specs.Meet.{Says, says-rows, says-fixed, says-word}

-- a half of the region: well formed, with fewer free inputs
pub record Smaller (n : ℕ) (q s : Row) : Type 0 where
  pub fewer : free_inputs n s < free_inputs n q
  pub well : Sound n s

module _ (n : ℕ) (q : Row) (masks values words : List ℕ) (a : Sound n q)
    (sound : Every (Sound n) (rows_from (length masks) masks values words))
    {rows fixed word : ℕ} (s : Says q masks values words (length masks) rows fixed word) where
  -- no row meets the region
  pub unmet : {count : ℕ} {m v w : List ℕ} → rows ≡ 0 → count ≤ suc given_rows
      → Put count (region_rows n (rows_from (length masks) masks values words) q) m v w m v w count
  unmet {count} {m} {v} {w} e h =
      rw (region-none n (rows_from (length masks) masks values words) q (sym (says-rows n q masks values words a sound s) ∙ e))
      (put-none count m v w h)

  module _ (e : rows ≡ 0 → ⊥) where
    some-row : met n (rows_from (length masks) masks values words) q ≡ 0 → ⊥
    some-row z = e (says-rows n q masks values words a sound s ∙ z)

    same-open : beyond fixed q.mask ≡ open_inputs n (rows_from (length masks) masks values words) q
    unfolding open_inputs
    same-open = ap (λ (f : ℕ). beyond f q.mask) (says-fixed n q masks values words a sound s)

    -- it lies inside each row that meets it
    pub single : {count next : ℕ} {m v w m' v' w' : List ℕ} → beyond fixed q.mask ≡ 0
        → Put count (row q.mask q.values word ∷ []) m v w m' v' w' next
        → Put count (region_rows n (rows_from (length masks) masks values words) q) m v w m' v' w' next
    single {count} {next} {m} {v} {w} {m'} {v'} {w'} z p =
        rw (
          region-one n (rows_from (length masks) masks values words) sound q a some-row (sym same-open ∙ z),
          sym (says-word n q masks values words a sound s),
        )
        p

    module _ {h : ℕ} (o : beyond fixed q.mask ≡ 0 → ⊥) (c : h ≡ highest n (beyond fixed q.mask)) where
      opened : open_inputs n (rows_from (length masks) masks values words) q ≡ 0 → ⊥
      opened z = o (same-open ∙ z)

      is_cut : h ≡ cut n (rows_from (length masks) masks values words) q
      is_cut = c ∙ ap (highest n) same-open ∙ sym (cut-highest n (rows_from (length masks) masks values words) q)

      -- the cut is an input
      pub cut_below : h < n
      cut_below = rw is_cut (cut-open n (rows_from (length masks) masks values words) sound q a opened).0

      free : bit q.mask h ≡ 0
      free = rw is_cut (cut-free n (rows_from (length masks) masks values words) sound q a opened)

      pub smaller : (d : ℕ) (r : Row) → d < 2 → r ≡ half h d q → Smaller n q r
      smaller d r l e =
          rw e
          (record { fewer = omega (arith, free-half n h d q cut_below free); well = sound-half n h d q cut_below l a free })

      -- the rows of the halves, the 0 half first
      pub double : {low high : Row} {count between next : ℕ} {m v w m' v' w' m'' v'' w'' : List ℕ} → low ≡ half h 0 q → high ≡ half h 1 q
          → Put count (region_rows n (rows_from (length masks) masks values words) low) m v w m' v' w' between
          → Put between (region_rows n (rows_from (length masks) masks values words) high) m' v' w' m'' v'' w'' next
          → Put count (region_rows n (rows_from (length masks) masks values words) q) m v w m'' v'' w'' next
      double {low} {high} {count} {between} {next} {m} {v} {w} {m'} {v'} {w'} {m''} {v''} {w''} e f p r =
          let rows-of : region_rows n (rows_from (length masks) masks values words) q
          ≡ region_rows n (rows_from (length masks) masks values words) low ++ region_rows n (rows_from (length masks) masks values words) high
          = region-two n (rows_from (length masks) masks values words) sound q a some-row opened
          ∙ rw (sym same-open, sym c, sym e, sym f) in
          rw rows-of (put_then p r)
