-- The rows of a list in flat slices as a loop over them meets them: how many there are, their masks, and a sum over those met so far.
-- Assumes nothing.
use Rattle.std.specs.Prelude.{◌≡◌, List, ℕ, ◌+◌, ◌^◌, ◌≤◌, ◌<◌, length}
use Rattle.std.proofs.Common.{sym, ap, ◌∙◌, arith}
use Rattle.slices.specs.Places.{at}
use Rattle.sums.specs.Sums.{sum}
use Rattle.sums.specs.Laws.{sum_more, sum_mono}
use Rattle.block.specs.Words.{row, rows_of}
use Rattle.block.specs.Refusals.{row_at}
use Rattle.block.specs.declared.Row.{Row}
use Rattle.pair_laws.specs.Cube.{Sound}
use Rattle.pair_laws.specs.Theorem.{Every}
use Rattle.flat_rows.specs.Listing.{Listed, rows-count, row-at}

module _ (n : ℕ) {most : ℕ} {masks values words : List ℕ} (l : Listed most masks values words) where
  -- the rows
  abbrev rows : List Row
  rows = rows_of masks values words

  -- as many as there are masks
  pub counted : length rows ≡ length masks
  counted = rows-count masks values words l.values-too l.words-too

  -- the masks of well-formed rows
  pub mask-fixed : Every (Sound n) rows → (i : ℕ) → i < length masks → at masks i < 2 ^ n
  mask-fixed s i h =
      let p = counted in
      let d : Sound n (row_at rows i) = s i (omega arith) in
      omega (arith, d.fixed, ap (λ (r : Row). r.mask) (row-at masks values words l.values-too l.words-too i h))

  module _ (h : Row → ℕ) where
    -- a sum over the rows before i
    abbrev pub summed_to : ℕ → ℕ
    summed_to i = sum (λ k. h (row_at rows k)) i

    -- one row more
    pub summed-more : (i s x : ℕ) → i < length masks → s ≡ summed_to i → x ≡ h (row (at masks i) (at values i) (at words i))
        → s + x ≡ summed_to (i + 1)
    summed-more i s x k e f =
        omega (arith, sum_more (λ k. h (row_at rows k)) i, ap h (row-at masks values words l.values-too l.words-too i k))

    -- past the last row it is the sum over all
    pub summed-whole : (i s : ℕ) → i ≡ length masks → s ≡ summed_to i → s ≡ summed_to (length rows)
    summed-whole i s k e = e ∙ ap summed_to (k ∙ sym counted)

    -- which no sum on the way passes
    pub summed-small : (i : ℕ) → i < length masks → summed_to (i + 1) ≤ summed_to (length rows)
    summed-small i k =
        let p = counted in
        sum_mono (λ k. h (row_at rows k)) (i + 1) (length rows) (omega arith)
