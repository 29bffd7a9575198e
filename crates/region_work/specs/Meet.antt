-- What the rows that meet a region say of it, as a loop over three flat slices finds it. Assumes nothing.
use Rattle.std.specs.Prelude.{◌≡◌, Bool, true, false, List, ℕ, ◌+◌, ◌≤◌, ◌<◌, eqb, length}
use Rattle.std.proofs.Math.Path.{sym, ap₂}
use Rattle.std.proofs.Common.{ap, ◌∙◌, arith}
use Rattle.std.proofs.Math.Bool.{cond}
use Rattle.std.specs.Int.Bits.{bit_or, or_zero_r}
use Rattle.slices.specs.Places.{at}
use Rattle.slices.specs.Filled.{length-tab, tab-at}
use Rattle.sums.specs.Sums.{one, count}
use Rattle.sums.specs.Laws.{count-zero, count-more, count-cong, count-le}
use Rattle.block.specs.Words.{row}
use Rattle.block.specs.Refusals.{row_at, share}
use Rattle.block.specs.declared.Row.{Row}
use Rattle.pair_laws.specs.Cube.{Sound}
use Rattle.pair_laws.specs.Closed.{demanded}
use Rattle.pair_laws.specs.Theorem.{Every}
use Rattle.pair_laws.specs.Share.{share-closed}
use Rattle.flat_rows.specs.Listing.{rows_from}
use Rattle.block.specs.Overlaps.{ors, met, met_word}
use Rattle.region_laws.specs.Ors.{ors-zero, ors-more, ors-cong}
use Rattle.region_laws.specs.Open.{met_fixed}

-- row i of the slices meets the region: no input is fixed at different values in the two
abbrev pub meets_at : Row → List ℕ → List ℕ → ℕ → Bool
meets_at q masks values i = eqb (demanded q (row (at masks i) (at values i) 0)) 0

-- what the first p rows say: how many meet the region, the OR of their masks and that of their words
pub record Says (q : Row) (masks values words : List ℕ) (p : ℕ) (rows fixed word : ℕ) : Type 0 where
  pub some-rows : rows ≡ count (meets_at q masks values) p
  pub all-fixed : fixed ≡ ors (λ i. cond (meets_at q masks values i) (at masks i) 0) p
  pub all_words : word ≡ ors (λ i. cond (meets_at q masks values i) (at words i) 0) p

module _ (q : Row) (masks values words : List ℕ) where
  pub says_none : Says q masks values words 0 0 0 0
  says_none = record { some-rows = sym (count-zero _); all-fixed = sym (ors-zero _); all_words = sym (ors-zero _) }

  -- no more than there are
  pub says-le : {p rows fixed word : ℕ} → Says q masks values words p rows fixed word → rows ≤ p
  says-le {p} {rows} {fixed} {word} s = omega (arith, s.some-rows, count-le (meets_at q masks values) p)

  module _ {p rows fixed word rows' fixed' word' : ℕ} (s : Says q masks values words p rows fixed word) where
    -- a row that meets the region
    pub says-met : meets_at q masks values p ≡ true → rows' ≡ rows + 1 → fixed' ≡ bit_or fixed (at masks p)
        → word' ≡ bit_or word (at words p) → Says q masks values words (p + 1) rows' fixed' word'
    says-met e a b c =
        record {
          some-rows = omega (arith, a, s.some-rows, count-more (meets_at q masks values) p, ap one e);
          all-fixed = b ∙ rw (s.all-fixed, ors-more (λ i. cond (meets_at q masks values i) (at masks i) 0) p, e);
          all_words = c ∙ rw (s.all_words, ors-more (λ i. cond (meets_at q masks values i) (at words i) 0) p, e);
        }

    -- one that does not
    pub says-unmet : meets_at q masks values p ≡ false → rows' ≡ rows → fixed' ≡ fixed → word' ≡ word
        → Says q masks values words (p + 1) rows' fixed' word'
    says-unmet e a b c =
        record {
          some-rows = omega (arith, a, s.some-rows, count-more (meets_at q masks values) p, ap one e);
          all-fixed = b ∙ s.all-fixed ∙ rw (ors-more (λ i. cond (meets_at q masks values i) (at masks i) 0) p, e) (sym (or_zero_r _));
          all_words = c ∙ s.all_words ∙ rw (ors-more (λ i. cond (meets_at q masks values i) (at words i) 0) p, e) (sym (or_zero_r _));
        }

-- what they say by the list
module _ (n : ℕ) (q : Row) (masks values words : List ℕ) (a : Sound n q)
    (sound : Every (Sound n) (rows_from (length masks) masks values words)) where
  long : length (rows_from (length masks) masks values words) ≡ length masks
  long = length-tab (length masks) (λ i. row (at masks i) (at values i) (at words i))

  here : (i : ℕ) → i < length masks → row_at (rows_from (length masks) masks values words) i ≡ row (at masks i) (at values i) (at words i)
  here i h = tab-at (length masks) (λ i. row (at masks i) (at values i) (at words i)) (row 0 0 0) i h

  meets-share : (i : ℕ) → i < length masks → share n q (row_at (rows_from (length masks) masks values words) i) ≡ meets_at q masks values i
  meets-share i h =
      share-closed n q (row_at (rows_from (length masks) masks values words) i) a (sound i (omega (arith, long)))
      ∙ ap (λ (r : Row). eqb (demanded q r) 0) (here i h)

  module _ {rows fixed word : ℕ} (s : Says q masks values words (length masks) rows fixed word) where
    pub says-rows : rows ≡ met n (rows_from (length masks) masks values words) q
    unfolding met
    says-rows =
        s.some-rows
        ∙ sym
        (ap (λ (p : ℕ). count (λ i. share n q (row_at (rows_from (length masks) masks values words) i)) p) long
        ∙ count-cong (λ i. share n q (row_at (rows_from (length masks) masks values words) i)) (meets_at q masks values) (length masks) meets-share)

    pub says-fixed : fixed ≡ met_fixed n (rows_from (length masks) masks values words) q
    unfolding met_fixed
    says-fixed =
        s.all-fixed
        ∙ sym
        (ap (λ (p : ℕ). ors (λ i. cond (share n q (row_at (rows_from (length masks) masks values words) i)) (row_at (rows_from (length masks) masks values words) i).mask 0) p) long
        ∙ ors-cong (λ i. cond (share n q (row_at (rows_from (length masks) masks values words) i)) (row_at (rows_from (length masks) masks values words) i).mask 0)
        (λ i. cond (meets_at q masks values i) (at masks i) 0) (length masks)
        (λ i h. ap₂ (λ (b : Bool) (r : Row). cond b r.mask 0) (meets-share i h) (here i h)))

    pub says-word : word ≡ met_word n (rows_from (length masks) masks values words) q
    unfolding met_word
    says-word =
        s.all_words
        ∙ sym
        (ap (λ (p : ℕ). ors (λ i. cond (share n q (row_at (rows_from (length masks) masks values words) i)) (row_at (rows_from (length masks) masks values words) i).word 0) p) long
        ∙ ors-cong (λ i. cond (share n q (row_at (rows_from (length masks) masks values words) i)) (row_at (rows_from (length masks) masks values words) i).word 0)
        (λ i. cond (meets_at q masks values i) (at words i) 0) (length masks)
        (λ i h. ap₂ (λ (b : Bool) (r : Row). cond b r.word 0) (meets-share i h) (here i h)))
