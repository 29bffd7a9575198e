-- What the verdicts of 0 say of a list whose rows lie in three flat slices, operation by operation: crate answered_laws has it of the
-- rows. Assumes nothing.
use Rattle.std.specs.Prelude.{◌≡◌, List, ℕ, ◌^◌, ◌≤◌, ◌<◌, length}
use Rattle.std.proofs.Common.{ap, arith, pow_mono}
use Rattle.slices.specs.Places.{at}
use Rattle.block.specs.Limits.{list_inputs, table_inputs, given_rows, smaller_rows}
use Rattle.block.specs.Words.{rows_of}
use Rattle.block.specs.Refusals.{row_at}
use Rattle.block.specs.Lists.{row_value_verdict, fill_verdict}
use Rattle.block.specs.Joins.{join_verdict}
use Rattle.block.specs.declared.Row.{Row}
use Rattle.block.specs.declared.Answer.{Answer}
use Rattle.refusal_laws.specs.Verdicts.{zero-too}
use Rattle.pair_laws.specs.Share.{good-word}
use Rattle.flat_rows.specs.Listing.{listed-rows, rows-count, row-at}
use Rattle.answered_laws.specs.Passed.{Passed, JoinPassed, value-passed, fill-passed, join-passed}

-- a single value
pub value-checked : (n k y t : ℕ) (masks values words : List ℕ) (v : Answer) → v ≡ row_value_verdict n k y t (rows_of masks values words)
    → v.number ≡ 0 → Passed list_inputs given_rows n k (rows_of masks values words) × (t < 2 ^ n)
value-checked n k y t masks values words v e h = value-passed n k y t (rows_of masks values words) (zero-too e h)

-- filling
pub fill-checked : (n k y : ℕ) (masks values words : List ℕ) (room : ℕ) (v : Answer)
    → v ≡ fill_verdict n k y (rows_of masks values words) room → v.number ≡ 0
    → Passed table_inputs smaller_rows n k (rows_of masks values words) × (2 ^ n ≤ room)
fill-checked n k y masks values words room v e h =
    fill-passed n k y (rows_of masks values words) room (zero-too e h)

-- joining
pub join-checked : (n k : ℕ) (masks values words : List ℕ) (v : Answer) → v ≡ join_verdict n k (rows_of masks values words) → v.number ≡ 0
    → JoinPassed n k (rows_of masks values words)
join-checked n k masks values words v e h = join-passed n k (rows_of masks values words) (zero-too e h)

-- each word is below 2^15, and so fits a table's entry
pub checked-words : (inputs most n k : ℕ) (masks values words : List ℕ) → Passed inputs most n k (rows_of masks values words)
    → (i : ℕ) → i < length words → at words i < 65536
checked-words inputs most n k masks values words p i h =
    let l = listed-rows most masks values words p.range.count in
    let c = rows-count masks values words l.values-too l.words-too in
    let r = row-at masks values words l.values-too l.words-too i (omega arith) in
    omega (
      arith,
      ap (λ (r : Row). r.word) r,
      good-word n k (row_at (rows_of masks values words) i) (p.good i (omega arith)),
      pow_mono p.range.columns.1,
    )
