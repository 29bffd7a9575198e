-- The sheet by what the row method leaves in working storage: where it answers 0, the text put from that storage is 01's sheet; where it
-- refuses, so does the sheet. Assumes nothing.
use Rattle.std.specs.Prelude.{◌≡◌, List, ℕ, ◌*◌, ◌^◌, ◌≤◌, ltb, length, take}
use Rattle.std.proofs.Math.Path.{sym}
use Rattle.std.proofs.Common.{ap, ◌∙◌, mul-le-mul, pow_mono}
use Rattle.std.proofs.Math.Nat.{zero-add}
use native.Mathlib.Omega.{arith}
use borrow.Author.Tests.{eq-eqb, ne_eqb, ltb-false}
use Rattle.sums.specs.Laws.{sum-le}
use Rattle.block.specs.Limits.{list_inputs, smaller_rows, sheet_room}
use Rattle.block.specs.Words.{missing, of_rows}
use Rattle.block.specs.Measure.{shift, measure}
use Rattle.block.specs.Basis.{basis_of, sigma_of, smaller_of}
use Rattle.block.specs.Refusals.{verdict, stored}
use Rattle.block.specs.Lists.{method_checks, smaller_list}
use Rattle.block.specs.Sheet.{sheet_of, sheet_text, sheet_verdict}
use Rattle.block.specs.declared.Row.{Row}
use Rattle.block.specs.declared.Answer.{Answer}
use Rattle.block.specs.declared.RowMethodAnswer.{RowMethodAnswer}
use Rattle.refusal_laws.specs.Verdicts.{carried-yes, stored-yes, stored_no}
use Rattle.answered_laws.specs.Passed.{MethodAnswered}
use Rattle.pair_laws.specs.Theorem.{shift_le}
use Rattle.matrix_laws.specs.Inverse.{length-basis, length-sigma}
use Rattle.flat_rows.specs.Listing.{rows_from}
use Rattle.put_bytes.specs.Puts.{Put, put-over}
use Rattle.row_work.specs.Method.{MethodDone}
use Rattle.row_work.specs.Left.{left-number, left-zero, left-ready, left-count, left-basis, left-sigma, left-rows}
use Rattle.put_sheet.specs.Length.{sheet-le}
use Rattle.sheet_work.specs.Work.{sheet_work}

-- a measure of a block with up to `most` inputs
pub measure-le : (most : ℕ) (f : ℕ → ℕ) (n : ℕ) → n ≤ most → measure f n ≤ most * 2 ^ most
unfolding measure
measure-le most f n h =
    omega (arith, sum-le (λ i. shift f n (2 ^ i)) (2 ^ n) n (λ i l. shift_le f n (2 ^ i)), mul-le-mul h (pow_mono h))

-- ---- the storage

-- a sheet of equal parts
same-sheet : (n k w : ℕ) {x x' y y' : ℕ} {cs cs' ss ss' : List ℕ} {rs rs' : List Row} → x ≡ x' → y ≡ y' → cs ≡ cs' → ss ≡ ss' → rs ≡ rs'
    → sheet_of n k w x y cs ss rs ≡ sheet_of n k w x' y' cs' ss' rs'
same-sheet n k w a b c d e = rw (a, b, c, d, e)

-- ---- the answer

module _ (n k y w : ℕ) (rs : List Row) (l t s m v d t' s' m' v' d' : List ℕ) (r : RowMethodAnswer)
    (g : MethodDone n k y w rs (ltb (length l) sheet_room) t s m v d t' s' m' v' d' r) where
  abbrev u : Answer
  u = verdict (method_checks n k y w rs (ltb (length l) sheet_room))

  -- a refusal
  pub sheet-refused : (r.number ≡ 0 → ⊥)
      → (record { number = r.number; a = r.a; b = r.b; before = 0; after = 0; rows = 0; count = 0 } ≡ sheet_work n k y w rs (length l))
      × (l ≡ stored (sheet_verdict n k y w rs (length l)) (sheet_text (missing y) n k w rs) l)
  unfolding sheet_work sheet_verdict
  sheet-refused h =
      let z : u.number ≡ 0 → ⊥ = λ e. h (left-number g ∙ e) in
      (rw (g.answers, ne_eqb u.number 0 z), sym (stored_no u (sheet_text (missing y) n k w rs) l z))

  module _ (h : r.number ≡ 0) where
    zero : u.number ≡ 0
    zero = left-zero g h

    -- what the answer of 0 says of the list
    pub sheet-ready : MethodAnswered n k y w rs (ltb (length l) sheet_room)
    sheet-ready = left-ready g h

    inputs : n ≤ list_inputs
    inputs = sheet-ready.passed.list.range.size.1

    pub sheet-enough : sheet_room ≤ length l
    sheet-enough = ltb-false (length l) sheet_room sheet-ready.passed.room

    earlier : r.before ≡ measure (of_rows (missing y) rs) n
    earlier = ap (λ (x : RowMethodAnswer). x.before) g.answers ∙ carried-yes u (measure (of_rows (missing y) rs) n) zero

    later : r.after ≡ measure (smaller_of (of_rows (missing y) rs) n w) n
    later = ap (λ (x : RowMethodAnswer). x.after) g.answers ∙ carried-yes u (measure (smaller_of (of_rows (missing y) rs) n w) n) zero

    text : sheet_of n k w r.before r.after (take n t') (take n s') (rows_from r.count m' v' d') ≡ sheet_text (missing y) n k w rs
    unfolding sheet_text
    text = same-sheet n k w earlier later (left-basis g h) (left-sigma g h) (left-rows g h)

    text-le : length (sheet_text (missing y) n k w rs) ≤ length l
    unfolding sheet_text
    text-le =
        omega (
          arith,
          sheet-le n k w _ _ (basis_of (of_rows (missing y) rs) n w) (sigma_of (of_rows (missing y) rs) n w) (smaller_list (missing y) n w rs) inputs
              sheet-ready.passed.list.range.columns.1
              (omega (arith, inputs, sheet-ready.passed.weight.1))
              (measure-le list_inputs (of_rows (missing y) rs) n inputs)
              (measure-le list_inputs (smaller_of (of_rows (missing y) rs) n w) n inputs)
              (length-basis (of_rows (missing y) rs) n w)
              (length-sigma (of_rows (missing y) rs) n w)
              sheet-ready.few,
          sheet-enough,
        )

    -- the room is long enough for the sheet put from the storage, which has so many rows
    pub sheet-room : (length (sheet_of n k w r.before r.after (take n t') (take n s') (rows_from r.count m' v' d')) ≤ length l) × (r.count ≤ 512)
    sheet-room = (rw text text-le, rw (left-count g h) sheet-ready.few)

    -- the sheet put from the storage is 01's
    pub sheet-answered : (l' : List ℕ) (c : ℕ)
        → Put l 0 (sheet_of n k w r.before r.after (take n t') (take n s') (rows_from r.count m' v' d')) l' c
        → (record { number = r.number; a = r.a; b = r.b; before = r.before; after = r.after; rows = r.count; count = c } ≡ sheet_work n k y w rs (length l))
        × (l' ≡ stored (sheet_verdict n k y w rs (length l)) (sheet_text (missing y) n k w rs) l)
    unfolding sheet_work sheet_verdict
    sheet-answered l' c p =
        let q : Put l 0 (sheet_text (missing y) n k w rs) l' c = rw text at p in (
          rw (g.answers, eq-eqb u.number 0 zero, q.place ∙ zero-add (length (sheet_text (missing y) n k w rs))),
          put-over text-le q ∙ sym (stored-yes u (sheet_text (missing y) n k w rs) l zero),
        )
