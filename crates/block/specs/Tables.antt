-- The operations on tables (01, Numbers that come back): for each its checks in their order, its answer and its results.
-- Assumes nothing.
use Rattle.std.specs.Prelude.{not, ◌||◌, List, [], ◌∷◌, ℕ, ◌^◌, eqb, ltb, ℤ, pos, length}
use Rattle.slices.specs.Places.{at, tab}
use Rattle.block.specs.Limits.{table_inputs}
use Rattle.block.specs.Words.{missing, of_table}
use Rattle.block.specs.Measure.{shift, measure}
use Rattle.block.specs.Basis.{apply, smaller_of}
use Rattle.block.specs.Refusals.{check, verdict, carried, outside, typed_checks, bad_entry, bad_number, malformed, dependent}
use Rattle.block.specs.declared.Answer.{Answer}
use Rattle.block.specs.declared.ValueAnswer.{ValueAnswer}
use Rattle.block.specs.declared.TableMethodAnswer.{TableMethodAnswer}

-- ---- a single shift value of a table of type y: 1, 2, 3 (y, t), 4, 6

unfoldable pub table_value_verdict : ℕ → ℕ → ℕ → ℕ → List ℕ → Answer
table_value_verdict n k y t table =
    verdict (typed_checks table_inputs n k y (
    check (not (ltb t (2 ^ n))) 3 0 0
    ∷ check (not (eqb (length table) (2 ^ n))) 4 0 0
    ∷ malformed 0 (bad_entry (missing y) k) table
    ∷ []))

-- an answer with a value
abbrev pub with_value : Answer → ℕ → ValueAnswer
with_value v x = record { number = v.number; a = v.a; b = v.b; value = carried v x }

unfoldable pub table_value : ℕ → ℕ → ℕ → ℕ → List ℕ → ValueAnswer
table_value n k y t table = with_value (table_value_verdict n k y t table) (shift (of_table table) n t)

-- ---- the table method: 1, 2, 3 (y, w), 4, 5, 6; roomT, roomSigma and roomTable are the lengths of the lent storage

unfoldable pub table_method_verdict : ℕ → ℕ → ℕ → ℕ → List ℕ → ℕ → ℕ → ℕ → Answer
table_method_verdict n k y w table roomT roomSigma roomTable =
    verdict (typed_checks table_inputs n k y (
    check (outside 1 n w) 3 0 0
    ∷ check (not (eqb (length table) (2 ^ n))) 4 0 0
    ∷ check (ltb roomT n || (ltb roomSigma n || ltb roomTable (2 ^ n))) 5 0 0
    ∷ malformed 0 (bad_entry (missing y) k) table
    ∷ []))

-- the table of the smaller block
unfoldable pub smaller_table : (ℕ → ℕ) → ℕ → ℕ → List ℕ
smaller_table f n w = tab (2 ^ n) (smaller_of f n w)

-- an answer with both measures
abbrev pub with_measures : Answer → ℕ → ℕ → TableMethodAnswer
with_measures v x y = record { number = v.number; a = v.a; b = v.b; before = carried v x; after = carried v y }

unfoldable pub table_method : ℕ → ℕ → ℕ → ℕ → List ℕ → ℕ → ℕ → ℕ → TableMethodAnswer
table_method n k y w table roomT roomSigma roomTable =
    with_measures (table_method_verdict n k y w table roomT roomSigma roomTable)
    (measure (of_table table) n) (measure (smaller_of (of_table table) n w) n)

-- ---- restoring a table from sigma and a smaller table: 1, 2, 3 (y), 4, 5, 6 (the matrix first), 8

unfoldable pub restore_verdict : ℕ → ℕ → ℕ → List ℕ → List ℕ → ℕ → Answer
restore_verdict n k y sigma table room =
    verdict (typed_checks table_inputs n k y (
    check (not (eqb (length sigma) n) || not (eqb (length table) (2 ^ n))) 4 0 0
    ∷ check (ltb room (2 ^ n)) 5 0 0
    ∷ malformed 1 (bad_number n) sigma
    ∷ malformed 0 (bad_entry (missing y) k) table
    ∷ check (ltb (dependent n (at sigma)) n) 8 (dependent n (at sigma)) 0
    ∷ []))

-- the block at x is the smaller block at sigma x
unfoldable pub restored : ℕ → List ℕ → List ℕ → List ℕ
restored n sigma table = tab (2 ^ n) (λ x. of_table table (apply (at sigma) n x))

-- ---- R at every t, by the spectrum (02, Ticket 5): 1, 2, 3 (y), 4, 5, 6; roomValues and roomWorking are the lengths of the lent storage
-- ("result room or lent signed working room below 2^n entries is 5")

unfoldable pub spectrum_verdict : ℕ → ℕ → ℕ → List ℕ → ℕ → ℕ → Answer
spectrum_verdict n k y table roomValues roomWorking =
    verdict (typed_checks table_inputs n k y (
    check (not (eqb (length table) (2 ^ n))) 4 0 0
    ∷ check (ltb roomValues (2 ^ n) || ltb roomWorking (2 ^ n)) 5 0 0
    ∷ malformed 0 (bad_entry (missing y) k) table
    ∷ []))

-- R at 0, 1, .. 2^n - 1 ("the same R at every t as the counting definition")
unfoldable pub shift_values : (ℕ → ℕ) → ℕ → List ℕ
shift_values f n = tab (2 ^ n) (shift f n)

-- the working entries at the end ("the 2^n working entries end at 0")
unfoldable pub working_end : ℕ → List ℤ
working_end n = tab (2 ^ n) (λ _. pos 0)
