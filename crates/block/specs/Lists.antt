-- The operations on lists of rows (01, Numbers that come back): for each its checks in their order, its answer and its results.
-- Assumes nothing.
use Rattle.std.specs.Prelude.{Bool, not, ◌||◌, List, [], ◌∷◌, ◌++◌, map, ℕ, suc, ◌+◌, ◌^◌, ltb, length}
use Rattle.slices.specs.Places.{at, tab, first}
use Rattle.block.specs.Limits.{list_inputs, table_inputs, given_rows, smaller_rows}
use Rattle.block.specs.Words.{missing, of_rows, word_part}
use Rattle.block.specs.Measure.{shift, measure}
use Rattle.block.specs.Basis.{basis_of, smaller_of}
use Rattle.block.specs.Rows.{moved}
use Rattle.block.specs.Refusals.{Check, check, verdict, carried, outside, typed_checks, some, bad_row, row_at, second, sharing, undriven}
use Rattle.block.specs.Tables.{with_value}
use Rattle.block.specs.declared.Row.{Row}
use Rattle.block.specs.declared.Answer.{Answer}
use Rattle.block.specs.declared.ValueAnswer.{ValueAnswer}
use Rattle.block.specs.declared.RowMethodAnswer.{RowMethodAnswer}

-- 4: the number of rows
abbrev pub count_check : ℕ → List Row → Check
count_check most rs = check (outside 1 most (length rs)) 4 0 0

-- 6: the least malformed row
abbrev pub bad_row_check : ℕ → ℕ → List Row → Check
bad_row_check n k rs =
    check (some (length rs) (λ i. bad_row n k (row_at rs i))) 6 0 (first (length rs) (λ i. bad_row n k (row_at rs i)))

-- 7: the first pair of rows that share a point, smallest first row and then smallest second
abbrev pub share_check : ℕ → List Row → Check
share_check n rs = check (ltb (sharing n rs) (length rs)) 7 (sharing n rs) (second n rs (sharing n rs))

-- 11: the lowest output bit that none of a list's words drives (02, Ticket 8: "after 7 and before 9")
abbrev pub undriven_check : ℕ → List ℕ → Check
undriven_check k words = check (ltb (undriven k words) k) 11 (undriven k words) 0

-- what every operation that takes a list to work on asks of its rows, last of all but 9: 6, 7, 11
abbrev pub row_checks : ℕ → ℕ → List Row → List Check
row_checks n k rs = bad_row_check n k rs ∷ share_check n rs ∷ undriven_check k (map word_part rs) ∷ []

-- ---- a single shift value of a list of type y: 1, 2, 3 (y, t), 4, and its rows

unfoldable pub row_value_verdict : ℕ → ℕ → ℕ → ℕ → List Row → Answer
row_value_verdict n k y t rs =
    verdict (typed_checks list_inputs n k y (
    check (not (ltb t (2 ^ n))) 3 0 0
    ∷ count_check given_rows rs
    ∷ row_checks n k rs))

unfoldable pub row_value : ℕ → ℕ → ℕ → ℕ → List Row → ValueAnswer
row_value n k y t rs = with_value (row_value_verdict n k y t rs) (shift (of_rows (missing y) rs) n t)

-- ---- the row method: 1, 2, 3 (y, w), 4, 5, its rows, 9

-- the rows after the first i steps; m is the word of a missing point, here and below
unfoldable pub rows_after : ℕ → ℕ → ℕ → ℕ → List Row → List Row
rows_after m n w i rs = moved n (at (basis_of (of_rows m rs) n w)) i rs

-- 9: the least i with more than 512 rows after step i + 1; n where there is none
unfoldable pub passing : ℕ → ℕ → ℕ → List Row → ℕ
passing m n w rs = first n (λ i. ltb smaller_rows (length (rows_after m n w (suc i) rs)))

-- 9: the list passes 512 rows
abbrev pub passing_check : ℕ → ℕ → ℕ → List Row → Check
passing_check m n w rs = check (ltb (passing m n w rs) n) 9 (suc (passing m n w rs)) 0

-- the checks before 9, which needs the rows moved; `short` says that the lent room is too short
abbrev pub method_checked : ℕ → ℕ → ℕ → ℕ → List Row → Bool → List Check
method_checked n k y w rs short =
    typed_checks list_inputs n k y (
    check (outside 1 n w) 3 0 0
    ∷ count_check given_rows rs
    ∷ check short 5 0 0
    ∷ row_checks n k rs)

unfoldable pub method_checks : ℕ → ℕ → ℕ → ℕ → List Row → Bool → List Check
method_checks n k y w rs short = method_checked n k y w rs short ++ (passing_check (missing y) n w rs ∷ [])

-- the lent room: n numbers for each matrix, and 512 rows
unfoldable pub row_method_verdict : ℕ → ℕ → ℕ → ℕ → List Row → ℕ → ℕ → ℕ → Answer
row_method_verdict n k y w rs roomT roomSigma roomRows =
    verdict (method_checks n k y w rs (ltb roomT n || (ltb roomSigma n || ltb roomRows smaller_rows)))

-- the smaller rows; the points that they miss are those that the smaller block misses, and are of the same type
unfoldable pub smaller_list : ℕ → ℕ → ℕ → List Row → List Row
smaller_list m n w rs = rows_after m n w n rs

-- an answer with both measures and the number of rows
abbrev pub with_rows : Answer → ℕ → ℕ → ℕ → RowMethodAnswer
with_rows v x y c =
    record {
      number = v.number;
      a = v.a;
      b = v.b;
      before = carried v x;
      after = carried v y;
      count = carried v c;
    }

unfoldable pub row_method : ℕ → ℕ → ℕ → ℕ → List Row → ℕ → ℕ → ℕ → RowMethodAnswer
row_method n k y w rs roomT roomSigma roomRows =
    with_rows (row_method_verdict n k y w rs roomT roomSigma roomRows)
    (measure (of_rows (missing y) rs) n) (measure (smaller_of (of_rows (missing y) rs) n w) n) (length (smaller_list (missing y) n w rs))

-- ---- filling a table from rows: 1, 2, 3 (y), 4 (up to 512 rows), 5, and its rows

unfoldable pub fill_verdict : ℕ → ℕ → ℕ → List Row → ℕ → Answer
fill_verdict n k y rs room =
    verdict (typed_checks table_inputs n k y (
    count_check smaller_rows rs
    ∷ check (ltb room (2 ^ n)) 5 0 0
    ∷ row_checks n k rs))

-- 02, Ticket 2: under fd "filled tables hold 0 there"
unfoldable pub filled : ℕ → ℕ → List Row → List ℕ
filled m n rs = tab (2 ^ n) (of_rows m rs)
