-- Joining rows afterwards (02, Ticket 9): when two rows are written as one, which pair is next, one join, all joins; the operation with its
-- answer, what the list's own storage holds at the end, and what the program prints. Not here: that the block is unchanged and no pair is
-- left, which are laws. Assumes nothing.
use Rattle.std.specs.Prelude.{Bool, cond, ◌&&◌, List, [], ◌∷◌, ◌++◌, ℕ, zero, suc, ◌-◌, eqb, ltb, length, set, take}
use Rattle.std.specs.Int.Bits.{bit_and, bit_xor}
use Rattle.std.specs.Int.Count.{ones}
use Rattle.slices.specs.Places.{tab, first}
use Rattle.block.specs.Limits.{list_inputs, given_rows, smaller_rows, read_bytes}
use Rattle.block.specs.Words.{row}
use Rattle.block.specs.Refusals.{verdict, carried, size_checks, row_at}
use Rattle.block.specs.Lists.{count_check, bad_row_check, share_check}
use Rattle.block.specs.Text.{text_of, read_verdict, type_line_in, type_in, inputs_in, outputs_in, rows_in}
use Rattle.block.specs.Sheet.{or_refused}
use Rattle.block.specs.declared.Row.{Row}
use Rattle.block.specs.declared.Answer.{Answer}
use Rattle.block.specs.declared.JoinAnswer.{JoinAnswer}

-- ---- two rows

-- "two rows have equal words, the same fixed inputs and values that differ in exactly one"
unfoldable pub joins : Row → Row → Bool
joins r s = eqb r.word s.word && (eqb r.mask s.mask && eqb (ones (bit_xor r.values s.values)) 1)

-- "the joined row": free at the input in which they differ
abbrev pub joined_row : Row → Row → Row
joined_row r s = row (bit_xor r.mask (bit_xor r.values s.values)) (bit_and r.values s.values) r.word

-- ---- "the pair with the smallest first and then smallest second row"

-- the least later row that row i joins; the number of rows where there is none
unfoldable pub mate : List Row → ℕ → ℕ
mate rs i = first (length rs) (λ j. ltb i j && joins (row_at rs i) (row_at rs j))

-- the least row that joins a later one; the number of rows where there is none
unfoldable pub joining : List Row → ℕ
joining rs = first (length rs) (λ i. ltb (mate rs i) (length rs))

-- some pair is left
abbrev pub pair_left : List Row → Bool
pair_left rs = ltb (joining rs) (length rs)

-- ---- "put the joined row in the first place and close up the second"

-- a list without its entry j: those behind it close up
unfoldable pub without {ℓ} : {A : Type ℓ} → ℕ → List A → List A
without j [] = []
without zero (x ∷ xs) = xs
without (suc j) (x ∷ xs) = x ∷ without j xs

-- rows i and j joined, in the place of i
unfoldable pub join_at : ℕ → ℕ → List Row → List Row
join_at i j rs = without j (set rs i (joined_row (row_at rs i) (row_at rs j)))

-- the next pair joined
unfoldable pub join_next : List Row → List Row
join_next rs = join_at (joining rs) (mate rs (joining rs)) rs

-- at most m joins, "while" some pair is left
unfoldable pub join_up_to : ℕ → List Row → List Row
join_up_to zero rs = rs
join_up_to (suc m) rs = cond (pair_left rs) (join_up_to m (join_next rs)) rs

-- all joins: each makes the list one row shorter, so there are no more than it has rows
unfoldable pub joined : List Row → List Row
joined rs = join_up_to (length rs) rs

-- ---- the operation on a list: 1, 2, 4 (up to 512 rows), 6, 7

unfoldable pub join_verdict : ℕ → ℕ → List Row → Answer
join_verdict n k rs =
    verdict (size_checks list_inputs n k (count_check smaller_rows rs ∷ bad_row_check n k rs ∷ share_check n rs ∷ []))

-- an answer with a number of rows
abbrev pub with_count : Answer → ℕ → JoinAnswer
with_count v c = record { number = v.number; a = v.a; b = v.b; count = carried v c }

unfoldable pub join : ℕ → ℕ → List Row → JoinAnswer
join n k rs = with_count (join_verdict n k rs) (length (joined rs))

-- what lies in the list's place at the end: the joined rows, and "the freed room at the end .., each freed record being all zeros"
unfoldable pub joined_room : List Row → List Row
joined_room rs = joined rs ++ tab (length rs - length (joined rs)) (λ _. row 0 0 0)

-- ---- the program with --join: the joined rows as row text, with the type line where it stood

-- what is printed for a list of type y; z is 0 where the type line did not stand
unfoldable pub printed_join_of : ℕ → ℕ → ℕ → ℕ → List Row → List ℕ
printed_join_of n k y z rs = or_refused (join_verdict n k rs) (text_of n k y z (joined rs))

-- what is printed for the text read, at most 8,192 bytes of it
unfoldable pub printed_join : List ℕ → List ℕ
printed_join input =
    let text : List ℕ = take read_bytes input in
    or_refused (read_verdict text given_rows)
    (printed_join_of (inputs_in text) (outputs_in text) (type_in text) (type_line_in text) (rows_in text))
