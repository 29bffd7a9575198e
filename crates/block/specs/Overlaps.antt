-- Lists that overlap on purpose (02, Ticket 10): the word of such a list at a point, regions of the space, the rows that a region gives; the
-- operation with its answer, and what the program prints. A region is a row whose word says nothing. Not here: that the rows have these words
-- and share no point, which are laws. Assumes nothing.
use Rattle.std.specs.Prelude.{Bool, not, cond, ◌&&◌, List, [], ◌∷◌, ◌++◌, ℕ, zero, suc, ◌^◌, eqb, ltb, length, take}
use Rattle.std.specs.Int.Bits.{bit_or}
use Rattle.bits.specs.Digits.{bit}
use Rattle.sums.specs.Sums.{count}
use Rattle.block.specs.Limits.{list_inputs, given_rows, read_bytes}
use Rattle.block.specs.Words.{fr, fd, row, under}
use Rattle.block.specs.Rows.{half}
use Rattle.block.specs.Refusals.{Check, check, verdict, and_then, carried, size_checks, some, row_at, share}
use Rattle.block.specs.Lists.{count_check, bad_row_check}
use Rattle.block.specs.Text.{text_of, read_verdict, type_in, inputs_in, outputs_in, rows_in}
use Rattle.block.specs.Sheet.{or_refused}
use Rattle.block.specs.declared.Row.{Row}
use Rattle.block.specs.declared.Answer.{Answer}
use Rattle.block.specs.declared.DisjoinAnswer.{DisjoinAnswer}

-- ---- the block of an overlapping list

-- f 0 OR f 1 OR .. OR f (m - 1)
unfoldable pub ors : (ℕ → ℕ) → ℕ → ℕ
ors f zero = 0
ors f (suc m) = bit_or (ors f m) (f m)

-- "a point's word is then the OR of all rows over it": 0 where there is none
unfoldable pub or_at : List Row → ℕ → ℕ
or_at rs x = ors (λ i. cond (under (row_at rs i) x) (row_at rs i).word 0) (length rs)

-- ---- a region and the rows that meet it: they share a point with it

-- the region q lies inside the row r: each of its points lies under r
unfoldable pub lies_inside : ℕ → Row → Row → Bool
lies_inside n q r = not (some (2 ^ n) (λ x. under q x && not (under r x)))

-- how many rows meet the region
unfoldable pub met : ℕ → List Row → Row → ℕ
met n rs q = count (λ i. share n q (row_at rs i)) (length rs)

-- how many rows meet it that it does not lie inside
unfoldable pub crossed : ℕ → List Row → Row → ℕ
crossed n rs q = count (λ i. share n q (row_at rs i) && not (lies_inside n q (row_at rs i))) (length rs)

-- the OR of the words of the rows that meet it
unfoldable pub met_word : ℕ → List Row → Row → ℕ
met_word n rs q = ors (λ i. cond (share n q (row_at rs i)) (row_at rs i).word 0) (length rs)

-- input h is free in the region and "fixed in some row meeting it"
unfoldable pub undecided : ℕ → List Row → Row → ℕ → Bool
undecided n rs q h =
    eqb (bit q.mask h) 0 && some (length rs) (λ i. share n q (row_at rs i) && eqb (bit (row_at rs i).mask h) 1)

-- the greatest number below m that passes; 0 where none does
unfoldable pub greatest : ℕ → (ℕ → Bool) → ℕ
greatest zero p = 0
greatest (suc m) p = cond (p m) m (greatest m p)

-- the input at which the region is halved: "its highest free input that is fixed in some row meeting it"
unfoldable pub cut : ℕ → List Row → Row → ℕ
cut n rs q = greatest n (undecided n rs q)

-- ---- what a region gives

-- "A region that no row meets gives nothing. One that lies inside every row meeting it gives one row with their OR." Any other gives what its
-- halves give
abbrev pub gives : ℕ → List Row → Row → List Row → List Row
gives n rs q halves =
    cond (eqb (met n rs q) 0) []
    (cond (eqb (crossed n rs q) 0) (row q.mask q.values (met_word n rs q) ∷ []) halves)

-- what a region with f free inputs gives, "0 half first". A half has one free input fewer, and a region with none is never halved
unfoldable pub pieces : ℕ → List Row → ℕ → Row → List Row
pieces n rs zero q = gives n rs q []
pieces n rs (suc f) q =
    gives n rs q (pieces n rs f (half (cut n rs q) 0 q) ++ pieces n rs f (half (cut n rs q) 1 q))

-- how many of the n inputs are free in the region
unfoldable pub free_inputs : ℕ → Row → ℕ
free_inputs n q = count (λ i. eqb (bit q.mask i) 0) n

unfoldable pub region_rows : ℕ → List Row → Row → List Row
region_rows n rs q = pieces n rs (free_inputs n q) q

abbrev pub whole_space : Row
whole_space = row 0 0 0

-- the disjoint list: "Begin with the whole space."
unfoldable pub disjoined : ℕ → List Row → List Row
disjoined n rs = region_rows n rs whole_space

-- ---- the operation on a list: 1, 2, 4, 5 (128 rows), 6, and last 14

-- the checks before 14, which needs the disjoint list
unfoldable pub disjoin_checked : ℕ → ℕ → List Row → ℕ → List Check
disjoin_checked n k rs room =
    size_checks list_inputs n k (count_check given_rows rs ∷ check (ltb room given_rows) 5 0 0 ∷ bad_row_check n k rs ∷ [])

-- 14: "where more than 128 rows would come out"
abbrev pub many_check : ℕ → List Row → Check
many_check n rs = check (ltb given_rows (length (disjoined n rs))) 14 0 0

unfoldable pub disjoin_verdict : ℕ → ℕ → List Row → ℕ → Answer
disjoin_verdict n k rs room = verdict (disjoin_checked n k rs room ++ (many_check n rs ∷ []))

-- an answer with the number of rows that come out
abbrev pub with_pieces : Answer → ℕ → DisjoinAnswer
with_pieces v c = record { number = v.number; a = v.a; b = v.b; count = carried v c }

unfoldable pub disjoin : ℕ → ℕ → List Row → ℕ → DisjoinAnswer
disjoin n k rs room = with_pieces (disjoin_verdict n k rs room) (length (disjoined n rs))

-- ---- the program with --disjoint: the disjoint list as row text, with the line ".type fd"

-- of a list of type y. The list that comes out is of type fd; under fr a missing point has no output, and would have word 0, so that fr is
-- refused: 3
unfoldable pub disjoin_typed_verdict : ℕ → ℕ → ℕ → List Row → Answer
disjoin_typed_verdict n k y rs = and_then (verdict (check (eqb y fr) 3 0 0 ∷ [])) (disjoin_verdict n k rs given_rows)

unfoldable pub printed_disjoint_of : ℕ → ℕ → ℕ → List Row → List ℕ
printed_disjoint_of n k y rs = or_refused (disjoin_typed_verdict n k y rs) (text_of n k fd 1 (disjoined n rs))

-- what is printed for the text read, at most 8,192 bytes of it
unfoldable pub printed_disjoint : List ℕ → List ℕ
printed_disjoint input =
    let text : List ℕ = take read_bytes input in
    or_refused (read_verdict text given_rows) (printed_disjoint_of (inputs_in text) (outputs_in text) (type_in text) (rows_in text))
