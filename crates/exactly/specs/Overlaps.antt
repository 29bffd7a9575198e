-- 01's table for disjoining (02, Ticket 10: "1, 2, 4 and 6 as for lists, lent room below 128 rows is 5, and where more than 128 rows would come out
-- 14, after 6"): the lines, to hold beside 02, and that its answers are given exactly so. 7 is not among them. Assumes nothing.
use Rattle.std.specs.Prelude.{List, [], ◌∷◌, ℕ, ◌<◌, length}
use Rattle.std.proofs.Common.{arith}
use Rattle.block.specs.Limits.{list_inputs, outputs, given_rows}
use Rattle.block.specs.Overlaps.{disjoined, disjoin_checked, disjoin_verdict}
use Rattle.block.specs.declared.Row.{Row}
use Rattle.exactly.specs.General.{Reason, plain, done, ◌also◌, Exactly, decided-exactly}
use Rattle.exactly.specs.Conditions.{lt-says, plain-decided, OutOfRange, range-decided, bad-row-decided}
use Rattle.exactly.specs.Lists.{row_reason}

unfoldable pub disjoin_lines : ℕ → ℕ → List Row → ℕ → List Reason
disjoin_lines n k rs room =
    plain 1 (OutOfRange 1 list_inputs n)
    ∷ plain 2 (OutOfRange 1 outputs k)
    ∷ plain 4 (OutOfRange 1 given_rows (length rs))
    ∷ plain 5 (room < given_rows)
    ∷ row_reason n k rs
    ∷ plain 14 (given_rows < length (disjoined n rs))
    ∷ []

pub disjoin-exactly : (n k : ℕ) (rs : List Row) (room : ℕ) → Exactly (disjoin_lines n k rs room) (disjoin_verdict n k rs room)
unfolding disjoin_lines disjoin_verdict disjoin_checked
disjoin-exactly n k rs room =
    decided-exactly _ _
    (range-decided 1 1 list_inputs n (λ e. omega arith)
    also range-decided 2 1 outputs k (λ e. omega arith)
    also range-decided 4 1 given_rows (length rs) (λ e. omega arith)
    also plain-decided 5 (λ e. omega arith) (lt-says room given_rows)
    also bad-row-decided n k rs
    also plain-decided 14 (λ e. omega arith) (lt-says given_rows (length (disjoined n rs)))
    also done)
