-- 01's table for joining (02, Ticket 9: "Refusals: 1, 2, 4 with the limit 512, 6, 7"): the lines, to hold beside 02, and that its answers are
-- given exactly so. Assumes nothing.
use Rattle.std.specs.Prelude.{List, [], ◌∷◌, ℕ, length}
use Rattle.std.proofs.Common.{arith}
use Rattle.block.specs.Limits.{list_inputs, outputs, smaller_rows}
use Rattle.block.specs.Joins.{join_verdict}
use Rattle.block.specs.declared.Row.{Row}
use Rattle.exactly.specs.General.{Reason, placed, plain, done, ◌also◌, Exactly, decided-exactly}
use Rattle.exactly.specs.Conditions.{OutOfRange, range-decided, bad-row-decided, FirstPair, pair-decided}
use Rattle.exactly.specs.Lists.{row_reason}

unfoldable pub join_lines : ℕ → ℕ → List Row → List Reason
join_lines n k rs =
    plain 1 (OutOfRange 1 list_inputs n)
    ∷ plain 2 (OutOfRange 1 outputs k)
    ∷ plain 4 (OutOfRange 1 smaller_rows (length rs))
    ∷ row_reason n k rs
    ∷ placed 7 (FirstPair n rs)
    ∷ []

pub join-exactly : (n k : ℕ) (rs : List Row) → Exactly (join_lines n k rs) (join_verdict n k rs)
unfolding join_lines join_verdict
join-exactly n k rs =
    decided-exactly _ _
    (range-decided 1 1 list_inputs n (λ e. omega arith)
    also range-decided 2 1 outputs k (λ e. omega arith)
    also range-decided 4 1 smaller_rows (length rs) (λ e. omega arith)
    also bad-row-decided n k rs
    also pair-decided n rs
    also done)
