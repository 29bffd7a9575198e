-- 01's table for why a number was not taken (02, Ticket 7: "as for single values and for the row method, in 01's order, without 9"): the
-- lines, to hold beside 01, and that its answers are given exactly so. Which of the four reasons it gives, and when, is a theorem of crate
-- demands. Assumes nothing.
use Rattle.std.specs.Prelude.{List, [], ◌∷◌, ℕ, ◌^◌, ◌≤◌, length}
use Rattle.std.proofs.Common.{arith}
use Rattle.block.specs.Limits.{list_inputs, given_rows}
use Rattle.block.specs.Reasons.{why_verdict}
use Rattle.block.specs.declared.Row.{Row}
use Rattle.exactly.specs.General.{Reason, plain, done, ◌also◌, Exactly, decided-exactly}
use Rattle.exactly.specs.Conditions.{ge-says, plain-decided, OutOfRange, range-decided, typed_reasons, typed-decided, bad-row-decided, pair-decided, undriven-decided}
use Rattle.exactly.specs.Lists.{row_reasons}

unfoldable pub why_lines : ℕ → ℕ → ℕ → ℕ → ℕ → List Row → List Reason
why_lines n k y w t rs =
    typed_reasons list_inputs n k y
    (plain 3 (OutOfRange 1 n w)
    ∷ plain 3 (2 ^ n ≤ t)
    ∷ plain 4 (OutOfRange 1 given_rows (length rs))
    ∷ row_reasons n k rs [])

pub why-exactly : (n k y w t : ℕ) (rs : List Row) → Exactly (why_lines n k y w t rs) (why_verdict n k y w t rs)
unfolding why_lines why_verdict
why-exactly n k y w t rs =
    decided-exactly _ _
    (typed-decided list_inputs n k y
    (range-decided 3 1 n w (λ e. omega arith)
    also plain-decided 3 (λ e. omega arith) (ge-says t (2 ^ n))
    also range-decided 4 1 given_rows (length rs) (λ e. omega arith)
    also bad-row-decided n k rs also pair-decided n rs also undriven-decided k rs also done))
