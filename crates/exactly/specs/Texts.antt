-- 01's table for row text, written and read, with the type of 02: each operation's reasons, to hold beside 01, and that its answers are
-- given exactly so. Assumes nothing.
use Rattle.std.specs.Prelude.{◌≡◌, List, [], ◌∷◌, ℕ, ◌<◌, length}
use Rattle.std.proofs.Common.{arith}
use Rattle.block.specs.Limits.{list_inputs, outputs, given_rows, text_room}
use Rattle.block.specs.Words.{fr}
use Rattle.block.specs.Text.{write_verdict, inputs_in, outputs_in, count_in, read_verdict}
use Rattle.block.specs.declared.Row.{Row}
use Rattle.exactly.specs.General.{Reason, placed, plain, done, ◌also◌, Exactly, decided-exactly}
use Rattle.exactly.specs.Conditions.{lt-says, eq-says, and-says, plain-decided, OutOfRange, range-decided, typed_reasons, typed-decided, bad-row-decided}
use Rattle.exactly.specs.Forms.{FaultyHeading, heading-decided, FaultyBody, body-decided}
use Rattle.exactly.specs.Lists.{row_reason}

-- ---- writing

unfoldable pub write_reasons : ℕ → ℕ → ℕ → ℕ → List Row → ℕ → List Reason
write_reasons n k y z rs room =
    typed_reasons list_inputs n k y
    (plain 3 ((y ≡ fr) × (z ≡ 0))
    ∷ plain 4 (OutOfRange 1 given_rows (length rs))
    ∷ plain 5 (room < text_room)
    ∷ row_reason n k rs
    ∷ [])

pub write-exactly : (n k y z : ℕ) (rs : List Row) (room : ℕ) → Exactly (write_reasons n k y z rs room) (write_verdict n k y z rs room)
unfolding write_reasons write_verdict
write-exactly n k y z rs room =
    decided-exactly _ _
    (typed-decided list_inputs n k y
    (plain-decided 3 (λ e. omega arith) (and-says (eq-says y fr) (eq-says z 0))
    also range-decided 4 1 given_rows (length rs) (λ e. omega arith)
    also plain-decided 5 (λ e. omega arith) (lt-says room text_room)
    also bad-row-decided n k rs
    also done))

-- ---- reading: 10 for a heading; then 1, 2, 4 and 5, by the numbers that the headings say; then 10 for the body: the rows, ".e" and the
-- line after it

unfoldable pub read_reasons : List ℕ → ℕ → List Reason
read_reasons text room =
    placed 10 (λ a b. FaultyHeading text a × (b ≡ 0))
    ∷ plain 1 (OutOfRange 1 list_inputs (inputs_in text))
    ∷ plain 2 (OutOfRange 1 outputs (outputs_in text))
    ∷ plain 4 (OutOfRange 1 given_rows (count_in text))
    ∷ plain 5 (room < count_in text)
    ∷ placed 10 (λ a b. FaultyBody text a × (b ≡ 0))
    ∷ []

pub read-exactly : (text : List ℕ) (room : ℕ) → Exactly (read_reasons text room) (read_verdict text room)
unfolding read_reasons read_verdict
read-exactly text room =
    decided-exactly _ _
    (heading-decided text
    also range-decided 1 1 list_inputs (inputs_in text) (λ e. omega arith)
    also range-decided 2 1 outputs (outputs_in text) (λ e. omega arith)
    also range-decided 4 1 given_rows (count_in text) (λ e. omega arith)
    also plain-decided 5 (λ e. omega arith) (lt-says room (count_in text))
    also body-decided text
    also done)
