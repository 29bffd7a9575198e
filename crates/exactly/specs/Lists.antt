-- 01's table for the operations on lists of rows, the sheet among them, with the type of 02: each one's reasons, to hold beside 01, and
-- that its answers are given exactly so. Assumes nothing.
use Rattle.std.specs.Prelude.{◌≡◌, Bool, List, [], ◌∷◌, ◌++◌, ◌⊎◌, ℕ, ◌^◌, ◌≤◌, ◌<◌, length}
use Rattle.std.proofs.Common.{arith}
use Rattle.block.specs.Limits.{list_inputs, table_inputs, given_rows, smaller_rows, sheet_room}
use Rattle.block.specs.Words.{missing}
use Rattle.block.specs.Refusals.{Check, verdict, row_at}
use Rattle.block.specs.Lists.{row_checks, passing_check, row_value_verdict, method_checks, row_method_verdict, fill_verdict}
use Rattle.block.specs.Sheet.{sheet_verdict}
use Rattle.block.specs.declared.Row.{Row}
use Rattle.exactly.specs.General.{Reason, placed, plain, Decided, done, ◌also◌, Exactly, decided-exactly}
use Rattle.exactly.specs.Conditions.{
  Says,
  lt-says,
  ge-says,
  or-says,
  plain-decided,
  OutOfRange,
  range-decided,
  typed_reasons,
  typed-decided,
  Least,
  MalformedRow,
  bad-row-decided,
  FirstPair,
  pair-decided,
  ZeroColumn,
  undriven-decided,
  FirstPassing,
  passing-decided,
}

-- ---- the reasons that several operations share

-- 6: the least malformed row
abbrev pub row_reason : ℕ → ℕ → List Row → Reason
row_reason n k rs = placed 6 (λ a b. (a ≡ 0) × Least (length rs) (λ i. MalformedRow n k (row_at rs i)) b)

-- what every operation asks of its rows: 6, 7, 11 (02, Ticket 8)
abbrev pub row_reasons : ℕ → ℕ → List Row → List Reason → List Reason
row_reasons n k rs rest =
    row_reason n k rs ∷ placed 7 (FirstPair n rs) ∷ placed 11 (λ a b. Least k (ZeroColumn rs) a × (b ≡ 0)) ∷ rest

pub rows-decided : {cs : List Check} {rest : List Reason} (n k : ℕ) (rs : List Row) → Decided cs rest
    → Decided (row_checks n k rs ++ cs) (row_reasons n k rs rest)
rows-decided n k rs d = bad-row-decided n k rs also pair-decided n rs also undriven-decided k rs also d

-- ---- a single shift value

unfoldable pub row_value_reasons : ℕ → ℕ → ℕ → ℕ → List Row → List Reason
row_value_reasons n k y t rs =
    typed_reasons list_inputs n k y
    (plain 3 (2 ^ n ≤ t)
    ∷ plain 4 (OutOfRange 1 given_rows (length rs))
    ∷ row_reasons n k rs [])

pub row-value-exactly : (n k y t : ℕ) (rs : List Row) → Exactly (row_value_reasons n k y t rs) (row_value_verdict n k y t rs)
unfolding row_value_reasons row_value_verdict
row-value-exactly n k y t rs =
    decided-exactly _ _
    (typed-decided list_inputs n k y
    (plain-decided 3 (λ e. omega arith) (ge-says t (2 ^ n))
    also range-decided 4 1 given_rows (length rs) (λ e. omega arith)
    also bad-row-decided n k rs also pair-decided n rs also undriven-decided k rs also done))

-- ---- the row method and the sheet, which differ in the room: `Short` says that it is too short

unfoldable pub method_reasons : ℕ → ℕ → ℕ → ℕ → List Row → Type 0 → List Reason
method_reasons n k y w rs Short =
    typed_reasons list_inputs n k y
    (plain 3 (OutOfRange 1 n w)
    ∷ plain 4 (OutOfRange 1 given_rows (length rs))
    ∷ plain 5 Short
    ∷ row_reasons n k rs
    (placed 9 (λ a b. FirstPassing (missing y) n w rs a × (b ≡ 0))
    ∷ []))

-- where it is decided what is asked of the rows: each theorem below decides it itself, so that a wrong table is refused there
method-given : (n k y w : ℕ) (rs : List Row) (short : Bool) (Short : Type 0) → Says short Short
    → Decided (row_checks n k rs ++ (passing_check (missing y) n w rs ∷ [])) (row_reasons n k rs (placed 9 (λ a b. FirstPassing (missing y) n w rs a × (b ≡ 0)) ∷ []))
    → Exactly (method_reasons n k y w rs Short) (verdict (method_checks n k y w rs short))
unfolding method_reasons method_checks
method-given n k y w rs short Short s d =
    decided-exactly _ _
    (typed-decided list_inputs n k y
    (range-decided 3 1 n w (λ e. omega arith)
    also range-decided 4 1 given_rows (length rs) (λ e. omega arith)
    also plain-decided 5 (λ e. omega arith) s
    also d))

method-exactly : (n k y w : ℕ) (rs : List Row) (short : Bool) (Short : Type 0) → Says short Short
    → Exactly (method_reasons n k y w rs Short) (verdict (method_checks n k y w rs short))
method-exactly n k y w rs short Short s =
    method-given n k y w rs short Short s
    (bad-row-decided n k rs also pair-decided n rs also undriven-decided k rs also passing-decided (missing y) n w rs also done)

pub row-method-exactly : (n k y w : ℕ) (rs : List Row) (roomT roomSigma roomRows : ℕ)
    → Exactly (method_reasons n k y w rs ((roomT < n) ⊎ ((roomSigma < n) ⊎ (roomRows < smaller_rows)))) (row_method_verdict n k y w rs roomT roomSigma roomRows)
unfolding row_method_verdict
row-method-exactly n k y w rs roomT roomSigma roomRows =
    method-given n k y w rs _ _ (or-says (lt-says roomT n) (or-says (lt-says roomSigma n) (lt-says roomRows smaller_rows)))
    (bad-row-decided n k rs also pair-decided n rs also undriven-decided k rs also passing-decided (missing y) n w rs also done)

pub sheet-exactly : (n k y w : ℕ) (rs : List Row) (room : ℕ) → Exactly (method_reasons n k y w rs (room < sheet_room)) (sheet_verdict n k y w rs room)
unfolding sheet_verdict
sheet-exactly n k y w rs room =
    method-given n k y w rs _ _ (lt-says room sheet_room)
    (bad-row-decided n k rs also pair-decided n rs also undriven-decided k rs also passing-decided (missing y) n w rs also done)

-- ---- filling a table

unfoldable pub fill_reasons : ℕ → ℕ → ℕ → List Row → ℕ → List Reason
fill_reasons n k y rs room =
    typed_reasons table_inputs n k y
    (plain 4 (OutOfRange 1 smaller_rows (length rs))
    ∷ plain 5 (room < 2 ^ n)
    ∷ row_reasons n k rs [])

pub fill-exactly : (n k y : ℕ) (rs : List Row) (room : ℕ) → Exactly (fill_reasons n k y rs room) (fill_verdict n k y rs room)
unfolding fill_reasons fill_verdict
fill-exactly n k y rs room =
    decided-exactly _ _
    (typed-decided table_inputs n k y
    (range-decided 4 1 smaller_rows (length rs) (λ e. omega arith)
    also plain-decided 5 (λ e. omega arith) (lt-says room (2 ^ n))
    also bad-row-decided n k rs also pair-decided n rs also undriven-decided k rs also done))
