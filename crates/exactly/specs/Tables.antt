-- 01's table for the operations on tables, with the type of 02: each one's reasons, to hold beside 01, and that its answers are given
-- exactly so. Assumes nothing.
use Rattle.std.specs.Prelude.{◌≡◌, List, [], ◌∷◌, ◌⊎◌, ℕ, ◌^◌, ◌≤◌, ◌<◌, length}
use Rattle.std.proofs.Common.{arith}
use Rattle.slices.specs.Places.{at}
use Rattle.block.specs.Limits.{table_inputs}
use Rattle.block.specs.Words.{missing}
use Rattle.block.specs.Refusals.{bad_entry, bad_number}
use Rattle.block.specs.Tables.{table_value_verdict, table_method_verdict, restore_verdict, spectrum_verdict}
use Rattle.exactly.specs.General.{Reason, placed, plain, done, ◌also◌, Exactly, decided-exactly}
use Rattle.exactly.specs.Conditions.{
  lt-says,
  ge-says,
  ne-says,
  or-says,
  plain-decided,
  OutOfRange,
  range-decided,
  typed_reasons,
  typed-decided,
  Least,
  MalformedEntry,
  entry-says,
  MalformedNumber,
  number-says,
  malformed-decided,
  XorOfEarlier,
  dependent-decided,
}

-- ---- the reason that several operations share

-- 6: the least malformed table entry; m is the word of a missing point
abbrev pub entry_reason : ℕ → ℕ → List ℕ → Reason
entry_reason m k table = placed 6 (λ a b. (a ≡ 0) × Least (length table) (λ i. MalformedEntry m k (at table i)) b)

-- ---- a single shift value

unfoldable pub table_value_reasons : ℕ → ℕ → ℕ → ℕ → List ℕ → List Reason
table_value_reasons n k y t table =
    typed_reasons table_inputs n k y
    (plain 3 (2 ^ n ≤ t)
    ∷ plain 4 (length table ≡ 2 ^ n → ⊥)
    ∷ entry_reason (missing y) k table
    ∷ [])

pub table-value-exactly : (n k y t : ℕ) (table : List ℕ) → Exactly (table_value_reasons n k y t table) (table_value_verdict n k y t table)
unfolding table_value_reasons table_value_verdict
table-value-exactly n k y t table =
    decided-exactly _ _
    (typed-decided table_inputs n k y
    (plain-decided 3 (λ e. omega arith) (ge-says t (2 ^ n))
    also plain-decided 4 (λ e. omega arith) (ne-says (length table) (2 ^ n))
    also malformed-decided 0 (bad_entry (missing y) k) (MalformedEntry (missing y) k) table (entry-says (missing y) k)
    also done))

-- ---- the table method

unfoldable pub table_method_reasons : ℕ → ℕ → ℕ → ℕ → List ℕ → ℕ → ℕ → ℕ → List Reason
table_method_reasons n k y w table roomT roomSigma roomTable =
    typed_reasons table_inputs n k y
    (plain 3 (OutOfRange 1 n w)
    ∷ plain 4 (length table ≡ 2 ^ n → ⊥)
    ∷ plain 5 ((roomT < n) ⊎ ((roomSigma < n) ⊎ (roomTable < 2 ^ n)))
    ∷ entry_reason (missing y) k table
    ∷ [])

pub table-method-exactly : (n k y w : ℕ) (table : List ℕ) (roomT roomSigma roomTable : ℕ)
    → Exactly (table_method_reasons n k y w table roomT roomSigma roomTable) (table_method_verdict n k y w table roomT roomSigma roomTable)
unfolding table_method_reasons table_method_verdict
table-method-exactly n k y w table roomT roomSigma roomTable =
    decided-exactly _ _
    (typed-decided table_inputs n k y
    (range-decided 3 1 n w (λ e. omega arith)
    also plain-decided 4 (λ e. omega arith) (ne-says (length table) (2 ^ n))
    also plain-decided 5 (λ e. omega arith) (or-says (lt-says roomT n) (or-says (lt-says roomSigma n) (lt-says roomTable (2 ^ n))))
    also malformed-decided 0 (bad_entry (missing y) k) (MalformedEntry (missing y) k) table (entry-says (missing y) k)
    also done))

-- ---- restoring: the matrix is looked through for 6 before the table

unfoldable pub restore_reasons : ℕ → ℕ → ℕ → List ℕ → List ℕ → ℕ → List Reason
restore_reasons n k y sigma table room =
    typed_reasons table_inputs n k y
    (plain 4 ((length sigma ≡ n → ⊥) ⊎ (length table ≡ 2 ^ n → ⊥))
    ∷ plain 5 (room < 2 ^ n)
    ∷ placed 6 (λ a b. (a ≡ 1) × Least (length sigma) (λ i. MalformedNumber n (at sigma i)) b)
    ∷ entry_reason (missing y) k table
    ∷ placed 8 (λ a b. Least n (XorOfEarlier (at sigma)) a × (b ≡ 0))
    ∷ [])

pub restore-exactly : (n k y : ℕ) (sigma table : List ℕ) (room : ℕ) → Exactly (restore_reasons n k y sigma table room) (restore_verdict n k y sigma table room)
unfolding restore_reasons restore_verdict
restore-exactly n k y sigma table room =
    decided-exactly _ _
    (typed-decided table_inputs n k y
    (plain-decided 4 (λ e. omega arith) (or-says (ne-says (length sigma) n) (ne-says (length table) (2 ^ n)))
    also plain-decided 5 (λ e. omega arith) (lt-says room (2 ^ n))
    also malformed-decided 1 (bad_number n) (MalformedNumber n) sigma (number-says n)
    also malformed-decided 0 (bad_entry (missing y) k) (MalformedEntry (missing y) k) table (entry-says (missing y) k)
    also dependent-decided n (at sigma)
    also done))

-- ---- R at every t, by the spectrum

unfoldable pub spectrum_reasons : ℕ → ℕ → ℕ → List ℕ → ℕ → ℕ → List Reason
spectrum_reasons n k y table roomValues roomWorking =
    typed_reasons table_inputs n k y
    (plain 4 (length table ≡ 2 ^ n → ⊥)
    ∷ plain 5 ((roomValues < 2 ^ n) ⊎ (roomWorking < 2 ^ n))
    ∷ entry_reason (missing y) k table
    ∷ [])

pub spectrum-exactly : (n k y : ℕ) (table : List ℕ) (roomValues roomWorking : ℕ)
    → Exactly (spectrum_reasons n k y table roomValues roomWorking) (spectrum_verdict n k y table roomValues roomWorking)
unfolding spectrum_reasons spectrum_verdict
spectrum-exactly n k y table roomValues roomWorking =
    decided-exactly _ _
    (typed-decided table_inputs n k y
    (plain-decided 4 (λ e. omega arith) (ne-says (length table) (2 ^ n))
    also plain-decided 5 (λ e. omega arith) (or-says (lt-says roomValues (2 ^ n)) (lt-says roomWorking (2 ^ n)))
    also malformed-decided 0 (bad_entry (missing y) k) (MalformedEntry (missing y) k) table (entry-says (missing y) k)
    also done))
