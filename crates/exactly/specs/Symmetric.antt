-- 01's table for the operations on symmetric blocks, with 02's 4 for the number of words: each one's reasons, to hold beside 02, and that its
-- answers are given exactly so. Assumes nothing.
use Rattle.std.specs.Prelude.{◌≡◌, List, [], ◌∷◌, ◌⊎◌, ℕ, ◌+◌, ◌^◌, ◌<◌, length}
use Rattle.std.proofs.Common.{arith}
use Rattle.block.specs.Limits.{table_inputs}
use Rattle.block.specs.Words.{missing}
use Rattle.block.specs.Refusals.{bad_entry}
use Rattle.block.specs.Symmetric.{symmetric_verdict, table_symmetric_verdict}
use Rattle.exactly.specs.General.{Reason, plain, done, ◌also◌, Exactly, decided-exactly}
use Rattle.exactly.specs.Conditions.{
  lt-says,
  ne-says,
  or-says,
  plain-decided,
  typed_reasons,
  typed-decided,
  MalformedEntry,
  entry-says,
  malformed-decided,
}
use Rattle.exactly.specs.Tables.{entry_reason}

-- ---- a symmetric block of these words: the place of a malformed word is its count of one-bits

unfoldable pub symmetric_reasons : ℕ → ℕ → ℕ → List ℕ → ℕ → ℕ → List Reason
symmetric_reasons n k y words roomTable roomSmaller =
    typed_reasons table_inputs n k y
    (plain 4 (length words ≡ n + 1 → ⊥)
    ∷ plain 5 ((roomTable < 2 ^ n) ⊎ (roomSmaller < 2 ^ n))
    ∷ entry_reason (missing y) k words
    ∷ [])

pub symmetric-exactly : (n k y : ℕ) (words : List ℕ) (roomTable roomSmaller : ℕ)
    → Exactly (symmetric_reasons n k y words roomTable roomSmaller) (symmetric_verdict n k y words roomTable roomSmaller)
unfolding symmetric_reasons symmetric_verdict
symmetric-exactly n k y words roomTable roomSmaller =
    decided-exactly _ _
    (typed-decided table_inputs n k y
    (plain-decided 4 (λ e. omega arith) (ne-says (length words) (n + 1))
    also plain-decided 5 (λ e. omega arith) (or-says (lt-says roomTable (2 ^ n)) (lt-says roomSmaller (2 ^ n)))
    also malformed-decided 0 (bad_entry (missing y) k) (MalformedEntry (missing y) k) words (entry-says (missing y) k)
    also done))

-- ---- whether a table is symmetric

unfoldable pub table_symmetric_reasons : ℕ → ℕ → ℕ → List ℕ → List Reason
table_symmetric_reasons n k y table =
    typed_reasons table_inputs n k y
    (plain 4 (length table ≡ 2 ^ n → ⊥)
    ∷ entry_reason (missing y) k table
    ∷ [])

pub table-symmetric-exactly : (n k y : ℕ) (table : List ℕ) → Exactly (table_symmetric_reasons n k y table) (table_symmetric_verdict n k y table)
unfolding table_symmetric_reasons table_symmetric_verdict
table-symmetric-exactly n k y table =
    decided-exactly _ _
    (typed-decided table_inputs n k y
    (plain-decided 4 (λ e. omega arith) (ne-says (length table) (2 ^ n))
    also malformed-decided 0 (bad_entry (missing y) k) (MalformedEntry (missing y) k) table (entry-says (missing y) k)
    also done))
