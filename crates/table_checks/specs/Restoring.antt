-- The checks of restoring before 8, which needs the matrix worked through. Assumes nothing.
use Rattle.std.specs.Prelude.{not, ◌||◌, List, [], ◌∷◌, ℕ, ◌^◌, eqb, ltb, length}
use Rattle.block.specs.Limits.{table_inputs}
use Rattle.block.specs.Words.{missing}
use Rattle.block.specs.Refusals.{Check, check, typed_checks, bad_entry, bad_number, malformed}

-- restoring: 1, 2, 3 (y), 4, 5, 6 (the matrix first)
unfoldable pub restore_checked : ℕ → ℕ → ℕ → List ℕ → List ℕ → ℕ → List Check
restore_checked n k y sigma table room =
    typed_checks table_inputs n k y (
    check (not (eqb (length sigma) n) || not (eqb (length table) (2 ^ n))) 4 0 0
    ∷ check (ltb room (2 ^ n)) 5 0 0
    ∷ malformed 1 (bad_number n) sigma
    ∷ malformed 0 (bad_entry (missing y) k) table
    ∷ [])
