-- Demand 2, the way back: where the table method answers, restoring with its sigma, its smaller table and the same type answers 0 and
-- returns the original table, entry by entry. That is so of any nonsingular matrix, of which the chosen one is the case. Assumes nothing.
use Rattle.std.specs.Prelude.{◌≡◌, refl, List, ℕ, ◌^◌, ◌≤◌, ◌<◌}
use Rattle.std.proofs.Math.Path.{sym, ap}
use Rattle.std.proofs.Common.{◌∙◌, arith}
use Rattle.std.proofs.Math.Bool.{false, not}
use borrow.Author.Tests.{lt-ltb, le-ltb, eq-eqb}
use Rattle.std.proofs.Math.ListN.{length}
use Rattle.std.proofs.Math.Seq.{ext_get_or}
use Rattle.slices.specs.Places.{at, tab}
use Rattle.slices.specs.Filled.{tab-at, length-tab, get_d_any}
use Rattle.block.specs.Limits.{table_inputs, outputs}
use Rattle.block.specs.Words.{none, fr, fd, missing, of_table}
use Rattle.block.specs.Basis.{columns, apply, inverse, smaller, basis_of, sigma_of, smaller_of}
use Rattle.block.specs.Refusals.{answer, outside, bad_entry, bad_number}
use Rattle.block.specs.Tables.{table_method_verdict, smaller_table, restore_verdict, restored}
use Rattle.matrix_laws.specs.Linear.{columns-lt, apply-lt}
use Rattle.matrix_laws.specs.Reached.{Independent}
use Rattle.matrix_laws.specs.Candidate.{basis-independent}
use Rattle.matrix_laws.specs.Inverse.{length-inverse, inverse-lt, columns-sigma, inverse-independent}
use Rattle.table_checks.specs.Passed.{method-passed, method-sizes, method-entries}
use Rattle.refusal_laws.specs.Verdicts.{verdict-miss, verdict-none, none_passes}

-- ---- any matrix T of n independent columns c

module _ (c : ℕ → ℕ) (n : ℕ) (i : Independent c n n) (table : List ℕ) (l : length table ≡ 2 ^ n) where
  -- the smaller table at z is the table at T z
  through-at : (z : ℕ) → z < 2 ^ n → of_table (tab (2 ^ n) (smaller (of_table table) c n)) z ≡ of_table table (columns c n z)
  through-at z h = tab-at (2 ^ n) _ none z h

  -- going back from the inverse and the smaller table gives the table
  pub restored-through : restored n (inverse c n) (tab (2 ^ n) (smaller (of_table table) c n)) ≡ table
  unfolding restored
  restored-through =
      ext_get_or none _ table (length-tab (2 ^ n) _ ∙ sym l)
      (λ x b.
      let h : x < 2 ^ n = rw (length-tab (2 ^ n)) at b in
      tab-at (2 ^ n) _ none x h
      ∙ through-at (apply (at (inverse c n)) n x) (apply-lt (at (inverse c n)) n x)
      ∙ ap (of_table table) (columns-sigma c n i x h))

  -- and restoring answers it, where the sizes and the entries are sound
  pub restoring-through : (k y room : ℕ)
      → (outside 1 table_inputs n ≡ false) × (outside 1 outputs k ≡ false) × (outside fr fd y ≡ false)
      → ((x : ℕ) → x < length table → bad_entry (missing y) k (at table x) ≡ false) → 2 ^ n ≤ room
      → restore_verdict n k y (inverse c n) (tab (2 ^ n) (smaller (of_table table) c n)) room ≡ answer 0 0 0
  unfolding restore_verdict
  restoring-through k y room sizes good r =
      let s = inverse c n in
      let small = tab (2 ^ n) (smaller (of_table table) c n) in
      let entry : (z : ℕ) → z < length small → bad_entry (missing y) k (at small z) ≡ false =
      λ z b.
      let h : z < 2 ^ n = rw (length-tab (2 ^ n)) at b in
      let within : columns c n z < length table = rw l (columns-lt c n n z i.below) in
      ap (bad_entry (missing y) k) (get_d_any small 0 none z b ∙ through-at z h ∙ get_d_any table none 0 (columns c n z) within)
      ∙ good (columns c n z) within in
      verdict-miss _ _ sizes.0
      ∙ verdict-miss _ _ sizes.1
      ∙ verdict-miss _ _ sizes.2
      ∙ verdict-miss _ _ (rw (eq-eqb (length s) n (length-inverse c n), eq-eqb (length small) (2 ^ n) (length-tab (2 ^ n) _)))
      ∙ verdict-miss _ _ (le-ltb room (2 ^ n) r)
      ∙ verdict-miss _ _
      (none_passes (length s) (λ j. bad_number n (at s j))
      (λ j b. ap not (lt-ltb (at s j) (2 ^ n) (inverse-lt c n i j (rw (length-inverse c n) at b)))))
      ∙ verdict-miss _ _ (none_passes (length small) (λ z. bad_entry (missing y) k (at small z)) entry)
      ∙ verdict-miss _ _ (le-ltb _ n (rw (inverse-independent c n i) (omega arith)))
      ∙ verdict-none

-- ---- the chosen matrix

-- going back from sigma and the smaller table of any table gives the table
pub restored_same : (n w : ℕ) (table : List ℕ) → 1 ≤ w → length table ≡ 2 ^ n
    → restored n (sigma_of (of_table table) n w) (smaller_table (of_table table) n w) ≡ table
unfolding sigma_of smaller_table smaller_of
restored_same n w table hw e = restored-through (at (basis_of (of_table table) n w)) n (basis-independent (of_table table) n w hw) table e

-- and restoring answers it
pub restoring-answers : (n k y w : ℕ) (table : List ℕ) (roomT roomSigma roomTable room : ℕ)
    → (table_method_verdict n k y w table roomT roomSigma roomTable).number ≡ 0 → 2 ^ n ≤ room
    → (restore_verdict n k y (sigma_of (of_table table) n w) (smaller_table (of_table table) n w) room ≡ answer 0 0 0)
    × (restored n (sigma_of (of_table table) n w) (smaller_table (of_table table) n w) ≡ table)
unfolding sigma_of smaller_table smaller_of
restoring-answers n k y w table roomT roomSigma roomTable room h r =
    let p = method-passed n k y w table roomT roomSigma roomTable _ refl h in
    let independent = basis-independent (of_table table) n w p.least in (
      restoring-through (at (basis_of (of_table table) n w)) n independent table p.entries k y room
          (method-sizes n k y w table roomT roomSigma roomTable _ refl h) (method-entries n k y w table roomT roomSigma roomTable _ refl h) r,
      restored-through (at (basis_of (of_table table) n w)) n independent table p.entries,
    )
