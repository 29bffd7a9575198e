-- What a verdict of 0 on a table says of the arguments, operation by operation. Assumes nothing.
use Rattle.std.specs.Prelude.{◌≡◌, false, not, List, ℕ, ◌+◌, ◌≤◌, ◌<◌, ◌^◌, eqb, ltb, length}
use Rattle.std.proofs.Math.Path.{refl}
use Rattle.std.proofs.Common.{arith}
use borrow.Author.Tests.{ltb-true, ltb-false, eqb-true, not-false}
use Rattle.slices.specs.Places.{at}
use Rattle.block.specs.Limits.{table_inputs, outputs}
use Rattle.block.specs.Words.{fr, fd, missing}
use Rattle.block.specs.Refusals.{verdict, outside, bad_entry, bad_number}
use Rattle.block.specs.Tables.{table_value_verdict, table_method_verdict, spectrum_verdict}
use Rattle.block.specs.Symmetric.{symmetric_verdict, table_symmetric_verdict}
use Rattle.block.specs.declared.Answer.{Answer}
use Rattle.shared_checks.specs.Sizes.{inside, or_left, or_right, long-enough, sizes-pass}
use Rattle.table_checks.specs.Restoring.{restore_checked}
use Rattle.refusal_laws.specs.Verdicts.{passes_none, zero-too, passes}

pub record ValuePassed (n k t : ℕ) (table : List ℕ) : Type 0 where
  pub inputs : n ≤ table_inputs
  pub asked : t < 2 ^ n
  pub entries : length table ≡ 2 ^ n

pub value-passed : (n k y t : ℕ) (table : List ℕ) (v : Answer) → v ≡ table_value_verdict n k y t table → v.number ≡ 0
    → ValuePassed n k t table
unfolding table_value_verdict
value-passed n k y t table v e h =
    let sizes = sizes-pass table_inputs n k y _ (zero-too e h) in
    let point = passes _ _ refl sizes.1 in
    let whole = passes _ _ refl point.1 in
    record {
      inputs = sizes.0.0.1;
      asked = ltb-true t (2 ^ n) (not-false (ltb t (2 ^ n)) point.0);
      entries = eqb-true (length table) (2 ^ n) (not-false (eqb (length table) (2 ^ n)) whole.0);
    }

pub record MethodPassed (n w : ℕ) (table : List ℕ) (roomT roomSigma roomTable : ℕ) : Type 0 where
  pub inputs : n ≤ table_inputs
  pub least : 1 ≤ w
  pub most : w ≤ n
  pub entries : length table ≡ 2 ^ n
  pub columns : n ≤ roomT
  pub rows : n ≤ roomSigma
  pub smaller : 2 ^ n ≤ roomTable

module _ (n k y w : ℕ) (table : List ℕ) (roomT roomSigma roomTable : ℕ) (v : Answer)
    (e : v ≡ table_method_verdict n k y w table roomT roomSigma roomTable) (h : v.number ≡ 0) where
  pub method-passed : MethodPassed n w table roomT roomSigma roomTable
  unfolding table_method_verdict
  method-passed =
      let sizes = sizes-pass table_inputs n k y _ (zero-too e h) in
      let weight = passes _ _ refl sizes.1 in
      let whole = passes _ _ refl weight.1 in
      let lent = passes _ _ refl whole.1 in
      let light = inside 1 n w weight.0 in
      let room = long-enough n (2 ^ n) roomT roomSigma roomTable lent.0 in
      record {
        inputs = sizes.0.0.1;
        least = light.0;
        most = light.1;
        entries = eqb-true (length table) (2 ^ n) (not-false (eqb (length table) (2 ^ n)) whole.0);
        columns = room.0;
        rows = room.1;
        smaller = room.2;
      }

  -- n, k and the type were in their ranges
  pub method-sizes : (outside 1 table_inputs n ≡ false) × (outside 1 outputs k ≡ false) × (outside fr fd y ≡ false)
  unfolding table_method_verdict
  method-sizes =
      let one = passes _ _ refl (zero-too e h) in
      let two = passes _ _ refl one.1 in
      (one.0, two.0, (passes _ _ refl two.1).0)

  -- no entry was malformed
  pub method-entries : (i : ℕ) → i < length table → bad_entry (missing y) k (at table i) ≡ false
  unfolding table_method_verdict
  method-entries =
      let sizes = sizes-pass table_inputs n k y _ (zero-too e h) in
      let weight = passes _ _ refl sizes.1 in
      let whole = passes _ _ refl weight.1 in
      let lent = passes _ _ refl whole.1 in
      passes_none (length table) (λ i. bad_entry (missing y) k (at table i)) (passes _ _ refl lent.1).0

pub record SpectrumPassed (n : ℕ) (table : List ℕ) (roomValues roomWorking : ℕ) : Type 0 where
  pub inputs : n ≤ table_inputs
  pub entries : length table ≡ 2 ^ n
  pub values : 2 ^ n ≤ roomValues
  pub working : 2 ^ n ≤ roomWorking

pub spectrum-passed : (n k y : ℕ) (table : List ℕ) (roomValues roomWorking : ℕ) (v : Answer)
    → v ≡ spectrum_verdict n k y table roomValues roomWorking → v.number ≡ 0 → SpectrumPassed n table roomValues roomWorking
unfolding spectrum_verdict
spectrum-passed n k y table roomValues roomWorking v e h =
    let sizes = sizes-pass table_inputs n k y _ (zero-too e h) in
    let whole = passes _ _ refl sizes.1 in
    let lent = passes _ _ refl whole.1 in
    record {
      inputs = sizes.0.0.1;
      entries = eqb-true (length table) (2 ^ n) (not-false (eqb (length table) (2 ^ n)) whole.0);
      values = ltb-false roomValues (2 ^ n) (or_left (ltb roomValues (2 ^ n)) (ltb roomWorking (2 ^ n)) lent.0);
      working = ltb-false roomWorking (2 ^ n) (or_right (ltb roomValues (2 ^ n)) (ltb roomWorking (2 ^ n)) lent.0);
    }

pub record SymmetricPassed (n k y : ℕ) (words : List ℕ) (roomTable roomSmaller : ℕ) : Type 0 where
  pub sizes : (outside 1 table_inputs n ≡ false) × (outside 1 outputs k ≡ false) × (outside fr fd y ≡ false)
  pub least : 1 ≤ n
  pub inputs : n ≤ table_inputs
  pub counts : length words ≡ n + 1
  pub table : 2 ^ n ≤ roomTable
  pub smaller : 2 ^ n ≤ roomSmaller
  pub good : (i : ℕ) → i < length words → bad_entry (missing y) k (at words i) ≡ false

pub symmetric-passed : (n k y : ℕ) (words : List ℕ) (roomTable roomSmaller : ℕ) (v : Answer)
    → v ≡ symmetric_verdict n k y words roomTable roomSmaller → v.number ≡ 0 → SymmetricPassed n k y words roomTable roomSmaller
unfolding symmetric_verdict
symmetric-passed n k y words roomTable roomSmaller v e h =
    let one = passes _ _ refl (zero-too e h) in
    let two = passes _ _ refl one.1 in
    let three = passes _ _ refl two.1 in
    let whole = passes _ _ refl three.1 in
    let lent = passes _ _ refl whole.1 in
    let range = inside 1 table_inputs n one.0 in
    record {
      sizes = (one.0, two.0, three.0);
      least = range.0;
      inputs = range.1;
      counts = eqb-true (length words) (n + 1) (not-false (eqb (length words) (n + 1)) whole.0);
      table = ltb-false roomTable (2 ^ n) (or_left (ltb roomTable (2 ^ n)) (ltb roomSmaller (2 ^ n)) lent.0);
      smaller = ltb-false roomSmaller (2 ^ n) (or_right (ltb roomTable (2 ^ n)) (ltb roomSmaller (2 ^ n)) lent.0);
      good = passes_none (length words) (λ i. bad_entry (missing y) k (at words i)) (passes _ _ refl lent.1).0;
    }

pub record TableSymmetricPassed (n k y : ℕ) (table : List ℕ) : Type 0 where
  pub sizes : (outside 1 table_inputs n ≡ false) × (outside 1 outputs k ≡ false) × (outside fr fd y ≡ false)
  pub inputs : n ≤ table_inputs
  pub entries : length table ≡ 2 ^ n
  pub good : (i : ℕ) → i < length table → bad_entry (missing y) k (at table i) ≡ false

pub table-symmetric-passed : (n k y : ℕ) (table : List ℕ) (v : Answer) → v ≡ table_symmetric_verdict n k y table → v.number ≡ 0
    → TableSymmetricPassed n k y table
unfolding table_symmetric_verdict
table-symmetric-passed n k y table v e h =
    let one = passes _ _ refl (zero-too e h) in
    let two = passes _ _ refl one.1 in
    let three = passes _ _ refl two.1 in
    let whole = passes _ _ refl three.1 in
    record {
      sizes = (one.0, two.0, three.0);
      inputs = (inside 1 table_inputs n one.0).1;
      entries = eqb-true (length table) (2 ^ n) (not-false (eqb (length table) (2 ^ n)) whole.0);
      good = passes_none (length table) (λ i. bad_entry (missing y) k (at table i)) (passes _ _ refl whole.1).0;
    }

pub record RestorePassed (n : ℕ) (sigma table : List ℕ) (room : ℕ) : Type 0 where
  pub inputs : n ≤ table_inputs
  pub rows : length sigma ≡ n
  pub entries : length table ≡ 2 ^ n
  pub space : 2 ^ n ≤ room
  pub below : (j : ℕ) → j < n → at sigma j < 2 ^ n

pub restore-passed : (n k y : ℕ) (sigma table : List ℕ) (room : ℕ) (v : Answer)
    → v ≡ verdict (restore_checked n k y sigma table room) → v.number ≡ 0 → RestorePassed n sigma table room
unfolding restore_checked
restore-passed n k y sigma table room v e h =
    let sizes = sizes-pass table_inputs n k y _ (zero-too e h) in
    let whole = passes _ _ refl sizes.1 in
    let lent = passes _ _ refl whole.1 in
    let matrix = passes _ _ refl lent.1 in
    let rows : length sigma ≡ n =
    eqb-true (length sigma) n
    (not-false (eqb (length sigma) n) (or_left (not (eqb (length sigma) n)) (not (eqb (length table) (2 ^ n))) whole.0)) in
    record {
      inputs = sizes.0.0.1;
      rows = rows;
      entries =
          eqb-true (length table) (2 ^ n)
          (not-false (eqb (length table) (2 ^ n)) (or_right (not (eqb (length sigma) n)) (not (eqb (length table) (2 ^ n))) whole.0));
      space = ltb-false room (2 ^ n) lent.0;
      below =
          λ j b.
          ltb-true (at sigma j) (2 ^ n)
          (not-false (ltb (at sigma j) (2 ^ n)) (passes_none (length sigma) (λ i. bad_number n (at sigma i)) matrix.0 j (omega arith)));
    }
