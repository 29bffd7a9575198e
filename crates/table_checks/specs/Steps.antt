-- The verdicts on tables as their functions reach them: each step asks one more check of the answer so far. `size` is 2^n where n is in
-- range. Assumes nothing.
use Rattle.std.specs.Prelude.{◌≡◌, refl, Bool, not, ◌||◌, List, [], ◌∷◌, ℕ, ◌^◌, ◌≤◌, eqb, ltb, length}
use Rattle.std.proofs.Common.{ap, ◌∙◌, arith}
use Rattle.slices.specs.Places.{at, first}
use Rattle.block.specs.Limits.{list_inputs, table_inputs, outputs}
use Rattle.block.specs.Words.{missing}
use Rattle.block.specs.Refusals.{Check, check, verdict, and_then, outside, typed_checks, bad_entry, bad_number, malformed}
use Rattle.block.specs.Tables.{table_value_verdict, table_method_verdict}
use Rattle.block.specs.Symmetric.{table_symmetric_verdict}
use Rattle.block.specs.declared.Answer.{Answer}
use Rattle.refusal_laws.specs.Verdicts.{zero-too, then-answered, Asked, asked-then, asked-where}
use Rattle.shared_checks.specs.Sizes.{asked-sizes, sizes-pass}
use Rattle.table_checks.specs.Restoring.{restore_checked}

-- 6 in a list of numbers after an answer of 0, by the least malformed index
pub malformed-asked : (v r : Answer) (a i : ℕ) (bad : ℕ → Bool) (l : List ℕ) → v.number ≡ 0 → i ≡ first (length l) (λ j. bad (at l j))
    → r ≡ verdict (check (ltb i (length l)) 6 a i ∷ []) → r ≡ and_then v (verdict (malformed a bad l ∷ []))
malformed-asked v r a i bad l h e f =
    f ∙ ap (λ (i : ℕ). verdict (check (ltb i (length l)) 6 a i ∷ [])) e ∙ then-answered v _ h

module _ (n k y size : ℕ) (table : List ℕ) (power : n ≤ list_inputs → size ≡ 2 ^ n) where
  -- where the sizes and what follows them answer 0
  same_size : (cs : List Check) → (verdict (typed_checks table_inputs n k y cs)).number ≡ 0 → size ≡ 2 ^ n
  same_size cs h =
      let range = (sizes-pass table_inputs n k y cs h).0.0 in
      power (omega (arith, range.1))

  few-outputs : (cs : List Check) (v : Answer) → Asked (typed_checks table_inputs n k y cs) v → v.number ≡ 0 → k ≤ outputs
  few-outputs cs v p h = (sizes-pass table_inputs n k y cs (zero-too p.told h)).0.1.1

  -- ---- a single shift value

  module _ (t : ℕ) (sizes point whole : Answer) (first : sizes ≡ verdict (typed_checks table_inputs n k y []))
      (second : point ≡ and_then sizes (verdict (check (not (ltb t size)) 3 0 0 ∷ [])))
      (third : whole ≡ and_then point (verdict (check (not (eqb (length table) size)) 4 0 0 ∷ []))) where
    value-asked : Asked (typed_checks table_inputs n k y (check (not (ltb t (2 ^ n))) 3 0 0 ∷ check (not (eqb (length table) (2 ^ n))) 4 0 0 ∷ [])) whole
    value-asked =
        asked-where _ (not (eqb (length table) (2 ^ n))) 4 0 0 whole
        (asked-where _ (not (ltb t (2 ^ n))) 3 0 0 point (asked-sizes table_inputs n k y sizes first) refl second
        (λ h. ap (λ (p : ℕ). not (ltb t p)) (same_size [] h)))
        refl third (λ h. ap (λ (p : ℕ). not (eqb (length table) p)) (same_size _ h))

    pub value-outputs : whole.number ≡ 0 → k ≤ outputs
    value-outputs = few-outputs _ whole value-asked

    pub value-verdict : (v : Answer) → v ≡ and_then whole (verdict (malformed 0 (bad_entry (missing y) k) table ∷ [])) → v ≡ table_value_verdict n k y t table
    unfolding table_value_verdict
    value-verdict v e = (asked-then (malformed 0 (bad_entry (missing y) k) table ∷ []) v value-asked (refl, tt) e).told

  -- ---- the table method; `light` is the test of w, and `short` that of the rooms

  module _ (w roomT roomSigma roomTable : ℕ) (light short : Bool) (test : light ≡ outside 1 n w)
      (rooms : short ≡ ltb roomT n || (ltb roomSigma n || ltb roomTable size)) (sizes weight whole lent : Answer)
      (first : sizes ≡ verdict (typed_checks table_inputs n k y [])) (second : weight ≡ and_then sizes (verdict (check light 3 0 0 ∷ [])))
      (third : whole ≡ and_then weight (verdict (check (not (eqb (length table) size)) 4 0 0 ∷ [])))
      (fourth : lent ≡ and_then whole (verdict (check short 5 0 0 ∷ []))) where
    method-asked :
        Asked
        (typed_checks table_inputs n k y (
        check (outside 1 n w) 3 0 0
        ∷ check (not (eqb (length table) (2 ^ n))) 4 0 0
        ∷ check (ltb roomT n || (ltb roomSigma n || ltb roomTable (2 ^ n))) 5 0 0
        ∷ [])) lent
    method-asked =
        asked-where short (ltb roomT n || (ltb roomSigma n || ltb roomTable (2 ^ n))) 5 0 0 lent
        (asked-where _ (not (eqb (length table) (2 ^ n))) 4 0 0 whole
        (asked-where light (outside 1 n w) 3 0 0 weight (asked-sizes table_inputs n k y sizes first) refl second (λ h. test))
        refl third (λ h. ap (λ (p : ℕ). not (eqb (length table) p)) (same_size _ h)))
        refl fourth (λ h. rooms ∙ ap (λ (p : ℕ). ltb roomT n || (ltb roomSigma n || ltb roomTable p)) (same_size _ h))

    pub method-outputs : lent.number ≡ 0 → k ≤ outputs
    method-outputs = few-outputs _ lent method-asked

    pub method-verdict : (v : Answer) → v ≡ and_then lent (verdict (malformed 0 (bad_entry (missing y) k) table ∷ []))
        → v ≡ table_method_verdict n k y w table roomT roomSigma roomTable
    unfolding table_method_verdict
    method-verdict v e = (asked-then (malformed 0 (bad_entry (missing y) k) table ∷ []) v method-asked (refl, tt) e).told

  -- ---- 4, two rooms of 2^n entries and 6: the spectrum, and a symmetric block, whose list is that of its words; `off` is the test of the
  -- length, and `short` that of the rooms

  module _ (off wrong : Bool) (fits : size ≡ 2 ^ n → off ≡ wrong) (roomA roomB : ℕ) (short : Bool)
      (rooms : short ≡ ltb roomA size || ltb roomB size) (sizes whole lent : Answer) (first : sizes ≡ verdict (typed_checks table_inputs n k y []))
      (second : whole ≡ and_then sizes (verdict (check off 4 0 0 ∷ []))) (third : lent ≡ and_then whole (verdict (check short 5 0 0 ∷ []))) where
    rooms-asked :
        Asked (typed_checks table_inputs n k y (check wrong 4 0 0 ∷ check (ltb roomA (2 ^ n) || ltb roomB (2 ^ n)) 5 0 0 ∷ [])) lent
    rooms-asked =
        asked-where short (ltb roomA (2 ^ n) || ltb roomB (2 ^ n)) 5 0 0 lent
        (asked-where off wrong 4 0 0 whole (asked-sizes table_inputs n k y sizes first) refl second (λ h. fits (same_size [] h)))
        refl third (λ h. rooms ∙ ap (λ (p : ℕ). ltb roomA p || ltb roomB p) (same_size _ h))

    pub rooms-outputs : lent.number ≡ 0 → k ≤ outputs
    rooms-outputs = few-outputs _ lent rooms-asked

    pub rooms-verdict : (v : Answer) → v ≡ and_then lent (verdict (malformed 0 (bad_entry (missing y) k) table ∷ []))
        → v
        ≡ verdict (typed_checks table_inputs n k y (
        check wrong 4 0 0
        ∷ check (ltb roomA (2 ^ n) || ltb roomB (2 ^ n)) 5 0 0
        ∷ malformed 0 (bad_entry (missing y) k) table
        ∷ []))
    rooms-verdict v e = (asked-then (malformed 0 (bad_entry (missing y) k) table ∷ []) v rooms-asked (refl, tt) e).told

  -- ---- whether a table is symmetric

  module _ (sizes whole : Answer) (first : sizes ≡ verdict (typed_checks table_inputs n k y []))
      (second : whole ≡ and_then sizes (verdict (check (not (eqb (length table) size)) 4 0 0 ∷ []))) where
    symmetric-asked : Asked (typed_checks table_inputs n k y (check (not (eqb (length table) (2 ^ n))) 4 0 0 ∷ [])) whole
    symmetric-asked =
        asked-where _ (not (eqb (length table) (2 ^ n))) 4 0 0 whole
        (asked-sizes table_inputs n k y sizes first) refl second
        (λ h. ap (λ (p : ℕ). not (eqb (length table) p)) (same_size [] h))

    pub symmetric-outputs : whole.number ≡ 0 → k ≤ outputs
    symmetric-outputs = few-outputs _ whole symmetric-asked

    pub symmetric-verdict : (v : Answer) → v ≡ and_then whole (verdict (malformed 0 (bad_entry (missing y) k) table ∷ []))
        → v ≡ table_symmetric_verdict n k y table
    unfolding table_symmetric_verdict
    symmetric-verdict v e = (asked-then (malformed 0 (bad_entry (missing y) k) table ∷ []) v symmetric-asked (refl, tt) e).told

  -- ---- restoring before 8; `unfit` is the test of the two lengths

  module _ (sigma : List ℕ) (room : ℕ) (unfit : Bool) (test : unfit ≡ not (eqb (length sigma) n) || not (eqb (length table) size))
      (sizes whole lent : Answer) (first : sizes ≡ verdict (typed_checks table_inputs n k y []))
      (second : whole ≡ and_then sizes (verdict (check unfit 4 0 0 ∷ [])))
      (third : lent ≡ and_then whole (verdict (check (ltb room size) 5 0 0 ∷ []))) where
    restore-asked :
        Asked
        (typed_checks table_inputs n k y (
        check (not (eqb (length sigma) n) || not (eqb (length table) (2 ^ n))) 4 0 0
        ∷ check (ltb room (2 ^ n)) 5 0 0
        ∷ [])) lent
    restore-asked =
        asked-where _ (ltb room (2 ^ n)) 5 0 0 lent
        (asked-where unfit (not (eqb (length sigma) n) || not (eqb (length table) (2 ^ n))) 4 0 0 whole
        (asked-sizes table_inputs n k y sizes first) refl second
        (λ h. test ∙ ap (λ (p : ℕ). not (eqb (length sigma) n) || not (eqb (length table) p)) (same_size [] h)))
        refl third (λ h. ap (ltb room) (same_size _ h))

    pub restore-inputs : lent.number ≡ 0 → n ≤ list_inputs
    restore-inputs h = omega (arith, (sizes-pass table_inputs n k y _ (zero-too restore-asked.told h)).0.0.1)

    module _ (rows : Answer) (fourth : rows ≡ and_then lent (verdict (malformed 1 (bad_number n) sigma ∷ []))) where
      rows-asked :
          Asked
          (typed_checks table_inputs n k y (
          check (not (eqb (length sigma) n) || not (eqb (length table) (2 ^ n))) 4 0 0
          ∷ check (ltb room (2 ^ n)) 5 0 0
          ∷ malformed 1 (bad_number n) sigma
          ∷ [])) rows
      rows-asked = asked-then (malformed 1 (bad_number n) sigma ∷ []) rows restore-asked (refl, tt) fourth

      pub restore-outputs : rows.number ≡ 0 → k ≤ outputs
      restore-outputs = few-outputs _ rows rows-asked

      pub restore-verdict : (v : Answer) → v ≡ and_then rows (verdict (malformed 0 (bad_entry (missing y) k) table ∷ []))
          → v ≡ verdict (restore_checked n k y sigma table room)
      unfolding restore_checked
      restore-verdict v e = (asked-then (malformed 0 (bad_entry (missing y) k) table ∷ []) v rows-asked (refl, tt) e).told
