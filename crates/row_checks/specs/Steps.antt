-- The verdicts on lists as their functions reach them: each step asks one more check of the answer so far. For each operation two
-- facts: where the steps before the rows answer 0, n, k and the number of rows are in range; and with the rows they are its verdict.
-- Assumes nothing.
use Rattle.std.specs.Prelude.{◌≡◌, refl, Bool, not, List, [], ◌∷◌, map, ℕ, ◌^◌, ◌≤◌, ltb}
use Rattle.std.proofs.Common.{sym, ap, ◌∙◌, arith}
use Rattle.std.proofs.Math.Decide.{ℕ_discrete}
use Rattle.block.specs.Limits.{list_inputs, table_inputs, given_rows, smaller_rows}
use Rattle.block.specs.Words.{fd, word_part}
use Rattle.block.specs.Refusals.{check, verdict, and_then, outside, size_checks, typed_checks}
use Rattle.block.specs.Lists.{count_check, bad_row_check, share_check, undriven_check, row_checks, row_value_verdict, method_checked, fill_verdict}
use Rattle.block.specs.Reasons.{why_verdict}
use Rattle.block.specs.Joins.{join_verdict}
use Rattle.block.specs.Overlaps.{disjoin_checked}
use Rattle.block.specs.declared.Row.{Row}
use Rattle.block.specs.declared.Answer.{Answer}
use Rattle.refusal_laws.specs.Verdicts.{zero-too, then-refused, then-answered, Asked, asked-then, asked-where}
use Rattle.shared_checks.specs.Sizes.{asked-sizes, sizes-pass, untyped}
use Rattle.answered_laws.specs.Passed.{InRange, in-range-more, rows-numbered, value-ranges, fill-ranges, method-ranges, why-ranges, join-ranges, disjoin-ranges}

-- ---- the rows: 6 and 7 after an earlier answer, and then 11

pub rows-verdict : (n k : ℕ) (rs : List Row) (words : List ℕ) (v apart r : Answer) → (v.number ≡ 0 → map word_part rs ≡ words)
    → apart ≡ and_then v (verdict (bad_row_check n k rs ∷ share_check n rs ∷ [])) → r ≡ and_then apart (verdict (undriven_check k words ∷ []))
    → r ≡ and_then v (verdict (row_checks n k rs))
rows-verdict n k rs words v apart r e first second = go (ℕ_discrete v.number 0)
  where
    go : Dec (v.number ≡ 0) → r ≡ and_then v (verdict (row_checks n k rs))
    go (yes z) =
        (asked-then (undriven_check k (map word_part rs) ∷ []) r
        (record { numbered = (refl, (refl, tt)); told = first ∙ sym (then-answered v _ z) }) (refl, tt) (rw (e z) second)
        ).told
        ∙ then-answered v _ z
    go (no z) =
        second ∙ ap (λ (u : Answer). and_then u (verdict (undriven_check k words ∷ []))) (first ∙ sym (then-refused v _ z))
        ∙ sym (then-refused v _ z) ∙ then-refused v _ z

-- ---- a single shift value; `size` is 2^n where n is in range

module _ (n k y t : ℕ) (rs : List Row) (size : ℕ) (power : n ≤ list_inputs → size ≡ 2 ^ n) (sizes point count : Answer)
    (first : sizes ≡ verdict (typed_checks list_inputs n k y [])) (second : point ≡ and_then sizes (verdict (check (not (ltb t size)) 3 0 0 ∷ [])))
    (third : count ≡ and_then point (verdict (count_check given_rows rs ∷ []))) where
  value-asked : Asked (typed_checks list_inputs n k y (check (not (ltb t (2 ^ n))) 3 0 0 ∷ count_check given_rows rs ∷ [])) count
  value-asked =
      asked-then (count_check given_rows rs ∷ []) count
      (asked-where (not (ltb t size)) (not (ltb t (2 ^ n))) 3 0 0 point (asked-sizes list_inputs n k y sizes first) refl second
      (λ h. ap (λ (p : ℕ). not (ltb t p)) (power (sizes-pass list_inputs n k y [] h).0.0.1)))
      (refl, tt) third

  pub value-in-range : count.number ≡ 0 → InRange list_inputs smaller_rows n k rs
  value-in-range h = in-range-more list_inputs smaller_rows (omega arith) (omega arith) (value-ranges n k y t rs [] (zero-too value-asked.told h)).0

  pub value-verdict : (v : Answer) → v ≡ and_then count (verdict (row_checks n k rs)) → v ≡ row_value_verdict n k y t rs
  unfolding row_value_verdict
  value-verdict v e = (asked-then (row_checks n k rs) v value-asked (rows-numbered n k rs) e).told

-- ---- filling

module _ (n k y : ℕ) (rs : List Row) (room size : ℕ) (power : n ≤ list_inputs → size ≡ 2 ^ n) (sizes count lent : Answer)
    (first : sizes ≡ verdict (typed_checks table_inputs n k y [])) (second : count ≡ and_then sizes (verdict (count_check smaller_rows rs ∷ [])))
    (third : lent ≡ and_then count (verdict (check (ltb room size) 5 0 0 ∷ []))) where
  fill-asked : Asked (typed_checks table_inputs n k y (count_check smaller_rows rs ∷ check (ltb room (2 ^ n)) 5 0 0 ∷ [])) lent
  fill-asked =
      asked-where (ltb room size) (ltb room (2 ^ n)) 5 0 0 lent
      (asked-then (count_check smaller_rows rs ∷ []) count (asked-sizes table_inputs n k y sizes first) (refl, tt) second) refl third
      (λ h.
      let range = (sizes-pass table_inputs n k y (count_check smaller_rows rs ∷ []) h).0.0 in
      ap (ltb room) (power (omega (arith, range.1))))

  pub fill-in-range : lent.number ≡ 0 → InRange list_inputs smaller_rows n k rs
  fill-in-range h = in-range-more list_inputs smaller_rows (omega arith) (omega arith) (fill-ranges n k y rs room [] (zero-too fill-asked.told h)).0

  pub fill-verdict : (v : Answer) → v ≡ and_then lent (verdict (row_checks n k rs)) → v ≡ fill_verdict n k y rs room
  unfolding fill_verdict
  fill-verdict v e = (asked-then (row_checks n k rs) v fill-asked (rows-numbered n k rs) e).told

-- ---- the row method before 9; `light` is the test of w

module _ (n k y w : ℕ) (rs : List Row) (short light : Bool) (test : light ≡ outside 1 n w) (sizes weight count lent : Answer)
    (first : sizes ≡ verdict (typed_checks list_inputs n k y [])) (second : weight ≡ and_then sizes (verdict (check light 3 0 0 ∷ [])))
    (third : count ≡ and_then weight (verdict (count_check given_rows rs ∷ [])))
    (fourth : lent ≡ and_then count (verdict (check short 5 0 0 ∷ []))) where
  method-asked : Asked (typed_checks list_inputs n k y (check (outside 1 n w) 3 0 0 ∷ count_check given_rows rs ∷ check short 5 0 0 ∷ [])) lent
  method-asked =
      asked-then (check short 5 0 0 ∷ []) lent
      (asked-then (count_check given_rows rs ∷ []) count
      (asked-where light (outside 1 n w) 3 0 0 weight (asked-sizes list_inputs n k y sizes first) refl second (λ h. test))
      (refl, tt) third)
      (refl, tt) fourth

  pub method-in-range : lent.number ≡ 0 → InRange list_inputs smaller_rows n k rs
  method-in-range h = in-range-more list_inputs smaller_rows (omega arith) (omega arith) (method-ranges n k y w rs short [] (zero-too method-asked.told h)).0

  pub method-verdict : (v : Answer) → v ≡ and_then lent (verdict (row_checks n k rs)) → v ≡ verdict (method_checked n k y w rs short)
  method-verdict v e = (asked-then (row_checks n k rs) v method-asked (rows-numbered n k rs) e).told

-- ---- why a number was not taken; `light` is the test of w, and `size` is 2^n where n is in range

module _ (n k y w t : ℕ) (rs : List Row) (light : Bool) (test : light ≡ outside 1 n w) (size : ℕ) (power : n ≤ list_inputs → size ≡ 2 ^ n)
    (sizes weight point count : Answer) (first : sizes ≡ verdict (typed_checks list_inputs n k y []))
    (second : weight ≡ and_then sizes (verdict (check light 3 0 0 ∷ []))) (third : point ≡ and_then weight (verdict (check (not (ltb t size)) 3 0 0 ∷ [])))
    (fourth : count ≡ and_then point (verdict (count_check given_rows rs ∷ []))) where
  why-asked : Asked (typed_checks list_inputs n k y (check (outside 1 n w) 3 0 0 ∷ check (not (ltb t (2 ^ n))) 3 0 0 ∷ count_check given_rows rs ∷ [])) count
  why-asked =
      asked-then (count_check given_rows rs ∷ []) count
      (asked-where (not (ltb t size)) (not (ltb t (2 ^ n))) 3 0 0 point
      (asked-where light (outside 1 n w) 3 0 0 weight (asked-sizes list_inputs n k y sizes first) refl second (λ h. test)) refl third
      (λ h. ap (λ (p : ℕ). not (ltb t p)) (power (sizes-pass list_inputs n k y (check (outside 1 n w) 3 0 0 ∷ []) h).0.0.1)))
      (refl, tt) fourth

  pub why-in-range : count.number ≡ 0 → InRange list_inputs smaller_rows n k rs
  why-in-range h = in-range-more list_inputs smaller_rows (omega arith) (omega arith) (why-ranges n k y w t rs [] (zero-too why-asked.told h)).0

  pub why-verdict : (v : Answer) → v ≡ and_then count (verdict (row_checks n k rs)) → v ≡ why_verdict n k y w t rs
  unfolding why_verdict
  why-verdict v e = (asked-then (row_checks n k rs) v why-asked (rows-numbered n k rs) e).told

-- ---- joining

module _ (n k : ℕ) (rs : List Row) (sizes count : Answer) (first : sizes ≡ verdict (typed_checks list_inputs n k fd []))
    (second : count ≡ and_then sizes (verdict (count_check smaller_rows rs ∷ []))) where
  join-asked : Asked (size_checks list_inputs n k (count_check smaller_rows rs ∷ [])) count
  join-asked =
      asked-then (count_check smaller_rows rs ∷ []) count
      (record { numbered = (refl, (refl, tt)); told = first ∙ untyped list_inputs n k }) (refl, tt) second

  pub join-in-range : count.number ≡ 0 → InRange list_inputs smaller_rows n k rs
  join-in-range h = (join-ranges n k rs [] (zero-too join-asked.told h)).0

  pub join-verdict : (v : Answer) → v ≡ and_then count (verdict (bad_row_check n k rs ∷ share_check n rs ∷ [])) → v ≡ join_verdict n k rs
  unfolding join_verdict
  join-verdict v e = (asked-then (bad_row_check n k rs ∷ share_check n rs ∷ []) v join-asked (refl, (refl, tt)) e).told

-- ---- disjoining, before 14

module _ (n k : ℕ) (rs : List Row) (room : ℕ) (sizes count lent : Answer) (first : sizes ≡ verdict (typed_checks list_inputs n k fd []))
    (second : count ≡ and_then sizes (verdict (count_check given_rows rs ∷ [])))
    (third : lent ≡ and_then count (verdict (check (ltb room given_rows) 5 0 0 ∷ []))) where
  disjoin-asked : Asked (size_checks list_inputs n k (count_check given_rows rs ∷ check (ltb room given_rows) 5 0 0 ∷ [])) lent
  disjoin-asked =
      asked-then (check (ltb room given_rows) 5 0 0 ∷ []) lent
      (asked-then (count_check given_rows rs ∷ []) count
      (record { numbered = (refl, (refl, tt)); told = first ∙ untyped list_inputs n k }) (refl, tt) second) (refl, tt) third

  pub disjoin-in-range : lent.number ≡ 0 → InRange list_inputs smaller_rows n k rs
  disjoin-in-range h = in-range-more list_inputs smaller_rows (omega arith) (omega arith) (disjoin-ranges n k rs room [] (zero-too disjoin-asked.told h)).0

  pub disjoin-checks : (v : Answer) → v ≡ and_then lent (verdict (bad_row_check n k rs ∷ [])) → v ≡ verdict (disjoin_checked n k rs room)
  unfolding disjoin_checked
  disjoin-checks v e = (asked-then (bad_row_check n k rs ∷ []) v disjoin-asked (refl, tt) e).told
