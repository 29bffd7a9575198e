-- The checks of evaluating a model that was read, as their functions reach them: each step asks one more check of the answer so far. Then
-- what an answer of 0 says. Assumes nothing.
use Rattle.std.specs.Prelude.{◌≡◌, refl, Bool, false, not, ◌||◌, List, [], ◌∷◌, ℕ, ◌^◌, ◌≤◌, ◌<◌, eqb, ltb, length}
use Rattle.std.proofs.Common.{sym, ap, ap₂, ◌∙◌, arith, ltb-true, eq-eqb, ne_eqb, eqb-true}
use Rattle.std.proofs.Math.Decide.{ℕ_discrete}
use Rattle.std.proofs.lemmas.Bool.{not-false}
use Rattle.slices.specs.Places.{at, tab, first}
use Rattle.slices.specs.Filled.{length-tab, tab-at}
use Rattle.slices.specs.Least.{first_cong}
use Rattle.block.specs.Limits.{list_inputs, outputs}
use Rattle.block.specs.Words.{fd}
use Rattle.block.specs.Refusals.{Check, check, verdict, and_then, size_checks, typed_checks, some, bad_number, malformed}
use Rattle.block.specs.Model.{pattern}
use Rattle.block.specs.ModelRead.{patterns_flat, bad_pattern, pattern_at, total}
use Rattle.block.specs.declared.Pattern.{Pattern}
use Rattle.block.specs.declared.Answer.{Answer}
use Rattle.refusal_laws.specs.Verdicts.{passes_none, zero-too, passes, then-answered, Asked, asked-then, asked-where}
use Rattle.shared_checks.specs.Sizes.{inside, or_left, or_right, untyped}

-- pattern i of two flat slices is malformed
abbrev pub bad_at : ℕ → List ℕ → List ℕ → ℕ → Bool
bad_at n masks values i = bad_pattern n (pattern (at masks i) (at values i))

-- 6: the least malformed pattern
abbrev pub pattern_check : ℕ → List Pattern → Check
pattern_check n ps =
    check (some (length ps) (λ i. bad_pattern n (pattern_at ps i))) 6 0 (first (length ps) (λ i. bad_pattern n (pattern_at ps i)))

-- 1, 2, 3 (x), 4, 6 (the matrix first)
unfoldable pub value_checked : ℕ → ℕ → ℕ → List ℕ → List ℕ → List Pattern → List Check
value_checked n k x sigma counts ps =
    size_checks list_inputs n k (
    check (not (ltb x (2 ^ n))) 3 0 0
    ∷ check (not (eqb (length sigma) n) || (not (eqb (length counts) k) || not (eqb (total counts) (length ps)))) 4 0 0
    ∷ malformed 1 (bad_number n) sigma
    ∷ pattern_check n ps
    ∷ [])

-- ---- the patterns of two flat slices

module _ (masks values : List ℕ) where
  pub flat-is : length values ≡ length masks
      → patterns_flat masks values ≡ tab (length masks) (λ i. pattern (at masks i) (at values i))
  unfolding patterns_flat
  flat-is e = rw (eq-eqb _ _ e)

  pub flat-count : length values ≡ length masks → length (patterns_flat masks values) ≡ length masks
  flat-count e = ap length (flat-is e) ∙ length-tab (length masks) (λ i. pattern (at masks i) (at values i))

  pub flat-none : (length values ≡ length masks → ⊥) → length (patterns_flat masks values) ≡ 0
  unfolding patterns_flat
  flat-none h = rw (ne_eqb _ _ h)

  -- there is no more of them than either slice holds
  pub flat-rooms : (length (patterns_flat masks values) ≤ length masks) × (length (patterns_flat masks values) ≤ length values)
  flat-rooms = go (ℕ_discrete (length values) (length masks))
    where
      go : Dec (length values ≡ length masks) → (length (patterns_flat masks values) ≤ length masks) × (length (patterns_flat masks values) ≤ length values)
      go (yes e) = (omega (arith, flat-count e), omega (arith, flat-count e))
      go (no h) = (omega (arith, flat-none h), omega (arith, flat-none h))

  pub flat-at : (i : ℕ) → i < length (patterns_flat masks values) → pattern_at (patterns_flat masks values) i ≡ pattern (at masks i) (at values i)
  flat-at i h = go (ℕ_discrete (length values) (length masks))
    where
      go : Dec (length values ≡ length masks) → pattern_at (patterns_flat masks values) i ≡ pattern (at masks i) (at values i)
      go (yes e) =
          ap (λ (l : List Pattern). pattern_at l i) (flat-is e)
          ∙ tab-at (length masks) (λ i. pattern (at masks i) (at values i)) (pattern 0 0) i (omega (arith, flat-count e))
      go (no n) = absurd (omega (arith, flat-none n))

-- 6 for the patterns after an answer of 0, by the least malformed one
pub patterns-asked : (v r : Answer) (i count n : ℕ) (masks values : List ℕ) → v.number ≡ 0 → count ≡ length (patterns_flat masks values)
    → i ≡ first count (bad_at n masks values) → r ≡ verdict (check (ltb i count) 6 0 i ∷ [])
    → r ≡ and_then v (verdict (pattern_check n (patterns_flat masks values) ∷ []))
patterns-asked v r i count n masks values h e f g =
    g ∙ ap₂ (λ (i count : ℕ). verdict (check (ltb i count) 6 0 i ∷ [])) same e ∙ then-answered v _ h
  where
    same : i ≡ first (length (patterns_flat masks values)) (λ i. bad_pattern n (pattern_at (patterns_flat masks values) i))
    same =
        f ∙ ap (λ (m : ℕ). first m (bad_at n masks values)) e
        ∙ first_cong (length (patterns_flat masks values)) (bad_at n masks values) (λ i. bad_pattern n (pattern_at (patterns_flat masks values) i))
        (λ i b. ap (bad_pattern n) (sym (flat-at masks values i b)))

-- ---- the verdict but for 8, step by step: `size` is 2^n where n is in range, and `unfit` the test of the three lengths

-- the test of the lengths, by the number of patterns
pub told : (counts : List ℕ) (rows n k count all : ℕ) {unfit : Bool} → count ≡ all
    → unfit ≡ not (eqb rows n) || (not (eqb (length counts) k) || not (eqb (total counts) count))
    → unfit ≡ not (eqb rows n) || (not (eqb (length counts) k) || not (eqb (total counts) all))
told counts rows n k count all e t =
    t ∙ ap (λ (m : ℕ). not (eqb rows n) || (not (eqb (length counts) k) || not (eqb (total counts) m))) e

in-range : (n k : ℕ) (cs : List Check) → (verdict (size_checks list_inputs n k cs)).number ≡ 0 → n ≤ list_inputs
in-range n k cs h = (inside 1 list_inputs n (passes _ _ refl h).0).1

module _ (n k x size : ℕ) (sigma counts : List ℕ) (ps : List Pattern) (power : n ≤ list_inputs → size ≡ 2 ^ n) (unfit : Bool)
    (test : unfit ≡ not (eqb (length sigma) n) || (not (eqb (length counts) k) || not (eqb (total counts) (length ps))))
    (sizes point whole : Answer) (first : sizes ≡ verdict (typed_checks list_inputs n k fd []))
    (second : point ≡ and_then sizes (verdict (check (not (ltb x size)) 3 0 0 ∷ [])))
    (third : whole ≡ and_then point (verdict (check unfit 4 0 0 ∷ []))) where
  abbrev lengths : Bool
  lengths = not (eqb (length sigma) n) || (not (eqb (length counts) k) || not (eqb (total counts) (length ps)))

  whole-asked : Asked (size_checks list_inputs n k (check (not (ltb x (2 ^ n))) 3 0 0 ∷ check lengths 4 0 0 ∷ [])) whole
  whole-asked =
      asked-where unfit lengths 4 0 0 whole
      (asked-where _ (not (ltb x (2 ^ n))) 3 0 0 point (record { numbered = (refl, (refl, tt)); told = first ∙ untyped list_inputs n k }) refl second
      (λ h. ap (λ (p : ℕ). not (ltb x p)) (power (in-range n k [] h))))
      refl third (λ h. test)

  pub whole-inputs : whole.number ≡ 0 → n ≤ list_inputs
  whole-inputs h = in-range n k _ (zero-too whole-asked.told h)

  module _ (matrix : Answer) (fourth : matrix ≡ and_then whole (verdict (malformed 1 (bad_number n) sigma ∷ []))) where
    matrix-asked : Asked (size_checks list_inputs n k (check (not (ltb x (2 ^ n))) 3 0 0 ∷ check lengths 4 0 0 ∷ malformed 1 (bad_number n) sigma ∷ [])) matrix
    matrix-asked = asked-then (malformed 1 (bad_number n) sigma ∷ []) matrix whole-asked (refl, tt) fourth

    pub matrix-inputs : matrix.number ≡ 0 → n ≤ list_inputs
    matrix-inputs h = in-range n k _ (zero-too matrix-asked.told h)

    pub checked-verdict : (v : Answer) → v ≡ and_then matrix (verdict (pattern_check n ps ∷ [])) → v ≡ verdict (value_checked n k x sigma counts ps)
    unfolding value_checked
    checked-verdict v e = (asked-then (pattern_check n ps ∷ []) v matrix-asked (refl, tt) e).told

-- ---- what an answer of 0 says

pub record ValuePassed (n k x : ℕ) (sigma counts : List ℕ) (ps : List Pattern) : Type 0 where
  pub some-inputs : 1 ≤ n
  pub inputs : n ≤ list_inputs
  pub outs : k ≤ outputs
  pub point : x < 2 ^ n
  pub rows : length sigma ≡ n
  pub counted : length counts ≡ k
  pub all : total counts ≡ length ps
  pub below : (j : ℕ) → j < n → at sigma j < 2 ^ n
  pub sound : (i : ℕ) → i < length ps → bad_pattern n (pattern_at ps i) ≡ false

pub value-passed : (n k x : ℕ) (sigma counts : List ℕ) (ps : List Pattern) (v : Answer) → v ≡ verdict (value_checked n k x sigma counts ps)
    → v.number ≡ 0 → ValuePassed n k x sigma counts ps
unfolding value_checked
value-passed n k x sigma counts ps v e h =
    let one = passes _ _ refl (zero-too e h) in
    let two = passes _ _ refl one.1 in
    let three = passes _ _ refl two.1 in
    let four = passes _ _ refl three.1 in
    let five = passes _ _ refl four.1 in
    let six = passes _ _ refl five.1 in
    let rest = or_right (not (eqb (length sigma) n)) (not (eqb (length counts) k) || not (eqb (total counts) (length ps))) four.0 in
    let rows : length sigma ≡ n =
    eqb-true (length sigma) n
    (not-false (eqb (length sigma) n) (or_left (not (eqb (length sigma) n)) (not (eqb (length counts) k) || not (eqb (total counts) (length ps))) four.0)) in
    record {
      some-inputs = (inside 1 list_inputs n one.0).0;
      inputs = (inside 1 list_inputs n one.0).1;
      outs = (inside 1 outputs k two.0).1;
      point = ltb-true x (2 ^ n) (not-false (ltb x (2 ^ n)) three.0);
      rows = rows;
      counted =
          eqb-true (length counts) k
          (not-false (eqb (length counts) k) (or_left (not (eqb (length counts) k)) (not (eqb (total counts) (length ps))) rest));
      all =
          eqb-true (total counts) (length ps)
          (not-false (eqb (total counts) (length ps)) (or_right (not (eqb (length counts) k)) (not (eqb (total counts) (length ps))) rest));
      below =
          λ j b.
          ltb-true (at sigma j) (2 ^ n)
          (not-false (ltb (at sigma j) (2 ^ n)) (passes_none (length sigma) (λ i. bad_number n (at sigma i)) five.0 j (omega arith)));
      sound = passes_none (length ps) (λ i. bad_pattern n (pattern_at ps i)) six.0;
    }
