-- Symmetric blocks (02, Ticket 6), on the answers themselves. "Show that the second measure is not below the first"; what the first operation
-- makes the second calls symmetric, and what the second calls symmetric the first makes, of exactly one list of words; of such a table "R is
-- equal at all numbers of the same weight"; "demand 2's equalities between block, matrix and smaller table", and the way back by restoring.
-- The matrix itself, its inverse and the laws of any symmetric block stand in crate symmetric_laws. Assumes nothing.
use Rattle.std.specs.Prelude.{◌≡◌, Bool, List, ℕ, ◌+◌, ◌^◌, ◌≤◌, ◌<◌, length}
use Rattle.std.proofs.Math.Path.{refl, sym}
use Rattle.std.proofs.Common.{ap, ◌∙◌, arith}
use Rattle.std.proofs.Math.Bool.{true, false, not, cond}
use borrow.Author.Tests.{le-ltb, eqb-true, eq-eqb}
use Rattle.std.specs.Int.Count.{ones}
use Rattle.std.proofs.lemmas.Nat.{ones-le}
use Rattle.sums.specs.Sums.{one}
use Rattle.slices.specs.Places.{at, tab}
use Rattle.slices.specs.Filled.{tab-at, tab-cong, length-tab, get_d_any}
use Rattle.block.specs.Words.{none, missing, of_table}
use Rattle.block.specs.Measure.{shift, measure}
use Rattle.block.specs.Basis.{columns, apply, inverse, smaller}
use Rattle.block.specs.Refusals.{answer, answered, carried, bad_entry}
use Rattle.block.specs.Tables.{with_value, restore_verdict, restored}
use Rattle.block.specs.Symmetric.{
  of_counts,
  symmetric_table,
  gray_column,
  gray_table,
  least_of,
  is_symmetric,
  count_words,
  symmetric_verdict,
  symmetric_block,
  table_symmetric_verdict,
  table_symmetric,
}
use Rattle.block.specs.declared.Answer.{Answer}
use Rattle.matrix_laws.specs.Linear.{columns-lt, apply-lt}
use Rattle.matrix_laws.specs.Inverse.{columns-sigma}
use Rattle.symmetric_laws.specs.Columns.{gray-independent}
use Rattle.symmetric_laws.specs.Blocks.{least_lt, counts-symmetric, shift-weight, gray-not-below}
use Rattle.symmetric_laws.specs.Words.{table_at, length-symmetric, made-symmetric, passes-symmetric, words-made, words-unique}
use Rattle.table_checks.specs.Passed.{SymmetricPassed, symmetric-passed, TableSymmetricPassed, table-symmetric-passed}
use Rattle.refusal_laws.specs.Verdicts.{verdict-miss, verdict-none, none_passes}
use Rattle.demands.specs.Restoring.{restored-through, restoring-through}

-- ---- the measures

carried-le : (v : Answer) (x y : ℕ) → x ≤ y → carried v x ≤ carried v y
carried-le v x y h = go (answered v)
  where
    go : (b : Bool) → cond b x 0 ≤ cond b y 0
    go true = h
    go false = omega arith

-- the second measure is not below the first, whatever the words; with a refusal both are 0
pub second-not-below : (n k y : ℕ) (words : List ℕ) (roomTable roomSmaller : ℕ)
    → (symmetric_block n k y words roomTable roomSmaller).before ≤ (symmetric_block n k y words roomTable roomSmaller).after
unfolding symmetric_block
second-not-below n k y words roomTable roomSmaller =
    carried-le (symmetric_verdict n k y words roomTable roomSmaller) (measure (of_counts words) n) (measure (smaller (of_counts words) gray_column n) n)
    (gray-not-below (of_counts words) n (counts-symmetric words n))

-- ---- the two operations fit

-- no entry of a table of accepted words is malformed
sound : (n k y : ℕ) (words : List ℕ) (roomTable roomSmaller : ℕ) → SymmetricPassed n k y words roomTable roomSmaller
    → (x : ℕ) → x < length (symmetric_table words n) → bad_entry (missing y) k (at (symmetric_table words n) x) ≡ false
sound n k y words roomTable roomSmaller passed x b =
    let h : x < 2 ^ n = rw (length-symmetric words n) at b in
    let c : ones x < length words = omega (arith, passed.counts, ones-le n x h) in
    ap (bad_entry (missing y) k) (get_d_any (symmetric_table words n) 0 none x b ∙ table_at words n x h ∙ get_d_any words none 0 (ones x) c)
    ∙ passed.good (ones x) c

-- what the first makes, the second calls symmetric
pub made-called : (n k y : ℕ) (words : List ℕ) (roomTable roomSmaller : ℕ) → (symmetric_verdict n k y words roomTable roomSmaller).number ≡ 0
    → table_symmetric n k y (symmetric_table words n) ≡ record { number = 0; a = 0; b = 0; value = 1 }
unfolding table_symmetric table_symmetric_verdict
made-called n k y words roomTable roomSmaller h =
    ap (λ (v : Answer). with_value v (one (is_symmetric (symmetric_table words n) n))) clear
    ∙ ap (λ (b : Bool). with_value (answer 0 0 0) (one b)) (made-symmetric words n)
  where
    passed : SymmetricPassed n k y words roomTable roomSmaller
    passed = symmetric-passed n k y words roomTable roomSmaller _ refl h

    clear : table_symmetric_verdict n k y (symmetric_table words n) ≡ answer 0 0 0
    clear =
        verdict-miss _ _ passed.sizes.0
        ∙ verdict-miss _ _ passed.sizes.1
        ∙ verdict-miss _ _ passed.sizes.2
        ∙ verdict-miss _ _ (ap not (eq-eqb (length (symmetric_table words n)) (2 ^ n) (length-symmetric words n)))
        ∙ verdict-miss _ _
        (none_passes (length (symmetric_table words n)) (λ i. bad_entry (missing y) k (at (symmetric_table words n) i))
        (sound n k y words roomTable roomSmaller passed))
        ∙ verdict-none

-- a value of 1 says that the test passed, and so that the words depend on the number of one-bits alone
called : (v : Answer) (b : Bool) → carried v (one b) ≡ 1 → b ≡ true
called v b = go (answered v) b
  where
    go : (a b : Bool) → cond a (one b) 0 ≡ 1 → b ≡ true
    go true true e = refl
    go true false e = absurd (omega arith)
    go false b e = absurd (omega arith)

module _ (n k y : ℕ) (table : List ℕ) (h : (table_symmetric n k y table).value ≡ 1) where
  test : is_symmetric table n ≡ true
  unfolding table_symmetric
  test = called (table_symmetric_verdict n k y table) (is_symmetric table n) h

  accepted : (table_symmetric_verdict n k y table).number ≡ 0
  unfolding table_symmetric
  accepted = zero_of (table_symmetric_verdict n k y table) (one (is_symmetric table n)) h
    where
      zero_of : (v : Answer) (x : ℕ) → carried v x ≡ 1 → v.number ≡ 0
      zero_of v x e = go (answered v) refl e
        where
          go : (b : Bool) → answered v ≡ b → cond b x 0 ≡ 1 → v.number ≡ 0
          go true d e = eqb-true v.number 0 d
          go false d e = absurd (omega arith)

  -- R is equal at all numbers of the same weight
  pub called-weights : (t u : ℕ) → t < 2 ^ n → u < 2 ^ n → ones t ≡ ones u → shift (of_table table) n t ≡ shift (of_table table) n u
  called-weights = shift-weight (of_table table) n (passes-symmetric table n test)

  -- what the second calls symmetric, the first accepts as the words that stand at the least numbers of each count, and makes of them ..
  pub called-made : (roomTable roomSmaller : ℕ) → 2 ^ n ≤ roomTable → 2 ^ n ≤ roomSmaller
      → (symmetric_verdict n k y (count_words (of_table table) n) roomTable roomSmaller ≡ answer 0 0 0)
      × (symmetric_table (count_words (of_table table) n) n ≡ table)
  unfolding symmetric_verdict count_words
  called-made roomTable roomSmaller a b = (
    verdict-miss _ _ passed.sizes.0
        ∙ verdict-miss _ _ passed.sizes.1
        ∙ verdict-miss _ _ passed.sizes.2
        ∙ verdict-miss _ _ (ap not (eq-eqb (length words) (n + 1) counts))
        ∙ verdict-miss _ _ (rw (le-ltb roomTable (2 ^ n) a, le-ltb roomSmaller (2 ^ n) b))
        ∙ verdict-miss _ _ (none_passes (length words) (λ i. bad_entry (missing y) k (at words i)) entry)
        ∙ verdict-none,
    words-made table n passed.entries (passes-symmetric table n test),
  )
    where
      passed : TableSymmetricPassed n k y table
      passed = table-symmetric-passed n k y table _ refl accepted

      words : List ℕ
      words = count_words (of_table table) n

      counts : length words ≡ n + 1
      counts = length-tab (n + 1) (λ c. of_table table (least_of c))

      entry : (i : ℕ) → i < length words → bad_entry (missing y) k (at words i) ≡ false
      entry i l =
          let d : i < n + 1 = rw counts at l in
          let x : least_of i < length table = rw passed.entries (least_lt n i (omega arith)) in
          ap (bad_entry (missing y) k) (tab-at (n + 1) (λ c. of_table table (least_of c)) 0 i d ∙ get_d_any table none 0 (least_of i) x)
          ∙ passed.good (least_of i) x

-- .. and of no others
pub made-once : (n k y : ℕ) (u v : List ℕ) (roomTable roomSmaller : ℕ) → (symmetric_verdict n k y u roomTable roomSmaller).number ≡ 0
    → (symmetric_verdict n k y v roomTable roomSmaller).number ≡ 0 → symmetric_table u n ≡ symmetric_table v n → u ≡ v
made-once n k y u v roomTable roomSmaller hu hv e =
    words-unique u v n (symmetric-passed n k y u roomTable roomSmaller _ refl hu).counts
    (symmetric-passed n k y v roomTable roomSmaller _ refl hv).counts e

-- ---- demand 2, of the table and the smaller table of these words

module _ (words : List ℕ) (n : ℕ) where
  -- the smaller table at z is the table at T z
  pub gray-at : (z : ℕ) → z < 2 ^ n → of_table (gray_table words n) z ≡ of_table (symmetric_table words n) (columns gray_column n z)
  unfolding gray_table
  gray-at z h =
      tab-at (2 ^ n) _ none z h
      ∙ sym (table_at words n (columns gray_column n z) (columns-lt gray_column n n z (gray-independent n).below))

  -- the table at x is the smaller table at sigma x
  pub symmetric-at : (x : ℕ) → x < 2 ^ n
      → of_table (gray_table words n) (apply (at (inverse gray_column n)) n x) ≡ of_table (symmetric_table words n) x
  symmetric-at x h =
      gray-at (apply (at (inverse gray_column n)) n x) (apply-lt (at (inverse gray_column n)) n x)
      ∙ ap (of_table (symmetric_table words n)) (columns-sigma gray_column n (gray-independent n) x h)

  -- so the smaller table is that of the table by the Gray columns
  gray-through : tab (2 ^ n) (smaller (of_table (symmetric_table words n)) gray_column n) ≡ gray_table words n
  unfolding gray_table
  gray-through =
      tab-cong (2 ^ n) _ _ (λ z h. table_at words n (columns gray_column n z) (columns-lt gray_column n n z (gray-independent n).below))

-- restoring with the inverse and the smaller table answers 0 and returns the table
pub restoring-gray : (n k y : ℕ) (words : List ℕ) (roomTable roomSmaller room : ℕ)
    → (symmetric_verdict n k y words roomTable roomSmaller).number ≡ 0 → 2 ^ n ≤ room
    → (restore_verdict n k y (inverse gray_column n) (gray_table words n) room ≡ answer 0 0 0)
    × (restored n (inverse gray_column n) (gray_table words n) ≡ symmetric_table words n)
restoring-gray n k y words roomTable roomSmaller room h r =
    let passed = symmetric-passed n k y words roomTable roomSmaller _ refl h in
    let independent = gray-independent n in
    let length = length-symmetric words n in (
      ap (λ (s : List ℕ). restore_verdict n k y (inverse gray_column n) s room) (sym (gray-through words n))
          ∙ restoring-through gray_column n independent (symmetric_table words n) length k y room passed.sizes
          (sound n k y words roomTable roomSmaller passed) r,
      ap (restored n (inverse gray_column n)) (sym (gray-through words n)) ∙ restored-through gray_column n independent (symmetric_table words n) length,
    )
