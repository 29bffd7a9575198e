-- What an answer of 0 says of a list of rows, by named fields; how it follows from each operation's checks, and that a list with those
-- facts is answered: here alone a proof knows in which order they are asked. Not here: tables (crate table_checks), and what 0 says of
-- slices that hold the rows (crate flat_rows). Assumes nothing.
use Rattle.std.specs.Prelude.{◌≡◌, Bool, true, false, length}
use Rattle.std.proofs.Math.Path.{refl}
use Rattle.std.proofs.Common.{ap, ◌∙◌}
use Rattle.std.proofs.Math.Bool.{not}
use mathlib.Core.List.{List, [], ◌∷◌, ◌++◌, map}
use Prim.Native.Nat.{ℕ, suc, ◌-◌, ◌^◌, ◌≤◌, ◌<◌}
use native.Mathlib.Omega.{arith}
use borrow.Author.Tests.{lt-ltb, le-ltb, ltb-true, ltb-false, not-false}
use Rattle.std.proofs.Math.Dec.{ltb}
use Rattle.slices.specs.Least.{first_below}
use Rattle.block.specs.Limits.{list_inputs, table_inputs, outputs, given_rows, smaller_rows}
use Rattle.block.specs.Words.{fr, fd, missing, word_part}
use Rattle.block.specs.Refusals.{Check, check, answer, verdict, outside, size_checks, typed_checks, bad_row, row_at, sharing}
use Rattle.block.specs.Lists.{count_check, bad_row_check, share_check, row_checks, row_value_verdict, rows_after, passing, passing_check, method_checked, method_checks, smaller_list, fill_verdict}
use Rattle.block.specs.Reasons.{why_verdict}
use Rattle.block.specs.Joins.{join_verdict}
use Rattle.block.specs.Overlaps.{disjoined, disjoin_checked, many_check, disjoin_verdict}
use Rattle.block.specs.declared.Row.{Row}
use Rattle.refusal_laws.specs.Verdicts.{verdict-miss, verdict-none, none_passes, passes, Numbered}
use Rattle.refusal_laws.specs.Driven.{AllDriven, check-driven, driven-check}
use Rattle.shared_checks.specs.Sizes.{inside, within, sizes-pass}
use Rattle.pair_laws.specs.Cube.{Sound}
use Rattle.pair_laws.specs.Theorem.{Every, Disjoint}
use Rattle.pair_laws.specs.Share.{good-sound, apart-sharing, every-good, checked-disjoint}

-- ---- what is said

-- 1, 2 and 4 pass: n, k and the number of rows are in range
pub record InRange (inputs most n k : ℕ) (rs : List Row) : Type 0 where
  pub size : (1 ≤ n) × (n ≤ inputs)
  pub columns : (1 ≤ k) × (k ≤ outputs)
  pub count : (1 ≤ length rs) × (length rs ≤ most)

-- and the rows pass: none is malformed, no two share a point, and they drive every column
pub record Passed (inputs most n k : ℕ) (rs : List Row) : Type 0 where
  pub range : InRange inputs most n k rs
  pub good : Every (λ r. bad_row n k r ≡ false) rs
  pub disjoint : Disjoint n rs
  pub columns-driven : AllDriven k (map word_part rs)

-- the row method, but for 9
pub record MethodPassed (n k y w : ℕ) (rs : List Row) (short : Bool) : Type 0 where
  pub list : Passed list_inputs given_rows n k rs
  pub typed : (fr ≤ y) × (y ≤ fd)
  pub weight : (1 ≤ w) × (w ≤ n)
  pub room : short ≡ false

-- and 9: at most 512 smaller rows
pub record MethodAnswered (n k y w : ℕ) (rs : List Row) (short : Bool) : Type 0 where
  pub passed : MethodPassed n k y w rs short
  pub few : length (smaller_list (missing y) n w rs) ≤ smaller_rows

-- why a number was not taken
pub record WhyPassed (n k y w t : ℕ) (rs : List Row) : Type 0 where
  pub list : Passed list_inputs given_rows n k rs
  pub typed : (fr ≤ y) × (y ≤ fd)
  pub weight : (1 ≤ w) × (w ≤ n)
  pub number : t < 2 ^ n

-- joining: whether the rows drive every column is not asked
pub record JoinPassed (n k : ℕ) (rs : List Row) : Type 0 where
  pub range : InRange list_inputs smaller_rows n k rs
  pub good : Every (λ r. bad_row n k r ≡ false) rs
  pub disjoint : Disjoint n rs

-- disjoining, but for 14: rows may share points
pub record DisjoinPassed (n k : ℕ) (rs : List Row) (room : ℕ) : Type 0 where
  pub range : InRange list_inputs given_rows n k rs
  pub lent : given_rows ≤ room
  pub good : Every (λ r. bad_row n k r ≡ false) rs

-- and 14: at most 128 rows come out
pub record DisjoinAnswered (n k : ℕ) (rs : List Row) (room : ℕ) : Type 0 where
  pub passed : DisjoinPassed n k rs room
  pub few : length (disjoined n rs) ≤ given_rows

-- greater limits hold too
pub in-range-more : {inputs most n k : ℕ} {rs : List Row} (wider more : ℕ) → inputs ≤ wider → most ≤ more → InRange inputs most n k rs
    → InRange wider more n k rs
in-range-more wider more h l p =
    record {
      size = (p.size.0, omega (arith, p.size.1));
      columns = p.columns;
      count = (p.count.0, omega (arith, p.count.1));
    }

-- ---- the rows: the checks that every operation asks of them, before `rest`

-- each has a number of its own
pub rows-numbered : (n k : ℕ) (rs : List Row) → Numbered (row_checks n k rs)
rows-numbered n k rs = (refl, (refl, (refl, tt)))

-- 6 passes: each row is sound
pub formed-sound : (n k : ℕ) (rs : List Row) → (verdict (bad_row_check n k rs ∷ [])).number ≡ 0 → Every (Sound n) rs
formed-sound n k rs h i l = good-sound n k _ (every-good n k rs (passes _ _ refl h).0 i l)

-- 6 and 7
disjoint-pass : (n k : ℕ) (rs : List Row) (rest : List Check) → k ≤ outputs → (verdict (bad_row_check n k rs ∷ share_check n rs ∷ rest)).number ≡ 0
    → Every (λ r. bad_row n k r ≡ false) rs × Disjoint n rs × ((verdict rest).number ≡ 0)
disjoint-pass n k rs rest hk h =
    let formed = passes _ _ refl h in
    let apart = passes _ _ refl formed.1 in
    (every-good n k rs formed.0, checked-disjoint n k rs hk formed.0 apart.0, apart.1)

disjoint-answer : (n k : ℕ) (rs : List Row) (rest : List Check) → Every (λ r. bad_row n k r ≡ false) rs → Disjoint n rs
    → verdict (bad_row_check n k rs ∷ share_check n rs ∷ rest) ≡ verdict rest
disjoint-answer n k rs rest good d =
    verdict-miss _ _ (none_passes (length rs) (λ i. bad_row n k (row_at rs i)) good)
    ∙ verdict-miss _ _ (no-share (ltb (sharing n rs) (length rs)) refl)
  where
    no-share : (b : Bool) → ltb (sharing n rs) (length rs) ≡ b → ltb (sharing n rs) (length rs) ≡ false
    no-share true e = absurd (apart-sharing n rs d.apart (ltb-true (sharing n rs) (length rs) e))
    no-share false e = e

pub rows_pass : (inputs most n k : ℕ) (rs : List Row) (rest : List Check) → InRange inputs most n k rs
    → (verdict (row_checks n k rs ++ rest)).number ≡ 0 → Passed inputs most n k rs × ((verdict rest).number ≡ 0)
rows_pass inputs most n k rs rest p h =
    let apart = disjoint-pass n k rs _ p.columns.1 h in
    let told = passes _ _ refl apart.2 in (
      record {
        range = p;
        good = apart.0;
        disjoint = apart.1;
        columns-driven = check-driven k (map word_part rs) told.0;
      },
      told.1,
    )

-- a list whose rows pass is asked what comes next
pub rows-answer : {inputs most : ℕ} (n k : ℕ) (rs : List Row) (rest : List Check) → Passed inputs most n k rs
    → verdict (row_checks n k rs ++ rest) ≡ verdict rest
rows-answer n k rs rest p =
    disjoint-answer n k rs _ p.good p.disjoint ∙ verdict-miss _ _ (driven-check k (map word_part rs) p.columns-driven)

-- ---- a single shift value

module _ (n k y t : ℕ) (rs : List Row) where
  pub value-ranges : (rest : List Check)
      → (verdict (typed_checks list_inputs n k y (check (not (ltb t (2 ^ n))) 3 0 0 ∷ count_check given_rows rs ∷ rest))).number ≡ 0
      → InRange list_inputs given_rows n k rs × (t < 2 ^ n) × ((verdict rest).number ≡ 0)
  value-ranges rest h =
      let sizes = sizes-pass list_inputs n k y _ h in
      let point = passes _ _ refl sizes.1 in
      let count = passes _ _ refl point.1 in (
        record { size = sizes.0.0; columns = sizes.0.1; count = inside 1 given_rows (length rs) count.0 },
        ltb-true t (2 ^ n) (not-false _ point.0),
        count.1,
      )

  pub value-passed : (row_value_verdict n k y t rs).number ≡ 0 → Passed list_inputs given_rows n k rs × (t < 2 ^ n)
  unfolding row_value_verdict
  value-passed h =
      let r = value-ranges (row_checks n k rs) h in
      ((rows_pass list_inputs given_rows n k rs [] r.0 r.2).0, r.1)

-- ---- filling

module _ (n k y : ℕ) (rs : List Row) (room : ℕ) where
  pub fill-ranges : (rest : List Check)
      → (verdict (typed_checks table_inputs n k y (count_check smaller_rows rs ∷ check (ltb room (2 ^ n)) 5 0 0 ∷ rest))).number ≡ 0
      → InRange table_inputs smaller_rows n k rs × (2 ^ n ≤ room) × ((verdict rest).number ≡ 0)
  fill-ranges rest h =
      let sizes = sizes-pass table_inputs n k y _ h in
      let count = passes _ _ refl sizes.1 in
      let lent = passes _ _ refl count.1 in (
        record { size = sizes.0.0; columns = sizes.0.1; count = inside 1 smaller_rows (length rs) count.0 },
        ltb-false room (2 ^ n) lent.0,
        lent.1,
      )

  pub fill-passed : (fill_verdict n k y rs room).number ≡ 0 → Passed table_inputs smaller_rows n k rs × (2 ^ n ≤ room)
  unfolding fill_verdict
  fill-passed h =
      let r = fill-ranges (row_checks n k rs) h in
      ((rows_pass table_inputs smaller_rows n k rs [] r.0 r.2).0, r.1)

  -- filling answers a list that passes, where there is room, under each type
  pub fill-answers : Passed table_inputs smaller_rows n k rs → (fr ≤ y) × (y ≤ fd) → 2 ^ n ≤ room → fill_verdict n k y rs room ≡ answer 0 0 0
  unfolding fill_verdict
  fill-answers p typed h =
      let r = p.range in
      verdict-miss _ _ (within 1 table_inputs n r.size.0 r.size.1)
      ∙ verdict-miss _ _ (within 1 outputs k r.columns.0 r.columns.1)
      ∙ verdict-miss _ _ (within fr fd y typed.0 typed.1)
      ∙ verdict-miss _ _ (within 1 smaller_rows (length rs) r.count.0 r.count.1)
      ∙ verdict-miss _ _ (le-ltb room (2 ^ n) h)
      ∙ rows-answer n k rs [] p
      ∙ verdict-none

-- ---- the row method, and the sheet; `short` says that the lent room is too short

module _ (n k y w : ℕ) (rs : List Row) (short : Bool) where
  pub method-ranges : (rest : List Check)
      → (verdict (typed_checks list_inputs n k y (check (outside 1 n w) 3 0 0 ∷ count_check given_rows rs ∷ check short 5 0 0 ∷ rest))).number ≡ 0
      → InRange list_inputs given_rows n k rs × ((fr ≤ y) × (y ≤ fd)) × ((1 ≤ w) × (w ≤ n)) × (short ≡ false) × ((verdict rest).number ≡ 0)
  method-ranges rest h =
      let sizes = sizes-pass list_inputs n k y _ h in
      let weight = passes _ _ refl sizes.1 in
      let count = passes _ _ refl weight.1 in
      let lent = passes _ _ refl count.1 in (
        record { size = sizes.0.0; columns = sizes.0.1; count = inside 1 given_rows (length rs) count.0 },
        sizes.0.2,
        inside 1 n w weight.0,
        lent.0,
        lent.1,
      )

  pub method-numbered : Numbered (method_checked n k y w rs short)
  method-numbered = (refl, (refl, (refl, (refl, (refl, (refl, rows-numbered n k rs))))))

  checked-pass : (rest : List Check) → (verdict (method_checked n k y w rs short ++ rest)).number ≡ 0
      → MethodPassed n k y w rs short × ((verdict rest).number ≡ 0)
  checked-pass rest h =
      let r = method-ranges (row_checks n k rs ++ rest) h in
      let p = rows_pass list_inputs given_rows n k rs rest r.0 r.4 in
      (record { list = p.0; typed = r.1; weight = r.2; room = r.3 }, p.1)

  -- before 9
  pub method-passed : (verdict (method_checked n k y w rs short)).number ≡ 0 → MethodPassed n k y w rs short
  method-passed h = (checked-pass [] h).0

  -- where no step passes 512 rows, the smaller rows, which are those after step n, do not
  few-rows : 1 ≤ n → n ≤ passing (missing y) n w rs → length (smaller_list (missing y) n w rs) ≤ smaller_rows
  unfolding smaller_list passing
  few-rows one h =
      let e : suc (n - 1) ≡ n = omega arith in
      let b = first_below n (λ i. ltb smaller_rows (length (rows_after (missing y) n w (suc i) rs))) (n - 1) (omega arith) in
      ltb-false smaller_rows (length (rows_after (missing y) n w n rs)) (rw e at b)

  -- with 9
  pub method-answered : (verdict (method_checks n k y w rs short)).number ≡ 0 → MethodAnswered n k y w rs short
  unfolding method_checks
  method-answered h =
      let p = checked-pass (passing_check (missing y) n w rs ∷ []) h in
      let last = passes _ _ refl p.1 in
      record {
        passed = p.0;
        few = few-rows p.0.list.range.size.0 (ltb-false (passing (missing y) n w rs) n last.0);
      }

-- ---- why a number was not taken

module _ (n k y w t : ℕ) (rs : List Row) where
  pub why-ranges : (rest : List Check)
      → (verdict (typed_checks list_inputs n k y (check (outside 1 n w) 3 0 0 ∷ check (not (ltb t (2 ^ n))) 3 0 0 ∷ count_check given_rows rs ∷ rest))).number ≡ 0
      → InRange list_inputs given_rows n k rs × ((fr ≤ y) × (y ≤ fd)) × ((1 ≤ w) × (w ≤ n)) × (t < 2 ^ n) × ((verdict rest).number ≡ 0)
  why-ranges rest h =
      let sizes = sizes-pass list_inputs n k y _ h in
      let weight = passes _ _ refl sizes.1 in
      let point = passes _ _ refl weight.1 in
      let count = passes _ _ refl point.1 in (
        record { size = sizes.0.0; columns = sizes.0.1; count = inside 1 given_rows (length rs) count.0 },
        sizes.0.2,
        inside 1 n w weight.0,
        ltb-true t (2 ^ n) (not-false _ point.0),
        count.1,
      )

  pub why-passed : (why_verdict n k y w t rs).number ≡ 0 → WhyPassed n k y w t rs
  unfolding why_verdict
  why-passed h =
      let r = why-ranges (row_checks n k rs) h in
      record { list = (rows_pass list_inputs given_rows n k rs [] r.0 r.4).0; typed = r.1; weight = r.2; number = r.3 }

  -- a list with those facts is answered
  pub why-answers : WhyPassed n k y w t rs → why_verdict n k y w t rs ≡ answer 0 0 0
  unfolding why_verdict
  why-answers p =
      let r = p.list.range in
      verdict-miss _ _ (within 1 list_inputs n r.size.0 r.size.1)
      ∙ verdict-miss _ _ (within 1 outputs k r.columns.0 r.columns.1)
      ∙ verdict-miss _ _ (within fr fd y p.typed.0 p.typed.1)
      ∙ verdict-miss _ _ (within 1 n w p.weight.0 p.weight.1)
      ∙ verdict-miss _ _ (ap not (lt-ltb t (2 ^ n) p.number))
      ∙ verdict-miss _ _ (within 1 given_rows (length rs) r.count.0 r.count.1)
      ∙ rows-answer n k rs [] p.list
      ∙ verdict-none

-- ---- joining

module _ (n k : ℕ) (rs : List Row) where
  pub join-ranges : (rest : List Check) → (verdict (size_checks list_inputs n k (count_check smaller_rows rs ∷ rest))).number ≡ 0
      → InRange list_inputs smaller_rows n k rs × ((verdict rest).number ≡ 0)
  join-ranges rest h =
      let inputs = passes _ _ refl h in
      let columns = passes _ _ refl inputs.1 in
      let count = passes _ _ refl columns.1 in (
        record {
          size = inside 1 list_inputs n inputs.0;
          columns = inside 1 outputs k columns.0;
          count = inside 1 smaller_rows (length rs) count.0;
        },
        count.1,
      )

  pub join-passed : (join_verdict n k rs).number ≡ 0 → JoinPassed n k rs
  unfolding join_verdict
  join-passed h =
      let r = join-ranges _ h in
      let d = disjoint-pass n k rs [] r.0.columns.1 r.1 in
      record { range = r.0; good = d.0; disjoint = d.1 }

  -- a list with those facts is answered
  pub join-answers : JoinPassed n k rs → join_verdict n k rs ≡ answer 0 0 0
  unfolding join_verdict
  join-answers p =
      let r = p.range in
      verdict-miss _ _ (within 1 list_inputs n r.size.0 r.size.1)
      ∙ verdict-miss _ _ (within 1 outputs k r.columns.0 r.columns.1)
      ∙ verdict-miss _ _ (within 1 smaller_rows (length rs) r.count.0 r.count.1)
      ∙ disjoint-answer n k rs [] p.good p.disjoint
      ∙ verdict-none

-- ---- disjoining

module _ (n k : ℕ) (rs : List Row) (room : ℕ) where
  pub disjoin-ranges : (rest : List Check)
      → (verdict (size_checks list_inputs n k (count_check given_rows rs ∷ check (ltb room given_rows) 5 0 0 ∷ rest))).number ≡ 0
      → InRange list_inputs given_rows n k rs × (given_rows ≤ room) × ((verdict rest).number ≡ 0)
  disjoin-ranges rest h =
      let inputs = passes _ _ refl h in
      let columns = passes _ _ refl inputs.1 in
      let count = passes _ _ refl columns.1 in
      let lent = passes _ _ refl count.1 in (
        record {
          size = inside 1 list_inputs n inputs.0;
          columns = inside 1 outputs k columns.0;
          count = inside 1 given_rows (length rs) count.0;
        },
        ltb-false room given_rows lent.0,
        lent.1,
      )

  pub disjoin-numbered : Numbered (disjoin_checked n k rs room)
  unfolding disjoin_checked
  disjoin-numbered = (refl, (refl, (refl, (refl, (refl, tt)))))

  split-pass : (rest : List Check) → (verdict (disjoin_checked n k rs room ++ rest)).number ≡ 0
      → DisjoinPassed n k rs room × ((verdict rest).number ≡ 0)
  unfolding disjoin_checked
  split-pass rest h =
      let r = disjoin-ranges (bad_row_check n k rs ∷ rest) h in
      let formed = passes _ _ refl r.2 in
      (record { range = r.0; lent = r.1; good = every-good n k rs formed.0 }, formed.1)

  -- before 14
  pub disjoin-passed : (verdict (disjoin_checked n k rs room)).number ≡ 0 → DisjoinPassed n k rs room
  unfolding disjoin_checked
  disjoin-passed h = (split-pass [] h).0

  -- with 14
  pub disjoin-answered : (disjoin_verdict n k rs room).number ≡ 0 → DisjoinAnswered n k rs room
  unfolding disjoin_verdict
  disjoin-answered h =
      let p = split-pass (many_check n rs ∷ []) h in
      let last = passes _ _ refl p.1 in
      record { passed = p.0; few = ltb-false given_rows (length (disjoined n rs)) last.0 }

  -- a list with those facts is answered
  pub disjoin-answers : DisjoinAnswered n k rs room → disjoin_verdict n k rs room ≡ answer 0 0 0
  unfolding disjoin_verdict disjoin_checked
  disjoin-answers p =
      let r = p.passed.range in
      verdict-miss _ _ (within 1 list_inputs n r.size.0 r.size.1)
      ∙ verdict-miss _ _ (within 1 outputs k r.columns.0 r.columns.1)
      ∙ verdict-miss _ _ (within 1 given_rows (length rs) r.count.0 r.count.1)
      ∙ verdict-miss _ _ (le-ltb room given_rows p.passed.lent)
      ∙ verdict-miss _ _ (none_passes (length rs) (λ i. bad_row n k (row_at rs i)) p.passed.good)
      ∙ verdict-miss _ _ (le-ltb given_rows (length (disjoined n rs)) p.few)
      ∙ verdict-none
