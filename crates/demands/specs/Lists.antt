-- Demand 3, whole, for each type, the same on both sides: a list of at most 12 inputs that the row method answers, filled into a table.
-- Filling answers, the table method on that table answers with the same basis, matrix and two measures, and the smaller rows, filled into
-- a table, are exactly its smaller table; no two of them share a point. Beside it the way back for lists, and what the smaller rows are up
-- to 16 inputs. Assumes nothing.
use Rattle.std.specs.Prelude.{◌≡◌, refl, Bool, true, false, not, cond, ◌||◌, List, [], ◌∷◌, map, ℕ, suc, ◌^◌, ◌≤◌, ◌<◌, ltb, length}
use Rattle.std.proofs.Common.{sym, ap, ◌∙◌, arith, lt-ltb, le-ltb, eq-eqb}
use Rattle.std.proofs.Math.Bool.{and-false}
use Rattle.slices.specs.Places.{at}
use Rattle.slices.specs.Filled.{tab-at, tab-cong, length-tab}
use Rattle.block.specs.Limits.{table_inputs, outputs, smaller_rows}
use Rattle.block.specs.Words.{none, fr, fd, missing, of_table, under, of_rows, word_part}
use Rattle.block.specs.Measure.{shift}
use Rattle.block.specs.Basis.{columns, inverse, apply, basis_of, sigma_of, smaller_of}
use Rattle.block.specs.Refusals.{answer, bad_entry, bad_row, driven}
use Rattle.block.specs.Tables.{table_method_verdict, table_method, smaller_table, restore_verdict, restored}
use Rattle.block.specs.Lists.{row_method_verdict, row_method, smaller_list, fill_verdict, filled}
use Rattle.block.specs.declared.Row.{Row}
use Rattle.block.specs.declared.Answer.{Answer}
use Rattle.refusal_laws.specs.Verdicts.{verdict-miss, verdict-none, none_passes, carried-yes}
use Rattle.shared_checks.specs.Sizes.{within}
use Rattle.choice_laws.specs.Chosen.{basis-tab, pick-cong}
use Rattle.matrix_laws.specs.Linear.{columns-lt}
use Rattle.matrix_laws.specs.Candidate.{basis-independent}
use Rattle.matrix_laws.specs.Smaller.{shift-points, measure-points}
use Rattle.pair_laws.specs.Theorem.{Every, Apart}
use Rattle.pair_laws.specs.Share.{good-word}
use Rattle.answered_laws.specs.Passed.{Passed, MethodAnswered, method-answered, fill-answers}
use Rattle.step_laws.specs.Smaller as M
use Rattle.step_laws.specs.Driven.{smaller-driven}
use Rattle.demands.specs.Restoring.{restoring-answers}

-- the basis goes by the block's points alone, and so do sigma and the smaller block
pub basis-points : (f g : ℕ → ℕ) (n w : ℕ) → ((x : ℕ) → x < 2 ^ n → f x ≡ g x) → basis_of f n w ≡ basis_of g n w
basis-points f g n w e =
    basis-tab f n w
    ∙ tab-cong n _ _ (λ j l. pick-cong (shift f n) (shift g n) n w (λ t h low high. shift-points f g n t h e) j)
    ∙ sym (basis-tab g n w)

pub sigma-points : (f g : ℕ → ℕ) (n w : ℕ) → ((x : ℕ) → x < 2 ^ n → f x ≡ g x) → sigma_of f n w ≡ sigma_of g n w
unfolding sigma_of
sigma-points f g n w e = ap (λ (c : List ℕ). inverse (at c) n) (basis-points f g n w e)

pub smaller-points : (f g : ℕ → ℕ) (n w : ℕ) → 1 ≤ w → ((x : ℕ) → x < 2 ^ n → f x ≡ g x) → (z : ℕ) → z < 2 ^ n
    → smaller_of f n w z ≡ smaller_of g n w z
unfolding smaller_of
smaller-points f g n w hw e z h =
    ap (λ (c : List ℕ). f (columns (at c) n z)) (basis-points f g n w e)
    ∙ e (columns (at (basis_of g n w)) n z) (columns-lt (at (basis_of g n w)) n n z (basis-independent g n w hw).below)

-- a filled table has the list's words
pub filled_at : (m n : ℕ) (rs : List Row) (x : ℕ) → x < 2 ^ n → of_table (filled m n rs) x ≡ of_rows m rs x
unfolding filled
filled_at m n rs x h = tab-at (2 ^ n) (of_rows m rs) none x h

-- ---- what is checked

-- the word of a well formed list at any point is a table's entry
entry-good : (m n k : ℕ) (rs : List Row) (x : ℕ) → Every (λ r. bad_row n k r ≡ false) rs → bad_entry m k (of_rows m rs x) ≡ false
unfolding of_rows
entry-good m n k [] x h = rw (eq-eqb m m refl, and-false)
entry-good m n k (r ∷ rs) x h = go (under r x) (entry-good m n k rs x (λ i l. h (suc i) (omega arith)))
  where
    go : (b : Bool) → bad_entry m k (of_rows m rs x) ≡ false → bad_entry m k (cond b r.word (of_rows m rs x)) ≡ false
    go true ih = rw (lt-ltb r.word (2 ^ k) (good-word n k r (h 0 (omega arith))))
    go false ih = ih

-- what the row method's answer of 0 says of a list: the rooms say nothing of it
pub method-passes : (n k y w : ℕ) (rs : List Row) (roomT roomSigma roomRows : ℕ)
    → (row_method_verdict n k y w rs roomT roomSigma roomRows).number ≡ 0
    → MethodAnswered n k y w rs (ltb roomT n || (ltb roomSigma n || ltb roomRows smaller_rows))
unfolding row_method_verdict
method-passes n k y w rs roomT roomSigma roomRows h = method-answered n k y w rs (ltb roomT n || (ltb roomSigma n || ltb roomRows smaller_rows)) h

-- the table method answers for the filled table
table-answers : (n k y w : ℕ) (rs : List Row) (roomT roomSigma room : ℕ) → Passed table_inputs smaller_rows n k rs → (fr ≤ y) × (y ≤ fd)
    → 1 ≤ w → w ≤ n → 2 ^ n ≤ room → n ≤ roomT → n ≤ roomSigma → table_method_verdict n k y w (filled (missing y) n rs) roomT roomSigma room ≡ answer 0 0 0
unfolding table_method_verdict filled
table-answers n k y w rs roomT roomSigma room p typed least most hr ht hs =
    let r = p.range in
    verdict-miss _ _ (within 1 table_inputs n r.size.0 r.size.1)
    ∙ verdict-miss _ _ (within 1 outputs k r.columns.0 r.columns.1)
    ∙ verdict-miss _ _ (within fr fd y typed.0 typed.1)
    ∙ verdict-miss _ _ (within 1 n w least most)
    ∙ verdict-miss _ _ (ap not (eq-eqb (length (filled (missing y) n rs)) (2 ^ n) (length-tab (2 ^ n) (of_rows (missing y) rs))))
    ∙ verdict-miss _ _ (rw (le-ltb roomT n ht, le-ltb roomSigma n hs, le-ltb room (2 ^ n) hr))
    ∙ verdict-miss _ _
    (none_passes (length (filled (missing y) n rs)) (λ i. bad_entry (missing y) k (at (filled (missing y) n rs) i))
    (λ i b.
    ap (bad_entry (missing y) k) (tab-at (2 ^ n) (of_rows (missing y) rs) 0 i (rw (length-tab (2 ^ n) (of_rows (missing y) rs)) at b)) ∙ entry-good (missing y) n k rs i p.good))
    ∙ verdict-none

-- the list and its smaller rows, where n is a table's: both pass as lists to fill
fillable : (n k y w : ℕ) (rs : List Row) (short : Bool) → MethodAnswered n k y w rs short → n ≤ table_inputs → Passed table_inputs smaller_rows n k rs
fillable n k y w rs short p hn =
    let r = p.passed.list.range in
    record {
      range = record { size = (r.size.0, hn); columns = r.columns; count = (r.count.0, omega (arith, r.count.1)) };
      good = p.passed.list.good;
      disjoint = p.passed.list.disjoint;
      columns-driven = p.passed.list.columns-driven;
    }

refillable : (n k y w : ℕ) (rs : List Row) (short : Bool) → MethodAnswered n k y w rs short → n ≤ table_inputs
    → Passed table_inputs smaller_rows n k (smaller_list (missing y) n w rs)
refillable n k y w rs short p hn =
    let list = p.passed.list in
    let hw = p.passed.weight.0 in
    record {
      range =
          record {
            size = (list.range.size.0, hn);
            columns = list.range.columns;
            count = (omega (arith, list.range.count.0, M.smaller-length (missing y) n w rs), p.few);
          };
      good = M.smaller-good (missing y) n w hw rs k list.good;
      disjoint = M.smaller-disjoint (missing y) n w hw rs list.disjoint;
      columns-driven = λ j l. smaller-driven (missing y) n w rs j ∙ list.columns-driven j l;
    }

-- ---- demand 3

-- what demand 3 says of a list, with room for the tables
pub record Agreed (n k y w : ℕ) (rs : List Row) (roomT roomSigma roomRows room roomT' roomSigma' : ℕ) : Type 0 where
  -- the table filled from the list
  pub fills : fill_verdict n k y rs room ≡ answer 0 0 0
  -- the table method on it
  pub answers : table_method_verdict n k y w (filled (missing y) n rs) roomT' roomSigma' room ≡ answer 0 0 0
  -- the same basis, matrix and two measures
  pub basis : basis_of (of_table (filled (missing y) n rs)) n w ≡ basis_of (of_rows (missing y) rs) n w
  pub sigma : sigma_of (of_table (filled (missing y) n rs)) n w ≡ sigma_of (of_rows (missing y) rs) n w
  pub first-measure : (table_method n k y w (filled (missing y) n rs) roomT' roomSigma' room).before ≡ (row_method n k y w rs roomT roomSigma roomRows).before
  pub second-measure : (table_method n k y w (filled (missing y) n rs) roomT' roomSigma' room).after ≡ (row_method n k y w rs roomT roomSigma roomRows).after
  -- the smaller rows, filled into a table, are exactly its smaller table
  pub refills : fill_verdict n k y (smaller_list (missing y) n w rs) room ≡ answer 0 0 0
  pub smaller : filled (missing y) n (smaller_list (missing y) n w rs) ≡ smaller_table (of_table (filled (missing y) n rs)) n w
  -- no two of those rows share a point
  pub apart : Apart n (smaller_list (missing y) n w rs)

same_tables : (m n w : ℕ) (rs : List Row) → 1 ≤ w
    → ((z : ℕ) → z < 2 ^ n → of_rows m (smaller_list m n w rs) z ≡ smaller_of (of_table (filled m n rs)) n w z)
    → filled m n (smaller_list m n w rs) ≡ smaller_table (of_table (filled m n rs)) n w
unfolding filled smaller_table
same_tables m n w rs hw e = tab-cong (2 ^ n) _ _ e

pub demand-3 : (n k y w : ℕ) (rs : List Row) (roomT roomSigma roomRows room roomT' roomSigma' : ℕ)
    → (row_method_verdict n k y w rs roomT roomSigma roomRows).number ≡ 0 → n ≤ table_inputs
    → 2 ^ n ≤ room → n ≤ roomT' → n ≤ roomSigma' → Agreed n k y w rs roomT roomSigma roomRows room roomT' roomSigma'
unfolding table_method row_method
demand-3 n k y w rs roomT roomSigma roomRows room roomT' roomSigma' h hn hr ht hs =
    let p = method-passes n k y w rs roomT roomSigma roomRows h in
    let f = of_table (filled (missing y) n rs) in
    let points : (x : ℕ) → x < 2 ^ n → f x ≡ of_rows (missing y) rs x = filled_at (missing y) n rs in
    let typed = p.passed.typed in
    let hw = p.passed.weight.0 in
    let v : Answer = table_method_verdict n k y w (filled (missing y) n rs) roomT' roomSigma' room in
    let u : Answer = row_method_verdict n k y w rs roomT roomSigma roomRows in
    let given = fillable n k y w rs _ p hn in
    let smaller = refillable n k y w rs _ p hn in
    let table = table-answers n k y w rs roomT' roomSigma' room given typed hw p.passed.weight.1 hr ht hs in
    let zero : (table_method_verdict n k y w (filled (missing y) n rs) roomT' roomSigma' room).number ≡ 0 = ap (λ (v : Answer). v.number) table in
    let sound = p.passed.list.disjoint.sound in
    record {
      fills = fill-answers n k y rs room given typed hr;
      answers = table;
      basis = basis-points f (of_rows (missing y) rs) n w points;
      sigma = sigma-points f (of_rows (missing y) rs) n w points;
      first-measure =
          carried-yes v _ zero ∙ measure-points f (of_rows (missing y) rs) n points ∙ sym (carried-yes u _ h);
      second-measure =
          carried-yes v _ zero
          ∙ measure-points (smaller_of f n w) (smaller_of (of_rows (missing y) rs) n w) n (smaller-points f (of_rows (missing y) rs) n w hw points)
          ∙ sym (carried-yes u _ h);
      refills = fill-answers n k y (smaller_list (missing y) n w rs) room smaller typed hr;
      smaller = same_tables (missing y) n w rs hw (λ z l. M.smaller-rows (missing y) n w hw rs sound z l ∙ sym (smaller-points f (of_rows (missing y) rs) n w hw points z l));
      apart = smaller.disjoint.apart;
    }

-- ---- beyond 12 inputs, and the way back

-- the list at x is the smaller rows at sigma x, for every point, up to 16 inputs
pub list_at : (n k y w : ℕ) (rs : List Row) (roomT roomSigma roomRows : ℕ)
    → (row_method_verdict n k y w rs roomT roomSigma roomRows).number ≡ 0 → (x : ℕ) → x < 2 ^ n
    → of_rows (missing y) (smaller_list (missing y) n w rs) (apply (at (sigma_of (of_rows (missing y) rs) n w)) n x) ≡ of_rows (missing y) rs x
list_at n k y w rs roomT roomSigma roomRows h x l =
    let p = (method-passes n k y w rs roomT roomSigma roomRows h).passed in
    M.smaller-word (missing y) n w p.weight.0 rs p.list.disjoint.sound x l

-- and no two smaller rows share a point
pub list-apart : (n k y w : ℕ) (rs : List Row) (roomT roomSigma roomRows : ℕ)
    → (row_method_verdict n k y w rs roomT roomSigma roomRows).number ≡ 0 → Apart n (smaller_list (missing y) n w rs)
list-apart n k y w rs roomT roomSigma roomRows h =
    let p = (method-passes n k y w rs roomT roomSigma roomRows h).passed in
    (M.smaller-disjoint (missing y) n w p.weight.0 rs p.list.disjoint).apart

-- and they drive every column, as the list does (02, Ticket 8)
pub list-driven : (n k y w : ℕ) (rs : List Row) (roomT roomSigma roomRows : ℕ)
    → (row_method_verdict n k y w rs roomT roomSigma roomRows).number ≡ 0 → (j : ℕ) → j < k
    → (driven (map word_part rs) j ≡ true) × (driven (map word_part (smaller_list (missing y) n w rs)) j ≡ true)
list-driven n k y w rs roomT roomSigma roomRows h j l =
    let d = (method-passes n k y w rs roomT roomSigma roomRows h).passed.list.columns-driven j l in
    (d, smaller-driven (missing y) n w rs j ∙ d)

-- up to 12 inputs the smaller rows filled, then restored with sigma, are the list filled
pub list-restored : (n k y w : ℕ) (rs : List Row) (roomT roomSigma roomRows room : ℕ)
    → (row_method_verdict n k y w rs roomT roomSigma roomRows).number ≡ 0 → n ≤ table_inputs → 2 ^ n ≤ room
    → (restore_verdict n k y (sigma_of (of_rows (missing y) rs) n w) (filled (missing y) n (smaller_list (missing y) n w rs)) room ≡ answer 0 0 0)
    × (restored n (sigma_of (of_rows (missing y) rs) n w) (filled (missing y) n (smaller_list (missing y) n w rs)) ≡ filled (missing y) n rs)
list-restored n k y w rs roomT roomSigma roomRows room h hn hr =
    let d = demand-3 n k y w rs roomT roomSigma roomRows room n n h hn hr (omega arith) (omega arith) in
    let back = restoring-answers n k y w (filled (missing y) n rs) n n room room (ap (λ (v : Answer). v.number) d.answers) hr in
    rw (sym d.sigma, d.smaller) back
