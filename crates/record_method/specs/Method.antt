-- The row method's room for smaller rows: it counts only up to as many places as a smaller block has rows, and on 0 there is room for them.
-- So what `method_into` promises follows from the promise of the operation on flat slices, and what `method_of` promises from that.
-- Assumes nothing.
use Rattle.std.specs.Prelude.{◌≡◌, Bool, true, ◌||◌, List, ℕ, ◌≤◌, min, length, take}
use Rattle.std.proofs.Math.Path.{ap}
use Rattle.std.proofs.Common.{subst, ◌∙◌, arith, eqb-true}
use Rattle.std.proofs.Math.Dec.{ltb}
use Rattle.block.specs.Limits.{smaller_rows}
use Rattle.block.specs.Words.{missing, of_rows}
use Rattle.block.specs.Measure.{measure}
use Rattle.block.specs.Basis.{basis_of, sigma_of, smaller_of}
use Rattle.block.specs.Refusals.{verdict, answered, carried, stored}
use Rattle.block.specs.Lists.{method_checks, row_method_verdict, with_rows, row_method, smaller_list}
use Rattle.block.specs.declared.Row.{Row}
use Rattle.block.specs.declared.Answer.{Answer}
use Rattle.block.specs.declared.RowMethodAnswer.{RowMethodAnswer}
use Rattle.shared_checks.specs.Sizes.{long-enough}
use Rattle.answered_laws.specs.Passed.{method-answered}
use Rattle.promises.specs.Lent.{Lent, lent_flat}
use Rattle.promises.specs.Lists.{RowMethodPromise}
use Rattle.record_copies.specs.declared.FlatRows.{FlatRows}
use Rattle.record_copies.specs.Flat.{held_rows, Sized}
use Rattle.record_copies.specs.Yielded.{lent_arrays, stores, lent-room, yields, yielded-wider, short-alike}

-- ---- the room counts only up to as many places as a smaller block has rows

module _ (n k y w : ℕ) (rs : List Row) (a b room : ℕ) where
  verdict-room : row_method_verdict n k y w rs a b (min room held_rows) ≡ row_method_verdict n k y w rs a b room
  unfolding row_method_verdict
  verdict-room = ap (λ (s : Bool). verdict (method_checks n k y w rs (ltb a n || (ltb b n || s)))) (short-alike room smaller_rows (omega arith))

  -- ---- on 0 there is room for the smaller rows

  smaller-fits : answered (row_method_verdict n k y w rs a b room) ≡ true → length (smaller_list (missing y) n w rs) ≤ room
  unfolding row_method_verdict
  smaller-fits e =
      let p = method-answered n k y w rs (ltb a n || (ltb b n || ltb room smaller_rows)) (eqb-true _ 0 e) in
      let lent = long-enough n smaller_rows a b room p.passed.room in
      omega (arith, p.few, lent.2)

-- ---- the promise, from one lent room to another

module _ (n k y w : ℕ) (rs : List Row) (basis₀ sigma₀ : List ℕ) (r : RowMethodAnswer) (basis₁ sigma₁ : List ℕ) where
  abbrev verdict_at : ℕ → Answer
  verdict_at = row_method_verdict n k y w rs (length basis₀) (length sigma₀)

  abbrev Promise : Lent → Type 0
  Promise lent = RowMethodPromise n k y w rs lent basis₀ sigma₀ r basis₁ sigma₁

  -- it speaks of the room through the verdict alone
  method-to : (lent lent' : Lent) → verdict_at lent.room ≡ verdict_at lent'.room
      → (lent.holds (verdict_at lent.room) (smaller_list (missing y) n w rs) → lent'.holds (verdict_at lent'.room) (smaller_list (missing y) n w rs))
      → Promise lent → Promise lent'
  unfolding row_method
  method-to lent lent' e to p =
      record {
        answer = p.answer ∙ ap answer_at e;
        basis = p.basis ∙ ap (λ (v : Answer). stored v (basis_of (of_rows (missing y) rs) n w) basis₀) e;
        sigma = p.sigma ∙ ap (λ (v : Answer). stored v (sigma_of (of_rows (missing y) rs) n w) sigma₀) e;
        smaller = to p.smaller;
      }
    where
      answer_at : Answer → RowMethodAnswer
      answer_at v = with_rows v (measure (of_rows (missing y) rs) n) (measure (smaller_of (of_rows (missing y) rs) n w) n) (length (smaller_list (missing y) n w rs))

  count_of : (lent : Lent) → Promise lent → r.count ≡ carried (verdict_at lent.room) (length (smaller_list (missing y) n w rs))
  unfolding row_method
  count_of lent p = ap (λ (x : RowMethodAnswer). x.count) p.answer

  -- from flat slices, which are the first places of the arrays f
  pub method-yields : (room : ℕ) (f : FlatRows) (masks values words : List ℕ) → Sized f → room ≤ held_rows
      → Promise (lent_flat (take room f.masks) (take room f.values) (take room f.words) masks values words)
      → Promise (lent_arrays room (stores room f masks values words) r.count)
  method-yields room f masks values words z h p =
      let s : List Row = smaller_list (missing y) n w rs in
      let flat : Lent = lent_flat (take room f.masks) (take room f.values) (take room f.words) masks values words in
      let same : verdict_at flat.room ≡ verdict_at room = ap verdict_at (lent-room room f z h) in
      method-to flat (lent_arrays room (stores room f masks values words) r.count) same (λ held.
      yields (verdict_at room) s room r.count f masks values words z h
      (count_of flat p ∙ ap (λ (v : Answer). carried v (length s)) same) (smaller-fits n k y w rs (length basis₀) (length sigma₀) room)
      (subst (λ (v : Answer). flat.holds v s) same held)) p

  -- from the room that is looked at to the whole
  pub method-whole : (room m : ℕ) (f : FlatRows) (count : ℕ) → m ≡ min room held_rows → Promise (lent_arrays m f count)
      → Promise (lent_arrays room f count)
  method-whole room m f count e =
      let same : verdict_at m ≡ verdict_at room = ap verdict_at e ∙ verdict-room n k y w rs (length basis₀) (length sigma₀) room in
      method-to (lent_arrays m f count) (lent_arrays room f count) same (yielded-wider same (omega arith))
