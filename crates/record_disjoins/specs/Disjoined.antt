-- The room for disjoint rows: it counts only up to as many places as a list can have, and on 0 there is room for them. So what `disjoin_into` promises
-- follows from the promise of the operation on flat slices, and what `disjoin_of` promises from that. Assumes nothing.
use Rattle.std.specs.Prelude.{◌≡◌, Bool, true, List, [], ◌∷◌, ◌++◌, ℕ, ◌≤◌, min, length, take}
use Rattle.std.proofs.Math.Path.{ap}
use Rattle.std.proofs.Common.{subst, ◌∙◌, arith, eqb-true}
use Rattle.block.specs.Limits.{list_inputs, given_rows}
use Rattle.block.specs.Refusals.{check, verdict, answered, carried, size_checks}
use Rattle.block.specs.Lists.{count_check, bad_row_check}
use Rattle.block.specs.Overlaps.{disjoined, disjoin_checked, many_check, disjoin_verdict, with_pieces, disjoin}
use Rattle.block.specs.declared.Row.{Row}
use Rattle.block.specs.declared.Answer.{Answer}
use Rattle.block.specs.declared.DisjoinAnswer.{DisjoinAnswer}
use Rattle.answered_laws.specs.Passed.{disjoin-answered}
use Rattle.promises.specs.Lent.{Lent, lent_flat}
use Rattle.promises.specs.Overlaps.{DisjoinPromise}
use Rattle.record_copies.specs.declared.FlatRows.{FlatRows}
use Rattle.record_copies.specs.Flat.{held_rows, Sized}
use Rattle.record_copies.specs.Yielded.{lent_arrays, stores, lent-room, yields, yielded-wider, short-alike}

module _ (n k : ℕ) (rs : List Row) (r : DisjoinAnswer) where
  abbrev verdict_at : ℕ → Answer
  verdict_at = disjoin_verdict n k rs

  verdict-room : (room : ℕ) → verdict_at (min room held_rows) ≡ verdict_at room
  unfolding disjoin_verdict disjoin_checked
  verdict-room room =
      ap
      (λ (short : Bool).
      verdict
      (size_checks list_inputs n k (count_check given_rows rs ∷ check short 5 0 0 ∷ bad_row_check n k rs ∷ []) ++ (many_check n rs ∷ [])))
      (short-alike room given_rows (omega arith))

  fits : (room : ℕ) → answered (verdict_at room) ≡ true → length (disjoined n rs) ≤ room
  fits room e = let p = disjoin-answered n k rs room (eqb-true _ 0 e) in omega (arith, p.few, p.passed.lent)

  -- the promise speaks of the room through the verdict alone
  disjoin-to : (lent lent' : Lent) → verdict_at lent.room ≡ verdict_at lent'.room
      → (lent.holds (verdict_at lent.room) (disjoined n rs) → lent'.holds (verdict_at lent'.room) (disjoined n rs))
      → DisjoinPromise n k rs lent r → DisjoinPromise n k rs lent' r
  unfolding disjoin
  disjoin-to lent lent' e to p =
      record { answer = p.answer ∙ ap (λ (v : Answer). with_pieces v (length (disjoined n rs))) e; rows = to p.rows }

  count_of : (lent : Lent) → DisjoinPromise n k rs lent r → r.count ≡ carried (verdict_at lent.room) (length (disjoined n rs))
  unfolding disjoin
  count_of lent p = ap (λ (x : DisjoinAnswer). x.count) p.answer

  -- from flat slices, which are the first places of the arrays f
  pub disjoin-yields : (room : ℕ) (f : FlatRows) (masks values words : List ℕ) → Sized f → room ≤ held_rows
      → DisjoinPromise n k rs (lent_flat (take room f.masks) (take room f.values) (take room f.words) masks values words) r
      → DisjoinPromise n k rs (lent_arrays room (stores room f masks values words) r.count) r
  disjoin-yields room f masks values words z h p =
      let flat : Lent = lent_flat (take room f.masks) (take room f.values) (take room f.words) masks values words in
      let same : verdict_at flat.room ≡ verdict_at room = ap verdict_at (lent-room room f z h) in
      disjoin-to flat (lent_arrays room (stores room f masks values words) r.count) same (λ held.
      yields (verdict_at room) (disjoined n rs) room r.count f masks values words z h
      (count_of flat p ∙ ap (λ (v : Answer). carried v (length (disjoined n rs))) same) (fits room)
      (subst (λ (v : Answer). flat.holds v (disjoined n rs)) same held)) p

  -- from the room that is looked at to the whole
  pub disjoin-whole : (room m : ℕ) (f : FlatRows) (count : ℕ) → m ≡ min room held_rows → DisjoinPromise n k rs (lent_arrays m f count) r
      → DisjoinPromise n k rs (lent_arrays room f count) r
  disjoin-whole room m f count e =
      let same : verdict_at m ≡ verdict_at room = ap verdict_at e ∙ verdict-room room in
      disjoin-to (lent_arrays m f count) (lent_arrays room f count) same (yielded-wider same (omega arith))
