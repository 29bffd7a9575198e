-- Reading row text: the room counts only up to as many places as a list has rows, for no more are read; on 0 there is room for the rows; and what
-- `read_into` promises, from the promise of the operation on flat slices. Assumes nothing.
use Rattle.std.specs.Prelude.{◌≡◌, refl, Bool, true, false, List, [], ◌∷◌, ◌++◌, ℕ, ◌≤◌, min, ltb, length, take}
use Rattle.std.proofs.Common.{sym, subst, ◌∙◌, arith, ltb-false}
use Rattle.std.proofs.Math.Path.{ap}
use Rattle.block.specs.Limits.{list_inputs, given_rows}
use Rattle.block.specs.Refusals.{Check, check, verdict, answered, carried, outside, size_checks}
use Rattle.block.specs.Text.{type_line_in, type_in, inputs_in, outputs_in, count_in, head_check, body_check, read_checks, read_verdict, with_headings, read_text, rows_in}
use Rattle.block.specs.declared.Answer.{Answer}
use Rattle.block.specs.declared.ReadAnswer.{ReadAnswer}
use Rattle.block.specs.declared.Row.{Row}
use Rattle.refusal_laws.specs.Verdicts.{answered-clear, verdict-stop}
use Rattle.shared_checks.specs.Sizes.{inside}
use Rattle.promises.specs.Lent.{Lent, lent_flat}
use Rattle.promises.specs.Texts.{ReadPromise}
use Rattle.read_laws.specs.Front.{rows-count}
use Rattle.record_copies.specs.declared.FlatRows.{FlatRows}
use Rattle.record_copies.specs.Flat.{held_rows, Sized}
use Rattle.record_copies.specs.Yielded.{lent_arrays, stores, lent-room, yields, yielded-wider, short-alike}

-- ---- the room counts only up to as many places as a list has rows

read-cut : (text : List ℕ) (room : ℕ) → read_verdict text (min room held_rows) ≡ read_verdict text room
unfolding read_verdict
read-cut text room = go (answered (verdict pre)) refl
  where
    n : ℕ
    n = inputs_in text

    k : ℕ
    k = outputs_in text

    p : ℕ
    p = count_in text

    pre : List Check
    pre = head_check text ∷ size_checks list_inputs n k (check (outside 1 given_rows p) 4 0 0 ∷ [])

    rest : Bool → List Check
    rest short = check short 5 0 0 ∷ body_check text ∷ []

    go : (b : Bool) → answered (verdict pre) ≡ b → verdict (pre ++ rest (ltb (min room held_rows) p)) ≡ verdict (pre ++ rest (ltb room p))
    go true e =
        ap (λ (short : Bool). verdict (pre ++ rest short))
        (short-alike room p (omega (arith, (inside 1 given_rows p (answered-clear pre (refl, (refl, (refl, (refl, tt)))) e 3 (omega arith))).1)))
    go false e = verdict-stop pre (rest (ltb (min room held_rows) p)) e ∙ sym (verdict-stop pre (rest (ltb room p)) e)

-- ---- on 0 there is room for the rows

room-enough : (text : List ℕ) (room : ℕ) → answered (read_verdict text room) ≡ true → length (rows_in text) ≤ room
unfolding read_verdict
room-enough text room e =
    let clear = answered-clear (read_checks text room) (refl, (refl, (refl, (refl, (refl, (refl, tt)))))) e in
    let l : count_in text ≤ room = ltb-false room (count_in text) (clear 4 (omega arith)) in
    omega (arith, rows-count text)

-- ---- the promise, from one lent room to another

module _ (text : List ℕ) (r : ReadAnswer) where
  -- it speaks of the room through the verdict alone
  read-to : (lent lent' : Lent) → read_verdict text lent.room ≡ read_verdict text lent'.room
      → (lent.holds (read_verdict text lent.room) (rows_in text) → lent'.holds (read_verdict text lent'.room) (rows_in text))
      → ReadPromise text lent r → ReadPromise text lent' r
  unfolding read_text
  read-to lent lent' e to p =
      record {
        answer = p.answer ∙ ap (λ (v : Answer). with_headings v (inputs_in text) (outputs_in text) (type_in text) (type_line_in text) (count_in text)) e;
        rows = to p.rows;
      }

  count_of : (lent : Lent) → ReadPromise text lent r → r.count ≡ carried (read_verdict text lent.room) (length (rows_in text))
  unfolding read_text
  count_of lent p =
      ap (λ (x : ReadAnswer). x.count) p.answer ∙ ap (carried (read_verdict text lent.room)) (sym (rows-count text))

  -- from flat slices, which are the first places of the arrays f
  pub read-yields : (m : ℕ) (f : FlatRows) (masks values words : List ℕ) (count : ℕ) → Sized f → m ≤ held_rows → count ≡ r.count
      → ReadPromise text (lent_flat (take m f.masks) (take m f.values) (take m f.words) masks values words) r
      → ReadPromise text (lent_arrays m (stores m f masks values words) count) r
  read-yields m f masks values words count z h c p =
      let s : List Row = rows_in text in
      let flat : Lent = lent_flat (take m f.masks) (take m f.values) (take m f.words) masks values words in
      let same : read_verdict text flat.room ≡ read_verdict text m = ap (read_verdict text) (lent-room m f z h) in
      read-to flat (lent_arrays m (stores m f masks values words) count) same (λ held.
      yields (read_verdict text m) s m count f masks values words z h (c ∙ count_of flat p ∙ ap (λ (v : Answer). carried v (length s)) same)
      (room-enough text m) (subst (λ (v : Answer). flat.holds v s) same held)) p

  -- from the room that is looked at to the whole
  pub read_whole : (room m : ℕ) (f : FlatRows) (count : ℕ) → m ≡ min room held_rows → ReadPromise text (lent_arrays m f count) r
      → ReadPromise text (lent_arrays room f count) r
  read_whole room m f count e =
      let same : read_verdict text m ≡ read_verdict text room = ap (read_verdict text) e ∙ read-cut text room in
      read-to (lent_arrays m f count) (lent_arrays room f count) same (yielded-wider same (omega arith))
