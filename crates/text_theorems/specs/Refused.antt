-- When a text is refused with 10 at line A: exactly when line A is not of the form due there and every earlier line is, and the line is
-- looked at: a heading always, the type line among them, another line where n, k, the number of rows and the room are in range
-- (`ten-exactly`). Lines are counted from 0 here and A from 1. Assumes nothing.
use Rattle.std.specs.Prelude.{◌≡◌, Bool, false, cond, List, [], ◌⊎◌, ◌↔◌, ltb}
use Rattle.std.proofs.Math.Path.{refl, ap}
use Rattle.std.proofs.Common.{sym, ◌∙◌, inl, inr, get_or-drop}
use Rattle.std.proofs.Math.Bool.{true, not}
use Prim.Native.Nat.{ℕ, suc, ◌+◌, ◌-◌, ◌≤◌, ◌<◌}
use Rattle.std.proofs.Math.Decide.{dec_lt}
use native.Mathlib.Omega.{arith}
use borrow.Author.Tests.{lt-ltb, le-ltb, ltb-true, ltb-false, not-true, not-false}
use Rattle.slices.specs.Least.{first-is, first-le, first_below, first_passes}
use Rattle.block.specs.Limits.{list_inputs, outputs, given_rows}
use Rattle.block.specs.Refusals.{answer, verdict, outside}
use Rattle.block.specs.Text.{lines, line_in, line_at, type_line_in, head_count, head_place, head_due, head_fault, inputs_in, outputs_in, count_in, body, body_due, body_fault, first_line, read_verdict}
use Rattle.block.specs.declared.Answer.{Answer}
use Rattle.shared_checks.specs.Sizes.{inside, within}
use Rattle.read_laws.specs.Tests.{not-both}
use Rattle.text_theorems.specs.Accepted.{Within}
use Rattle.text_theorems.specs.Due.{line_due, place-due, type-due, heading-at, place-later, below-due}

-- line i of a text has the form due there: that of its heading or of the type line, or after the headings that of its line of the body
abbrev pub due_at : List ℕ → ℕ → Bool
due_at text i =
    cond (ltb i (head_place text head_count)) (line_due (type_line_in text) i (line_at text i))
    (body_due (inputs_in text) (outputs_in text) (count_in text) (i - head_place text head_count) (line_at text i))

-- line i is not of the form due there, and every earlier line is
abbrev pub FirstFault : List ℕ → ℕ → Type 0
FirstFault text i = (due_at text i ≡ false) × ((j : ℕ) → j < i → due_at text j ≡ true)

-- line i is looked at: the headings first, the others where all is in range
abbrev pub Looked : List ℕ → ℕ → ℕ → Type 0
Looked text room i =
    (i < head_place text head_count)
    ⊎ (Within (inputs_in text) (outputs_in text) (count_in text) room × (i < head_place text head_count + (count_in text + 2)))

module _ (text : List ℕ) where
  abbrev n : ℕ
  n = inputs_in text

  abbrev k : ℕ
  k = outputs_in text

  abbrev p : ℕ
  p = count_in text

  -- the body's first line
  abbrev fourth : ℕ
  fourth = head_place text head_count

  abbrev head_lacks : ℕ → Bool
  head_lacks i = not (head_due i (line_at text (head_place text i)))

  abbrev body_lacks : ℕ → Bool
  body_lacks i = not (body_due n k p i (line_in (body text) i))

  abbrev fault : ℕ
  fault = body_fault n k p (body text)

  line-due : (i : ℕ) → i < fourth → due_at text i ≡ line_due (type_line_in text) i (line_at text i)
  line-due i l = rw (lt-ltb i fourth l)

  head-due : (i : ℕ) → i < head_count → due_at text (head_place text i) ≡ head_due i (line_at text (head_place text i))
  head-due i l = line-due (head_place text i) (place-later text i head_count l) ∙ place-due text i (line_at text (head_place text i)) l

  body-due : (i : ℕ) → due_at text (fourth + i) ≡ body_due n k p i (line_in (body text) i)
  body-due i =
      let e : fourth + i - fourth ≡ i = omega arith in
      rw (le-ltb (fourth + i) fourth (omega arith), e) (ap (body_due n k p i) (sym (get_or-drop fourth (lines text) i [])))

  -- the least faulty heading, and the least faulty line of the body
  head-is : (i : ℕ) → i < head_count → FirstFault text (head_place text i) → head_fault text ≡ i
  unfolding head_fault
  head-is i l f =
      first-is head_count head_lacks i (omega arith) (λ j b. ap not (sym (head-due j (omega arith)) ∙ f.1 (head_place text j) (place-later text j i b)))
      (λ b. ap not (sym (head-due i l) ∙ f.0))

  heads-sound : ((j : ℕ) → j < fourth → due_at text j ≡ true) → head_fault text ≡ head_count
  unfolding head_fault
  heads-sound h =
      first-is head_count head_lacks head_count (omega arith) (λ j b. ap not (sym (head-due j b) ∙ h (head_place text j) (place-later text j head_count b)))
      (λ b. absurd (omega arith))

  body_is : (i : ℕ) → i < p + 2 → FirstFault text (fourth + i) → fault ≡ i
  unfolding body_fault
  body_is i l f =
      first-is (p + 2) body_lacks i (omega arith) (λ j b. ap not (sym (body-due j) ∙ f.1 (fourth + j) (omega arith)))
      (λ b. ap not (sym (body-due i) ∙ f.0))

  -- a faulty line of the headings is that of a heading: the type line has form where it stands
  faulty-heading : (i : ℕ) → i < fourth → due_at text i ≡ false → (j : ℕ) × (j < head_count) × (head_place text j ≡ i)
  faulty-heading i l f = go (heading-at text i l)
    where
      go : ((j : ℕ) × (j < head_count) × (head_place text j ≡ i)) ⊎ ((i ≡ 2) × (1 ≤ type_line_in text)) → (j : ℕ) × (j < head_count) × (head_place text j ≡ i)
      go (inl found) = found
      go (inr (e, z)) =
          not-both (due_at text i)
          (line-due i l ∙ rw (e, lt-ltb 2 (2 + type_line_in text) (omega arith)) (type-due text z)) f

  heads-below : (i : ℕ) → i ≤ head_fault text → (l : ℕ) → l < head_place text i → due_at text l ≡ true
  unfolding head_fault
  heads-below i b l h =
      let m : i ≤ head_count = omega (arith, first-le head_count head_lacks) in
      line-due l (before m (dec_lt i head_count))
      ∙ below-due text i m (λ j c. not-false (head_due j (line_at text (head_place text j))) (first_below head_count head_lacks j (omega arith))) l h
    where
      before : i ≤ head_count → Dec (i < head_count) → l < fourth
      before m (yes c) = omega (arith, place-later text i head_count c)
      before m (no c) = let e : i ≡ head_count = omega arith in omega (arith, ap (head_place text) e)

  head_first : head_fault text < head_count → FirstFault text (head_place text (head_fault text))
  unfolding head_fault
  head_first l = (
    head-due (head_fault text) l
        ∙ not-true (head_due (head_fault text) (line_at text (head_place text (head_fault text)))) (first_passes head_count head_lacks l),
    heads-below (head_fault text) (omega arith),
  )

  body-first : head_count ≡ head_fault text → fault < p + 2 → FirstFault text (fourth + fault)
  unfolding body_fault
  body-first e l = (
    body-due fault ∙ not-true (body_due n k p fault (line_in (body text) fault)) (first_passes (p + 2) body_lacks l),
    λ j b. earlier j b (dec_lt j fourth),
  )
    where
      earlier : (j : ℕ) → j < fourth + fault → Dec (j < fourth) → due_at text j ≡ true
      earlier j b (yes m) = heads-below head_count (omega arith) j m
      earlier j b (no m) =
          let i : ℕ = j - fourth in
          let q : j ≡ fourth + i = omega arith in
          ap (due_at text) q ∙ body-due i ∙ not-false (body_due n k p i (line_in (body text) i)) (first_below (p + 2) body_lacks i (omega arith))

  -- ---- 10

  pub ten-when : (room i : ℕ) → FirstFault text i → Looked text room i → read_verdict text room ≡ answer 10 (suc i) 0
  unfolding read_verdict verdict
  ten-when room i f s = go (dec_lt i fourth) s
    where
      at-heading : (j : ℕ) × (j < head_count) × (head_place text j ≡ i) → read_verdict text room ≡ answer 10 (suc i) 0
      at-heading (j, l, e) =
          rw (head-is j l (rw (← e) at f), lt-ltb j head_count l) (ap (λ (a : ℕ). answer 10 a 0) (omega arith))

      go : Dec (i < fourth) → Looked text room i → read_verdict text room ≡ answer 10 (suc i) 0
      go (yes l) s = at-heading (faulty-heading i l f.0)
      go (no l) (inl b) = absurd (l b)
      go (no l) (inr (w, b)) =
          let e : i ≡ fourth + (i - fourth) = omega arith in
          rw (
            heads-sound (λ j h. f.1 j (omega arith)),
            within 1 list_inputs n w.inputs.0 w.inputs.1,
            within 1 outputs k w.outputs.0 w.outputs.1,
            within 1 given_rows p w.count.0 w.count.1,
            le-ltb room p w.enough,
            body_is (i - fourth) (omega arith) (rw e at f),
            lt-ltb (i - fourth) (p + 2) (omega arith),
          )
          (ap (λ (a : ℕ). answer 10 a 0) (omega arith))

  pub ten-only : (room : ℕ) → (read_verdict text room).number ≡ 10
      → (i : ℕ) × (read_verdict text room ≡ answer 10 (suc i) 0) × FirstFault text i × Looked text room i
  unfolding read_verdict verdict head_fault
  ten-only room e =
      go (ltb (head_fault text) head_count) (outside 1 list_inputs n) (outside 1 outputs k) (outside 1 given_rows p) (ltb room p) (ltb fault (p + 2))
      refl refl refl refl refl refl e
    where
      line : (a b : ℕ) → a ≡ b → answer 10 a 0 ≡ answer 10 b 0
      line a b q = ap (λ (a : ℕ). answer 10 a 0) q

      go : (a b c d m q : Bool) → ltb (head_fault text) head_count ≡ a → outside 1 list_inputs n ≡ b → outside 1 outputs k ≡ c
          → outside 1 given_rows p ≡ d → ltb room p ≡ m → ltb fault (p + 2) ≡ q
          → (cond a (answer 10 (first_line + head_place text (head_fault text)) 0) (cond b (answer 1 0 0) (cond c (answer 2 0 0) (cond d (answer 4 0 0)
          (cond m (answer 5 0 0) (cond q (answer 10 (first_line + fourth + fault) 0) (answer 0 0 0))))))).number ≡ 10
          → (i : ℕ) × (read_verdict text room ≡ answer 10 (suc i) 0) × FirstFault text i × Looked text room i
      go true b c d m q r s t u v w e =
          let l = ltb-true (head_fault text) head_count r in
          (head_place text (head_fault text), rw r (line _ _ (omega arith)), head_first l, inl (place-later text (head_fault text) head_count l))
      go false true c d m q r s t u v w e = absurd (omega arith)
      go false false true d m q r s t u v w e = absurd (omega arith)
      go false false false true m q r s t u v w e = absurd (omega arith)
      go false false false false true q r s t u v w e = absurd (omega arith)
      go false false false false false true r s t u v w e =
          let l = ltb-true fault (p + 2) w in
          let h = ltb-false (head_fault text) head_count r in (
            fourth + fault,
            rw (r, s, t, u, v, w) (line _ _ (omega arith)),
            body-first (omega (arith, first-le head_count head_lacks)) l,
            inr (
              record { inputs = inside 1 list_inputs n s; outputs = inside 1 outputs k t; count = inside 1 given_rows p u; enough = ltb-false room p v },
              omega arith,
            ),
          )
      go false false false false false false r s t u v w e = absurd (omega arith)

pub ten-exactly : (text : List ℕ) (room i : ℕ) → (read_verdict text room ≡ answer 10 (suc i) 0) ↔ (FirstFault text i × Looked text room i)
ten-exactly text room i = (λ e. only e, λ (f, s). ten-when text room i f s)
  where
    only : read_verdict text room ≡ answer 10 (suc i) 0 → FirstFault text i × Looked text room i
    only e =
        let r = ten-only text room (ap (λ (a : Answer). a.number) e) in
        let s = ap (λ (a : Answer). a.a) (sym r.1 ∙ e) in
        let q : r.0 ≡ i = omega arith in
        (rw q at r.2, rw q at r.3)
