-- The reader's answer and the lent lists after it are those of the meaning: `numbers-read` and `after_read`. Before them stands how
-- a text can come out (`outcome`): stopped at its headings, or open. Assumes nothing.
use Rattle.std.specs.Prelude.{◌≡◌, Bool, not, ◌⊎◌, ℕ, suc, ◌+◌, ◌<◌, drop, Ok, Err, Some, None, Result}
use Rattle.std.proofs.Math.Path.{refl, sym, ap}
use Rattle.std.proofs.Common.{◌∙◌, arith, lt-ltb, le-ltb, eq-eqb, ne_eqb, eqb-true}
use Rattle.std.proofs.Math.Bool.{true, false, cond}
use mathlib.Core.List.{List, map}
use Rattle.std.proofs.Math.Logic.{inl, inr}
use Rattle.std.proofs.Math.Decide.{ℕ_discrete}
use Rattle.std.proofs.Math.Dec.{eqb, ltb}
use Rattle.std.proofs.Math.ListN.{length}
use Rattle.slices.specs.Places.{tab, first, over}
use Rattle.slices.specs.Filled.{map-tab, tab-cong}
use Rattle.block.specs.Limits.{list_inputs, outputs, given_rows}
use Rattle.block.specs.Refusals.{answer, verdict, stored, outside}
use Rattle.block.specs.Text.{line_in, line_at, head_form, row_form, row_on, type_line_in, type_in, head_count, head_place, head_fault, inputs_in, outputs_in, count_in, body, body_fault, rows_on, first_line, read_verdict, with_headings, read_text, rows_in, kind_number, numbers}
use Rattle.block.specs.declared.Row.{Row}
use Rattle.block.specs.declared.Answer.{Answer}
use Rattle.block.specs.declared.Refusal.{Refusal}
use Rattle.block.specs.declared.Kind.{Kind}
use Rattle.block.specs.declared.Headings.{Headings}
use Rattle.block.specs.declared.Kind.TheVariants.{Inputs, Outputs, Count, Room, Form}
use Rattle.read_laws.specs.ByPlace.{head_at, refusal, type_at, headings_of, ranged_of, on_value, counted_of, opening_of, row_or, line_of, field_of, fault_of, filled_of, closed_of, reading_of, after_of}
use Rattle.read_laws.specs.Front.{start, line-front, lines_from}
use Rattle.read_laws.specs.TypeLines.{type_said, type-of, place-high, count-start}
use Rattle.read_laws.specs.Whole.{head_of, line-of, fault-of, fault-le, faultless, row-due}

-- no kind of refusal is 0
kind-refused : {A : Type 0} (kind : Kind) (x y : A) → cond (eqb (kind_number kind) 0) x y ≡ y
kind-refused Inputs x y = refl
kind-refused Outputs x y = refl
kind-refused Count x y = refl
kind-refused Room x y = refl
kind-refused Form x y = refl

module _ (text : List ℕ) (room : ℕ) where
  abbrev n : ℕ
  n = inputs_in text

  abbrev k : ℕ
  k = outputs_in text

  abbrev p : ℕ
  p = count_in text

  -- whether the type line stands there
  abbrev z : ℕ
  z = type_line_in text

  -- the line of .p, and the first of the body
  abbrev third : ℕ
  third = head_place text 2

  abbrev fourth : ℕ
  fourth = head_place text head_count

  -- the text after the headings, which is the body, and its faulty line
  abbrev rest : List ℕ
  rest = drop (start text fourth) text

  abbrev fault : ℕ
  fault = fault_of rest n k p

  -- the place after line i
  next_start : (i : ℕ) → start text i + length (line_at text i) ≡ start text (suc i)
  unfolding start
  next_start i = ap (λ (l : List ℕ). start text i + length l) (line-front text i)

  start-zero : start text 0 ≡ 0
  unfolding start
  start-zero = refl

  one-start : length (line_at text 0) ≡ start text 1
  one-start = omega (arith, next_start 0, start-zero)

  -- the body follows .p
  body-next : suc third ≡ fourth
  body-next = omega (arith, place-high text 2 (omega arith), place-high text head_count (omega arith))

  -- what open headings give
  abbrev opened : Result (Headings × ℕ) Refusal
  opened = ranged_of (headings_of n k (type_said text) p) (start text fourth) room

  -- ".p rows" by its line, behind the type line where that stands
  counted-of : counted_of text n k (start text 2) (type_at text (start text 2)) room
      ≡ cond (head_form 112 (line_at text third)) opened (Err (refusal Form (3 + z)))
  unfolding counted_of
  counted-of = rw (type-of text, ← (count-start text), head_of 112 text third (omega arith)) (go (head_form 112 (line_at text third)))
    where
      go : (c : Bool)
          → on_value (cond c (Some (p, length (line_at text third))) None) (Err (refusal Form (3 + z)))
          (λ p w. ranged_of (headings_of n k (type_said text) p) (start text third + w) room)
          ≡ cond c opened (Err (refusal Form (3 + z)))
      go true = ap (λ (i : ℕ). ranged_of (headings_of n k (type_said text) p) i room) (next_start third ∙ ap (start text) body-next)
      go false = refl

  -- the headings by their lines
  opening-of : opening_of text room
      ≡ cond (head_form 105 (line_at text 0))
      (cond (head_form 111 (line_at text 1))
      (cond (head_form 112 (line_at text third)) opened (Err (refusal Form (3 + z))))
      (Err (refusal Form 2)))
      (Err (refusal Form 1))
  unfolding opening_of head_place
  opening-of =
      rw (sym (ap (λ (i : ℕ). head_at text i 105) start-zero) ∙ head_of 105 text 0 (omega arith)) (first_head (length (line_at text 0)) one-start (head_form 105 (line_at text 0)))
    where
      second_head : (b : Bool)
          → on_value (cond b (Some (k, length (line_at text 1))) None) (Err (refusal Form 2))
          (λ k v. counted_of text n k (start text 1 + v) (type_at text (start text 1 + v)) room)
          ≡ cond b (cond (head_form 112 (line_at text third)) opened (Err (refusal Form (3 + z)))) (Err (refusal Form 2))
      second_head true = rw (next_start 1) counted-of
      second_head false = refl

      first_head : (w : ℕ) → w ≡ start text 1 → (a : Bool)
          → on_value (cond a (Some (n, w)) None) (Err (refusal Form 1))
          (λ n u. on_value (head_at text u 111) (Err (refusal Form 2))
          (λ k v. counted_of text n k (u + v) (type_at text (u + v)) room))
          ≡ cond a (cond (head_form 111 (line_at text 1))
          (cond (head_form 112 (line_at text third)) opened (Err (refusal Form (3 + z))))
          (Err (refusal Form 2))) (Err (refusal Form 1))
      first_head w e true = rw (e, head_of 111 text 1 (omega arith)) (second_head (head_form 111 (line_at text 1)))
      first_head w e false = refl

  -- the least faulty heading
  head-fault : head_fault text ≡ cond (head_form 105 (line_at text 0)) (cond (head_form 111 (line_at text 1)) (cond (head_form 112 (line_at text third)) 3 2) 1) 0
  unfolding head_fault head_place first
  head-fault = go (head_form 105 (line_at text 0)) (head_form 111 (line_at text 1)) (head_form 112 (line_at text third))
    where
      go : (a b c : Bool) → cond (not a) 0 (suc (cond (not b) 0 (suc (cond (not c) 0 1)))) ≡ cond a (cond b (cond c 3 2) 1) 0
      go true true true = refl
      go true true false = refl
      go true false c = refl
      go false b c = refl

  -- the least faulty line of the body
  body-fault : body_fault n k p (body text) ≡ fault
  body-fault = ap (body_fault n k p) (lines_from text fourth) ∙ sym (fault-of rest n k p)

  -- refused at the headings
  abbrev pub Stop : Type 0
  Stop = (r : Refusal) × (opening_of text room ≡ Err r) × (read_verdict text room ≡ answer (kind_number r.kind) r.a r.b)

  -- the headings open, and the faulty line of the body decides
  abbrev pub Opened : Type 0
  Opened =
      (opening_of text room ≡ Ok (headings_of n k (type_said text) p, start text fourth))
      × (read_verdict text room ≡ cond (eqb fault (p + 2)) (answer 0 0 0) (answer 10 (first_line + fourth + fault) 0))

  -- the checks after the headings' form
  abbrev ranges : Answer
  ranges =
      cond (outside 1 list_inputs n) (answer 1 0 0)
      (cond (outside 1 outputs k) (answer 2 0 0)
      (cond (outside 1 given_rows p) (answer 4 0 0)
      (cond (ltb room p) (answer 5 0 0)
      (cond (ltb fault (p + 2)) (answer 10 (first_line + fourth + fault) 0) (answer 0 0 0)))))

  last-check : cond (ltb fault (p + 2)) (answer 10 (first_line + fourth + fault) 0) (answer 0 0 0)
      ≡ cond (eqb fault (p + 2)) (answer 0 0 0) (answer 10 (first_line + fourth + fault) 0)
  last-check = go (ℕ_discrete fault (p + 2))
    where
      go : Dec (fault ≡ p + 2)
          → cond (ltb fault (p + 2)) (answer 10 (first_line + fourth + fault) 0) (answer 0 0 0)
          ≡ cond (eqb fault (p + 2)) (answer 0 0 0) (answer 10 (first_line + fourth + fault) 0)
      go (yes e) = rw (eq-eqb fault (p + 2) e, le-ltb fault (p + 2) (omega arith))
      go (no m) = rw (ne_eqb fault (p + 2) m, lt-ltb fault (p + 2) (omega (arith, fault-le rest n k p)))

  in-range : opening_of text room ≡ opened → read_verdict text room ≡ ranges → Stop ⊎ Opened
  unfolding ranged_of
  in-range o v = go (outside 1 list_inputs n) (outside 1 outputs k) (outside 1 given_rows p) (ltb room p) refl refl refl refl
    where
      go : (a b c d : Bool) → outside 1 list_inputs n ≡ a → outside 1 outputs k ≡ b → outside 1 given_rows p ≡ c → ltb room p ≡ d → Stop ⊎ Opened
      go true b c d q r s t = inl (refusal Inputs 0, o ∙ rw q, v ∙ rw q)
      go false true c d q r s t = inl (refusal Outputs 0, o ∙ rw (q, r), v ∙ rw (q, r))
      go false false true d q r s t = inl (refusal Count 0, o ∙ rw (q, r, s), v ∙ rw (q, r, s))
      go false false false true q r s t = inl (refusal Room 0, o ∙ rw (q, r, s, t), v ∙ rw (q, r, s, t))
      go false false false false q r s t = inr (o ∙ rw (q, r, s, t), v ∙ rw (q, r, s, t) last-check)

  -- how a text can come out
  pub outcome : Stop ⊎ Opened
  unfolding read_verdict verdict head_place
  outcome =
      go (head_form 105 (line_at text 0)) (head_form 111 (line_at text 1)) (head_form 112 (line_at text third)) refl refl refl
    where
      go : (a b c : Bool) → head_form 105 (line_at text 0) ≡ a → head_form 111 (line_at text 1) ≡ b → head_form 112 (line_at text third) ≡ c
          → Stop ⊎ Opened
      go false b c q r s = inl (refusal Form 1, opening-of ∙ rw q, rw (head-fault, q))
      go true false c q r s = inl (refusal Form 2, opening-of ∙ rw (q, r), rw (head-fault, q, r))
      go true true false q r s =
          inl (refusal Form (3 + z), opening-of ∙ rw (q, r, s), rw (head-fault, q, r, s) (ap (λ (a : ℕ). answer 10 a 0) (omega arith)))
      go true true true q r s = in-range (opening-of ∙ rw (q, r, s)) (rw (head-fault, q, r, s, body-fault))

  -- the reader's answer in 01's numbers
  pub numbers-read : numbers (reading_of text (opening_of text room)) ≡ read_text text room
  unfolding read_text reading_of closed_of
  numbers-read = go outcome
    where
      line : first_line + head_count + z + fault ≡ first_line + fourth + fault
      line = omega (arith, place-high text head_count (omega arith))

      closed : (t : Bool) (a : ℕ) → a ≡ first_line + fourth + fault
          → numbers (cond t (Ok (headings_of n k (type_said text) p)) (Err (refusal Form a)))
          ≡ with_headings (cond t (answer 0 0 0) (answer 10 (first_line + fourth + fault) 0)) n k (type_in text) z p
      closed true a e = refl
      closed false a e = rw e

      go : Stop ⊎ Opened → numbers (reading_of text (opening_of text room)) ≡ read_text text room
      go (inl (r, o, v)) =
          rw (
            o,
            v,
            kind-refused r.kind n 0,
            kind-refused r.kind k 0,
            kind-refused r.kind (type_in text) 0,
            kind-refused r.kind z 0,
            kind-refused r.kind p 0,
          )
      go (inr (o, v)) = rw (o, v) (closed (eqb fault (p + 2)) _ line)

  -- where no line is faulty, each row is that of its line
  row_read : fault ≡ p + 2 → (i : ℕ) → i < p → row_or (line_of rest n k i) ≡ row_on n k (line_in (body text) i)
  row_read e i h =
      rw (line-of rest n k i (λ j l. formed j (omega arith)), formed i h)
      (ap (λ (ls : List (List ℕ)). row_on n k (line_in ls i)) (sym (lines_from text fourth)))
    where
      formed : (j : ℕ) → j < p → row_form n k (line_at rest j) ≡ true
      formed j l = sym (row-due n k p j (line_at rest j) l) ∙ faultless rest n k p (sym (fault-of rest n k p) ∙ e) j (omega arith)

  -- a lent list after it
  pub after_read : (f : Row → ℕ) (l : List ℕ)
      → after_of (opening_of text room) text f l ≡ stored (read_verdict text room) (map f (rows_in text)) l
  unfolding after_of filled_of rows_in rows_on
  after_read f l = go outcome
    where
      closed : (t : Bool) → eqb fault (p + 2) ≡ t
          → cond t (over (tab p (field_of f rest n k)) l) l
          ≡ stored (cond t (answer 0 0 0) (answer 10 (first_line + fourth + fault) 0)) (map f (rows_in text)) l
      closed true e =
          ap (λ (s : List ℕ). over s l)
          (tab-cong p (field_of f rest n k) (λ i. f (row_on n k (line_in (body text) i))) (λ i h. ap f (row_read (eqb-true fault (p + 2) e) i h))
          ∙ sym (map-tab f p (λ i. row_on n k (line_in (body text) i))))
      closed false e = refl

      go : Stop ⊎ Opened → after_of (opening_of text room) text f l ≡ stored (read_verdict text room) (map f (rows_in text)) l
      go (inl (r, o, v)) = rw (o, v, kind-refused r.kind (over (map f (rows_in text)) l) l)
      go (inr (o, v)) = rw (o, v) (closed (eqb fault (p + 2)) refl)
