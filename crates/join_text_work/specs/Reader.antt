-- The joined rows of a text, by the reader's answer: its refusal, or what joining the rows that the text says, which lie in working storage, comes
-- to. Writing them adds no refusal: with no type line the type is fd, and the rest the reader has seen. Assumes nothing.
use Rattle.std.specs.Prelude.{◌≡◌, List, map, ◌⊎◌, ℕ, ◌≤◌, length, take, Result, Ok, Err}
use Rattle.std.proofs.Common.{sym, ap, ◌∙◌, inl, inr, arith}
use borrow.Author.Tests.{eq-eqb}
use Rattle.block.specs.Limits.{given_rows, read_bytes, text_room}
use Rattle.block.specs.Words.{fr, fd, mask_part, values_part, word_part}
use Rattle.block.specs.Refusals.{answer, and_then, stored}
use Rattle.block.specs.Text.{text_of, type_line_of, line_at, type_line_in, type_in, inputs_in, outputs_in, rows_in, read_verdict, read_text, kind_number, numbers, write_verdict}
use Rattle.block.specs.Joins.{joined, join_verdict}
use Rattle.block.specs.declared.Row.{Row}
use Rattle.block.specs.declared.Answer.{Answer}
use Rattle.block.specs.declared.TextAnswer.{TextAnswer}
use Rattle.block.specs.declared.Headings.{Headings}
use Rattle.block.specs.declared.Refusal.{Refusal}
use Rattle.refusal_laws.specs.Verdicts.{then-refused, Written, not_written}
use Rattle.answered_laws.specs.Passed.{join-passed, join-answers}
use Rattle.read_laws.specs.Front.{rows-count}
use Rattle.read_laws.specs.TypeLines.{type-cases, type-known}
use Rattle.text_work.specs.Work.{first_rows}
use Rattle.text_work.specs.Front.{adds_none}
use Rattle.text_work.specs.Reader.{count-le, reader-said, reader-some, reader-zero, reader-inputs, reader-outputs, reader-type, reader-line, reader-rows}
use Rattle.join_text_work.specs.Work.{join_in_verdict, join_in}
use Rattle.join_text_work.specs.Rows.{joined-writable}

-- a text of type fr has its type line
fr-lined : (text : List ℕ) → type_in text ≡ fr → type_line_in text ≡ 0 → ⊥
fr-lined text e z = go (type-cases text)
  where
    go : ((type_line_in text ≡ 0) × (type_in text ≡ fd)) ⊎ ((type_line_in text ≡ 1) × (line_at text 2 ≡ type_line_of (type_in text))) → ⊥
    go (inl (q, t)) = omega arith
    go (inr (q, t)) = omega arith

-- of the rows of an accepted text the writer refuses nothing that joining has answered
pub write-adds-none : (text : List ℕ) (room : ℕ) → (read_verdict text given_rows).number ≡ 0 → text_room ≤ room
    → and_then (join_verdict (inputs_in text) (outputs_in text) (rows_in text))
    (write_verdict (inputs_in text) (outputs_in text) (type_in text) (type_line_in text) (joined (rows_in text)) room)
    ≡ join_verdict (inputs_in text) (outputs_in text) (rows_in text)
write-adds-none text room e h = adds_none v _ written
  where
    v : Answer
    v = join_verdict (inputs_in text) (outputs_in text) (rows_in text)

    few : length (rows_in text) ≤ given_rows
    few = omega (arith, rows-count text, count-le text given_rows e)

    written : v.number ≡ 0 → write_verdict (inputs_in text) (outputs_in text) (type_in text) (type_line_in text) (joined (rows_in text)) room ≡ v
    written z =
        let p = join-passed (inputs_in text) (outputs_in text) (rows_in text) z in
        joined-writable (inputs_in text) (outputs_in text) (type_in text) (type_line_in text) (rows_in text) room p few (type-known text) (fr-lined text) h
        ∙ sym (join-answers (inputs_in text) (outputs_in text) (rows_in text) p)

module _ (input text : List ℕ) (reading : Result Headings Refusal) (cut : text ≡ take read_bytes input)
    (answers : numbers reading ≡ read_text text given_rows) where
  abbrev u : Answer
  u = read_verdict text given_rows

  -- the reader refuses
  pub text-refused : (f : Refusal) (l : List ℕ) → reading ≡ Err f
      → Written (join_in_verdict input) (join_in input) l (record { number = kind_number f.kind; a = f.a; b = f.b; count = 0 }) l
  unfolding join_in_verdict
  text-refused f l e =
      let said = reader-said input text reading cut answers f e in
      let some = reader-some input text reading cut answers f e in
      let t : u ≡ join_in_verdict input = rw (← cut) (then-refused u _ some) in
      not_written (answer (kind_number f.kind) f.a f.b) (join_in_verdict input) (join_in input) l (said ∙ t)
      (λ z. some (sym (ap (λ (v : Answer). v.number) said) ∙ z))

  module _ (h : Headings) (e : reading ≡ Ok h) where
    -- the joined rows, of those in storage
    pub text-accepted : (m v d m' v' d' : List ℕ) → m' ≡ stored u (map mask_part (rows_in text)) m
        → v' ≡ stored u (map values_part (rows_in text)) v → d' ≡ stored u (map word_part (rows_in text)) d
        → (l l' : List ℕ) (r : TextAnswer) → text_room ≤ length l
        → (let rs : List Row = first_rows h.count m' v' d' in
        Written (and_then (join_verdict h.n h.k rs) (write_verdict h.n h.k h.block_type h.type_line (joined rs) (length l)))
        (text_of h.n h.k h.block_type h.type_line (joined rs)) l r l')
        → Written (join_in_verdict input) (join_in input) l r l'
    unfolding join_in_verdict join_in
    text-accepted m v d m' v' d' a b c l l' r long (p, q) =
        let zero = reader-zero input text reading cut answers h e in
        let inputs = reader-inputs input text reading cut answers h e in
        let outputs = reader-outputs input text reading cut answers h e in
        let typed = reader-type input text reading cut answers h e in
        let lined = reader-line input text reading cut answers h e in
        let rows = reader-rows input text reading cut answers h e m v d m' v' d' a b c in
        let none = write-adds-none text (length l) zero long in (
          p ∙ rw (← cut, eq-eqb u.number 0 zero, inputs, outputs, typed, lined, rows, none),
          q ∙ rw (← cut, eq-eqb u.number 0 zero, inputs, outputs, typed, lined, rows, none),
        )
