-- The model of a text, by the reader's answer: its refusal, or the model of the rows that the text says, which lie in working storage.
-- Assumes nothing.
use Rattle.std.specs.Prelude.{◌≡◌, List, map, ℕ, min, length, take, Result, Ok, Err}
use Rattle.std.proofs.Common.{sym, ap, ◌∙◌}
use borrow.Author.Tests.{eq-eqb}
use Rattle.block.specs.Limits.{model_room, given_rows, read_bytes}
use Rattle.block.specs.Words.{missing, mask_part, values_part, word_part}
use Rattle.block.specs.Refusals.{answer, stored}
use Rattle.block.specs.Text.{rows_in, read_verdict, read_text, kind_number, numbers}
use Rattle.block.specs.Model.{model_text, model_verdict, write_model}
use Rattle.block.specs.declared.Answer.{Answer}
use Rattle.block.specs.declared.TextAnswer.{TextAnswer}
use Rattle.block.specs.declared.Headings.{Headings}
use Rattle.block.specs.declared.Refusal.{Refusal}
use Rattle.refusal_laws.specs.Verdicts.{then-refused, Written, not_written}
use Rattle.text_work.specs.Work.{first_rows}
use Rattle.text_work.specs.Reader.{reader-said, reader-some, reader-zero, reader-inputs, reader-outputs, reader-type, reader-rows}
use Rattle.model_text_work.specs.Work.{model_in_verdict, model_in}

module _ (input text : List ℕ) (reading : Result Headings Refusal) (cut : text ≡ take read_bytes input)
    (answers : numbers reading ≡ read_text text given_rows) where
  abbrev u : Answer
  u = read_verdict text given_rows

  -- the reader refuses
  pub text-refused : (f : Refusal) (l : List ℕ) → reading ≡ Err f
      → Written (model_in_verdict input) (model_in input) l (record { number = kind_number f.kind; a = f.a; b = f.b; count = 0 }) l
  unfolding model_in_verdict
  text-refused f l e =
      let said = reader-said input text reading cut answers f e in
      let some = reader-some input text reading cut answers f e in
      let t : u ≡ model_in_verdict input = rw (← cut) (then-refused u _ some) in
      not_written (answer (kind_number f.kind) f.a f.b) (model_in_verdict input) (model_in input) l (said ∙ t)
      (λ z. some (sym (ap (λ (v : Answer). v.number) said) ∙ z))

  module _ (h : Headings) (e : reading ≡ Ok h) where
    -- the model of the rows in storage
    pub text-accepted : (m v d m' v' d' : List ℕ) → m' ≡ stored u (map mask_part (rows_in text)) m
        → v' ≡ stored u (map values_part (rows_in text)) v → d' ≡ stored u (map word_part (rows_in text)) d
        → (l l' : List ℕ) (r : TextAnswer) → length l ≡ model_room
        → r ≡ write_model h.n h.k h.block_type (min 3 h.n) (first_rows h.count m' v' d') (length l)
        → l' ≡ stored (model_verdict h.n h.k h.block_type (min 3 h.n) (first_rows h.count m' v' d') (length l))
        (model_text (missing h.block_type) h.n h.k (min 3 h.n) (first_rows h.count m' v' d')) l
        → Written (model_in_verdict input) (model_in input) l r l'
    unfolding write_model model_in_verdict model_in
    text-accepted m v d m' v' d' a b c l l' r long p q =
        let zero = reader-zero input text reading cut answers h e in
        let inputs = reader-inputs input text reading cut answers h e in
        let outputs = reader-outputs input text reading cut answers h e in
        let typed = reader-type input text reading cut answers h e in
        let rows = reader-rows input text reading cut answers h e m v d m' v' d' a b c in (
          p ∙ rw (← cut, eq-eqb u.number 0 zero, inputs, outputs, typed, rows, long),
          q ∙ rw (← cut, eq-eqb u.number 0 zero, inputs, outputs, typed, rows, long),
        )
