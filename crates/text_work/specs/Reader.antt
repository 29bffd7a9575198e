-- The work of a text, by the reader's answer: its refusal, or the work of the rows that the text says, which lie in working storage.
-- Assumes nothing.
use Rattle.std.specs.Prelude.{◌≡◌, refl, Bool, List, map, ℕ, ◌≤◌, min, length, take, Result, Ok, Err}
use Rattle.std.proofs.Math.Path.{sym, ap}
use Rattle.std.proofs.Common.{◌∙◌, arith}
use borrow.Author.Tests.{eq-eqb, ne_eqb, le-ltb}
use Rattle.block.specs.Limits.{sheet_room, given_rows, read_bytes}
use Rattle.block.specs.Words.{missing, mask_part, values_part, word_part}
use Rattle.block.specs.Refusals.{answer, verdict, stored}
use Rattle.block.specs.Text.{type_line_in, type_in, inputs_in, outputs_in, count_in, read_checks, read_verdict, read_text, rows_in, kind_number, numbers}
use Rattle.block.specs.Lists.{method_checks}
use Rattle.block.specs.Sheet.{sheet_text, sheet_verdict}
use Rattle.block.specs.declared.Row.{Row}
use Rattle.block.specs.declared.Answer.{Answer}
use Rattle.block.specs.declared.ReadAnswer.{ReadAnswer}
use Rattle.block.specs.declared.Headings.{Headings}
use Rattle.block.specs.declared.Refusal.{Refusal}
use Rattle.block.specs.declared.Kind.{Kind}
use Rattle.block.specs.declared.Kind.TheVariants.{Inputs, Outputs, Count, Room, Form}
use Rattle.refusal_laws.specs.Verdicts.{answered-clear, carried-yes, stored-yes, stored_no}
use Rattle.shared_checks.specs.Sizes.{inside}
use Rattle.read_laws.specs.Front.{rows-count}
use Rattle.sheet_work.specs.Work.{with_sheet, sheet_work}
use Rattle.block.specs.declared.SheetWork.{SheetWork}
use Rattle.text_work.specs.Work.{first_rows, text_verdict, sheet_in, text_work}
use Rattle.text_work.specs.Front.{InFront, in-front, front-rows}

-- every refusal has a number of its own
kind-some : (k : Kind) → kind_number k ≡ 0 → ⊥
kind-some Inputs e = omega arith
kind-some Outputs e = omega arith
kind-some Count e = omega arith
kind-some Room e = omega arith
kind-some Form e = omega arith

-- an accepted text has at most as many rows as can be given
pub count-le : (text : List ℕ) (room : ℕ) → (read_verdict text room).number ≡ 0 → count_in text ≤ given_rows
unfolding read_verdict
count-le text room e =
    let clear = answered-clear (read_checks text room) (refl, (refl, (refl, (refl, (refl, (refl, tt)))))) (eq-eqb _ 0 e) in
    (inside 1 given_rows (count_in text) (clear 3 (omega arith))).1

-- the verdict of a room that is long enough
enough : (n k y w : ℕ) (rs : List Row) (room : ℕ) → sheet_room ≤ room → sheet_verdict n k y w rs room ≡ sheet_verdict n k y w rs sheet_room
unfolding sheet_verdict
enough n k y w rs room h = ap (λ (b : Bool). verdict (method_checks n k y w rs b)) (le-ltb room sheet_room h ∙ sym (le-ltb sheet_room sheet_room (omega arith)))

-- the number is the reader's where it refuses, and else the sheet's
pub verdict-reader : (input : List ℕ) → ((read_verdict (take read_bytes input) given_rows).number ≡ 0 → ⊥)
    → text_verdict input ≡ read_verdict (take read_bytes input) given_rows
unfolding text_verdict
verdict-reader input h = rw (ne_eqb (read_verdict (take read_bytes input) given_rows).number 0 h)

pub verdict-sheet : (input : List ℕ) → (read_verdict (take read_bytes input) given_rows).number ≡ 0
    → text_verdict input ≡ sheet_verdict (inputs_in (take read_bytes input)) (outputs_in (take read_bytes input)) (type_in (take read_bytes input)) (min 3 (inputs_in (take read_bytes input))) (rows_in (take read_bytes input)) sheet_room
unfolding text_verdict
verdict-sheet input h = rw (eq-eqb (read_verdict (take read_bytes input) given_rows).number 0 h)

-- an answer without results
abbrev refused : Answer → SheetWork
refused v = record { number = v.number; a = v.a; b = v.b; before = 0; after = 0; rows = 0; count = 0 }

no-sheet : (u v : Answer) (x y c l : ℕ) → v ≡ u → (u.number ≡ 0 → ⊥) → refused u ≡ with_sheet v x y c l
no-sheet u v x y c l e h = rw (e, ne_eqb u.number 0 h)

module _ (input text : List ℕ) (reading : Result Headings Refusal) (cut : text ≡ take read_bytes input) (answers : numbers reading ≡ read_text text given_rows) where
  abbrev u : Answer
  u = read_verdict text given_rows

  -- the reader refuses: with its number and places, none of which is 0's
  module _ (f : Refusal) (e : reading ≡ Err f) where
    pub reader-said : answer (kind_number f.kind) f.a f.b ≡ u
    unfolding read_text
    reader-said =
        let q : numbers (Err f) ≡ read_text text given_rows = ap numbers (sym e) ∙ answers in
        ap (λ (x : ReadAnswer). answer x.number x.a x.b) q

    pub reader-some : u.number ≡ 0 → ⊥
    reader-some z = kind-some f.kind (ap (λ (v : Answer). v.number) reader-said ∙ z)

    pub reader-refused : (l : List ℕ)
        → (record { number = kind_number f.kind; a = f.a; b = f.b; before = 0; after = 0; rows = 0; count = 0 } ≡ text_work input)
        × (l ≡ stored (text_verdict input) (sheet_in input) l)
    unfolding text_work text_verdict
    reader-refused l =
        let t : text_verdict input ≡ u = rw (← cut, ne_eqb u.number 0 reader-some) in (
          ap refused reader-said ∙ no-sheet u (text_verdict input) _ _ _ _ t reader-some,
          sym (stored_no u (sheet_in input) l reader-some) ∙ ap (λ (v : Answer). stored v (sheet_in input) l) (sym t),
        )

  module _ (h : Headings) (e : reading ≡ Ok h) where
    same : numbers (Ok h) ≡ read_text text given_rows
    same = ap numbers (sym e) ∙ answers

    pub reader-zero : u.number ≡ 0
    unfolding read_text
    reader-zero = sym (ap (λ (x : ReadAnswer). x.number) same)

    pub reader-inputs : h.n ≡ inputs_in text
    unfolding read_text
    reader-inputs = ap (λ (x : ReadAnswer). x.n) same ∙ carried-yes u (inputs_in text) reader-zero

    pub reader-outputs : h.k ≡ outputs_in text
    unfolding read_text
    reader-outputs = ap (λ (x : ReadAnswer). x.k) same ∙ carried-yes u (outputs_in text) reader-zero

    pub reader-type : h.block_type ≡ type_in text
    unfolding read_text
    reader-type = ap (λ (x : ReadAnswer). x.block_type) same ∙ carried-yes u (type_in text) reader-zero

    pub reader-line : h.type_line ≡ type_line_in text
    unfolding read_text
    reader-line = ap (λ (x : ReadAnswer). x.type_line) same ∙ carried-yes u (type_line_in text) reader-zero

    counted : h.count ≡ count_in text
    unfolding read_text
    counted = ap (λ (x : ReadAnswer). x.count) same ∙ carried-yes u (count_in text) reader-zero

    pub reader-count : h.count ≤ given_rows
    reader-count = rw counted (count-le text given_rows reader-zero)

    laid : (f : Row → ℕ) (l l' : List ℕ) → l' ≡ stored u (map f (rows_in text)) l → InFront f (rows_in text) l'
    laid f l l' q = in-front f (rows_in text) _ l' (q ∙ stored-yes u (map f (rows_in text)) l reader-zero)

    -- the rows in storage are those that the text says
    pub reader-rows : (m v d m' v' d' : List ℕ) → m' ≡ stored u (map mask_part (rows_in text)) m
        → v' ≡ stored u (map values_part (rows_in text)) v → d' ≡ stored u (map word_part (rows_in text)) d
        → first_rows h.count m' v' d' ≡ rows_in text
    reader-rows m v d m' v' d' a b c =
        front-rows (rows_in text) h.count (counted ∙ sym (rows-count text)) m' v' d'
        (laid mask_part m m' a) (laid values_part v v' b) (laid word_part d d' c)

    -- the work of the rows in storage
    pub reader-accepted : (m v d m' v' d' : List ℕ) → m' ≡ stored u (map mask_part (rows_in text)) m
        → v' ≡ stored u (map values_part (rows_in text)) v → d' ≡ stored u (map word_part (rows_in text)) d
        → (l l' : List ℕ) (r : SheetWork) → sheet_room ≤ length l
        → r ≡ sheet_work h.n h.k h.block_type (min 3 h.n) (first_rows h.count m' v' d') (length l)
        → l' ≡ stored (sheet_verdict h.n h.k h.block_type (min 3 h.n) (first_rows h.count m' v' d') (length l))
        (sheet_text (missing h.block_type) h.n h.k (min 3 h.n) (first_rows h.count m' v' d')) l
        → (r ≡ text_work input) × (l' ≡ stored (text_verdict input) (sheet_in input) l)
    unfolding sheet_work text_work text_verdict sheet_in
    reader-accepted m v d m' v' d' a b c l l' r long e q =
        let rows = reader-rows m v d m' v' d' a b c in (
          e ∙ rw (← cut, eq-eqb u.number 0 reader-zero, reader-inputs, reader-outputs, reader-type, rows, enough (inputs_in text) (outputs_in text) (type_in text) (min 3 (inputs_in text)) (rows_in text) (length l) long),
          q ∙ rw (← cut, eq-eqb u.number 0 reader-zero, reader-inputs, reader-outputs, reader-type, rows, enough (inputs_in text) (outputs_in text) (type_in text) (min 3 (inputs_in text)) (rows_in text) (length l) long),
        )
