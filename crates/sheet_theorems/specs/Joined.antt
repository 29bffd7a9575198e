-- `print-join-block`: what the program prints with --join is a list of the same block or the line of a refusal, which its first byte tells: 46 is
-- the dot of a heading. Read again, the list has n, k, the type and the type line of the text that was given, and its rows are the joined rows,
-- which have the text's word at each point (`text-joined`). Assumes nothing.
use Rattle.std.specs.Prelude.{◌≡◌, refl, Bool, true, false, cond, ℕ, zero, suc, ◌^◌, ◌≤◌, ◌<◌, length, take}
use Rattle.std.proofs.Common.{sym, ◌∙◌, arith, eqb-true}
use Rattle.std.proofs.Math.Path.{subst}
use mathlib.Core.List.{List}
use Rattle.slices.specs.Places.{at}
use Rattle.block.specs.Limits.{given_rows, read_bytes, text_room}
use Rattle.block.specs.Words.{missing, of_rows}
use Rattle.block.specs.Refusals.{answered}
use Rattle.block.specs.Text.{text_of, write_verdict, read_verdict, read_text, type_line_in, type_in, inputs_in, outputs_in, rows_in}
use Rattle.block.specs.Sheet.{refusal_line, or_refused}
use Rattle.block.specs.Joins.{joined, join_verdict, printed_join}
use Rattle.block.specs.declared.Row.{Row}
use Rattle.promises.specs.Joins.{PrintJoinPromise}
use Rattle.refusal_laws.specs.Verdicts.{then-answered, then-zero, zero-too}
use Rattle.answered_laws.specs.Passed.{join-passed}
use Rattle.read_laws.specs.Front.{rows-count}
use Rattle.read_laws.specs.TypeLines.{type-line-le}
use Rattle.text_theorems.specs.Accepted.{accepted}
use Rattle.text_theorems.specs.Again.{told, wrote-read}
use Rattle.text_theorems.specs.Prefix.{accepted-whole}
use Rattle.join_laws.specs.Joined.{joined_length, joined-stands}
use Rattle.text_work.specs.Reader.{count-le}
use Rattle.join_text_work.specs.Work.{join_in_verdict, join_in}
use Rattle.join_text_work.specs.Reader.{write-adds-none}
use Rattle.printing.specs.Printed.{printed-join-by}
use Rattle.sheet_theorems.specs.Printed.{refusal-first}
use Rattle.sheet_theorems.specs.Operations.{front}

-- the bytes are the text's list with its rows joined
pub record JoinsText (text bytes : List ℕ) : Type 0 where
  pub read : read_text bytes given_rows ≡ accepted (inputs_in text) (outputs_in text) (type_in text) (type_line_in text) (length (joined (rows_in text)))
  pub rows : rows_in bytes ≡ joined (rows_in text)
  -- the word at each point is the text's
  pub block : (x : ℕ) → x < 2 ^ inputs_in text → of_rows (missing (type_in text)) (rows_in bytes) x ≡ of_rows (missing (type_in text)) (rows_in text) x

-- whether a type line stands is told as it is
told_same : (z : ℕ) → z ≤ 1 → told z ≡ z
told_same zero h = refl
told_same (suc zero) h = refl
told_same (suc (suc z)) h = absurd (omega arith)

module _ (text : List ℕ) (reads : (read_verdict text given_rows).number ≡ 0)
    (joins : (join_verdict (inputs_in text) (outputs_in text) (rows_in text)).number ≡ 0) where
  abbrev rs : List Row
  rs = rows_in text

  abbrev bytes : List ℕ
  bytes = text_of (inputs_in text) (outputs_in text) (type_in text) (type_line_in text) (joined rs)

  writes : (write_verdict (inputs_in text) (outputs_in text) (type_in text) (type_line_in text) (joined rs) text_room).number ≡ 0
  writes =
      let e = then-answered (join_verdict (inputs_in text) (outputs_in text) rs)
      (write_verdict (inputs_in text) (outputs_in text) (type_in text) (type_line_in text) (joined rs) text_room) joins in
      zero-too (sym (e ∙ write-adds-none text text_room reads (omega arith))) joins

  joins-text : JoinsText text bytes
  joins-text =
      let few : length (joined rs) ≤ given_rows = omega (arith, joined_length rs, rows-count text, count-le text given_rows reads) in
      let back = wrote-read (inputs_in text) (outputs_in text) (type_in text) (type_line_in text) text_room given_rows (joined rs) writes few in
      let p = join-passed (inputs_in text) (outputs_in text) rs joins in
      record {
        read = rw (told_same (type_line_in text) (type-line-le text)) at back.0;
        rows = back.1;
        block = λ x h. rw back.1 ((joined-stands (inputs_in text) rs p.disjoint.sound p.disjoint.apart).word (missing (type_in text)) x h);
      }

module _ (input : List ℕ) (answers : (join_in_verdict input).number ≡ 0) where
  reads-too : (read_verdict (take read_bytes input) given_rows).number ≡ 0
  unfolding join_in_verdict
  reads-too = then-zero _ _ answers

  joins-too : (join_verdict (inputs_in (take read_bytes input)) (outputs_in (take read_bytes input)) (rows_in (take read_bytes input))).number ≡ 0
  unfolding join_in_verdict
  joins-too = zero-too (sym (then-answered (read_verdict (take read_bytes input) given_rows) _ reads-too)) answers

  pub text-joined : JoinsText input (join_in input)
  unfolding join_in
  text-joined =
      subst (λ (text : List ℕ). JoinsText text (join_in input)) (accepted-whole input given_rows reads-too)
      (joins-text (take read_bytes input) reads-too joins-too)

-- the program
pub print-join-block : (input out₀ : List ℕ) (count : ℕ) (out₁ : List ℕ) → PrintJoinPromise input out₀ count out₁
    → at (take count out₁) 0 ≡ 46 → JoinsText input (take count out₁)
unfolding or_refused
print-join-block input out₀ count out₁ p h =
    let bytes : take count out₁ ≡ or_refused (join_in_verdict input) (join_in input)
    = front (printed_join input) out₀ out₁ count p.text p.bytes ∙ printed-join-by input in
    rw bytes (go (answered (join_in_verdict input)) refl (rw bytes at h))
  where
    go : (b : Bool) → answered (join_in_verdict input) ≡ b → at (cond b (join_in input) (refusal_line (join_in_verdict input))) 0 ≡ 46
        → JoinsText input (cond b (join_in input) (refusal_line (join_in_verdict input)))
    go true e d = text-joined input (eqb-true _ 0 e)
    go false e d = absurd (omega (arith, refusal-first (join_in_verdict input), d))
