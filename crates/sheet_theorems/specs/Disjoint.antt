-- `print-disjoint-block`: what the program prints with --disjoint is a disjoint list or the line of a refusal, which its first byte tells: 46 is the
-- dot of a heading. Read again, the list has n and k of the text that was given, type fd and its type line, and its rows are the disjoint rows
-- (`text-disjoined`). Its word at each point is the OR of all of the text's rows over the point, and no two of its rows share a point, so that the
-- program never refuses it with 7 (`apart-sheet`). Assumes nothing.
use Rattle.std.specs.Prelude.{◌≡◌, refl, Bool, true, false, cond, ℕ, min, ◌^◌, ◌<◌, eqb, ltb, length, take}
use Rattle.std.proofs.Math.Path.{sym, ap, subst}
use Rattle.std.proofs.Common.{◌∙◌, arith, eqb-true, le-ltb, take_all}
use mathlib.Core.List.{List, [], ◌∷◌}
use Rattle.std.proofs.Math.Decide.{ℕ_discrete}
use Rattle.slices.specs.Places.{at}
use Rattle.block.specs.Limits.{given_rows, read_bytes, text_room, sheet_room}
use Rattle.block.specs.Words.{fr, fd, missing, of_rows}
use Rattle.block.specs.Refusals.{Check, check, answered, verdict, sharing}
use Rattle.block.specs.Lists.{method_checks}
use Rattle.block.specs.Text.{text_of, write_verdict, read_verdict, read_text, type_in, inputs_in, outputs_in, rows_in}
use Rattle.block.specs.Sheet.{refusal_line, or_refused, sheet_verdict}
use Rattle.block.specs.Overlaps.{or_at, disjoined, disjoin_verdict, disjoin_typed_verdict, printed_disjoint}
use Rattle.block.specs.declared.Row.{Row}
use Rattle.block.specs.declared.Answer.{Answer}
use Rattle.block.specs.declared.ReadAnswer.{ReadAnswer}
use Rattle.promises.specs.Overlaps.{PrintDisjointPromise}
use Rattle.refusal_laws.specs.Verdicts.{verdict-miss, verdict-none, passed_over, carried-yes, then-answered, then-zero, zero-too}
use Rattle.answered_laws.specs.Passed.{DisjoinAnswered, disjoin-answered}
use Rattle.pair_laws.specs.Theorem.{Apart}
use Rattle.pair_laws.specs.Share.{apart-sharing}
use Rattle.read_laws.specs.TypeLines.{type-known}
use Rattle.region_laws.specs.Disjoined.{disjoined-word, disjoined-apart}
use Rattle.text_theorems.specs.Accepted.{accepted, accepted-le}
use Rattle.text_theorems.specs.Again.{wrote-read}
use Rattle.text_theorems.specs.Prefix.{accepted-whole}
use Rattle.text_work.specs.Work.{text_verdict}
use Rattle.text_work.specs.Reader.{verdict-sheet}
use Rattle.disjoin_text_work.specs.Work.{disjoin_in_verdict, disjoin_in}
use Rattle.disjoin_text_work.specs.Rows.{typed-three, write-adds-none}
use Rattle.printing.specs.Printed.{printed-disjoint-by}
use Rattle.sheet_theorems.specs.Printed.{refusal-first}
use Rattle.sheet_theorems.specs.Operations.{front}

-- ---- rows that share no point are not refused with 7

-- a verdict of 7 goes over every check of another number
over : (c : Check) (cs : List Check) → eqb c.number 7 ≡ false → (verdict (c ∷ cs)).number ≡ 7 → (verdict cs).number ≡ 7
over c cs n e = (passed_over 7 c cs n e).1

-- the row method, by the sheet that it makes
pub apart-sheet : (n k y w : ℕ) (rs : List Row) (room : ℕ) → Apart n rs → (sheet_verdict n k y w rs room).number ≡ 7 → ⊥
unfolding sheet_verdict method_checks
apart-sheet n k y w rs room apart h =
    let none : ltb (sharing n rs) (length rs) ≡ false = le-ltb (sharing n rs) (length rs) (omega (arith, apart-sharing n rs apart)) in
    let shares = over _ _ refl (over _ _ refl (over _ _ refl (over _ _ refl (over _ _ refl (over _ _ refl (over _ _ refl h)))))) in
    let rest = sym (ap (λ (v : Answer). v.number) (verdict-miss _ _ none)) ∙ shares in
    let last = over _ _ refl (over _ _ refl rest) in
    absurd (omega (arith, sym (ap (λ (v : Answer). v.number) verdict-none) ∙ last))

-- ---- the bytes are the text's list made disjoint

pub record DisjoinsText (text bytes : List ℕ) : Type 0 where
  -- the text was not of type fr
  pub given : type_in text ≡ fd
  pub read : read_text bytes given_rows ≡ accepted (inputs_in text) (outputs_in text) fd 1 (length (disjoined (inputs_in text) (rows_in text)))
  pub rows : rows_in bytes ≡ disjoined (inputs_in text) (rows_in text)
  -- the word at each point, as the type of the bytes has it, is the OR of all of the text's rows over it
  pub block : (x : ℕ) → x < 2 ^ inputs_in text → of_rows (missing (type_in bytes)) (rows_in bytes) x ≡ or_at (rows_in text) x
  pub apart : Apart (inputs_in text) (rows_in bytes)
  -- so the program, given the bytes, never refuses with 7
  pub sheet : (text_verdict bytes).number ≡ 7 → ⊥

module _ (text : List ℕ) (answers : (disjoin_typed_verdict (inputs_in text) (outputs_in text) (type_in text) (rows_in text)).number ≡ 0) where
  abbrev n : ℕ
  n = inputs_in text

  abbrev k : ℕ
  k = outputs_in text

  abbrev rs : List Row
  rs = rows_in text

  abbrev bytes : List ℕ
  bytes = text_of n k fd 1 (disjoined n rs)

  not-fr : type_in text ≡ fd
  not-fr = go (ℕ_discrete (type_in text) fr)
    where
      go : Dec (type_in text ≡ fr) → type_in text ≡ fd
      go (yes e) = absurd (omega (arith, sym (ap (λ (v : Answer). v.number) (typed-three n k (type_in text) rs e)) ∙ answers))
      go (no e) = omega (arith, (type-known text).0, (type-known text).1)

  disjoins : (disjoin_verdict n k rs given_rows).number ≡ 0
  unfolding disjoin_typed_verdict
  disjoins =
      let three : Answer = verdict (check (eqb (type_in text) fr) 3 0 0 ∷ []) in
      zero-too (sym (then-answered three (disjoin_verdict n k rs given_rows) (then-zero three _ answers))) answers

  passed : DisjoinAnswered n k rs given_rows
  passed = disjoin-answered n k rs given_rows disjoins

  writes : (write_verdict n k fd 1 (disjoined n rs) text_room).number ≡ 0
  writes =
      let e = then-answered (disjoin_verdict n k rs given_rows) (write_verdict n k fd 1 (disjoined n rs) text_room) disjoins in
      zero-too (sym (e ∙ write-adds-none n k rs text_room (omega arith))) disjoins

  back : (read_text bytes given_rows ≡ accepted n k fd 1 (length (disjoined n rs))) × (rows_in bytes ≡ disjoined n rs)
  back = wrote-read n k fd 1 text_room given_rows (disjoined n rs) writes passed.few

  reads : (read_verdict bytes given_rows).number ≡ 0
  unfolding read_text
  reads = ap (λ (x : ReadAnswer). x.number) back.0

  typed : type_in bytes ≡ fd
  unfolding read_text
  typed = sym (carried-yes (read_verdict bytes given_rows) (type_in bytes) reads) ∙ ap (λ (x : ReadAnswer). x.block_type) back.0

  sized : inputs_in bytes ≡ n
  unfolding read_text
  sized = sym (carried-yes (read_verdict bytes given_rows) (inputs_in bytes) reads) ∙ ap (λ (x : ReadAnswer). x.n) back.0

  kept-apart : Apart n (rows_in bytes)
  kept-apart = rw back.1 (disjoined-apart n k rs passed.passed.good)

  not-seven : (text_verdict bytes).number ≡ 7 → ⊥
  not-seven e =
      let whole : take read_bytes bytes ≡ bytes = take_all read_bytes bytes (omega (arith, accepted-le bytes given_rows reads)) in
      let v = rw whole at (verdict-sheet bytes (rw whole reads)) in
      apart-sheet (inputs_in bytes) (outputs_in bytes) (type_in bytes) (min 3 (inputs_in bytes)) (rows_in bytes) sheet_room
      (rw sized kept-apart) (sym (ap (λ (a : Answer). a.number) v) ∙ e)

  disjoins-text : DisjoinsText text bytes
  disjoins-text =
      record {
        given = not-fr;
        read = back.0;
        rows = back.1;
        block = λ x h. rw (typed, back.1) (disjoined-word n k rs passed.passed.good x h);
        apart = kept-apart;
        sheet = not-seven;
      }

module _ (input : List ℕ) (answers : (disjoin_in_verdict input).number ≡ 0) where
  reads-too : (read_verdict (take read_bytes input) given_rows).number ≡ 0
  unfolding disjoin_in_verdict
  reads-too = then-zero _ _ answers

  disjoins-too :
      (disjoin_typed_verdict (inputs_in (take read_bytes input)) (outputs_in (take read_bytes input)) (type_in (take read_bytes input)) (rows_in (take read_bytes input))).number
      ≡ 0
  unfolding disjoin_in_verdict
  disjoins-too = zero-too (sym (then-answered (read_verdict (take read_bytes input) given_rows) _ reads-too)) answers

  pub text-disjoined : DisjoinsText input (disjoin_in input)
  unfolding disjoin_in
  text-disjoined =
      subst (λ (text : List ℕ). DisjoinsText text (disjoin_in input)) (accepted-whole input given_rows reads-too)
      (disjoins-text (take read_bytes input) disjoins-too)

-- the program
pub print-disjoint-block : (input out₀ : List ℕ) (count : ℕ) (out₁ : List ℕ) → PrintDisjointPromise input out₀ count out₁
    → at (take count out₁) 0 ≡ 46 → DisjoinsText input (take count out₁)
unfolding or_refused
print-disjoint-block input out₀ count out₁ p h =
    let bytes : take count out₁ ≡ or_refused (disjoin_in_verdict input) (disjoin_in input)
    = front (printed_disjoint input) out₀ out₁ count p.text p.bytes ∙ printed-disjoint-by input in
    rw bytes (go (answered (disjoin_in_verdict input)) refl (rw bytes at h))
  where
    go : (b : Bool) → answered (disjoin_in_verdict input) ≡ b → at (cond b (disjoin_in input) (refusal_line (disjoin_in_verdict input))) 0 ≡ 46
        → DisjoinsText input (cond b (disjoin_in input) (refusal_line (disjoin_in_verdict input)))
    go true e d = text-disjoined input (eqb-true _ 0 e)
    go false e d = absurd (omega (arith, refusal-first (disjoin_in_verdict input), d))
