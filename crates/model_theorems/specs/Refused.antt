-- The line of a refusal 10 (02, Ticket 4) is the first that leaves the texts that are read: the lines before it begin a text that is read
-- (`begins`), and with it they begin none (`begins-none`); the same of bytes, a line being one that ends in LF. Assumes nothing.
use Rattle.std.specs.Prelude.{◌≡◌, refl, Bool, true, false, not, cond, List, [], ◌∷◌, ◌++◌, ℕ, zero, suc, ◌+◌, ◌<◌, eqb, length, take, drop}
use Rattle.std.proofs.Common.{sym, ap, ◌∙◌, arith, take-append-drop, take-suc}
use Rattle.block.specs.Refusals.{answer}
use Rattle.block.specs.Text.{lines, onto, line_at, first_line}
use Rattle.block.specs.Model.{joined, model_covers}
use Rattle.block.specs.ModelRead.{Outcome, More, Whole, Bad, after, start, good_lines, outcome_of, is_whole, read_model_verdict}
use Rattle.refusal_laws.specs.Verdicts.{verdict-hit}
use Rattle.model_laws.specs.WordLines.{is_line, AllLines, lines-all, lines-before, lines-joined, joined-append, joined-lines}
use Rattle.model_laws.specs.Plain.{model-plain, model-lines}
use Rattle.model_laws.specs.Accepted.{lines-led, whole-written}
use Rattle.model_laws.specs.Endings.{Ends, after-append, outcome-ends, good-lines, next-bad, bad-stays}

-- the good lines of a text
abbrev pub good_in : List ℕ → ℕ
good_in text = good_lines start (lines text)

-- a text that is not whole is refused there, before any room is looked at
pub refused-line : (text : List ℕ) (roomMatrix roomCounts roomPatterns : ℕ) → is_whole (outcome_of text) ≡ false
    → read_model_verdict text roomMatrix roomCounts roomPatterns ≡ answer 10 (first_line + good_in text) 0
unfolding read_model_verdict
refused-line text roomMatrix roomCounts roomPatterns h = verdict-hit _ _ (ap not h)

-- ---- of lines

-- the good lines begin a whole model ..
pub begins : (ls : List (List ℕ)) → (more : List (List ℕ)) × (is_whole (after start (take (good_lines start ls) ls ++ more)) ≡ true)
begins ls =
    let good : List (List ℕ) = take (good_lines start ls) ls in
    let e : Ends (after start good) = outcome-ends good (after start good) (lines-led good) (good-lines ls start refl) in
    (e.0, ap is_whole (after-append good e.0 start) ∙ e.1)

-- .. and with the line after them none
pub begins-none : (ls more : List (List ℕ)) → good_lines start ls < length ls
    → is_whole (after start (take (suc (good_lines start ls)) ls ++ more)) ≡ false
begins-none ls more h =
    let next : List (List ℕ) = take (suc (good_lines start ls)) ls in
    ap is_whole (after-append next more start) ∙ bad-stays (after start next) more (next-bad ls start h)

-- ---- of bytes

-- the lines that are cut off a text's front are its first bytes
pub first-bytes : (text : List ℕ) (i : ℕ) → joined (take i (lines text)) ++ joined (drop i (lines text)) ≡ text
first-bytes text i =
    sym (joined-append (take i (lines text)) (drop i (lines text))) ∙ ap joined (take-append-drop i (lines text)) ∙ joined-lines text

-- lines that make a whole model end in LF
whole-lines : (ls : List (List ℕ)) → is_whole (after start ls) ≡ true → AllLines ls
whole-lines ls h = go (after start ls) refl h
  where
    go : (o : Outcome) → after start ls ≡ o → is_whole o ≡ true → AllLines ls
    go (More s) e h = let z : ◌≡◌ {A = ℕ} 0 1 = cc in absurd (omega arith)
    go (Whole n k sigma qs) e h =
        let w = whole-written ls n k sigma qs e in
        rw w.1 (model-lines n k (model_covers n sigma qs) (model-plain n sigma qs w.0.sized.inputs.0))
    go Bad e h = let z : ◌≡◌ {A = ℕ} 0 1 = cc in absurd (omega arith)

-- the bytes of the good lines begin a text that is read ..
pub begins-text : (text : List ℕ) → (rest : List ℕ) × (is_whole (outcome_of (joined (take (good_in text) (lines text)) ++ rest)) ≡ true)
begins-text text =
    let good : List (List ℕ) = take (good_in text) (lines text) in
    let e = begins (lines text) in (
      joined e.0,
      ap (λ (t : List ℕ). is_whole (outcome_of t)) (sym (joined-append good e.0))
          ∙ ap (λ (ls : List (List ℕ)). is_whole (after start ls)) (lines-joined (good ++ e.0) (whole-lines (good ++ e.0) e.1))
          ∙ e.1,
    )

line-onto : (b : ℕ) (l : List ℕ) → eqb b 10 ≡ false → is_line l ≡ true → is_line (b ∷ l) ≡ true
unfolding is_line
line-onto b [] e h = let z : ◌≡◌ {A = ℕ} 0 1 = cc in absurd (omega arith)
line-onto b (c ∷ l) e h = rw e h

-- every line but the last ends in LF
lines-ended : (text : List ℕ) (i : ℕ) → i < length (lines text) → AllLines (take i (lines text))
unfolding lines AllLines is_line
lines-ended [] i h = absurd (omega arith)
lines-ended (b ∷ bs) i h = go (eqb b 10) refl (lines bs) (lines-ended bs) i h
  where
    go : (t : Bool) → eqb b 10 ≡ t → (ls : List (List ℕ)) → ((i : ℕ) → i < length ls → AllLines (take i ls)) → (i : ℕ)
        → i < length (cond t ((10 ∷ []) ∷ ls) (onto b ls)) → AllLines (take i (cond t ((10 ∷ []) ∷ ls) (onto b ls)))
    go true e ls ih zero h = tt
    go true e ls ih (suc i) h = (refl, ih i (omega arith))
    go false e [] ih zero h = tt
    go false e [] ih (suc i) h = absurd (omega arith)
    go false e (l ∷ ls) ih zero h = tt
    go false e (l ∷ ls) ih (suc i) h = let a = ih (suc i) h in (line-onto b l e a.0, a.1)

-- .. and with those of the line after them, where it ends in LF, none
pub begins-none-text : (text rest : List ℕ) → good_in text < length (lines text) → is_line (line_at text (good_in text)) ≡ true
    → is_whole (outcome_of (joined (take (suc (good_in text)) (lines text)) ++ rest)) ≡ false
unfolding AllLines
begins-none-text text rest h e =
    let good : List (List ℕ) = take (good_in text) (lines text) in
    let split = take-suc (lines text) (good_in text) [] h in
    let all : AllLines (take (suc (good_in text)) (lines text)) =
    rw split (lines-all good (line_at text (good_in text) ∷ []) (lines-ended text (good_in text) h) (e, tt)) in
    ap (λ (ls : List (List ℕ)). is_whole (after start ls)) (lines-before (take (suc (good_in text)) (lines text)) rest all)
    ∙ begins-none (lines text) (lines rest) h
