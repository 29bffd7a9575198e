-- 01's table for models in BLIF (02, Ticket 4): each operation's reasons, to hold beside 02, and that its answers are given exactly so.
-- Assumes nothing.
use Rattle.std.specs.Prelude.{◌≡◌, refl, true, false, not, List, [], ◌∷◌, ◌++◌, ◌⊎◌, ℕ, zero, suc, ◌+◌, ◌^◌, ◌≤◌, ◌<◌, ltb, length, take, drop}
use Rattle.std.proofs.Common.{sym, ap, subst, ◌∙◌, append_assoc, arith}
use Rattle.std.proofs.lemmas.Bool.{false≢true, not-true}
use Rattle.std.proofs.Math.Decide.{dec_lt}
use Rattle.bits.specs.Digits.{bit}
use Rattle.slices.specs.Places.{at}
use Rattle.block.specs.Limits.{list_inputs, outputs, given_rows}
use Rattle.block.specs.Words.{missing}
use Rattle.block.specs.Refusals.{Check, check, verdict, and_then, outside, typed_checks, bad_number}
use Rattle.block.specs.Lists.{count_check, row_checks, passing_check, method_checks}
use Rattle.block.specs.Model.{model_text, model_verdict}
use Rattle.block.specs.Text.{lines, first_line}
use Rattle.block.specs.ModelRead.{
  after,
  start,
  good_lines,
  outcome_of,
  is_whole,
  inputs_said,
  outputs_said,
  matrix_said,
  patterns_said,
  all_of,
  read_model_verdict,
  bad_pattern,
  pattern_at,
  total,
  model_value_verdict,
}
use Rattle.block.specs.declared.Row.{Row}
use Rattle.block.specs.declared.Pattern.{Pattern}
use Rattle.block.specs.declared.Answer.{Answer}
use Rattle.refusal_laws.specs.Verdicts.{verdict-parts}
use Rattle.model_laws.specs.Endings.{good-within}
use Rattle.model_theorems.specs.Refused.{begins, begins-none}
use Rattle.exactly.specs.General.{Reason, placed, plain, Decides, done, ◌also◌, Exactly, decided-exactly}
use Rattle.exactly.specs.Conditions.{Says, lt-says, ge-says, ne-says, or-says, plain-decided, OutOfRange, range-decided, typed_reasons, typed-decided, Least, mask-says, least-decided, MalformedNumber, number-says, malformed-decided, FirstPassing, passing-decided, XorOfEarlier, dependent-decided, bad-row-decided, pair-decided, undriven-decided}
use Rattle.exactly.specs.Lists.{row_reasons}

-- ---- writing: the row method's reasons, and then room below this model's length

unfoldable pub write_model_reasons : ℕ → ℕ → ℕ → ℕ → List Row → ℕ → List Reason
write_model_reasons n k y w rs room =
    typed_reasons list_inputs n k y
    (plain 3 (OutOfRange 1 n w)
    ∷ plain 4 (OutOfRange 1 given_rows (length rs))
    ∷ row_reasons n k rs
    (placed 9 (λ a b. FirstPassing (missing y) n w rs a × (b ≡ 0))
    ∷ plain 5 (room < length (model_text (missing y) n k w rs))
    ∷ []))

-- the checks before the last
abbrev model_checked : ℕ → ℕ → ℕ → ℕ → List Row → List Check
model_checked n k y w rs =
    typed_checks list_inputs n k y (
    check (outside 1 n w) 3 0 0
    ∷ count_check given_rows rs
    ∷ row_checks n k rs ++ (passing_check (missing y) n w rs ∷ []))

abbrev length_check : ℕ → ℕ → ℕ → ℕ → List Row → ℕ → Check
length_check n k y w rs room = check (ltb room (length (model_text (missing y) n k w rs))) 5 0 0

-- room of the operation's own is no reason
own_room : (n k y w : ℕ) (rs : List Row) → verdict (method_checks n k y w rs false) ≡ verdict (model_checked n k y w rs)
unfolding method_checks verdict
own_room n k y w rs = refl

model-checked : (n k y w : ℕ) (rs : List Row) (room : ℕ)
    → model_verdict n k y w rs room ≡ verdict (model_checked n k y w rs ++ (length_check n k y w rs room ∷ []))
unfolding model_verdict
model-checked n k y w rs room =
    ap (λ (v : Answer). and_then v (verdict (length_check n k y w rs room ∷ []))) (own_room n k y w rs)
    ∙ sym
    (verdict-parts (model_checked n k y w rs) (length_check n k y w rs room ∷ [])
    (refl, (refl, (refl, (refl, (refl, (refl, (refl, (refl, (refl, tt))))))))))

pub write-model-exactly : (n k y w : ℕ) (rs : List Row) (room : ℕ)
    → Exactly (write_model_reasons n k y w rs room) (model_verdict n k y w rs room)
unfolding write_model_reasons
write-model-exactly n k y w rs room =
    subst (Exactly (write_model_reasons n k y w rs room)) (sym (model-checked n k y w rs room))
    (decided-exactly _ _
    (typed-decided list_inputs n k y
    (range-decided 3 1 n w (λ e. omega arith)
    also range-decided 4 1 given_rows (length rs) (λ e. omega arith)
    also bad-row-decided n k rs also pair-decided n rs also undriven-decided k rs
    also passing-decided (missing y) n w rs
    also plain-decided 5 (λ e. omega arith) (lt-says room (length (model_text (missing y) n k w rs)))
    also done)))

-- ---- reading: 10 at the first line outside the subset, over the whole text; then 5, and then 8

-- lines begin a text that is read
abbrev pub Begins : List (List ℕ) → Type 0
Begins ls = (more : List (List ℕ)) × (is_whole (after start (ls ++ more)) ≡ true)

-- line a of a text that is not read: the lines before it begin a text that is read, and with it, where there is one, they begin none
pub record FirstOutside (text : List ℕ) (a : ℕ) : Type 0 where
  pub refused : is_whole (outcome_of text) ≡ false
  pub i : ℕ
  pub place : first_line + i ≡ a
  pub within : i ≤ length (lines text)
  pub begun : Begins (take i (lines text))
  pub left : i < length (lines text) → Begins (take (suc i) (lines text)) → ⊥

-- the first lines of lines that begin such a text begin it too
fewer : (ls : List (List ℕ)) (i j : ℕ) → i ≤ j → Begins (take j ls) → Begins (take i ls)
fewer ls i j h (more, w) = (
  drop i (take j ls) ++ more,
  ap (λ (l : List (List ℕ)). is_whole (after start l)) (sym (append_assoc (take i ls) (drop i (take j ls)) more) ∙ ap (λ (l : List (List ℕ)). l ++ more) (parts ls i j h)) ∙ w,
)
  where
    parts : (ls : List (List ℕ)) (i j : ℕ) → i ≤ j → take i ls ++ drop i (take j ls) ≡ take j ls
    parts ls zero j h = refl
    parts [] (suc i) zero h = refl
    parts [] (suc i) (suc j) h = refl
    parts (l ∷ ls) (suc i) zero h = absurd (omega arith)
    parts (l ∷ ls) (suc i) (suc j) h = ap (λ t. l ∷ t) (parts ls i j (omega arith))

module _ (text : List ℕ) where
  abbrev good : ℕ
  good = good_lines start (lines text)

  after-good : good < length (lines text) → Begins (take (suc good) (lines text)) → ⊥
  after-good h (more, w) = false≢true (sym (begins-none (lines text) more h) ∙ w)

  first-outside : is_whole (outcome_of text) ≡ false → FirstOutside text (first_line + good)
  first-outside e =
      record { refused = e; i = good; place = refl; within = good-within (lines text) start; begun = begins (lines text); left = after-good }

  one_outside : (a : ℕ) → FirstOutside text a → first_line + good ≡ a
  one_outside a f = ap (λ (i : ℕ). first_line + i) (go (dec_lt f.i good) (dec_lt good f.i)) ∙ f.place
    where
      go : Dec (f.i < good) → Dec (good < f.i) → good ≡ f.i
      go (yes l) d =
          absurd (f.left (omega (arith, good-within (lines text) start)) (fewer (lines text) (suc f.i) good (omega arith) (begins (lines text))))
      go (no l) (yes m) = absurd (after-good (omega (arith, f.within)) (fewer (lines text) (suc good) f.i (omega arith) f.begun))
      go (no l) (no m) = omega arith

  outside-decided : Decides (check (not (is_whole (outcome_of text))) 10 (first_line + good) 0) (placed 10 (λ a b. FirstOutside text a × (b ≡ 0)))
  outside-decided =
      record {
        same = refl;
        refuses = λ e. omega arith;
        sound = λ e. (first-outside (not-true (is_whole (outcome_of text)) e), refl);
        only = λ a b (f, u). (ap not f.refused, one_outside a f, sym u);
      }

unfoldable pub read_model_reasons : List ℕ → ℕ → ℕ → ℕ → List Reason
read_model_reasons text roomMatrix roomCounts roomPatterns =
    let n : ℕ = inputs_said (outcome_of text) in
    placed 10 (λ a b. FirstOutside text a × (b ≡ 0))
    ∷ plain 5 ((roomMatrix < n) ⊎ ((roomCounts < outputs_said (outcome_of text)) ⊎ (roomPatterns < length (all_of (patterns_said (outcome_of text))))))
    ∷ placed 8 (λ a b. Least n (XorOfEarlier (at (matrix_said (outcome_of text)))) a × (b ≡ 0))
    ∷ []

pub read-model-exactly : (text : List ℕ) (roomMatrix roomCounts roomPatterns : ℕ)
    → Exactly (read_model_reasons text roomMatrix roomCounts roomPatterns) (read_model_verdict text roomMatrix roomCounts roomPatterns)
unfolding read_model_reasons read_model_verdict
read-model-exactly text roomMatrix roomCounts roomPatterns =
    decided-exactly _ _
    (outside-decided text
    also plain-decided 5 (λ e. omega arith)
    (or-says (lt-says roomMatrix (inputs_said (outcome_of text)))
    (or-says (lt-says roomCounts (outputs_said (outcome_of text))) (lt-says roomPatterns (length (all_of (patterns_said (outcome_of text)))))))
    also dependent-decided (inputs_said (outcome_of text)) (at (matrix_said (outcome_of text)))
    also done)

-- ---- evaluating a model that was read

-- a pattern: mask or values not below 2^n, or a one among the values where the mask has none
abbrev pub MalformedPattern : ℕ → Pattern → Type 0
MalformedPattern n p =
    (2 ^ n ≤ p.mask) ⊎ ((2 ^ n ≤ p.values) ⊎ ((i : ℕ) × (bit p.values i ≡ 1) × (bit p.mask i ≡ 0)))

pattern-says : (n : ℕ) (p : Pattern) → Says (bad_pattern n p) (MalformedPattern n p)
unfolding bad_pattern
pattern-says n p =
    or-says (ge-says p.mask (2 ^ n)) (or-says (ge-says p.values (2 ^ n)) (mask-says p.mask p.values))

unfoldable pub model_value_reasons : ℕ → ℕ → ℕ → List ℕ → List ℕ → List Pattern → List Reason
model_value_reasons n k x sigma counts ps =
    plain 1 (OutOfRange 1 list_inputs n)
    ∷ plain 2 (OutOfRange 1 outputs k)
    ∷ plain 3 (2 ^ n ≤ x)
    ∷ plain 4 ((length sigma ≡ n → ⊥) ⊎ ((length counts ≡ k → ⊥) ⊎ (total counts ≡ length ps → ⊥)))
    ∷ placed 6 (λ a b. (a ≡ 1) × Least (length sigma) (λ i. MalformedNumber n (at sigma i)) b)
    ∷ placed 6 (λ a b. (a ≡ 0) × Least (length ps) (λ i. MalformedPattern n (pattern_at ps i)) b)
    ∷ placed 8 (λ a b. Least n (XorOfEarlier (at sigma)) a × (b ≡ 0))
    ∷ []

pub model-value-exactly : (n k x : ℕ) (sigma counts : List ℕ) (ps : List Pattern)
    → Exactly (model_value_reasons n k x sigma counts ps) (model_value_verdict n k x sigma counts ps)
unfolding model_value_reasons model_value_verdict
model-value-exactly n k x sigma counts ps =
    decided-exactly _ _
    (range-decided 1 1 list_inputs n (λ e. omega arith)
    also range-decided 2 1 outputs k (λ e. omega arith)
    also plain-decided 3 (λ e. omega arith) (ge-says x (2 ^ n))
    also plain-decided 4 (λ e. omega arith) (or-says (ne-says (length sigma) n) (or-says (ne-says (length counts) k) (ne-says (total counts) (length ps))))
    also malformed-decided 1 (bad_number n) (MalformedNumber n) sigma (number-says n)
    also least-decided 0 (length ps) (λ i. bad_pattern n (pattern_at ps i)) (λ i. MalformedPattern n (pattern_at ps i)) (λ i. pattern-says n (pattern_at ps i))
    also dependent-decided n (at sigma)
    also done)
