-- The subset of BLIF that is read (02, Ticket 4: "Also read that subset"), line by line: what is due after the lines so far, the first
-- line that is not of the form due there, and what a text says; then the operations that read a model and evaluate one that was read. Not
-- here: that these are the texts that are written, and that reading and writing undo each other, which are laws. Assumes nothing.
use Rattle.std.specs.Prelude.{Bool, true, false, not, cond, ◌&&◌, ◌||◌, List, [], ◌∷◌, ◌++◌, map, ℕ, zero, suc, ◌+◌, ◌*◌, ◌^◌, eqb, ltb, length, get_or, take, drop}
use Rattle.std.specs.Int.Bits.{bit_and}
use Rattle.slices.specs.Places.{at, tab, first}
use Rattle.sums.specs.Sums.{sum, one}
use Rattle.block.specs.Limits.{list_inputs, outputs}
use Rattle.block.specs.Refusals.{Check, check, verdict, carried, size_checks, some, bad_number, malformed, dependent}
use Rattle.block.specs.Tables.{with_value}
use Rattle.block.specs.Text.{lines, equal, every, first_line}
use Rattle.block.specs.Covers.{word_at}
use Rattle.block.specs.Model.{x_name, z_name, part_name, copy_cover, xor_cover, output_cover, pattern, names_line, cube_line, title_line, inputs_line, outputs_line, last_line, model_of}
use Rattle.block.specs.declared.Answer.{Answer}
use Rattle.block.specs.declared.ValueAnswer.{ValueAnswer}
use Rattle.block.specs.declared.ModelAnswer.{ModelAnswer}
use Rattle.block.specs.declared.Pattern.{Pattern}

-- ---- what is due after the lines so far

pub data State : Type 0 where
  -- this line, and then the rest
  Due : List ℕ → State → State
  -- the line of the inputs
  InputsDue : State
  -- that of the outputs, for n inputs
  OutputsDue : ℕ → State
  -- the first cover of a row: n, k and the rows so far
  RowDue : ℕ → ℕ → List ℕ → State
  -- the next cover of a chain: n, k, the rows so far, the chain's inputs so far as a number, and how many parts it has
  LinkDue : ℕ → ℕ → List ℕ → ℕ → ℕ → State
  -- the cover of the first output: n, k and sigma
  OutputDue : ℕ → ℕ → List ℕ → State
  -- a pattern, the next output or the end: n, k, sigma, the outputs before this one, and this one's patterns so far
  PatternDue : ℕ → ℕ → List ℕ → List (List Pattern) → List Pattern → State

-- what lines lead to: more is due, the model is whole (n, k, sigma and the patterns of each output), or a line was not of the form due
pub data Outcome : Type 0 where
  More : State → Outcome
  Whole : ℕ → ℕ → List ℕ → List (List Pattern) → Outcome
  Bad : Outcome

abbrev pub on : Bool → Outcome → Outcome
on b o = cond b o Bad

abbrev pub or_else : Outcome → Outcome → Outcome
or_else (More s) o = More s
or_else (Whole n k sigma qs) o = Whole n k sigma qs
or_else Bad o = o

-- the first of f 0 .. f (m - 1) that is not bad
unfoldable pub attempt : ℕ → (ℕ → Outcome) → Outcome
attempt zero f = Bad
attempt (suc m) f = or_else (attempt m f) (f m)

-- after a row: the next one, or the outputs
abbrev pub next_row : ℕ → ℕ → List ℕ → State
next_row n k rs = cond (eqb (length rs) n) (OutputDue n k rs) (RowDue n k rs)

-- the lines of an XOR, and then the rest
abbrev pub xor_due : State → State
xor_due s = Due (cube_line (48 ∷ 49 ∷ [])) (Due (cube_line (49 ∷ 48 ∷ [])) s)

-- a chain goes on with input b, above those so far: it ends, or has its part p, after which a higher input is left
abbrev pub link_at : ℕ → ℕ → List ℕ → List ℕ → ℕ → ℕ → List ℕ → ℕ → Outcome
link_at n k rs from m p l b =
    on (ltb m (2 ^ b))
    (or_else
    (on (equal l (names_line (xor_cover from b (z_name (length rs))))) (More (xor_due (next_row n k (rs ++ ((m + 2 ^ b) ∷ []))))))
    (on (ltb (suc b) n && equal l (names_line (xor_cover from b (part_name (length rs) p)))) (More (xor_due (LinkDue n k rs (m + 2 ^ b) p)))))

unfoldable pub link : ℕ → ℕ → List ℕ → List ℕ → ℕ → ℕ → List ℕ → Outcome
link n k rs from m p l = attempt n (link_at n k rs from m p l)

-- n symbols, " 1" and LF
unfoldable pub pattern_form : ℕ → List ℕ → Bool
pattern_form n l =
    every (λ b. eqb b 48 || (eqb b 49 || eqb b 45)) (take n l) && (eqb (length l) (n + 3) && equal (drop n l) (cube_line []))

-- the pattern that such a line says, z0 first
unfoldable pub pattern_on : ℕ → List ℕ → Pattern
pattern_on n l =
    pattern (sum (λ i. one (not (eqb (at l i) 45)) * 2 ^ i) n) (sum (λ i. one (eqb (at l i) 49) * 2 ^ i) n)

-- what is due after one line more
unfoldable pub step : State → List ℕ → Outcome
step (Due m s) l = on (equal l m) (More s)
step InputsDue l = attempt (suc list_inputs) (λ n. on (ltb 0 n && equal l (inputs_line n)) (More (OutputsDue n)))
step (OutputsDue n) l = attempt (suc outputs) (λ k. on (ltb 0 k && equal l (outputs_line k)) (More (RowDue n k [])))
step (RowDue n k rs) l =
    or_else
    (attempt n (λ a. on (equal l (names_line (copy_cover a (length rs)))) (More (Due (cube_line (49 ∷ [])) (next_row n k (rs ++ (2 ^ a ∷ [])))))))
    (attempt n (λ a. link n k rs (x_name a) (2 ^ a) 1 l))
step (LinkDue n k rs m p) l = link n k rs (part_name (length rs) p) m (suc p) l
step (OutputDue n k sigma) l = on (equal l (names_line (output_cover n 0 []))) (More (PatternDue n k sigma [] []))
step (PatternDue n k sigma qs ps) l =
    cond (pattern_form n l) (More (PatternDue n k sigma qs (ps ++ (pattern_on n l ∷ []))))
    (cond (eqb (suc (length qs)) k)
    (on (equal l last_line) (Whole n k sigma (qs ++ (ps ∷ []))))
    (on (equal l (names_line (output_cover n (suc (length qs)) []))) (More (PatternDue n k sigma (qs ++ (ps ∷ [])) []))))

-- what one line more leads to; nothing follows a whole model
abbrev pub onward : Outcome → List ℕ → Outcome
onward (More s) l = step s l
onward (Whole n k sigma qs) l = Bad
onward Bad l = Bad

unfoldable pub after : Outcome → List (List ℕ) → Outcome
after o [] = o
after o (l ∷ ls) = after (onward o l) ls

-- the first line is ".model block"
abbrev pub start : Outcome
start = More (Due title_line InputsDue)

abbrev pub is_bad : Outcome → Bool
is_bad (More s) = false
is_bad (Whole n k sigma qs) = false
is_bad Bad = true

-- how many lines are of the form due, up to the first that is not
unfoldable pub good_lines : Outcome → List (List ℕ) → ℕ
good_lines o [] = 0
good_lines o (l ∷ ls) = cond (is_bad (onward o l)) 0 (suc (good_lines (onward o l) ls))

-- ---- what a text says

-- what the lines of a text lead to
abbrev pub outcome_of : List ℕ → Outcome
outcome_of text = after start (lines text)

abbrev pub is_whole : Outcome → Bool
is_whole (More s) = false
is_whole (Whole n k sigma qs) = true
is_whole Bad = false

-- n, k, the matrix and the patterns of each output of a whole model, and else 0 and nothing
abbrev pub inputs_said : Outcome → ℕ
inputs_said (More s) = 0
inputs_said (Whole n k sigma qs) = n
inputs_said Bad = 0

abbrev pub outputs_said : Outcome → ℕ
outputs_said (More s) = 0
outputs_said (Whole n k sigma qs) = k
outputs_said Bad = 0

abbrev pub matrix_said : Outcome → List ℕ
matrix_said (More s) = []
matrix_said (Whole n k sigma qs) = sigma
matrix_said Bad = []

abbrev pub patterns_said : Outcome → List (List Pattern)
patterns_said (More s) = []
patterns_said (Whole n k sigma qs) = qs
patterns_said Bad = []

-- the number of patterns of each output
abbrev pub counts_of : List (List Pattern) → List ℕ
counts_of qs = map (λ (ps : List Pattern). length ps) qs

-- the patterns of all outputs, one after the other
unfoldable pub all_of : List (List Pattern) → List Pattern
all_of [] = []
all_of (ps ∷ qs) = ps ++ all_of qs

-- ---- reading: 10, at the line after the good ones; 5 (n numbers, k counts, one record a pattern); "a matrix that fails is 8, last"

abbrev pub model_checks : Outcome → ℕ → ℕ → ℕ → ℕ → List Check
model_checks o good roomMatrix roomCounts roomPatterns =
    check (not (is_whole o)) 10 (first_line + good) 0
    ∷ check (ltb roomMatrix (inputs_said o) || (ltb roomCounts (outputs_said o) || ltb roomPatterns (length (all_of (patterns_said o))))) 5 0 0
    ∷ check (ltb (dependent (inputs_said o) (at (matrix_said o))) (inputs_said o)) 8 (dependent (inputs_said o) (at (matrix_said o))) 0
    ∷ []

unfoldable pub read_model_verdict : List ℕ → ℕ → ℕ → ℕ → Answer
read_model_verdict text roomMatrix roomCounts roomPatterns =
    verdict (model_checks (outcome_of text) (good_lines start (lines text)) roomMatrix roomCounts roomPatterns)

-- an answer with n, k and the number of patterns of all outputs
abbrev pub with_model : Answer → ℕ → ℕ → ℕ → ModelAnswer
with_model v n k c =
    record {
      number = v.number;
      a = v.a;
      b = v.b;
      n = carried v n;
      k = carried v k;
      patterns = carried v c;
    }

unfoldable pub read_model : List ℕ → ℕ → ℕ → ℕ → ModelAnswer
read_model text roomMatrix roomCounts roomPatterns =
    with_model (read_model_verdict text roomMatrix roomCounts roomPatterns)
    (inputs_said (outcome_of text)) (outputs_said (outcome_of text)) (length (all_of (patterns_said (outcome_of text))))

-- the results: the matrix, the number of patterns of each output, and the patterns of all outputs
unfoldable pub matrix_in : List ℕ → List ℕ
matrix_in text = matrix_said (outcome_of text)

unfoldable pub counts_in : List ℕ → List ℕ
counts_in text = counts_of (patterns_said (outcome_of text))

unfoldable pub patterns_in : List ℕ → List Pattern
patterns_in text = all_of (patterns_said (outcome_of text))

-- ---- evaluating a model that was read, at x: 1, 2, 3 (x), 4 (n rows, k counts, and as many patterns as they say), 6 (the matrix
-- ---- first), 8

-- the patterns that lie in two flat slices; slices of unequal length have none
unfoldable pub patterns_flat : List ℕ → List ℕ → List Pattern
patterns_flat masks values =
    cond (eqb (length values) (length masks)) (tab (length masks) (λ i. pattern (at masks i) (at values i))) []

-- 6: a pattern with mask or values not below 2^n, or a value outside the mask
unfoldable pub bad_pattern : ℕ → Pattern → Bool
bad_pattern n p =
    not (ltb p.mask (2 ^ n)) || (not (ltb p.values (2 ^ n)) || not (eqb (bit_and p.mask p.values) p.values))

abbrev pub pattern_at : List Pattern → ℕ → Pattern
pattern_at ps i = get_or ps i (pattern 0 0)

-- patterns, so many for each output
unfoldable pub dealt : List ℕ → List Pattern → List (List Pattern)
dealt [] ps = []
dealt (c ∷ cs) ps = take c ps ∷ dealt cs (drop c ps)

-- the sum of counts
unfoldable pub total : List ℕ → ℕ
total [] = 0
total (c ∷ cs) = c + total cs

unfoldable pub model_value_verdict : ℕ → ℕ → ℕ → List ℕ → List ℕ → List Pattern → Answer
model_value_verdict n k x sigma counts ps =
    verdict (size_checks list_inputs n k (
    check (not (ltb x (2 ^ n))) 3 0 0
    ∷ check (not (eqb (length sigma) n) || (not (eqb (length counts) k) || not (eqb (total counts) (length ps)))) 4 0 0
    ∷ malformed 1 (bad_number n) sigma
    ∷ check (some (length ps) (λ i. bad_pattern n (pattern_at ps i))) 6 0 (first (length ps) (λ i. bad_pattern n (pattern_at ps i)))
    ∷ check (ltb (dependent n (at sigma)) n) 8 (dependent n (at sigma)) 0
    ∷ []))

-- the word that the model's text gives at x
unfoldable pub model_value : ℕ → ℕ → ℕ → List ℕ → List ℕ → List Pattern → ValueAnswer
model_value n k x sigma counts ps =
    with_value (model_value_verdict n k x sigma counts ps) (word_at (model_of n sigma (dealt counts ps)) x)
