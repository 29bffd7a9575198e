-- Reading and writing undo each other. A model that was written is read as its matrix and patterns (`reads-written`), and reading answers it
-- (`reads-answers`); a text that is read is written again byte for byte (`writes-read`); and what was read, evaluated at x, gives the
-- word of the text there (`value_read`). Assumes nothing.
use Rattle.std.specs.Prelude.{◌≡◌, Bool, true, false, not, List, ℕ, zero, suc, ◌^◌, ◌≤◌, ◌<◌, length}
use Rattle.std.proofs.Math.Path.{refl, ap}
use Rattle.std.proofs.Common.{sym, ap₂, ◌∙◌, arith}
use borrow.Author.Tests.{lt-ltb, le-ltb, ltb-false, eq-eqb}
use Rattle.std.proofs.lemmas.List.{length-map}
use Rattle.slices.specs.Places.{at, tab}
use Rattle.slices.specs.Filled.{length-tab}
use Rattle.slices.specs.Least.{first_below}
use Rattle.block.specs.Limits.{list_inputs, outputs}
use Rattle.block.specs.Words.{missing, of_rows}
use Rattle.block.specs.Basis.{span, sigma_of}
use Rattle.block.specs.Refusals.{answer, verdict, bad_number, dependent}
use Rattle.block.specs.Lists.{smaller_list}
use Rattle.block.specs.Tables.{with_value}
use Rattle.block.specs.Covers.{word_at}
use Rattle.block.specs.Model.{patterns_of, model_of, block_model, model_text, model_verdict}
use Rattle.block.specs.ModelRead.{Outcome, More, Whole, Bad, outcome_of, start, good_lines, inputs_said, outputs_said, matrix_said, patterns_said, counts_of, all_of, model_checks, read_model_verdict, matrix_in, counts_in, patterns_in, bad_pattern, pattern_at, total, model_value_verdict, model_value}
use Rattle.block.specs.Text.{lines}
use Rattle.block.specs.declared.Row.{Row}
use Rattle.block.specs.declared.Pattern.{Pattern}
use Rattle.refusal_laws.specs.Verdicts.{verdict-miss, verdict-none, none_passes, passes}
use Rattle.shared_checks.specs.Sizes.{within}
use Rattle.matrix_laws.specs.Dimension.{span_more}
use Rattle.matrix_laws.specs.Inverse.{length-sigma}
use Rattle.answered_laws.specs.Passed.{MethodAnswered}
use Rattle.step_laws.specs.Smaller.{smaller-disjoint}
use Rattle.demands.specs.Matrix.{sigma-lt, sigma-independent}
use Rattle.model_laws.specs.Outputs.{rows-sound}
use Rattle.model_laws.specs.Accepted.{ModelSaid}
use Rattle.model_laws.specs.Texts.{read-written, written_read}
use Rattle.model_laws.specs.Dealt.{dealt_back, counts-total, all-good}
use Rattle.model_theorems.specs.Block.{model-passes}

-- ---- a model that was written

-- rows of which none is an XOR of earlier ones are not 0
rows-positive : (n : ℕ) (s : ℕ → ℕ) → dependent n s ≡ n → (j : ℕ) → j < n → 0 < s j
unfolding dependent span
rows-positive n s e j h = go (s j) refl
  where
    go : (v : ℕ) → s j ≡ v → 0 < v
    go zero q =
        let a : span s j 0 ≡ true = span_more s 0 j 0 (omega arith) refl in
        let b : span s j 0 ≡ false = ap (span s j) (sym q) ∙ first_below n (λ i. span s i (s i)) j (omega arith) in
        let z : ◌≡◌ {A = ℕ} 0 1 = cc in absurd (omega arith)
    go (suc v) q = omega arith

module _ (n k y w : ℕ) (rs : List Row) (room : ℕ) (answers : (model_verdict n k y w rs room).number ≡ 0) where
  -- the matrix and the patterns of the block
  abbrev pub its_matrix : List ℕ
  its_matrix = sigma_of (of_rows (missing y) rs) n w

  abbrev pub its_patterns : List (List Pattern)
  its_patterns = tab k (λ j. patterns_of j (smaller_list (missing y) n w rs))

  passed : MethodAnswered n k y w rs false
  passed = model-passes n k y w rs room answers

  independent : dependent n (at its_matrix) ≡ n
  independent = sigma-independent (of_rows (missing y) rs) n w passed.passed.weight.0

  said : ModelSaid n k its_matrix its_patterns
  said =
      let hw = passed.passed.weight.0 in
      let f : ℕ → ℕ = of_rows (missing y) rs in
      record {
        sized = record { inputs = passed.passed.list.range.size; outs = passed.passed.list.range.columns };
        full = length-sigma f n w;
        rows = λ j h.
            let l : j < n = omega (arith, length-sigma f n w) in
            (rows-positive n (at its_matrix) independent j l, sigma-lt f n w hw j l);
        outs = length-tab k (λ j. patterns_of j (smaller_list (missing y) n w rs));
        patterns =
            rows-sound n k (smaller_list (missing y) n w rs)
            (smaller-disjoint (missing y) n w hw rs passed.passed.list.disjoint).sound;
      }

  -- it is read as its matrix and patterns
  pub reads-written : outcome_of (model_text (missing y) n k w rs) ≡ Whole n k its_matrix its_patterns
  unfolding model_text block_model
  reads-written = read-written n k its_matrix its_patterns said

  -- so these are the results of reading
  pub matrix-written : matrix_in (model_text (missing y) n k w rs) ≡ its_matrix
  unfolding matrix_in
  matrix-written = ap matrix_said reads-written

  pub counts-written : counts_in (model_text (missing y) n k w rs) ≡ counts_of its_patterns
  unfolding counts_in
  counts-written = ap (λ (o : Outcome). counts_of (patterns_said o)) reads-written

  pub patterns-written : patterns_in (model_text (missing y) n k w rs) ≡ all_of its_patterns
  unfolding patterns_in
  patterns-written = ap (λ (o : Outcome). all_of (patterns_said o)) reads-written

  -- and reading answers, where there is room
  pub reads-answers : (roomMatrix roomCounts roomPatterns : ℕ) → n ≤ roomMatrix → k ≤ roomCounts → length (all_of its_patterns) ≤ roomPatterns
      → read_model_verdict (model_text (missing y) n k w rs) roomMatrix roomCounts roomPatterns ≡ answer 0 0 0
  unfolding read_model_verdict
  reads-answers roomMatrix roomCounts roomPatterns a b c =
      ap (λ (o : Outcome). verdict
      (model_checks o (good_lines start (lines (model_text (missing y) n k w rs))) roomMatrix roomCounts roomPatterns)) reads-written
      ∙ verdict-miss _ _ refl
      ∙ verdict-miss _ _ (rw (le-ltb roomMatrix n a, le-ltb roomCounts k b, le-ltb roomPatterns (length (all_of its_patterns)) c))
      ∙ verdict-miss _ _ (le-ltb (dependent n (at its_matrix)) n (omega (arith, independent)))
      ∙ verdict-none

-- ---- a text that is read

-- it is what is written for what it says ..
pub writes-read : (text : List ℕ) (n k : ℕ) (sigma : List ℕ) (qs : List (List Pattern)) → outcome_of text ≡ Whole n k sigma qs
    → model_of n sigma qs ≡ text
writes-read text n k sigma qs e = (written_read text n k sigma qs e).1

-- .. so no two texts say the same
pub read-once : (s t : List ℕ) (n k : ℕ) (sigma : List ℕ) (qs : List (List Pattern)) → outcome_of s ≡ Whole n k sigma qs
    → outcome_of t ≡ Whole n k sigma qs → s ≡ t
read-once s t n k sigma qs e f = sym (writes-read s n k sigma qs e) ∙ writes-read t n k sigma qs f

-- ---- evaluating what was read

value-whole : (text : List ℕ) (n k : ℕ) (sigma : List ℕ) (qs : List (List Pattern)) (x : ℕ) → outcome_of text ≡ Whole n k sigma qs
    → n ≤ dependent n (at sigma) → x < 2 ^ n → model_value n k x sigma (counts_of qs) (all_of qs) ≡ with_value (answer 0 0 0) (word_at text x)
unfolding model_value model_value_verdict
value-whole text n k sigma qs x e d h =
    let r = written_read text n k sigma qs e in
    let s = r.0 in
    ap₂ with_value
    (verdict-miss _ _ (within 1 list_inputs n s.sized.inputs.0 s.sized.inputs.1)
    ∙ verdict-miss _ _ (within 1 outputs k s.sized.outs.0 s.sized.outs.1)
    ∙ verdict-miss _ _ (ap not (lt-ltb x (2 ^ n) h))
    ∙ verdict-miss _ _
    (rw (
      eq-eqb (length sigma) n s.full,
      eq-eqb (length (counts_of qs)) k (length-map qs (λ (ps : List Pattern). length ps) ∙ s.outs),
      eq-eqb (total (counts_of qs)) (length (all_of qs)) (counts-total qs),
    ))
    ∙ verdict-miss _ _
    (none_passes (length sigma) (λ i. bad_number n (at sigma i)) (λ i l. ap not (lt-ltb (at sigma i) (2 ^ n) (s.rows i l).1)))
    ∙ verdict-miss _ _
    (none_passes (length (all_of qs)) (λ i. bad_pattern n (pattern_at (all_of qs) i)) (all-good n qs s.patterns))
    ∙ verdict-miss _ _ (le-ltb (dependent n (at sigma)) n d)
    ∙ verdict-none)
    (ap (λ (qs : List (List Pattern)). word_at (model_of n sigma qs) x) (dealt_back qs) ∙ ap (λ (t : List ℕ). word_at t x) r.1)

-- what was read is answered, with the word of the text
pub value_read : (text : List ℕ) (roomMatrix roomCounts roomPatterns x : ℕ)
    → (read_model_verdict text roomMatrix roomCounts roomPatterns).number ≡ 0 → x < 2 ^ inputs_said (outcome_of text)
    → model_value (inputs_said (outcome_of text)) (outputs_said (outcome_of text)) x (matrix_in text) (counts_in text) (patterns_in text)
    ≡ with_value (answer 0 0 0) (word_at text x)
unfolding read_model_verdict matrix_in counts_in patterns_in
value_read text roomMatrix roomCounts roomPatterns x answers h = go (outcome_of text) refl answers h
  where
    go : (o : Outcome) → outcome_of text ≡ o
        → (verdict (model_checks o (good_lines start (lines text)) roomMatrix roomCounts roomPatterns)).number ≡ 0 → x < 2 ^ inputs_said o
        → model_value (inputs_said o) (outputs_said o) x (matrix_said o) (counts_of (patterns_said o)) (all_of (patterns_said o))
        ≡ with_value (answer 0 0 0) (word_at text x)
    go (More s) e v h = let z : ◌≡◌ {A = Bool} true false = (passes _ _ refl v).0 in let y : ◌≡◌ {A = ℕ} 0 1 = cc in absurd (omega arith)
    go (Whole n k sigma qs) e v h =
        let room = passes _ _ refl v in
        let last = passes _ _ refl room.1 in
        let independent = passes _ _ refl last.1 in
        value-whole text n k sigma qs x e (ltb-false (dependent n (at sigma)) n independent.0) h
    go Bad e v h = let z : ◌≡◌ {A = Bool} true false = (passes _ _ refl v).0 in let y : ◌≡◌ {A = ℕ} 0 1 = cc in absurd (omega arith)
