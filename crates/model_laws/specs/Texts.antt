-- The text of a model: cut at LF it has the model's lines. So its word at x is the outputs' values there (`model-word`), what is written
-- for a model within the ranges is read as that model (`read-written`), and a text that is read as a model is what is written for it
-- (`written_read`). Assumes nothing.
use Rattle.std.specs.Prelude.{◌≡◌, List, [], ℕ, ◌*◌, ◌^◌, ◌≤◌, ◌<◌, length, get_or}
use Rattle.std.proofs.Common.{sym, ap, ◌∙◌}
use Rattle.slices.specs.Places.{at, tab}
use Rattle.slices.specs.Filled.{length-tab, tab-at}
use Rattle.sums.specs.Sums.{sum, one}
use Rattle.sums.specs.Laws.{sum-cong}
use Rattle.block.specs.Words.{of_rows}
use Rattle.block.specs.Basis.{apply}
use Rattle.block.specs.Text.{lines}
use Rattle.block.specs.Covers.{Cover, inputs_word, outputs_word, word_in, evaluated, given, lines_say, names_after, word_at}
use Rattle.block.specs.Model.{x_name, y_name, patterns_of, model_covers, model_lines, joined, model_of, block_model}
use Rattle.block.specs.ModelRead.{Whole, after, start, outcome_of}
use Rattle.block.specs.declared.Row.{Row}
use Rattle.block.specs.declared.Pattern.{Pattern}
use Rattle.pair_laws.specs.Cube.{Sound}
use Rattle.pair_laws.specs.Theorem.{Every, Apart}
use Rattle.matrix_laws.specs.Linear.{apply-lt}
use Rattle.model_laws.specs.WordLines.{lines-joined, joined-lines}
use Rattle.model_laws.specs.Patterns.{AllSound, bits-sum}
use Rattle.model_laws.specs.Outputs.{drives, covers-value, drives-word, rows-sound, word_lt}
use Rattle.model_laws.specs.Plain.{model-plain, model-lines, lines-say, inputs-named, outputs-named}
use Rattle.model_laws.specs.Accepted.{ModelSaid, whole-written}
use Rattle.model_laws.specs.Written.{written-whole}

-- the lines of a model's text
pub model-cut : (n : ℕ) (sigma : List ℕ) (qs : List (List Pattern)) → 1 ≤ n
    → lines (model_of n sigma qs) ≡ model_lines n (length qs) (model_covers n sigma qs)
unfolding model_of
model-cut n sigma qs h =
    lines-joined (model_lines n (length qs) (model_covers n sigma qs))
    (model-lines n (length qs) (model_covers n sigma qs) (model-plain n sigma qs h))

-- ---- the word at a point

-- what lines say, once their names and covers are known
word-said : (text : List ℕ) (ins outs : List (List ℕ)) (cs : List Cover) (x : ℕ) → names_after inputs_word (lines text) ≡ ins
    → names_after outputs_word (lines text) ≡ outs → (lines_say (lines text)).covers ≡ cs
    → word_at text x ≡ sum (λ j. evaluated (given ins x) cs (word_in outs j) * 2 ^ j) (length outs)
unfolding word_at
word-said text ins outs cs x a b c = rw (a, b, c)

-- any matrix below 2^n and any sound patterns: bit j of the word at x is 1 where some pattern of output j lies over sigma x
pub model-word : (n x : ℕ) (sigma : List ℕ) (qs : List (List Pattern)) → 1 ≤ n → n < 1000 → length qs ≤ 1000
    → ((j : ℕ) → j < n → at sigma j < 2 ^ n) → AllSound n qs
    → word_at (model_of n sigma qs) x ≡ sum (λ j. one (drives (get_or qs j []) (apply (at sigma) n x)) * 2 ^ j) (length qs)
model-word n x sigma qs h hn hk below good =
    word-said (model_of n sigma qs) (tab n x_name) (tab k y_name) cs x
    (ap (names_after inputs_word) (model-cut n sigma qs h) ∙ inputs-named n k cs)
    (ap (names_after outputs_word) (model-cut n sigma qs h) ∙ outputs-named n k cs)
    (ap (λ (ls : List (List ℕ)). (lines_say ls).covers) (model-cut n sigma qs h) ∙ lines-say n k cs (model-plain n sigma qs h))
    ∙ ap (sum (λ j. evaluated (given (tab n x_name) x) cs (word_in (tab k y_name) j) * 2 ^ j)) (length-tab k y_name)
    ∙ sum-cong _ _ k
    (λ j l.
    ap (λ (v : ℕ). v * 2 ^ j)
    (ap (evaluated (given (tab n x_name) x) cs) (tab-at k y_name [] j l) ∙ covers-value n x sigma qs hn hk below good j l))
  where
    k : ℕ
    k = length qs

    cs : List Cover
    cs = model_covers n sigma qs

-- sigma and disjoint rows: the word at x is the rows' word at sigma x, 0 under no row
pub rows-word : (n k x : ℕ) (sigma : List ℕ) (rs : List Row) → 1 ≤ n → n < 1000 → k ≤ 1000 → ((j : ℕ) → j < n → at sigma j < 2 ^ n)
    → Every (Sound n) rs → Every (λ r. r.word < 2 ^ k) rs → Apart n rs
    → word_at (block_model n k sigma rs) x ≡ of_rows 0 rs (apply (at sigma) n x)
unfolding block_model
rows-word n k x sigma rs h hn hk below sound words apart =
    model-word n x sigma qs h hn (rw (length-tab k (λ j. patterns_of j rs)) hk) below (rows-sound n k rs sound)
    ∙ ap (sum (λ j. one (drives (get_or qs j []) z) * 2 ^ j)) (length-tab k (λ j. patterns_of j rs))
    ∙ sum-cong _ _ k
    (λ j l.
    ap (λ (v : ℕ). v * 2 ^ j)
    (ap (λ (ps : List Pattern). one (drives ps z)) (tab-at k (λ j. patterns_of j rs) [] j l)
    ∙ drives-word n z j rs (apply-lt (at sigma) n x) apart))
    ∙ bits-sum k (of_rows 0 rs z) (word_lt k rs z words)
  where
    z : ℕ
    z = apply (at sigma) n x

    qs : List (List Pattern)
    qs = tab k (λ j. patterns_of j rs)

-- ---- reading

-- what is written for a model within the ranges is read as that model
pub read-written : (n k : ℕ) (sigma : List ℕ) (qs : List (List Pattern)) → ModelSaid n k sigma qs
    → outcome_of (model_of n sigma qs) ≡ Whole n k sigma qs
read-written n k sigma qs s =
    ap (after start) (model-cut n sigma qs s.sized.inputs.0)
    ∙ ap (λ (i : ℕ). after start (model_lines n i (model_covers n sigma qs))) s.outs
    ∙ written-whole n k sigma qs s

-- a text that is read as a model is what is written for it, within the ranges
pub written_read : (text : List ℕ) (n k : ℕ) (sigma : List ℕ) (qs : List (List Pattern)) → outcome_of text ≡ Whole n k sigma qs
    → ModelSaid n k sigma qs × (model_of n sigma qs ≡ text)
unfolding model_of
written_read text n k sigma qs e =
    let w = whole-written (lines text) n k sigma qs e in (
      w.0,
      ap (λ (i : ℕ). joined (model_lines n i (model_covers n sigma qs))) w.0.outs ∙ ap joined (sym w.1) ∙ joined-lines text,
    )
