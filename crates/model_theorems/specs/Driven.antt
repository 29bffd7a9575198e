-- Each output of a written model has a pattern (02, Ticket 8), since the smaller rows drive the columns that the list drives: programs that
-- take no output without one, ABC among them, read every model. Assumes nothing.
use Rattle.std.specs.Prelude.{◌≡◌, refl, Bool, true, false, cond, ◌||◌, List, [], ◌∷◌, map, ℕ, ◌≤◌, ◌<◌, eqb, length}
use Rattle.std.proofs.Common.{ap, ◌∙◌, arith, eqb-true, ne_eqb}
use Rattle.std.proofs.lemmas.Bool.{false≢true}
use Rattle.bits.specs.Digits.{bit}
use Rattle.slices.specs.Places.{at}
use Rattle.slices.specs.Filled.{map-tab, tab-at}
use Rattle.block.specs.Words.{missing, word_part}
use Rattle.block.specs.Refusals.{driven}
use Rattle.block.specs.Lists.{smaller_list}
use Rattle.block.specs.Model.{pattern, patterns_of, model_text, model_verdict}
use Rattle.block.specs.ModelRead.{counts_in}
use Rattle.block.specs.declared.Row.{Row}
use Rattle.block.specs.declared.Pattern.{Pattern}
use Rattle.step_laws.specs.Driven.{smaller-driven}
use Rattle.model_theorems.specs.Block.{model-passes}
use Rattle.model_theorems.specs.Reads.{counts-written}

-- rows that drive an output have a pattern of it
driven-patterns : (rs : List Row) (j : ℕ) → driven (map word_part rs) j ≡ true → 1 ≤ length (patterns_of j rs)
unfolding driven patterns_of
driven-patterns [] j e = absurd (false≢true e)
driven-patterns (r ∷ rs) j e = go (driven-patterns rs j) (eqb (bit r.word j) 1) refl e
  where
    go : (driven (map word_part rs) j ≡ true → 1 ≤ length (patterns_of j rs)) → (b : Bool) → eqb (bit r.word j) 1 ≡ b
        → b || driven (map word_part rs) j ≡ true
        → 1 ≤ length (cond (eqb (bit r.word j) 0) (patterns_of j rs) (pattern r.mask r.values ∷ patterns_of j rs))
    go ih true d e = rw (ne_eqb (bit r.word j) 0 (λ z. omega (arith, eqb-true (bit r.word j) 1 d))) (omega arith)
    go ih false d e = more (eqb (bit r.word j) 0) (ih e)
      where
        more : (b : Bool) → 1 ≤ length (patterns_of j rs) → 1 ≤ length (cond b (patterns_of j rs) (pattern r.mask r.values ∷ patterns_of j rs))
        more true h = h
        more false h = omega arith

module _ (n k y w : ℕ) (rs : List Row) (room : ℕ) (answers : (model_verdict n k y w rs room).number ≡ 0) where
  -- the smaller rows have one for each output
  pub output-patterns : (j : ℕ) → j < k → 1 ≤ length (patterns_of j (smaller_list (missing y) n w rs))
  output-patterns j l =
      driven-patterns (smaller_list (missing y) n w rs) j
      (smaller-driven (missing y) n w rs j ∙ (model-passes n k y w rs room answers).passed.list.columns-driven j l)

  -- so the model that is written, when it is read, has one for each output
  pub counts-positive : (j : ℕ) → j < k → 1 ≤ at (counts_in (model_text (missing y) n k w rs)) j
  counts-positive j l =
      let count : ℕ → ℕ = λ j. length (patterns_of j (smaller_list (missing y) n w rs)) in
      let e : at (counts_in (model_text (missing y) n k w rs)) j ≡ length (patterns_of j (smaller_list (missing y) n w rs)) =
      ap (λ (l : List ℕ). at l j)
      (counts-written n k y w rs room answers
      ∙ map-tab (λ (ps : List Pattern). length ps) k (λ j. patterns_of j (smaller_list (missing y) n w rs)))
      ∙ tab-at k count 0 j l in
      omega (arith, output-patterns j l)
