-- The word by the patterns that drive each output is the one that the model's text gives (`value-word`): output j has the patterns that are
-- dealt to it. Assumes nothing.
use Rattle.std.specs.Prelude.{◌≡◌, refl, Bool, true, false, cond, ◌||◌, List, [], ◌∷◌, ℕ, zero, suc, ◌+◌, ◌*◌, ◌^◌, ◌≤◌, ◌<◌, eqb, ltb, length, get_or, take, drop}
use Rattle.std.proofs.Math.Path.{sym, ap}
use Rattle.std.proofs.Common.{◌∙◌, arith, lt-ltb, le-ltb, ltb-true, ltb-false, length-drop, get_or-drop}
use Rattle.std.specs.Int.Bits.{bit_and}
use Rattle.slices.specs.Places.{at, first}
use Rattle.slices.specs.Least.{first_cong}
use Rattle.sums.specs.Sums.{sum, one}
use Rattle.sums.specs.Laws.{sum-cong}
use Rattle.block.specs.Basis.{apply}
use Rattle.block.specs.Covers.{word_at}
use Rattle.block.specs.Model.{pattern, model_of}
use Rattle.block.specs.ModelRead.{patterns_flat, pattern_at, dealt}
use Rattle.block.specs.declared.Pattern.{Pattern}
use Rattle.model_laws.specs.Dealt.{dealt-length, dealt-at, dealt-sound}
use Rattle.model_laws.specs.Outputs.{drives}
use Rattle.model_laws.specs.Texts.{model-word}
use Rattle.model_values.specs.Checks.{ValuePassed, flat-at}
use Rattle.model_values.specs.Driven.{driven_at, begun, driven, driven_word, begun_more, begun-le}

-- ---- some pattern of the first ones drives

abbrev hits : ℕ → Pattern → Bool
hits z p = eqb (bit_and p.mask z) p.values

drives-first : (z c : ℕ) (ps : List Pattern) → c ≤ length ps → drives (take c ps) z ≡ ltb (first c (λ i. hits z (pattern_at ps i))) c
unfolding drives first
drives-first z zero ps h = refl
drives-first z (suc c) [] h = absurd (omega arith)
drives-first z (suc c) (p ∷ ps) h = go (drives-first z c ps (omega arith)) (hits z p)
  where
    found : ℕ
    found = first c (λ i. hits z (pattern_at ps i))

    more : ltb found c ≡ ltb (suc found) (suc c)
    more = same (ltb found c) refl
      where
        same : (b : Bool) → ltb found c ≡ b → b ≡ ltb (suc found) (suc c)
        same true e = sym (lt-ltb (suc found) (suc c) (omega (arith, ltb-true found c e)))
        same false e = sym (le-ltb (suc found) (suc c) (omega (arith, ltb-false found c e)))

    go : drives (take c ps) z ≡ ltb found c → (b : Bool) → b || drives (take c ps) z ≡ ltb (cond b 0 (suc found)) (suc c)
    go ih true = sym (lt-ltb 0 (suc c) (omega arith))
    go ih false = ih ∙ more

-- ---- the word

module _ (n k x : ℕ) (sigma counts masks values : List ℕ) (p : ValuePassed n k x sigma counts (patterns_flat masks values)) where
  abbrev ps : List Pattern
  ps = patterns_flat masks values

  output-drives : (z j : ℕ) → j < k → driven counts masks values z j ≡ drives (get_or (dealt counts ps) j []) z
  output-drives z j h =
      let in-counts : j < length counts = omega (arith, p.counted) in
      let within = begun_more counts j in-counts in
      let least = begun-le counts (j + 1) in
      sym
      (ap (λ (l : List Pattern). drives l z) (dealt-at counts ps j in-counts)
      ∙ drives-first z (at counts j) (drop (begun counts j) ps) (omega (arith, within, least, p.all, length-drop (begun counts j) ps))
      ∙ ap (λ (i : ℕ). ltb i (at counts j))
      (first_cong (at counts j) (λ i. hits z (pattern_at (drop (begun counts j) ps) i)) (λ i. driven_at masks values z (begun counts j + i))
      (λ i l.
      ap (hits z) (get_or-drop (begun counts j) ps i (pattern 0 0) ∙ flat-at masks values (begun counts j + i) (omega (arith, within, least, p.all))))))

  pub value-word : driven_word k counts masks values (apply (at sigma) n x) ≡ word_at (model_of n sigma (dealt counts ps)) x
  unfolding driven_word
  value-word =
      sum-cong _ _ k (λ j h. ap (λ (b : Bool). one b * 2 ^ j) (output-drives (apply (at sigma) n x) j h))
      ∙ sym
      (model-word n x sigma (dealt counts ps) p.some-inputs (omega (arith, p.inputs)) (omega (arith, dealt-length counts ps, p.counted, p.outs)) p.below
      (dealt-sound n counts ps p.sound)
      ∙ ap (sum (λ j. one (drives (get_or (dealt counts ps) j []) (apply (at sigma) n x)) * 2 ^ j)) (dealt-length counts ps ∙ p.counted))
