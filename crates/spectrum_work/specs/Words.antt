-- R as a sum over the output words, in their order. Assumes nothing.
use Rattle.std.specs.Prelude.{◌≡◌, refl, Bool, true, false, not, ◌&&◌, List, ℕ, zero, suc, ◌+◌, ◌*◌, ◌≤◌, ◌<◌, ◌^◌, eqb, ltb, length}
use Rattle.std.proofs.Common.{sym, ap, ap₂, ◌∙◌, subst, add-one, arith, eq-eqb, ne_eqb, lt-ltb, le-ltb, pow_mono}
use Rattle.std.proofs.Math.Decide.{dec_lt, ℕ_discrete}
use Rattle.std.specs.Int.Bits.{bit_xor}
use Rattle.std.proofs.lemmas.Nat.{xor_lt}
use Rattle.slices.specs.Places.{at, tab}
use Rattle.slices.specs.Filled.{tab-at, tab-cong, get_d_any}
use Rattle.sums.specs.Sums.{sum, one, count}
use Rattle.sums.specs.Laws.{sum-cong, sum-none, sum-add, count-cong, count-le}
use Rattle.block.specs.Words.{none, of_table}
use Rattle.block.specs.Measure.{same, shift}
use Rattle.walsh_laws.specs.Walsh.{auto, most_points}
use Rattle.spectrum_words.specs.Words.{marks, Next}

-- x and x XOR t have the same word, which is below u
unfoldable pub alike : (ℕ → ℕ) → ℕ → ℕ → ℕ → Bool
alike f u t x = ltb (f x) u && eqb (f x) (f (bit_xor x t))

-- what the words below u add to R
unfoldable pub below : (ℕ → ℕ) → ℕ → ℕ → ℕ → ℕ
below f n u t = count (alike f u t) (2 ^ n)

pub below-le : (f : ℕ → ℕ) (n u t : ℕ) → n ≤ 12 → below f n u t ≤ most_points
unfolding below
below-le f n u t h = omega (arith, count-le (alike f u t) (2 ^ n), pow_mono h)

-- no word is below 0
pub below_none : (f : ℕ → ℕ) (n t : ℕ) → below f n 0 t ≡ 0
unfolding below count alike
below_none f n t = sum-none _ (2 ^ n) (λ x h. rw (le-ltb (f x) 0 (omega arith)))

-- one word more
one_more : (a b u : ℕ) → one (ltb a (u + 1) && eqb a b) ≡ one (ltb a u && eqb a b) + one (eqb a u) * one (eqb b u)
one_more a b u = go (dec_lt a u) (ℕ_discrete a u) (ℕ_discrete a b)
  where
    go : Dec (a < u) → Dec (a ≡ u) → Dec (a ≡ b) → one (ltb a (u + 1) && eqb a b) ≡ one (ltb a u && eqb a b) + one (eqb a u) * one (eqb b u)
    go (yes l) d e = rw (lt-ltb a (u + 1) (omega arith), lt-ltb a u l, ne_eqb a u (omega arith)) (omega arith)
    go (no l) (yes d) (yes e) = rw (lt-ltb a (u + 1) (omega arith), le-ltb a u (omega arith), eq-eqb a u d, eq-eqb b u (sym e ∙ d), eq-eqb a b e)
    go (no l) (yes d) (no e) = rw (lt-ltb a (u + 1) (omega arith), le-ltb a u (omega arith), eq-eqb a u d, ne_eqb b u (λ k. e (d ∙ sym k)), ne_eqb a b e)
    go (no l) (no d) e = rw (le-ltb a (u + 1) (omega arith), le-ltb a u (omega arith), ne_eqb a u d) (omega arith)

pub below_more : (f : ℕ → ℕ) (n u t : ℕ) → below f n (u + 1) t ≡ below f n u t + auto (marks f u) n t
unfolding below count alike auto
below_more f n u t =
    sum-cong _ _ (2 ^ n) (λ x h. one_more (f x) (f (bit_xor x t)) u)
    ∙ sum-add (λ x. one (ltb (f x) u && eqb (f x) (f (bit_xor x t)))) (λ x. one (eqb (f x) u) * one (eqb (f (bit_xor x t)) u)) (2 ^ n)

-- all of them so far, word by word
pub below-words : (f : ℕ → ℕ) (n u t : ℕ) → below f n u t ≡ sum (λ v. auto (marks f v) n t) u
unfolding sum
below-words f n zero t = below_none f n t
below-words f n (suc u) t =
    ap (λ (v : ℕ). below f n v t) (sym (add-one u)) ∙ below_more f n u t ∙ ap (λ (a : ℕ). a + auto (marks f u) n t) (below-words f n u t)

-- from a word to the next one
pub below_next : (table : List ℕ) (n u r t : ℕ) → length table ≡ 2 ^ n → Next table u r → below (at table) n u t ≡ below (at table) n r t
unfolding below alike
below_next table n u r t e d = count-cong _ _ (2 ^ n) (λ x h. ap (λ b. b && eqb (at table x) (at table (bit_xor x t))) (test x h))
  where
    test : (x : ℕ) → x < 2 ^ n → ltb (at table x) u ≡ ltb (at table x) r
    test x h = go (dec_lt (at table x) u)
      where
        go : Dec (at table x < u) → ltb (at table x) u ≡ ltb (at table x) r
        go (yes l) = lt-ltb (at table x) u l ∙ sym (lt-ltb (at table x) r (omega (arith, d.from)))
        go (no l) =
            le-ltb (at table x) u (omega arith)
            ∙ sym (le-ltb (at table x) r (d.least x (omega arith) (omega arith)))

-- all words: R, of any block
pub shift-below : (f : ℕ → ℕ) (n t : ℕ) → t < 2 ^ n → ((x : ℕ) → x < 2 ^ n → f x ≤ none) → below f n none t ≡ shift f n t
unfolding below alike shift same
shift-below f n t h small = count-cong _ _ (2 ^ n) (λ x b. test (f x) (f (bit_xor x t)) (small x b))
  where
    left : (b : Bool) → false ≡ b && false
    left true = refl
    left false = refl

    test : (a b : ℕ) → a ≤ none → ltb a none && eqb a b ≡ not (eqb a none) && (not (eqb b none) && eqb a b)
    test a b h = go (ℕ_discrete a none) (ℕ_discrete a b)
      where
        go : Dec (a ≡ none) → Dec (a ≡ b) → ltb a none && eqb a b ≡ not (eqb a none) && (not (eqb b none) && eqb a b)
        go (yes d) k = rw (eq-eqb a none d, le-ltb a none (omega arith))
        go (no d) (yes k) = rw (ne_eqb a none d, lt-ltb a none (omega arith), eq-eqb a b k, ne_eqb b none (λ j. d (k ∙ j)))
        go (no d) (no k) = rw (ne_eqb a none d, lt-ltb a none (omega arith), ne_eqb a b k) (left (not (eqb b none)))

-- .. and of a table
below_all : (table : List ℕ) (n t : ℕ) → length table ≡ 2 ^ n → t < 2 ^ n → ((x : ℕ) → at table x ≤ none)
    → below (at table) n none t ≡ shift (of_table table) n t
unfolding below alike
below_all table n t e h small =
    count-cong _ _ (2 ^ n) (λ x b. ap₂ both (here x b) (here (bit_xor x t) (xor_lt n x t b h)))
    ∙ shift-below (of_table table) n t h (λ x b. subst (λ (a : ℕ). a ≤ none) (here x b) (small x))
  where
    both : ℕ → ℕ → Bool
    both a b = ltb a none && eqb a b

    here : (x : ℕ) → x < 2 ^ n → at table x ≡ of_table table x
    here x b = get_d_any table 0 none x (omega arith)

-- ---- the loop over the words, in the code's terms

module _ (table : List ℕ) (n : ℕ) (full : length table ≡ 2 ^ n) where
  pub words-first : (r : ℕ) (l : List ℕ) → l ≡ tab (2 ^ n) (λ _. 0) → Next table 0 r → l ≡ tab (2 ^ n) (below (at table) n r)
  words-first r l e d = e ∙ tab-cong (2 ^ n) _ _ (λ t h. sym (below_none (at table) n t) ∙ below_next table n 0 r t full d)

  pub words-next : (u r : ℕ) (l k : List ℕ) → l ≡ tab (2 ^ n) (below (at table) n u)
      → k ≡ tab (2 ^ n) (λ t. at l t + auto (marks (at table) u) n t) → Next table (u + 1) r → k ≡ tab (2 ^ n) (below (at table) n r)
  words-next u r l k e f d =
      f
      ∙ tab-cong (2 ^ n) _ _
      (λ t h.
      ap (λ (x : ℕ). x + auto (marks (at table) u) n t) (ap (λ s. at s t) e ∙ tab-at (2 ^ n) (below (at table) n u) 0 t h)
      ∙ sym (below_more (at table) n u t) ∙ below_next table n (u + 1) r t full d)

  pub words_small : (u : ℕ) (l : List ℕ) → n ≤ 12 → l ≡ tab (2 ^ n) (below (at table) n u) → (t : ℕ) → t < 2 ^ n → at l t ≤ most_points
  words_small u l few e t h =
      subst (λ (x : ℕ). x ≤ most_points) (sym (ap (λ s. at s t) e ∙ tab-at (2 ^ n) (below (at table) n u) 0 t h)) (below-le (at table) n u t few)

  pub words-all : (l : List ℕ) → l ≡ tab (2 ^ n) (below (at table) n none) → ((x : ℕ) → at table x ≤ none)
      → l ≡ tab (2 ^ n) (shift (of_table table) n)
  words-all l e small = e ∙ tab-cong (2 ^ n) _ _ (λ t h. below_all table n t full h small)
