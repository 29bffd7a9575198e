-- The word of a model's outputs at z, from counts and patterns in flat slices: output j is 1 where z lies under one of its patterns. Assumes
-- nothing.
use Rattle.std.specs.Prelude.{◌≡◌, refl, Bool, false, List, [], ◌∷◌, ◌++◌, ℕ, zero, suc, ◌+◌, ◌*◌, ◌^◌, ◌≤◌, ◌<◌, eqb, ltb, length, take}
use Rattle.std.proofs.Common.{sym, ap, ap₂, ◌∙◌, add-one, arith, eq-eqb, ne_eqb, take-suc, take_all}
use Rattle.std.proofs.Math.Decide.{ℕ_discrete}
use Rattle.std.specs.Int.Bits.{bit_and}
use Rattle.slices.specs.Places.{at, first}
use Rattle.sums.specs.Sums.{sum, one}
use Rattle.block.specs.ModelRead.{total}

-- z lies under pattern i
abbrev pub driven_at : List ℕ → List ℕ → ℕ → ℕ → Bool
driven_at masks values z i = eqb (bit_and (at masks i) z) (at values i)

-- where the patterns of output j begin
abbrev pub begun : List ℕ → ℕ → ℕ
begun counts j = total (take j counts)

-- output j
abbrev pub driven : List ℕ → List ℕ → List ℕ → ℕ → ℕ → Bool
driven counts masks values z j =
    ltb (first (at counts j) (λ i. driven_at masks values z (begun counts j + i))) (at counts j)

unfoldable pub driven_word : ℕ → List ℕ → List ℕ → List ℕ → ℕ → ℕ
driven_word k counts masks values z = sum (λ j. one (driven counts masks values z j) * 2 ^ j) k

-- ---- sums of counts

pub total-append : (cs ds : List ℕ) → total (cs ++ ds) ≡ total cs + total ds
unfolding total
total-append [] ds = omega arith
total-append (c ∷ cs) ds = ap (λ (t : ℕ). c + t) (total-append cs ds) ∙ omega arith

pub begun-none : (counts : List ℕ) → begun counts 0 ≡ 0
unfolding total
begun-none counts = refl

-- one count more
pub begun_more : (counts : List ℕ) (j : ℕ) → j < length counts → begun counts (j + 1) ≡ begun counts j + at counts j
unfolding total
begun_more counts j h =
    rw (add-one j, take-suc counts j 0 h) (total-append (take j counts) (at counts j ∷ []) ∙ omega arith)

-- no beginning is above the sum
pub begun-le : (counts : List ℕ) (j : ℕ) → begun counts j ≤ total counts
unfolding total
begun-le [] zero = omega arith
begun-le [] (suc j) = omega arith
begun-le (c ∷ cs) zero = omega arith
begun-le (c ∷ cs) (suc j) = omega (arith, begun-le cs j)

-- all counts
pub begun_all : (counts : List ℕ) (j : ℕ) → length counts ≤ j → begun counts j ≡ total counts
begun_all counts j h = ap total (take_all j counts h)

-- a count above what is left
pub too_many : (counts : List ℕ) (count rest j : ℕ) → j < length counts → begun counts j + rest ≡ count → rest < at counts j
    → false ≡ eqb (total counts) count
too_many counts count rest j h e l =
    sym (ne_eqb (total counts) count (λ w. omega (arith, begun_more counts j h, begun-le counts (j + 1))))

-- past all counts, what is left of a number tells whether they add up to it
pub rest-none : (counts : List ℕ) (count rest j : ℕ) → length counts ≤ j → begun counts j + rest ≡ count → eqb rest 0 ≡ eqb (total counts) count
rest-none counts count rest j h e = go (ℕ_discrete rest 0)
  where
    all : begun counts j ≡ total counts
    all = begun_all counts j h

    go : Dec (rest ≡ 0) → eqb rest 0 ≡ eqb (total counts) count
    go (yes z) = eq-eqb rest 0 z ∙ sym (eq-eqb (total counts) count (omega (arith, all)))
    go (no z) = ne_eqb rest 0 z ∙ sym (ne_eqb (total counts) count (λ w. z (omega (arith, all))))

-- ---- a word, output by output

pub word_none : (counts masks values : List ℕ) (z : ℕ) → driven_word 0 counts masks values z ≡ 0
unfolding driven_word sum
word_none counts masks values z = refl

pub word_more : (counts masks values : List ℕ) (z j : ℕ)
    → driven_word (j + 1) counts masks values z ≡ driven_word j counts masks values z + one (driven counts masks values z j) * 2 ^ j
unfolding driven_word sum
word_more counts masks values z j = rw (add-one j)

-- one output more, by what the search over its patterns finds
pub word-goes-on : (counts masks values : List ℕ) (z j word power from i w : ℕ) → word ≡ driven_word j counts masks values z → power ≡ 2 ^ j
    → from ≡ begun counts j → i ≡ first (at counts j) (λ i. driven_at masks values z (from + i)) → w ≡ one (ltb i (at counts j)) * power
    → word + w ≡ driven_word (j + 1) counts masks values z
word-goes-on counts masks values z j word power from i w e f g h k =
    ap₂ ◌+◌ e
    (k ∙ ap₂ (λ (b : Bool) (p : ℕ). one b * p)
    (ap (λ (i : ℕ). ltb i (at counts j)) (h ∙ ap (λ (o : ℕ). first (at counts j) (λ i. driven_at masks values z (o + i))) g)) f)
    ∙ sym (word_more counts masks values z j)
