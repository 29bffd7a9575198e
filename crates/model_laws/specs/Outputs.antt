-- What the covers of a model compute (`covers-value`): yj is 1 where some pattern of output j lies over sigma x. For the patterns of
-- disjoint rows that is bit j of their word at sigma x, 0 where there is none (`drives-word`). Assumes nothing.
use Rattle.std.specs.Prelude.{◌≡◌, Bool, true, false, cond, eqb, length, get_or}
use Rattle.std.proofs.Math.Path.{refl, ap₂}
use Rattle.std.proofs.Common.{sym, ap, ◌∙◌, zero-add, arith, lt-ltb, eq-eqb, ne_eqb, eqb-true, pow_pos}
use Rattle.std.proofs.Math.Bool.{◌&&◌, ◌||◌, and-true, and_assoc}
use Rattle.std.proofs.lemmas.Bool.{false≢true}
use mathlib.Core.List.{List, [], ◌∷◌, ◌++◌, map}
use Prim.Native.Nat.{ℕ, zero, suc, ◌+◌, ◌/◌, ◌%◌, ◌^◌, ◌≤◌, ◌<◌, min}
use Rattle.std.proofs.Math.Decide.{ℕ_discrete}
use Rattle.std.specs.Int.Bits.{bit_and, and_lt}
use Rattle.std.proofs.lemmas.Nat.{and_le_l}
use Rattle.bits.specs.Digits.{bit}
use Rattle.bits.specs.Bit.{bit-lt, bit-ext, bit-and, bit-none, bit-zero, bit-suc}
use Rattle.slices.specs.Places.{at, tab}
use Rattle.slices.specs.Filled.{tab-at, length-tab, tab-suc}
use Rattle.slices.specs.Tests.{and_both}
use Rattle.sums.specs.Sums.{one}
use Rattle.block.specs.Words.{under, of_rows}
use Rattle.block.specs.Basis.{apply}
use Rattle.block.specs.Refusals.{row_at}
use Rattle.block.specs.Text.{decimal, equal}
use Rattle.block.specs.declared.Row.{Row}
use Rattle.pair_laws.specs.Cube.{Sound}
use Rattle.pair_laws.specs.Theorem.{Every, Apart}
use Rattle.matrix_laws.specs.Linear.{apply-bit, apply-lt}
use Rattle.read_laws.specs.Tests.{equal-same}
use Rattle.block.specs.declared.Pattern.{Pattern}
use Rattle.block.specs.Covers.{matches, covered, bound, evaluated, given, word_in}
use Rattle.block.specs.Model.{x_name, y_name, z_name, pattern, symbol_of, cube_of, back_covers, patterns_of, model_covers, front_covers}
use Rattle.model_laws.specs.Names.{name-apart}
use Rattle.model_laws.specs.Values.{digit-go, Kept, kept, evaluated-append, front-value}
use Rattle.model_laws.specs.Patterns.{SoundPattern, Sounds, AllSound, all_more}

-- ---- a line against values, by place

-- one symbol agrees with a value
abbrev agrees : ℕ → ℕ → Bool
agrees s v = eqb s 45 || eqb s (48 + v)

matches-more : (env : List ℕ → ℕ) (ms : List (List ℕ)) (ss : List ℕ) (m : List ℕ) (s : ℕ) → length ms ≡ length ss
    → matches env (ms ++ (m ∷ [])) (ss ++ (s ∷ [])) ≡ matches env ms ss && agrees s (env m)
unfolding matches
matches-more env [] [] m s e = and-true (agrees s (env m))
matches-more env [] (t ∷ ss) m s e = absurd (omega arith)
matches-more env (l ∷ ms) [] m s e = absurd (omega arith)
matches-more env (l ∷ ms) (t ∷ ss) m s e =
    ap (λ (b : Bool). agrees t (env l) && b) (matches-more env ms ss m s (omega arith))
    ∙ sym (and_assoc (agrees t (env l)) (matches env ms ss) (agrees s (env m)))

module _ (env : List ℕ → ℕ) (g : ℕ → List ℕ) (f : ℕ → ℕ) where
  tab-more : (n : ℕ) → matches env (tab (suc n) g) (tab (suc n) f) ≡ matches env (tab n g) (tab n f) && agrees (f n) (env (g n))
  tab-more n = rw (tab-suc n g, tab-suc n f) (matches-more env (tab n g) (tab n f) (g n) (f n) (length-tab n g ∙ sym (length-tab n f)))

  matches-at : (n : ℕ) → matches env (tab n g) (tab n f) ≡ true → (i : ℕ) → i < n → agrees (f i) (env (g i)) ≡ true
  matches-at zero e i h = absurd (omega arith)
  matches-at (suc n) e i h =
      let b = and_both (matches env (tab n g) (tab n f)) (agrees (f n) (env (g n))) (sym (tab-more n) ∙ e) in
      go (ℕ_discrete i n) b.1 (matches-at n b.0)
    where
      go : Dec (i ≡ n) → agrees (f n) (env (g n)) ≡ true → ((i : ℕ) → i < n → agrees (f i) (env (g i)) ≡ true)
          → agrees (f i) (env (g i)) ≡ true
      go (yes q) a ih = rw q a
      go (no q) a ih = ih i (omega arith)

  matches-all : (n : ℕ) → ((i : ℕ) → i < n → agrees (f i) (env (g i)) ≡ true) → matches env (tab n g) (tab n f) ≡ true
  unfolding matches tab
  matches-all zero h = refl
  matches-all (suc n) h = tab-more n ∙ ap₂ ◌&&◌ (matches-all n (λ i l. h i (omega arith))) (h n (omega arith))

-- ---- a pattern lies over z

-- some pattern lies over z
unfoldable pub drives : List Pattern → ℕ → Bool
drives [] z = false
drives (p ∷ ps) z = eqb (bit_and p.mask z) p.values || drives ps z

abbrev Agree : ℕ → ℕ → ℕ → Type 0
Agree m v z = min m v ≡ v → agrees (symbol_of m v) z ≡ eqb (min m z) v

digit-agrees : (m : ℕ) → m < 2 → (v : ℕ) → v < 2 → (z : ℕ) → z < 2 → Agree m v z
digit-agrees =
    digit-go (λ m. (v : ℕ) → v < 2 → (z : ℕ) → z < 2 → Agree m v z)
    (digit-go (λ v. (z : ℕ) → z < 2 → Agree 0 v z) (digit-go (Agree 0 0) (λ e. refl) (λ e. refl))
    (digit-go (Agree 0 1) (λ e. absurd (omega arith)) (λ e. absurd (omega arith))))
    (digit-go (λ v. (z : ℕ) → z < 2 → Agree 1 v z) (digit-go (Agree 1 0) (λ e. refl) (λ e. refl))
    (digit-go (Agree 1 1) (λ e. refl) (λ e. refl)))

-- for values z of the names z0 .., below 2^n
module _ (n z : ℕ) (env : List ℕ → ℕ) (is : (i : ℕ) → i < n → env (z_name i) ≡ bit z i) (below : z < 2 ^ n) where
  cube-matches : (p : Pattern) → SoundPattern n p → matches env (tab n z_name) (cube_of n p) ≡ eqb (bit_and p.mask z) p.values
  cube-matches p sound = go (matches env (tab n z_name) (cube_of n p)) refl
    where
      m : ℕ
      m = p.mask

      v : ℕ
      v = p.values

      f : ℕ → ℕ
      f i = symbol_of (bit m i) (bit v i)

      here : (i : ℕ) → i < n → agrees (f i) (env (z_name i)) ≡ eqb (bit (bit_and m z) i) (bit v i)
      here i h =
          ap (λ (x : ℕ). agrees (f i) x) (is i h)
          ∙ digit-agrees (bit m i) (bit-lt m i) (bit v i) (bit-lt v i) (bit z i) (bit-lt z i)
          (sym (bit-and m v i) ∙ ap (λ (x : ℕ). bit x i) sound.1)
          ∙ ap (λ (x : ℕ). eqb x (bit v i)) (sym (bit-and m z i))

      small : v < 2 ^ n
      small = omega (arith, sound.0, sound.1, and_le_l m v)

      go : (b : Bool) → matches env (tab n z_name) (tab n f) ≡ b → b ≡ eqb (bit_and m z) v
      go true e =
          sym
          (eq-eqb (bit_and m z) v
          (bit-ext n (bit_and m z) v (and_lt n m z sound.0 below) small
          (λ i h. eqb-true (bit (bit_and m z) i) (bit v i) (sym (here i h) ∙ matches-at env z_name f n e i h))))
      go false e =
          sym
          (ne_eqb (bit_and m z) v
          (λ q.
          false≢true
          (sym e ∙ matches-all env z_name f n (λ i h. here i h ∙ eq-eqb (bit (bit_and m z) i) (bit v i) (ap (λ (x : ℕ). bit x i) q)))))

  patterns-covered : (ps : List Pattern) → Sounds n ps → covered env (tab n z_name) (map (cube_of n) ps) ≡ drives ps z
  unfolding covered drives Sounds
  patterns-covered [] h = refl
  patterns-covered (p ∷ ps) h = ap₂ ◌||◌ (cube-matches p h.0) (patterns-covered ps h.1)

-- a name yj is kept by the outputs behind it
back-kept : (n : ℕ) (qs : List (List Pattern)) (j from : ℕ) → j < from → from + length qs ≤ 1000 → Kept (y_name j) (back_covers n from qs)
unfolding Kept back_covers
back-kept n [] j from h l = tt
back-kept n (ps ∷ qs) j from h l = (
  name-apart 121 j from (omega arith) (omega arith) (λ e. omega arith),
  back-kept n qs j (suc from) (omega arith) (omega arith),
)

z-kept : (n z : ℕ) (env : List ℕ → ℕ) (s : List ℕ) (v : ℕ) → ((l : ℕ) → l < n → env (z_name l) ≡ bit z l) → (l : ℕ) → l < n
    → bound (121 ∷ s) v env (z_name l) ≡ bit z l
unfolding equal
z-kept n z env s v is l h = is l h

-- yj is 1 where some pattern of output j lies over z
back-value : (n z : ℕ) → z < 2 ^ n → (qs : List (List Pattern)) (from i : ℕ) (env : List ℕ → ℕ)
    → ((l : ℕ) → l < n → env (z_name l) ≡ bit z l) → AllSound n qs → from + length qs ≤ 1000 → i < length qs
    → evaluated env (back_covers n from qs) (y_name (from + i)) ≡ one (drives (get_or qs i []) z)
unfolding evaluated back_covers AllSound
back-value n z below [] from i env is good l h = absurd (omega arith)
back-value n z below (ps ∷ qs) from zero env is good l h =
    let e : from + 0 ≡ from = omega arith in
    rw e
    (kept (y_name from) (back_covers n (suc from) qs) _ (back-kept n qs from (suc from) (omega arith) (omega arith))
    ∙ rw (equal-same (y_name from)) (ap one (patterns-covered n z env is below ps good.0)))
back-value n z below (ps ∷ qs) from (suc i) env is good l h =
    let e : from + suc i ≡ suc from + i = omega arith in
    let v : ℕ = one (covered env (tab n z_name) (map (cube_of n) ps)) in
    rw e
    (back-value n z below qs (suc from) i (bound (y_name from) v env) (z-kept n z env (decimal from) v is) good.1 (omega arith)
    (omega arith))

-- ---- the inputs' values

-- a name that is not among those before it has its bit of x
given-at : (names : List (List ℕ)) (x a : ℕ) → a < length names
    → ((b : ℕ) → b < a → equal (word_in names a) (word_in names b) ≡ false) → given names x (word_in names a) ≡ bit x a
unfolding given
given-at [] x a h apart = absurd (omega arith)
given-at (name ∷ names) x zero h apart = rw (equal-same name) (sym (bit-zero x))
given-at (name ∷ names) x (suc a) h apart =
    rw (apart 0 (omega arith))
    (given-at names (x / 2) a (omega arith) (λ b l. apart (suc b) (omega arith)) ∙ sym (bit-suc x a))

-- a name that is not given has 0
given-other : (names : List (List ℕ)) (x : ℕ) (m : List ℕ) → ((b : ℕ) → b < length names → equal m (word_in names b) ≡ false)
    → given names x m ≡ 0
unfolding given
given-other [] x m apart = refl
given-other (name ∷ names) x m apart =
    rw (apart 0 (omega arith)) (given-other names (x / 2) m (λ b l. apart (suc b) (omega arith)))

given-lt : (names : List (List ℕ)) (x : ℕ) (m : List ℕ) → given names x m < 2
unfolding given
given-lt [] x m = omega arith
given-lt (name ∷ names) x m = go (equal m name) (given-lt names (x / 2) m)
  where
    go : (b : Bool) → given names (x / 2) m < 2 → cond b (x % 2) (given names (x / 2) m) < 2
    go true ih = omega arith
    go false ih = ih

given-x : (n x a : ℕ) → a < n → n ≤ 1000 → given (tab n x_name) x (x_name a) ≡ bit x a
given-x n x a h l =
    ap (given (tab n x_name) x) (sym (tab-at n x_name [] a h))
    ∙ given-at (tab n x_name) x a (rw (length-tab n x_name) h)
    (λ b k.
    rw (tab-at n x_name [] a h, tab-at n x_name [] b (omega arith)) (name-apart 120 a b (omega arith) (omega arith) (λ e. omega arith)))

given-z : (n x i : ℕ) → given (tab n x_name) x (z_name i) ≡ 0
unfolding equal
given-z n x i =
    given-other (tab n x_name) x (z_name i) (λ b l. ap (equal (z_name i)) (tab-at n x_name [] b (rw (length-tab n x_name) at l)))

-- ---- a whole model

-- any matrix and any patterns: yj is 1 where some pattern of output j lies over sigma x
pub covers-value : (n x : ℕ) (sigma : List ℕ) (qs : List (List Pattern)) → n < 1000 → length qs ≤ 1000
    → ((j : ℕ) → j < n → at sigma j < 2 ^ n) → AllSound n qs → (j : ℕ) → j < length qs
    → evaluated (given (tab n x_name) x) (model_covers n sigma qs) (y_name j) ≡ one (drives (get_or qs j []) (apply (at sigma) n x))
unfolding model_covers
covers-value n x sigma qs hn hk below good j h =
    evaluated-append (front_covers n (at sigma) n) (back_covers n 0 qs) start (y_name j)
    ∙ ap (λ (i : ℕ). evaluated env (back_covers n 0 qs) (y_name i)) (sym (zero-add j))
    ∙ back-value n z (apply-lt (at sigma) n x) qs 0 j env is good (omega arith) h
  where
    z : ℕ
    z = apply (at sigma) n x

    start : List ℕ → ℕ
    start = given (tab n x_name) x

    env : List ℕ → ℕ
    env = evaluated start (front_covers n (at sigma) n)

    is : (l : ℕ) → l < n → env (z_name l) ≡ bit z l
    is l h =
        front-value n (at sigma) x (λ a. start (x_name a)) start
        (record { is = λ a. refl; small = λ a. given-lt (tab n x_name) x (x_name a) })
        (λ a b. given-x n x a b (omega arith)) (given-z n x) n l (omega arith) hn (omega arith) below
        ∙ rw (lt-ltb l n h) (sym (apply-bit (at sigma) n x l h))

-- ---- the patterns of disjoint rows

none-drives : (z j : ℕ) (rs : List Row) → Every (λ r. under r z ≡ false) rs → drives (patterns_of j rs) z ≡ false
unfolding drives patterns_of
none-drives z j [] h = refl
none-drives z j (r ∷ rs) h = go (eqb (bit r.word j) 0) (none-drives z j rs (λ i l. h (suc i) (omega arith)))
  where
    go : (b : Bool) → drives (patterns_of j rs) z ≡ false
        → drives (cond b (patterns_of j rs) (pattern r.mask r.values ∷ patterns_of j rs)) z ≡ false
    go true ih = ih
    go false ih = rw (h 0 (omega arith)) ih

-- bit j of the rows' word, 0 under no row
pub drives-word : (n z j : ℕ) (rs : List Row) → z < 2 ^ n → Apart n rs → one (drives (patterns_of j rs) z) ≡ bit (of_rows 0 rs z) j
unfolding drives patterns_of of_rows
drives-word n z j [] below h = sym (bit-none 0 j (pow_pos j))
drives-word n z j (r ∷ rs) below h =
    go (under r z) refl (bit r.word j) refl (bit-lt r.word j)
    (drives-word n z j rs below (λ i k x a b c p q. let e = h (suc i) (suc k) x (omega arith) (omega arith) c p q in omega arith))
  where
    apart : under r z ≡ true → Every (λ r. under r z ≡ false) rs
    apart e i l = alone (under (row_at rs i) z) refl
      where
        alone : (b : Bool) → under (row_at rs i) z ≡ b → under (row_at rs i) z ≡ false
        alone true q = let c = h 0 (suc i) z (omega arith) (omega arith) below e q in absurd (omega arith)
        alone false q = q

    go : (b : Bool) → under r z ≡ b → (d : ℕ) → bit r.word j ≡ d → d < 2 → one (drives (patterns_of j rs) z) ≡ bit (of_rows 0 rs z) j
        → one (drives (cond (eqb d 0) (patterns_of j rs) (pattern r.mask r.values ∷ patterns_of j rs)) z)
        ≡ bit (cond b r.word (of_rows 0 rs z)) j
    go true e zero g l ih = rw (none-drives z j rs (apart e)) (sym g)
    go true e (suc zero) g l ih = rw e (sym g)
    go true e (suc (suc d)) g l ih = absurd (omega arith)
    go false e zero g l ih = ih
    go false e (suc zero) g l ih = rw e ih
    go false e (suc (suc d)) g l ih = absurd (omega arith)

patterns-sound : (n j : ℕ) (rs : List Row) → Every (Sound n) rs → Sounds n (patterns_of j rs)
unfolding Sounds patterns_of
patterns-sound n j [] h = tt
patterns-sound n j (r ∷ rs) h = go (eqb (bit r.word j) 0) (patterns-sound n j rs (λ i l. h (suc i) (omega arith)))
  where
    go : (b : Bool) → Sounds n (patterns_of j rs) → Sounds n (cond b (patterns_of j rs) (pattern r.mask r.values ∷ patterns_of j rs))
    go true ih = ih
    go false ih = (((h 0 (omega arith)).fixed, (h 0 (omega arith)).inside), ih)

-- of each output
pub rows-sound : (n k : ℕ) (rs : List Row) → Every (Sound n) rs → AllSound n (tab k (λ j. patterns_of j rs))
unfolding AllSound tab
rows-sound n zero rs h = tt
rows-sound n (suc k) rs h = all_more n (tab k (λ j. patterns_of j rs)) (patterns_of k rs) (rows-sound n k rs h) (patterns-sound n k rs h)

pub word_lt : (k : ℕ) (rs : List Row) (z : ℕ) → Every (λ r. r.word < 2 ^ k) rs → of_rows 0 rs z < 2 ^ k
unfolding of_rows
word_lt k [] z h = pow_pos k
word_lt k (r ∷ rs) z h = go (under r z) (word_lt k rs z (λ i l. h (suc i) (omega arith)))
  where
    go : (b : Bool) → of_rows 0 rs z < 2 ^ k → cond b r.word (of_rows 0 rs z) < 2 ^ k
    go true ih = h 0 (omega arith)
    go false ih = ih

-- where a point lies under some row, the word does not depend on what a missing point means
pub word-driven : (rs : List Row) (z m : ℕ) → (of_rows m rs z ≡ m → ⊥) → of_rows 0 rs z ≡ of_rows m rs z
unfolding of_rows
word-driven [] z m h = absurd (h refl)
word-driven (r ∷ rs) z m h = go (under r z) h (word-driven rs z m)
  where
    go : (b : Bool) → (cond b r.word (of_rows m rs z) ≡ m → ⊥) → ((of_rows m rs z ≡ m → ⊥) → of_rows 0 rs z ≡ of_rows m rs z)
        → cond b r.word (of_rows 0 rs z) ≡ cond b r.word (of_rows m rs z)
    go true h ih = refl
    go false h ih = ih h
