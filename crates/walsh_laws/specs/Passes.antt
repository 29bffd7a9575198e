-- What the butterflies do to a list of signed numbers: of one stage to a block (`Crossed`), of two stages to four numbers (`Quad`), to a
-- block (`CrossedTwice`) and to all of them (`PassedTwice`), and what the list then holds of the transform (`Stage`). Assumes nothing.
use Rattle.std.specs.Prelude.{◌≡◌, refl, List, ℕ, suc, ◌+◌, ◌*◌, ◌-◌, ◌/◌, ◌%◌, ◌^◌, ◌≤◌, ◌<◌, ℤ, pos, nat_abs, ◌+ℤ◌, ◌-ℤ◌, length, get_or, set}
use Rattle.std.proofs.Common.{sym, ap, ap₂, ◌∙◌, subst, mul-le-mul_right, mod-lt, arith, length-set, pow_pos, pow-add, shr_lt, get_or-set_same, get_or-set_other, ext_get_or}
use Rattle.std.proofs.Math.Decide.{dec_lt}
use Rattle.std.proofs.Math.Pow.{split}
use Rattle.std.proofs.lemmas.Nat.{shl-shr}
use Rattle.slices.specs.Places.{tab}
use Rattle.slices.specs.Filled.{length-tab, tab-at}
use Rattle.sums.specs.Sums.{sum}
use Rattle.walsh_laws.specs.Walsh.{spectrum, most_number}
use Rattle.walsh_laws.specs.Stages.{part, part-first, part-last, part_low, part-high, part-quarter-1, part-quarter-2, part-quarter-3, part-quarter-4, part-bound}

-- what stands at x, 0 past the end
abbrev pub val : List ℤ → ℕ → ℤ
val l x = get_or l x (pos 0)

-- each number from `at` on is within 2^24
abbrev pub Small : List ℤ → ℕ → Type 0
Small l at = (x : ℕ) → at ≤ x → x < length l → nat_abs (val l x) ≤ most_number

-- the first k butterflies of the block of 2 h numbers from `at` on
pub record Crossed (l m : List ℤ) (at h k : ℕ) : Type 0 where
  pub long : length m ≡ length l
  pub low : (j : ℕ) → j < k → val m (at + j) ≡ val l (at + j) +ℤ val l (at + h + j)
  pub high : (j : ℕ) → j < k → val m (at + h + j) ≡ val l (at + j) -ℤ val l (at + h + j)
  pub below : (x : ℕ) → x < at → val m x ≡ val l x
  pub between : (x : ℕ) → at + k ≤ x → x < at + h → val m x ≡ val l x
  pub beyond : (x : ℕ) → at + h + k ≤ x → val m x ≡ val l x

pub crossed-none : (l : List ℤ) (at h : ℕ) → Crossed l l at h 0
crossed-none l at h =
    record {
      long = refl;
      low = λ j b. absurd (omega arith);
      high = λ j b. absurd (omega arith);
      below = λ x b. refl;
      between = λ x b d. refl;
      beyond = λ x b. refl;
    }

pub crossed-more : (l m : List ℤ) (at h k : ℕ) (v w : ℤ) → at + h + h ≤ length l → k < h → Crossed l m at h k
    → v ≡ val m (at + k) +ℤ val m (at + h + k) → w ≡ val m (at + k) -ℤ val m (at + h + k)
    → Crossed l (set (set m (at + k) v) (at + h + k) w) at h (k + 1)
crossed-more l m at h k v w room hk i ev ew =
    record {
      long = length-set (set m (at + k) v) (at + h + k) w ∙ length-set m (at + k) v ∙ i.long;
      low = λ j b. low j (dec_lt j k) b;
      high = λ j b. high j (dec_lt j k) b;
      below = λ x b. other x (λ e. omega arith) (λ e. omega arith) ∙ i.below x b;
      between = λ x b d. other x (λ e. omega arith) (λ e. omega arith) ∙ i.between x (omega arith) d;
      beyond = λ x b. other x (λ e. omega arith) (λ e. omega arith) ∙ i.beyond x (omega arith);
    }
  where
    other : (x : ℕ) → (x ≡ at + k → ⊥) → (x ≡ at + h + k → ⊥) → val (set (set m (at + k) v) (at + h + k) w) x ≡ val m x
    other x a b = get_or-set_other (set m (at + k) v) (at + h + k) x w (pos 0) b ∙ get_or-set_other m (at + k) x v (pos 0) a

    first : val m (at + k) ≡ val l (at + k)
    first = i.between (at + k) (omega arith) (omega arith)

    second : val m (at + h + k) ≡ val l (at + h + k)
    second = i.beyond (at + h + k) (omega arith)

    low : (j : ℕ) → Dec (j < k) → j < k + 1
        → val (set (set m (at + k) v) (at + h + k) w) (at + j) ≡ val l (at + j) +ℤ val l (at + h + j)
    low j (yes b) d = other (at + j) (λ e. omega arith) (λ e. omega arith) ∙ i.low j b
    low j (no b) d =
        rw last
        (get_or-set_other (set m (at + k) v) (at + h + k) (at + k) w (pos 0) (λ e. omega arith)
        ∙ get_or-set_same m (at + k) v (pos 0) (omega (arith, i.long)) ∙ ev ∙ ap₂ ◌+ℤ◌ first second)
      where
        last : j ≡ k
        last = omega arith

    high : (j : ℕ) → Dec (j < k) → j < k + 1
        → val (set (set m (at + k) v) (at + h + k) w) (at + h + j) ≡ val l (at + j) -ℤ val l (at + h + j)
    high j (yes b) d = other (at + h + j) (λ e. omega arith) (λ e. omega arith) ∙ i.high j b
    high j (no b) d =
        rw last
        (get_or-set_same (set m (at + k) v) (at + h + k) w (pos 0) (rw (length-set m (at + k) v) (omega (arith, i.long)))
        ∙ ew ∙ ap₂ ◌-ℤ◌ first second)
      where
        last : j ≡ k
        last = omega arith

-- the two numbers of the next butterfly are those that stood there
pub crossed-small : (l m : List ℤ) (at h k : ℕ) → at + h + h ≤ length l → k < h → Crossed l m at h k → Small l at
    → (nat_abs (val m (at + k)) ≤ most_number) × (nat_abs (val m (at + h + k)) ≤ most_number)
crossed-small l m at h k room hk i small = (
  rw (i.between (at + k) (omega arith) (omega arith)) (small (at + k) (omega arith) (omega arith)),
  rw (i.beyond (at + h + k) (omega arith)) (small (at + h + k) (omega arith) (omega arith)),
)

-- ---- two stages at once

-- m is as l is at the four places that two stages take together
abbrev pub Same : (l m : List ℤ) (p h : ℕ) → Type 0
Same l m p h =
    (val m p ≡ val l p) × (val m (p + h) ≡ val l (p + h)) × (val m (p + h + h) ≡ val l (p + h + h))
    × (val m (p + h + h + h) ≡ val l (p + h + h + h))

-- what two stages make of the four numbers from p on, h apart: the butterflies of the first two and of the last two, then those of both pairs
abbrev pub first_of : (l : List ℤ) (p h : ℕ) → ℤ
first_of l p h = (val l p +ℤ val l (p + h)) +ℤ (val l (p + h + h) +ℤ val l (p + h + h + h))

abbrev pub second_of : (l : List ℤ) (p h : ℕ) → ℤ
second_of l p h = (val l p -ℤ val l (p + h)) +ℤ (val l (p + h + h) -ℤ val l (p + h + h + h))

abbrev pub third_of : (l : List ℤ) (p h : ℕ) → ℤ
third_of l p h = (val l p +ℤ val l (p + h)) -ℤ (val l (p + h + h) +ℤ val l (p + h + h + h))

abbrev pub fourth_of : (l : List ℤ) (p h : ℕ) → ℤ
fourth_of l p h = (val l p -ℤ val l (p + h)) -ℤ (val l (p + h + h) -ℤ val l (p + h + h + h))

-- m has what two stages make of the four
pub record Quad (l m : List ℤ) (p h : ℕ) : Type 0 where
  pub first : val m p ≡ first_of l p h
  pub second : val m (p + h) ≡ second_of l p h
  pub third : val m (p + h + h) ≡ third_of l p h
  pub fourth : val m (p + h + h + h) ≡ fourth_of l p h

-- what came before and what comes after leaves the four as they are
quad-after : (l m k : List ℤ) (p h : ℕ) → Same l m p h → Quad m k p h → Quad l k p h
quad-after l m k p h (a, b, c, d) q = record { first = cc q.first; second = cc q.second; third = cc q.third; fourth = cc q.fourth }

quad-before : (l m k : List ℤ) (p h : ℕ) → Quad l m p h → Same m k p h → Quad l k p h
quad-before l m k p h q (a, b, c, d) = record { first = a ∙ q.first; second = b ∙ q.second; third = c ∙ q.third; fourth = d ∙ q.fourth }

-- x is none of the first k places of the quarters of the block of 4 h numbers from `at` on
abbrev Apart : (at h k x : ℕ) → Type 0
Apart at h k x =
    (j : ℕ) → j < k
    → (x ≡ at + j → ⊥) × (x ≡ at + j + h → ⊥) × (x ≡ at + j + h + h → ⊥) × (x ≡ at + j + h + h + h → ⊥)

-- the butterflies of the first k fours of the block of 4 h numbers from `at` on
pub record CrossedTwice (l m : List ℤ) (at h k : ℕ) : Type 0 where
  pub long : length m ≡ length l
  pub quads : (j : ℕ) → j < k → Quad l m (at + j) h
  pub rest : (x : ℕ) → Apart at h k x → val m x ≡ val l x

pub crossed-twice-none : (l : List ℤ) (at h : ℕ) → CrossedTwice l l at h 0
crossed-twice-none l at h = record { long = refl; quads = λ j b. absurd (omega arith); rest = λ x b. refl }

-- four numbers stored
module _ (m : List ℤ) (p h : ℕ) (a b c d : ℤ) where
  abbrev stored : List ℤ
  stored = set (set (set (set m p a) (p + h) b) (p + h + h) c) (p + h + h + h) d

  stored-long : length stored ≡ length m
  stored-long = simp length-set

  stored_other : (x : ℕ) → (x ≡ p → ⊥) → (x ≡ p + h → ⊥) → (x ≡ p + h + h → ⊥) → (x ≡ p + h + h + h → ⊥) → val stored x ≡ val m x
  stored_other x e f g i =
      get_or-set_other (set (set (set m p a) (p + h) b) (p + h + h) c) (p + h + h + h) x d (pos 0) i
      ∙ get_or-set_other (set (set m p a) (p + h) b) (p + h + h) x c (pos 0) g
      ∙ get_or-set_other (set m p a) (p + h) x b (pos 0) f ∙ get_or-set_other m p x a (pos 0) e

  stored-quad : (l : List ℤ) → 0 < h → p + h + h + h < length m
      → a ≡ first_of l p h → b ≡ second_of l p h → c ≡ third_of l p h → d ≡ fourth_of l p h → Quad l stored p h
  stored-quad l some room ea eb ec ed =
      record {
        first =
            get_or-set_other (set (set (set m p a) (p + h) b) (p + h + h) c) (p + h + h + h) p d (pos 0) (λ e. omega arith)
            ∙ get_or-set_other (set (set m p a) (p + h) b) (p + h + h) p c (pos 0) (λ e. omega arith)
            ∙ get_or-set_other (set m p a) (p + h) p b (pos 0) (λ e. omega arith) ∙ get_or-set_same m p a (pos 0) (omega arith) ∙ ea;
        second =
            get_or-set_other (set (set (set m p a) (p + h) b) (p + h + h) c) (p + h + h + h) (p + h) d (pos 0) (λ e. omega arith)
            ∙ get_or-set_other (set (set m p a) (p + h) b) (p + h + h) (p + h) c (pos 0) (λ e. omega arith)
            ∙ get_or-set_same (set m p a) (p + h) b (pos 0) (simp length-set (omega arith)) ∙ eb;
        third =
            get_or-set_other (set (set (set m p a) (p + h) b) (p + h + h) c) (p + h + h + h) (p + h + h) d (pos 0) (λ e. omega arith)
            ∙ get_or-set_same (set (set m p a) (p + h) b) (p + h + h) c (pos 0) (simp length-set (omega arith)) ∙ ec;
        fourth = get_or-set_same (set (set (set m p a) (p + h) b) (p + h + h) c) (p + h + h + h) d (pos 0) (simp length-set (omega arith)) ∙ ed;
      }

module _ (l m : List ℤ) (at h k : ℕ) (room : at + 4 * h ≤ length l) (hk : k < h) (i : CrossedTwice l m at h k) where
  -- the next four numbers are those that stood there
  pub crossed-twice-same : Same l m (at + k) h
  crossed-twice-same = (
    i.rest (at + k) (λ j b. (λ e. omega arith, λ e. omega arith, λ e. omega arith, λ e. omega arith)),
    i.rest (at + k + h) (λ j b. (λ e. omega arith, λ e. omega arith, λ e. omega arith, λ e. omega arith)),
    i.rest (at + k + h + h) (λ j b. (λ e. omega arith, λ e. omega arith, λ e. omega arith, λ e. omega arith)),
    i.rest (at + k + h + h + h) (λ j b. (λ e. omega arith, λ e. omega arith, λ e. omega arith, λ e. omega arith)),
  )

  pub crossed-twice-more : (a b c d : ℤ)
      → a ≡ first_of l (at + k) h → b ≡ second_of l (at + k) h → c ≡ third_of l (at + k) h → d ≡ fourth_of l (at + k) h
      → CrossedTwice l (stored m (at + k) h a b c d) at h (k + 1)
  crossed-twice-more a b c d ea eb ec ed =
      record {
        long = stored-long m (at + k) h a b c d ∙ i.long;
        quads = λ j g. quads j (dec_lt j k) g;
        rest = λ x g. rest x g;
      }
    where
      other : (x : ℕ) → (x ≡ at + k → ⊥) → (x ≡ at + k + h → ⊥) → (x ≡ at + k + h + h → ⊥) → (x ≡ at + k + h + h + h → ⊥)
          → val (stored m (at + k) h a b c d) x ≡ val m x
      other = stored_other m (at + k) h a b c d

      quads : (j : ℕ) → Dec (j < k) → j < k + 1 → Quad l (stored m (at + k) h a b c d) (at + j) h
      quads j (yes g) f =
          quad-before l m _ (at + j) h (i.quads j g) (
            other (at + j) (λ e. omega arith) (λ e. omega arith) (λ e. omega arith) (λ e. omega arith),
            other (at + j + h) (λ e. omega arith) (λ e. omega arith) (λ e. omega arith) (λ e. omega arith),
            other (at + j + h + h) (λ e. omega arith) (λ e. omega arith) (λ e. omega arith) (λ e. omega arith),
            other (at + j + h + h + h) (λ e. omega arith) (λ e. omega arith) (λ e. omega arith) (λ e. omega arith),
          )
      quads j (no g) f =
          let last : j ≡ k = omega arith in
          rw last (stored-quad m (at + k) h a b c d l (omega arith) (omega (arith, i.long)) ea eb ec ed)

      rest : (x : ℕ) → Apart at h (k + 1) x → val (stored m (at + k) h a b c d) x ≡ val l x
      rest x g =
          let e = g k (omega arith) in
          other x e.0 e.1 e.2 e.3 ∙ i.rest x (λ j b. g j (omega arith))

-- the first b blocks of 4 h numbers
pub record PassedTwice (l m : List ℤ) (h b : ℕ) : Type 0 where
  pub long : length m ≡ length l
  pub quads : (c j : ℕ) → c < b → j < h → Quad l m (c * (4 * h) + j) h
  pub rest : (x : ℕ) → b * (4 * h) ≤ x → val m x ≡ val l x

pub passed-twice-none : (l : List ℤ) (h : ℕ) → PassedTwice l l h 0
passed-twice-none l h = record { long = refl; quads = λ c j b d. absurd (omega arith); rest = λ x b. refl }

pub passed-twice-more : (l m k : List ℤ) (h b : ℕ) → PassedTwice l m h b → CrossedTwice m k (b * (4 * h)) h h → PassedTwice l k h (b + 1)
passed-twice-more l m k h b i c =
    record {
      long = c.long ∙ i.long;
      quads = λ a j d e. quads a j (dec_lt a b) d e;
      rest = λ x d. c.rest x (λ j e. (λ f. omega arith, λ f. omega arith, λ f. omega arith, λ f. omega arith)) ∙ i.rest x (omega arith);
    }
  where
    below : (x : ℕ) → x < b * (4 * h) → val k x ≡ val m x
    below x d = c.rest x (λ j e. (λ f. omega arith, λ f. omega arith, λ f. omega arith, λ f. omega arith))

    quads : (a j : ℕ) → Dec (a < b) → a < b + 1 → j < h → Quad l k (a * (4 * h) + j) h
    quads a j (yes d) g e =
        let within : (a + 1) * (4 * h) ≤ b * (4 * h) = mul-le-mul_right (4 * h) (omega arith) in
        quad-before l m k (a * (4 * h) + j) h (i.quads a j d e) (
          below (a * (4 * h) + j) (omega arith),
          below (a * (4 * h) + j + h) (omega arith),
          below (a * (4 * h) + j + h + h) (omega arith),
          below (a * (4 * h) + j + h + h + h) (omega arith),
        )
    quads a j (no d) g e =
        let last : a ≡ b = omega arith in
        rw last
        (quad-after l m k (b * (4 * h) + j) h (
          i.rest (b * (4 * h) + j) (omega arith),
          i.rest (b * (4 * h) + j + h) (omega arith),
          i.rest (b * (4 * h) + j + h + h) (omega arith),
          i.rest (b * (4 * h) + j + h + h + h) (omega arith),
        ) (c.quads j e))

-- the numbers from the next block on are those that stood there
pub passed-twice-small : (l m : List ℤ) (h b : ℕ) → PassedTwice l m h b → Small l 0 → Small m (b * (4 * h))
passed-twice-small l m h b i small x d e = rw (i.rest x d) (small x (omega arith) (omega (arith, i.long)))

-- ---- the stages

-- after i stages: each block of 2^i numbers is the transform of its values
pub record Stage (f : ℕ → ℕ) (n i : ℕ) (l : List ℤ) : Type 0 where
  pub long : length l ≡ 2 ^ n
  pub holds : (a r : ℕ) → r < 2 ^ i → a * 2 ^ i + r < 2 ^ n → val l (a * 2 ^ i + r) ≡ part f i a r

-- no stage: the values themselves
pub stage-none : (f : ℕ → ℕ) (n : ℕ) (l : List ℤ) → length l ≡ 2 ^ n → ((x : ℕ) → x < 2 ^ n → val l x ≡ pos (f x)) → Stage f n 0 l
stage-none f n l e h =
    record {
      long = e;
      holds = λ a r b d. first a r b d;
    }
  where
    first : (a r : ℕ) → r < 2 ^ 0 → a * 2 ^ 0 + r < 2 ^ n → val l (a * 2 ^ 0 + r) ≡ part f 0 a r
    first a r b d = rw (nought, whole) (h a (omega arith) ∙ sym (part-first f a))
      where
        nought : r ≡ 0
        nought = omega arith

        whole : a * 2 ^ 0 + 0 ≡ a
        whole = omega arith

-- two stages more
pub stage-more : (f : ℕ → ℕ) (n i b : ℕ) (l m : List ℤ) → b * (4 * 2 ^ i) ≡ 2 ^ n → Stage f n i l → PassedTwice l m (2 ^ i) b
    → Stage f n (suc (suc i)) m
stage-more f n i b l m e s p = record { long = p.long ∙ s.long; holds = λ a r c d. next a r (within a r d) c }
  where
    fours : (a : ℕ) → a * 2 ^ suc (suc i) ≡ a * (4 * 2 ^ i)
    fours a = ap (λ (x : ℕ). a * x) same
      where
        same : 2 ^ suc (suc i) ≡ 4 * 2 ^ i
        same = omega arith

    within : (a r : ℕ) → a * 2 ^ suc (suc i) + r < 2 ^ n → a < b
    within a r d = go (dec_lt a b)
      where
        go : Dec (a < b) → a < b
        go (yes k) = k
        go (no k) =
            let q : b ≤ a = omega arith in
            absurd (omega (arith, fours a, mul-le-mul_right (4 * 2 ^ i) q))

    room : (a : ℕ) → a < b → a * (4 * 2 ^ i) + 4 * 2 ^ i ≤ 2 ^ n
    room a k = omega (arith, mul-le-mul_right (4 * 2 ^ i) k)

    held : (a c r x : ℕ) → a < b → r < 2 ^ i → c * 2 ^ i ≤ a * (4 * 2 ^ i) + 3 * 2 ^ i → c * 2 ^ i + r ≡ x → val l x ≡ part f i c r
    held a c r x k h g y = ap (val l) (sym y) ∙ s.holds c r h (omega (arith, room a k))

    quarters : (a r : ℕ) → a < b → r < 2 ^ i
        → (val m (a * (4 * 2 ^ i) + r) ≡ part f (suc (suc i)) a r) × (val m (a * (4 * 2 ^ i) + r + 2 ^ i) ≡ part f (suc (suc i)) a (2 ^ i + r))
        × (val m (a * (4 * 2 ^ i) + r + 2 ^ i + 2 ^ i) ≡ part f (suc (suc i)) a (2 ^ suc i + r))
        × (val m (a * (4 * 2 ^ i) + r + 2 ^ i + 2 ^ i + 2 ^ i) ≡ part f (suc (suc i)) a (2 ^ suc i + (2 ^ i + r)))
    quarters a r k h =
        let q = p.quads a r k h in
        let first = held a (a * 2 * 2) r (a * (4 * 2 ^ i) + r) k h (omega arith) (omega arith) in
        let second = held a (a * 2 * 2 + 1) r (a * (4 * 2 ^ i) + r + 2 ^ i) k h (omega arith) (omega arith) in
        let third = held a ((a * 2 + 1) * 2) r (a * (4 * 2 ^ i) + r + 2 ^ i + 2 ^ i) k h (omega arith) (omega arith) in
        let fourth = held a ((a * 2 + 1) * 2 + 1) r (a * (4 * 2 ^ i) + r + 2 ^ i + 2 ^ i + 2 ^ i) k h (omega arith) (omega arith) in (
          cc (part-quarter-1 f i a r h),
          cc (part-quarter-2 f i a r h),
          cc (part-quarter-3 f i a r h),
          cc (part-quarter-4 f i a r h),
        )

    next : (a r : ℕ) → a < b → r < 2 ^ suc (suc i) → val m (a * 2 ^ suc (suc i) + r) ≡ part f (suc (suc i)) a r
    next a r k c = go (dec_lt r (2 ^ i)) (dec_lt r (2 * 2 ^ i)) (dec_lt r (3 * 2 ^ i))
      where
        placed : (x y : ℕ) → val m x ≡ part f (suc (suc i)) a y → a * (4 * 2 ^ i) + r ≡ x → y ≡ r
            → val m (a * 2 ^ suc (suc i) + r) ≡ part f (suc (suc i)) a r
        placed x y v e g = ap (λ (z : ℕ). val m (z + r)) (fours a) ∙ ap (val m) e ∙ v ∙ ap (part f (suc (suc i)) a) g

        go : Dec (r < 2 ^ i) → Dec (r < 2 * 2 ^ i) → Dec (r < 3 * 2 ^ i) → val m (a * 2 ^ suc (suc i) + r) ≡ part f (suc (suc i)) a r
        go (yes g) d u = placed _ _ (quarters a r k g).0 refl refl
        go (no g) (yes d) u = placed _ _ (quarters a (r - 2 ^ i) k (omega arith)).1 (omega arith) (omega arith)
        go (no g) (no d) (yes u) = placed _ _ (quarters a (r - 2 * 2 ^ i) k (omega arith)).2 (omega arith) (omega arith)
        go (no g) (no d) (no u) = placed _ _ (quarters a (r - 3 * 2 ^ i) k (omega arith)).3 (omega arith) (omega arith)

-- the stage whose block is the whole list
pub stage-whole : (f : ℕ → ℕ) (i : ℕ) (l m : List ℤ) → Stage f (suc i) i l → Crossed l m 0 (2 ^ i) (2 ^ i) → Stage f (suc i) (suc i) m
stage-whole f i l m s p =
    record { long = p.long ∙ s.long; holds = λ a r c d. rw (only a (dec_lt 0 a) (omega arith)) (next r (dec_lt r (2 ^ i)) c) }
  where
    only : (a : ℕ) → Dec (0 < a) → a * 2 ^ suc i < 2 ^ suc i → a ≡ 0
    only a (yes k) d = absurd (omega (arith, mul-le-mul_right (2 ^ suc i) k))
    only a (no k) d = omega arith

    first : (r : ℕ) → r < 2 ^ i → val l (0 + r) ≡ part f i (0 * 2) r
    first r h = ap (val l) place ∙ s.holds 0 r h (omega arith)
      where
        place : 0 + r ≡ 0 * 2 ^ i + r
        place = omega arith

    second : (r : ℕ) → r < 2 ^ i → val l (0 + 2 ^ i + r) ≡ part f i (0 * 2 + 1) r
    second r h = ap (val l) place ∙ s.holds 1 r h (omega arith)
      where
        place : 0 + 2 ^ i + r ≡ 1 * 2 ^ i + r
        place = omega arith

    next : (r : ℕ) → Dec (r < 2 ^ i) → r < 2 ^ suc i → val m (0 * 2 ^ suc i + r) ≡ part f (suc i) 0 r
    next r (yes h) c =
        ap (val m) place ∙ p.low r h ∙ ap₂ ◌+ℤ◌ (first r h) (second r h) ∙ sym (part_low f i 0 r h)
      where
        place : 0 * 2 ^ suc i + r ≡ 0 + r
        place = omega arith
    next r (no h) c =
        ap (val m) place ∙ p.high (r - 2 ^ i) small
        ∙ ap₂ ◌-ℤ◌ (first (r - 2 ^ i) small) (second (r - 2 ^ i) small)
        ∙ sym (part-high f i 0 (r - 2 ^ i) small) ∙ ap (part f (suc i) 0) whole
      where
        small : r - 2 ^ i < 2 ^ i
        small = omega arith

        whole : 2 ^ i + (r - 2 ^ i) ≡ r
        whole = omega arith

        place : 0 * 2 ^ suc i + r ≡ 0 + 2 ^ i + (r - 2 ^ i)
        place = omega arith

-- every number of every stage is within the sum of the values
pub stage-small : (f : ℕ → ℕ) (n i : ℕ) (l : List ℤ) → i ≤ n → sum f (2 ^ n) ≤ most_number → Stage f n i l → Small l 0
stage-small f n i l h b s x z g =
    subst (λ (y : ℕ). nat_abs (val l y) ≤ most_number) (split x i)
    (rw (s.holds (x / 2 ^ i) (x % 2 ^ i) (mod-lt x (pow_pos i)) (omega (arith, split x i)))
    (omega (arith, part-bound f i (x / 2 ^ i) (x % 2 ^ i) (2 ^ n) room)))
  where
    d : x < 2 ^ n
    d = omega (arith, s.long)

    whole : 2 ^ n ≡ 2 ^ (n - i) * 2 ^ i
    whole = ap (λ (y : ℕ). 2 ^ y) parts ∙ pow-add 2 (n - i) i
      where
        parts : n ≡ n - i + i
        parts = omega arith

    room : x / 2 ^ i * 2 ^ i + 2 ^ i ≤ 2 ^ n
    room = omega (arith, whole, mul-le-mul_right (2 ^ i) (shr_lt {n = x} (n - i) i (rw (pow-add 2 (n - i) i) (omega (arith, whole)))))

-- the last stage is the transform
pub stage-last : (f : ℕ → ℕ) (n : ℕ) (l : List ℤ) → Stage f n n l → l ≡ tab (2 ^ n) (spectrum f n)
stage-last f n l s =
    ext_get_or (pos 0) l (tab (2 ^ n) (spectrum f n)) (s.long ∙ sym (length-tab (2 ^ n) (spectrum f n)))
    (λ w h. at w (omega (arith, s.long)) ∙ sym (tab-at (2 ^ n) (spectrum f n) (pos 0) w (omega (arith, s.long))))
  where
    at : (w : ℕ) → w < 2 ^ n → val l w ≡ spectrum f n w
    at w h = ap (val l) place ∙ s.holds 0 w h (omega arith) ∙ part-last f n w
      where
        place : w ≡ 0 * 2 ^ n + w
        place = omega arith

-- how many blocks two stages have
pub blocks : (n i : ℕ) → i + 1 < n → 2 ^ n / (4 * 2 ^ i) * (4 * 2 ^ i) ≡ 2 ^ n
blocks n i h =
    ap (λ (x : ℕ). 2 ^ n / x * x) fours
    ∙ ap (λ (x : ℕ). x / 2 ^ suc (suc i) * 2 ^ suc (suc i)) whole
    ∙ ap (λ (x : ℕ). x * 2 ^ suc (suc i)) (shl-shr (2 ^ (n - suc (suc i))) (suc (suc i))) ∙ sym whole
  where
    fours : 4 * 2 ^ i ≡ 2 ^ suc (suc i)
    fours = omega arith

    whole : 2 ^ n ≡ 2 ^ (n - suc (suc i)) * 2 ^ suc (suc i)
    whole = ap (λ (y : ℕ). 2 ^ y) parts ∙ pow-add 2 (n - suc (suc i)) (suc (suc i))
      where
        parts : n ≡ n - suc (suc i) + suc (suc i)
        parts = omega arith

-- a turn of the loop over the stages, in the code's terms: h is 2^i and size is 2^n
module _ (n i h size : ℕ) (eh : h ≡ 2 ^ i) (es : size ≡ 2 ^ n) (b : i + 1 < n) where
  pub turn-blocks : size / (4 * h) * (4 * h) ≡ size
  turn-blocks = rw (eh, es) (blocks n i b)

  pub turn-next : (f : ℕ → ℕ) (l m : List ℤ) → Stage f n i l → PassedTwice l m h (size / (4 * h)) → (h * 4 ≡ 2 ^ (i + 2)) × Stage f n (i + 2) m
  turn-next f l m s p =
      let next : i + 2 ≡ suc (suc i) = omega arith in (
        rw (eh, next) (omega arith),
        rw next (stage-more f n i (size / (4 * 2 ^ i)) l m (rw es (blocks n i b)) s (rw eh at p)),
      )

-- the last stage, where one is left
pub turn_last : (f : ℕ → ℕ) (n i h : ℕ) (l m : List ℤ) → h ≡ 2 ^ i → i < n → n ≤ i + 1 → Stage f n i l → Crossed l m 0 h h
    → Stage f n n m
turn_last f n i h l m eh b d s p =
    let one : n ≡ suc i = omega arith in
    rw one (stage-whole f i l m (rw one at s) (rw eh at p))
