-- R of a list of rows by pairs (document 003, Theorem 1; 01, The measure; 02, Ticket 2), where a missing point has the word m: what is
-- asked of the list; any sum over pairs of rows as a sum over points; that the word m does not matter to rows that cover every point; the
-- theorem, once for both types, with all pairs, and with the pairs of equal words and the missing points apart; and for type fr what it says
-- of one row, whatever its word, and of two. Not here: the sum over unordered pairs (`Symmetric`), and how the checks give what is asked
-- (`Share`). Assumes nothing.
use Rattle.std.specs.Prelude.{◌≡◌, refl, Bool, true, false, cond, ◌&&◌, ◌||◌, List, [], ◌∷◌, ◌⊎◌, length}
use Rattle.std.proofs.Math.Path.{sym, ap, ap₂}
use Rattle.std.proofs.Common.{◌∙◌, inl, inr, zero-mul, one-mul, mul-one, mul_assoc, mul-le-mul, arith, eq-eqb, ne_eqb, pow_pos}
use Rattle.std.proofs.lemmas.Bool.{false≢true}
use Rattle.std.proofs.Math.Bool.{not, and-false, or_comm}
use Prim.Native.Nat.{ℕ, zero, suc, ◌+◌, ◌-◌, ◌*◌, ◌^◌, ◌≤◌, ◌<◌}
use Rattle.std.proofs.Math.Decide.{ℕ_discrete}
use Rattle.std.specs.Int.Bits.{bit_xor, xor_lt, xor_zero_r}
use Rattle.std.specs.Int.Count.{ones}
use Rattle.std.proofs.Math.Dec.{eqb}
use Rattle.bits.specs.Xor.{xor-cancel-r, eqb-turn}
use Rattle.sums.specs.Sums.{sum, one, count}
use Rattle.sums.specs.Laws.{sum_one, sum-none, sum-swap, sum-cong, sum-mul, sum-const, sum-add, sum-le, one-le, count-le, count_none, count-cong, count-moved}
use Rattle.block.specs.Words.{none, under, of_rows}
use Rattle.block.specs.Measure.{same, shift}
use Rattle.block.specs.Refusals.{row_at}
use Rattle.block.specs.declared.Row.{Row}
use Rattle.pair_laws.specs.Cube.{Sound, pair, meets, pair-count}
use Rattle.pair_laws.specs.Closed.{pair-self, pair_turn}

-- each row of the list has P
abbrev pub Every : (Row → Type 0) → List Row → Type 0
Every P rs = (i : ℕ) → i < length rs → P (row_at rs i)

-- the row's word is an output
abbrev pub HasOutput : Row → Type 0
HasOutput r = r.word ≡ none → ⊥

-- no two rows share a point
abbrev pub Apart : ℕ → List Row → Type 0
Apart n rs =
    (i j x : ℕ) → i < length rs → j < length rs → x < 2 ^ n → under (row_at rs i) x ≡ true → under (row_at rs j) x ≡ true → i ≡ j

-- a list of disjoint rows for n inputs
pub record Disjoint (n : ℕ) (rs : List Row) : Type 0 where
  pub sound : Every (Sound n) rs
  pub outputs : Every HasOutput rs
  pub apart : Apart n rs

-- ---- what pairs add, where a missing point has the word m

-- 1 where missing points count, as for fd, and 0 where they have no output, as for fr
abbrev pub counts : ℕ → ℕ
counts m = one (not (eqb m none))

-- how often the points of an ordered pair of rows with the words a and b count: not at all where one of them is m, which is as good as
-- missing; else once for equal words, and e times more for any two
abbrev pub often : ℕ → ℕ → ℕ → ℕ → ℕ
often m e a b = cond (eqb a m || eqb b m) 0 (one (eqb a b) + e)

-- what the ordered pair i, j adds, if its points count g times, by the two words
abbrev pub pair_at : (ℕ → ℕ → ℕ) → ℕ → List Row → ℕ → ℕ → ℕ → ℕ
pair_at g n rs t i j = pair n (row_at rs i) (row_at rs j) t * g (row_at rs i).word (row_at rs j).word

-- what all ordered pairs add, a row with itself included
abbrev pub pairs_add : (ℕ → ℕ → ℕ) → ℕ → List Row → ℕ → ℕ
pairs_add g n rs t = sum (λ i. sum (pair_at g n rs t i) (length rs)) (length rs)

-- what a row takes from R: its points twice, as x and as x XOR t, where missing points count and the row has another word
abbrev pub takes : ℕ → ℕ → Row → ℕ
takes m n r = 2 ^ (n - ones r.mask) * (one (not (eqb r.word m)) * (2 * counts m))

-- what all rows take
abbrev pub taken : ℕ → ℕ → List Row → ℕ
taken m n rs = sum (λ i. takes m n (row_at rs i)) (length rs)

-- how many points disjoint rows cover
abbrev pub covered : ℕ → List Row → ℕ
covered n rs = sum (λ i. 2 ^ (n - ones (row_at rs i).mask)) (length rs)

-- how many points x there are with the word m at x and at x XOR t, as missing points have it
abbrev pub missing_pairs : ℕ → ℕ → List Row → ℕ → ℕ
missing_pairs m n rs t = count (λ x. eqb (of_rows m rs x) m && eqb (of_rows m rs (bit_xor x t)) m) (2 ^ n)

-- ---- the row that a point lies under

-- x lies under no row
abbrev pub Nowhere : ℕ → List Row → ℕ → Type 0
Nowhere m rs x = Every (λ r. under r x ≡ false) rs × (of_rows m rs x ≡ m)

-- x lies under row i and has its word
abbrev pub Somewhere : ℕ → List Row → ℕ → Type 0
Somewhere m rs x = (i : ℕ) × (i < length rs) × (under (row_at rs i) x ≡ true) × (of_rows m rs x ≡ (row_at rs i).word)

-- the first row and the others
pub every-cons : (P : Row → Type 0) (r : Row) (rs : List Row) → P r → Every P rs → Every P (r ∷ rs)
every-cons P r rs p f zero h = p
every-cons P r rs p f (suc i) h = f i (omega arith)

-- it lies under none or under one
pub find : (m : ℕ) (rs : List Row) (x : ℕ) → Nowhere m rs x ⊎ Somewhere m rs x
unfolding of_rows
find m [] x = inl ((λ i h. absurd (omega arith)), refl)
find m (r ∷ rs) x = go (under r x) refl (find m rs x)
  where
    go : (b : Bool) → under r x ≡ b → Nowhere m rs x ⊎ Somewhere m rs x → Nowhere m (r ∷ rs) x ⊎ Somewhere m (r ∷ rs) x
    go true e f = inr (0, omega arith, e, rw e)
    go false e (inl f) = inl (every-cons (λ r. under r x ≡ false) r rs e f.0, rw e f.1)
    go false e (inr f) = inr (suc f.0, omega (arith, f.1), f.2, rw e f.3)

-- ---- two words

-- a weight of two words: the order does not matter, and the word of a missing point makes it 0
pub record Weight (m : ℕ) (g : ℕ → ℕ → ℕ) : Type 0 where
  pub turn : (a b : ℕ) → g a b ≡ g b a
  pub absent : (a b : ℕ) → a ≡ m → g a b ≡ 0

pub often-weight : (m e : ℕ) → Weight m (often m e)
often-weight m e =
    record {
      turn = λ a b. rw (eqb-turn a b) (ap (λ (p : Bool). cond p 0 (one (eqb b a) + e)) (or_comm (eqb a m) (eqb b m)));
      absent = λ a b h. rw (eq-eqb a m h);
    }

-- two words of which neither is that of a missing point
often-both : (m e a b : ℕ) → (a ≡ m → ⊥) → (b ≡ m → ⊥) → often m e a b ≡ one (eqb a b) + e
often-both m e a b p q = rw (ne_eqb a m p, ne_eqb b m q)

pub often-le : (m e a b : ℕ) → often m e a b ≤ 1 + e
often-le m e a b = go (eqb a m || eqb b m)
  where
    go : (p : Bool) → cond p 0 (one (eqb a b) + e) ≤ 1 + e
    go true = omega arith
    go false = omega (arith, one-le (eqb a b))

pub counts-le : (m : ℕ) → counts m ≤ 1
counts-le m = one-le (not (eqb m none))

-- words a and b of a block whose missing points have the word m: no output only where m is none
module _ (m a b : ℕ) (ha : a ≡ none → a ≡ m) (hb : b ≡ none → b ≡ m) where
  -- 1 where the words are equal and an output
  abbrev equal : ℕ
  equal = one (not (eqb a none) && (not (eqb b none) && eqb a b))

  words-all : equal + (one (not (eqb a m)) + one (not (eqb b m))) * counts m ≡ counts m + often m (counts m) a b
  words-all = go (ℕ_discrete a m) (ℕ_discrete b m)
    where
      twice : (p : Bool) → one (not p && (not p && true)) + (0 + 0) * one (not p) ≡ one (not p) + 0
      twice true = refl
      twice false = refl

      go : Dec (a ≡ m) → Dec (b ≡ m)
          → equal + (one (not (eqb a m)) + one (not (eqb b m))) * counts m ≡ counts m + often m (counts m) a b
      go (yes p) (yes q) = rw (p, q, eq-eqb m m refl) (twice (eqb m none))
      go (yes p) (no q) =
          rw (p, eq-eqb m m refl, ne_eqb b m q, ne_eqb m b (λ e. q (sym e)), and-false, and-false) (omega arith)
      go (no p) (yes q) = rw (q, eq-eqb m m refl, ne_eqb a m p, and-false, and-false) (omega arith)
      go (no p) (no q) =
          rw (ne_eqb a m p, ne_eqb b m q, ne_eqb a none (λ e. p (ha e)), ne_eqb b none (λ e. q (hb e))) (omega arith)

  words-apart : equal ≡ often m 0 a b + one (eqb a m && eqb b m) * counts m
  words-apart = go (ℕ_discrete a m) (ℕ_discrete b m)
    where
      twice : (p : Bool) → one (not p && (not p && true)) ≡ 0 + 1 * one (not p)
      twice true = refl
      twice false = refl

      go : Dec (a ≡ m) → Dec (b ≡ m) → equal ≡ often m 0 a b + one (eqb a m && eqb b m) * counts m
      go (yes p) (yes q) = rw (p, q, eq-eqb m m refl) (twice (eqb m none))
      go (yes p) (no q) =
          rw (p, eq-eqb m m refl, ne_eqb b m q, ne_eqb m b (λ e. q (sym e)), and-false, and-false) (omega arith)
      go (no p) (yes q) = rw (q, eq-eqb m m refl, ne_eqb a m p, and-false, and-false) (omega arith)
      go (no p) (no q) =
          rw (ne_eqb a m p, ne_eqb b m q, ne_eqb a none (λ e. p (ha e)), ne_eqb b none (λ e. q (hb e))) (omega arith)

-- ---- sums over pairs of rows and over points

-- x lies under row i and so under no other
other : (n : ℕ) (rs : List Row) → Disjoint n rs → (i j x : ℕ) → x < 2 ^ n → i < length rs → j < length rs → under (row_at rs i) x ≡ true
    → (j ≡ i → ⊥) → under (row_at rs j) x ≡ false
other n rs d i j x hx hi hj e ne = go (under (row_at rs j) x) refl
  where
    go : (b : Bool) → under (row_at rs j) x ≡ b → under (row_at rs j) x ≡ false
    go true h = absurd (ne (d.apart j i x hj hi hx h e))
    go false h = h

module _ (m n : ℕ) (rs : List Row) (t : ℕ) (d : Disjoint n rs) (ht : t < 2 ^ n) (g : ℕ → ℕ → ℕ) (w : Weight m g) where
  -- what the pair i, j has at x
  term : ℕ → ℕ → ℕ → ℕ
  term x i j = one (meets (row_at rs i) (row_at rs j) t x) * g (row_at rs i).word (row_at rs j).word

  term-left : (x i j : ℕ) → under (row_at rs i) x ≡ false → term x i j ≡ 0
  unfolding term
  term-left x i j h = rw h (zero-mul _)

  term-right : (x i j : ℕ) → under (row_at rs j) (bit_xor x t) ≡ false → term x i j ≡ 0
  unfolding term
  term-right x i j h = rw (h, and-false) (zero-mul _)

  -- the pairs at x say what the two words there do
  pairs-at : (x : ℕ) → x < 2 ^ n → sum (λ i. sum (term x i) (length rs)) (length rs) ≡ g (of_rows m rs x) (of_rows m rs (bit_xor x t))
  unfolding term
  pairs-at x hx = go (find m rs x) (find m rs (bit_xor x t))
    where
      go : Nowhere m rs x ⊎ Somewhere m rs x → Nowhere m rs (bit_xor x t) ⊎ Somewhere m rs (bit_xor x t)
          → sum (λ i. sum (term x i) (length rs)) (length rs) ≡ g (of_rows m rs x) (of_rows m rs (bit_xor x t))
      go (inl f) h =
          sum-none _ (length rs) (λ i hi. sum-none _ (length rs) (λ j hj. term-left x i j (f.0 i hi)))
          ∙ sym (w.absent (of_rows m rs x) (of_rows m rs (bit_xor x t)) f.1)
      go (inr f) (inl h) =
          sum-none _ (length rs) (λ i hi. sum-none _ (length rs) (λ j hj. term-right x i j (h.0 j hj)))
          ∙ sym (w.turn (of_rows m rs x) (of_rows m rs (bit_xor x t)) ∙ w.absent (of_rows m rs (bit_xor x t)) (of_rows m rs x) h.1)
      go (inr f) (inr h) =
          sum_one (λ i. sum (term x i) (length rs)) (length rs) f.0 f.1
          (λ i hi ne. sum-none _ (length rs) (λ j hj. term-left x i j (other n rs d f.0 i x hx f.1 hi f.2 ne)))
          ∙ sum_one (term x f.0) (length rs) h.0 h.1
          (λ j hj ne. term-right x f.0 j (other n rs d h.0 j (bit_xor x t) (xor_lt n x t hx ht) h.1 hj h.2 ne))
          ∙ rw (f.2, h.2, f.3, h.3) (one-mul _)

  -- over disjoint rows a weight summed over the ordered pairs is the same summed over the points
  pub pairs-sum : pairs_add g n rs t ≡ sum (λ x. g (of_rows m rs x) (of_rows m rs (bit_xor x t))) (2 ^ n)
  unfolding term count
  pairs-sum =
      sym
      (sum-swap (λ x i. sum (term x i) (length rs)) (2 ^ n) (length rs)
      ∙ sum-cong _ _ (length rs)
      (λ i hi.
      sum-swap (λ x j. term x i j) (2 ^ n) (length rs)
      ∙ sum-cong _ _ (length rs)
      (λ j hj.
      sum-mul (λ x. one (meets (row_at rs i) (row_at rs j) t x)) (g (row_at rs i).word (row_at rs j).word) (2 ^ n)
      ∙ ap (λ (y : ℕ). y * g (row_at rs i).word (row_at rs j).word)
      (pair-count n (row_at rs i) (row_at rs j) t (d.sound i hi) (d.sound j hj) ht))))
      ∙ sum-cong _ _ (2 ^ n) (λ x hx. pairs-at x hx)

  -- so no more than the points, as often as one can count
  pub pairs-le : (most : ℕ) → ((a b : ℕ) → g a b ≤ most) → pairs_add g n rs t ≤ 2 ^ n * most
  pairs-le most h = rw pairs-sum (sum-le _ most (2 ^ n) (λ x hx. h (of_rows m rs x) (of_rows m rs (bit_xor x t))))

-- ---- the points that have another word than a missing one

row-points : (n : ℕ) (r : Row) → Sound n r → count (under r) (2 ^ n) ≡ 2 ^ (n - ones r.mask)
row-points n r a =
    count-cong (under r) (meets r r 0) (2 ^ n) (λ x h. go (under r x) x refl)
    ∙ pair-count n r r 0 a a (pow_pos n) ∙ pair-self n r a
  where
    go : (b : Bool) (x : ℕ) → under r x ≡ b → under r x ≡ under r x && under r (bit_xor x 0)
    go true x e = rw (xor_zero_r x, e)
    go false x e = rw e

module _ (m n : ℕ) (rs : List Row) (d : Disjoint n rs) where
  -- the point x has another word than a missing one
  abbrev set : ℕ → Bool
  set x = not (eqb (of_rows m rs x) m)

  -- the row i is over x and has another word than a missing point
  own : ℕ → ℕ → ℕ
  own x i = one (under (row_at rs i) x) * one (not (eqb (row_at rs i).word m))

  own-none : (x i : ℕ) → under (row_at rs i) x ≡ false → own x i ≡ 0
  unfolding own
  own-none x i h = rw h (zero-mul _)

  own_at : (x : ℕ) → x < 2 ^ n → one (set x) ≡ sum (own x) (length rs)
  unfolding own
  own_at x hx = go (find m rs x)
    where
      go : Nowhere m rs x ⊎ Somewhere m rs x → one (set x) ≡ sum (own x) (length rs)
      go (inl f) = rw (eq-eqb (of_rows m rs x) m f.1) (sym (sum-none (own x) (length rs) (λ i hi. own-none x i (f.0 i hi))))
      go (inr f) =
          sym
          (sum_one (own x) (length rs) f.0 f.1 (λ i hi ne. own-none x i (other n rs d f.0 i x hx f.1 hi f.2 ne))
          ∙ rw (f.2, f.3) (one-mul _))

  -- how many there are
  set-count : count set (2 ^ n) ≡ sum (λ i. 2 ^ (n - ones (row_at rs i).mask) * one (not (eqb (row_at rs i).word m))) (length rs)
  unfolding count own
  set-count =
      sum-cong _ _ (2 ^ n) (λ x hx. own_at x hx)
      ∙ sum-swap own (2 ^ n) (length rs)
      ∙ sum-cong _ _ (length rs)
      (λ i hi.
      sum-mul (λ x. one (under (row_at rs i) x)) (one (not (eqb (row_at rs i).word m))) (2 ^ n)
      ∙ ap (λ (y : ℕ). y * one (not (eqb (row_at rs i).word m))) (row-points n (row_at rs i) (d.sound i hi)))

  set-taken : count set (2 ^ n) * (2 * counts m) ≡ taken m n rs
  set-taken =
      ap (λ (y : ℕ). y * (2 * counts m)) set-count
      ∙ sym (sum-mul (λ i. 2 ^ (n - ones (row_at rs i).mask) * one (not (eqb (row_at rs i).word m))) (2 * counts m) (length rs))
      ∙ sum-cong _ _ (length rs) (λ i hi. mul_assoc _ _ _)

  -- the rows take no more than all points twice
  pub taken-le : taken m n rs ≤ 2 ^ n * 2
  taken-le = rw (sym set-taken) (mul-le-mul (count-le set (2 ^ n)) (omega (arith, counts-le m)))

  -- a point has no output only where it has the word of a missing one
  open-word : (x : ℕ) → of_rows m rs x ≡ none → of_rows m rs x ≡ m
  open-word x h = go (find m rs x)
    where
      go : Nowhere m rs x ⊎ Somewhere m rs x → of_rows m rs x ≡ m
      go (inl f) = f.1
      go (inr f) = absurd (d.outputs f.0 f.1 (sym f.3 ∙ h))

-- ---- rows that cover every point

-- a count of all numbers says that each passes
count-all : (p : ℕ → Bool) (m : ℕ) → count p m ≡ m → (x : ℕ) → x < m → p x ≡ true
unfolding count
count-all p m e x h = passes (p x) (count_none (λ x. not (p x)) m (omega (arith, both)) x h)
  where
    passes : (b : Bool) → not b ≡ false → b ≡ true
    passes true d = refl
    passes false d = sym d

    all : (b : Bool) → one b + one (not b) ≡ 1
    all true = refl
    all false = refl

    both : count p m + count (λ x. not (p x)) m ≡ m * 1
    both = sym (sum-add (λ x. one (p x)) (λ x. one (not (p x))) m) ∙ sum-cong _ _ m (λ x h. all (p x)) ∙ sum-const 1 m

module _ (n : ℕ) (rs : List Row) (d : Disjoint n rs) where
  covered-count : count (set none n rs d) (2 ^ n) ≡ covered n rs
  covered-count =
      set-count none n rs d
      ∙ sum-cong _ _ (length rs)
      (λ i hi. ap (λ (b : Bool). 2 ^ (n - ones (row_at rs i).mask) * one (not b)) (ne_eqb (row_at rs i).word none (d.outputs i hi)) ∙ mul-one _)

  -- there are no more
  pub covered_le : covered n rs ≤ 2 ^ n
  covered_le = rw (sym covered-count) (count-le (set none n rs d) (2 ^ n))

  module _ (h : covered n rs ≡ 2 ^ n) (m : ℕ) where
    -- no point is missing, so what a missing one means does not matter
    covered-word : (x : ℕ) → x < 2 ^ n → of_rows m rs x ≡ of_rows none rs x
    covered-word x hx = go (find none rs x) (find m rs x)
      where
        go : Nowhere none rs x ⊎ Somewhere none rs x → Nowhere m rs x ⊎ Somewhere m rs x → of_rows m rs x ≡ of_rows none rs x
        go (inl f) g =
            absurd
            (false≢true
            (sym (ap not (eq-eqb (of_rows none rs x) none f.1)) ∙ count-all (set none n rs d) (2 ^ n) (covered-count ∙ h) x hx))
        go (inr f) (inl g) = absurd (false≢true (sym (g.0 f.0 f.1) ∙ f.2))
        go (inr f) (inr g) =
            g.3 ∙ ap (λ (i : ℕ). (row_at rs i).word) (d.apart g.0 f.0 x g.1 f.1 hx g.2 f.2) ∙ sym f.3

    -- nor does it for R
    pub covered-shift : (t : ℕ) → t < 2 ^ n → shift (of_rows m rs) n t ≡ shift (of_rows none rs) n t
    unfolding shift same
    covered-shift t ht =
        count-cong _ _ (2 ^ n)
        (λ x hx.
        ap₂ (λ (a b : ℕ). not (eqb a none) && (not (eqb b none) && eqb a b)) (covered-word x hx) (covered-word (bit_xor x t) (xor_lt n x t hx ht)))

-- ---- the theorem

module _ (m n : ℕ) (rs : List Row) (t : ℕ) (d : Disjoint n rs) (ht : t < 2 ^ n) where
  abbrev both : ℕ → ℕ
  both x = one (set m n rs d x) + one (set m n rs d (bit_xor x t))

  all-at : (x : ℕ) → x < 2 ^ n
      → one (same (of_rows m rs) t x) + both x * counts m ≡ counts m + often m (counts m) (of_rows m rs x) (of_rows m rs (bit_xor x t))
  unfolding same
  all-at x hx = words-all m (of_rows m rs x) (of_rows m rs (bit_xor x t)) (open-word m n rs d x) (open-word m n rs d (bit_xor x t))

  -- as many points lie t away from a point with another word as there are such points
  both-count : sum both (2 ^ n) ≡ count (set m n rs d) (2 ^ n) * 2
  unfolding count
  both-count =
      sum-add (λ x. one (set m n rs d x)) (λ x. one (set m n rs d (bit_xor x t))) (2 ^ n)
      ∙ omega (arith, count-moved (set m n rs d) (λ x. bit_xor x t) (2 ^ n) (λ x hx. xor_lt n x t hx ht) (λ x hx. xor-cancel-r x t))

  -- Theorem 1, for either type: R, with what the rows take, is what the points and all ordered pairs add
  pub shift-pairs : shift (of_rows m rs) n t + taken m n rs ≡ 2 ^ n * counts m + pairs_add (often m (counts m)) n rs t
  unfolding shift count
  shift-pairs =
      ap (λ (y : ℕ). sum (λ x. one (same (of_rows m rs) t x)) (2 ^ n) + y)
      (sym (set-taken m n rs d) ∙ sym (mul_assoc (count (set m n rs d) (2 ^ n)) 2 (counts m))
      ∙ ap (λ (y : ℕ). y * counts m) (sym both-count) ∙ sym (sum-mul both (counts m) (2 ^ n)))
      ∙ sym (sum-add (λ x. one (same (of_rows m rs) t x)) (λ x. both x * counts m) (2 ^ n))
      ∙ sum-cong _ _ (2 ^ n) (λ x hx. all-at x hx)
      ∙ sum-add (λ x. counts m) (λ x. often m (counts m) (of_rows m rs x) (of_rows m rs (bit_xor x t))) (2 ^ n)
      ∙ ap₂ ◌+◌ (sum-const (counts m) (2 ^ n)) (sym (pairs-sum m n rs t d ht (often m (counts m)) (often-weight m (counts m))))

  apart-at : (x : ℕ) → x < 2 ^ n
      → one (same (of_rows m rs) t x)
      ≡ often m 0 (of_rows m rs x) (of_rows m rs (bit_xor x t)) + one (eqb (of_rows m rs x) m && eqb (of_rows m rs (bit_xor x t)) m) * counts m
  unfolding same
  apart-at x hx = words-apart m (of_rows m rs x) (of_rows m rs (bit_xor x t)) (open-word m n rs d x) (open-word m n rs d (bit_xor x t))

  -- the same with the missing points apart: R is what the pairs of equal words other than m add, and the missing points among themselves
  pub shift-apart : shift (of_rows m rs) n t ≡ pairs_add (often m 0) n rs t + missing_pairs m n rs t * counts m
  unfolding shift count
  shift-apart =
      sum-cong _ _ (2 ^ n) (λ x hx. apart-at x hx)
      ∙ sum-add (λ x. often m 0 (of_rows m rs x) (of_rows m rs (bit_xor x t)))
      (λ x. one (eqb (of_rows m rs x) m && eqb (of_rows m rs (bit_xor x t)) m) * counts m) (2 ^ n)
      ∙ ap₂ ◌+◌ (sym (pairs-sum m n rs t d ht (often m 0) (often-weight m 0)))
      (sum-mul (λ x. one (eqb (of_rows m rs x) m && eqb (of_rows m rs (bit_xor x t)) m)) (counts m) (2 ^ n))

-- ---- type fr: the sum over pairs of rows with equal words alone

module _ (n : ℕ) (rs : List Row) (t : ℕ) (d : Disjoint n rs) (ht : t < 2 ^ n) where
  often-equal : (i j : ℕ) → i < length rs → j < length rs → (x : ℕ)
      → x * often none 0 (row_at rs i).word (row_at rs j).word ≡ cond (eqb (row_at rs i).word (row_at rs j).word) x 0
  often-equal i j hi hj x =
      ap (λ (y : ℕ). x * y) (often-both none 0 (row_at rs i).word (row_at rs j).word (d.outputs i hi) (d.outputs j hj))
      ∙ go (eqb (row_at rs i).word (row_at rs j).word)
    where
      go : (b : Bool) → x * (one b + 0) ≡ cond b x 0
      go true = omega arith
      go false = omega arith

  -- Theorem 1 in the words of document 003
  pub shift-equal : shift (of_rows none rs) n t
      ≡ sum
      (λ i. sum (λ j. cond (eqb (row_at rs i).word (row_at rs j).word) (pair n (row_at rs i) (row_at rs j) t) 0) (length rs))
      (length rs)
  shift-equal =
      shift-apart none n rs t d ht
      ∙ omega (
        arith,
        sum-cong (λ i. sum (pair_at (often none 0) n rs t i) (length rs)) _ (length rs)
            (λ i hi.
            sum-cong (pair_at (often none 0) n rs t i) _ (length rs)
            (λ j hj. often-equal i j hi hj (pair n (row_at rs i) (row_at rs j) t))),
      )

-- R is never more than the number of points, whatever the block
pub shift_le : (f : ℕ → ℕ) (n t : ℕ) → shift f n t ≤ 2 ^ n
unfolding shift
shift_le f n t = count-le (same f t) (2 ^ n)

-- a single row, whatever its word, 0 included: R(0) is 2 to the number of its free symbols
pub shift-single : (n : ℕ) (r : Row) → Sound n r → HasOutput r → shift (of_rows none (r ∷ [])) n 0 ≡ 2 ^ (n - ones r.mask)
unfolding sum
shift-single n r a b =
    shift-equal n (r ∷ []) 0 alone (pow_pos n) ∙ rw (eq-eqb r.word r.word refl) (omega (arith, pair-self n r a))
  where
    alone : Disjoint n (r ∷ [])
    alone =
        record {
          sound = every-cons (Sound n) r [] a (λ i h. absurd (omega arith));
          outputs = every-cons HasOutput r [] b (λ i h. absurd (omega arith));
          apart = λ i j x hi hj hx e f. omega arith;
        }

-- two rows with equal words: a pair of different rows counts in both orders
pub shift_two : (n : ℕ) (r s : Row) (t : ℕ) → Disjoint n (r ∷ s ∷ []) → t < 2 ^ n → r.word ≡ s.word
    → shift (of_rows none (r ∷ s ∷ [])) n t ≡ pair n r r t + pair n r s t * 2 + pair n s s t
unfolding sum
shift_two n r s t d h e =
    shift-equal n (r ∷ s ∷ []) t d h
    ∙ rw (
      eq-eqb r.word r.word refl,
      eq-eqb s.word s.word refl,
      eq-eqb r.word s.word e,
      eq-eqb s.word r.word (sym e),
    )
    (omega (arith, pair_turn n r s t (d.sound 0 (omega arith)) (d.sound 1 (omega arith))))
