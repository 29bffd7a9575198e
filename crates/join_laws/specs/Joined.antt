-- Joining on a disjoint list: after each join the block is unchanged at each point, the rows are disjoint, drive the columns that they drove
-- and are one fewer; after all joins no pair is left, and joining again changes nothing. Assumes nothing.
use Rattle.std.specs.Prelude.{◌≡◌, refl, Bool, true, false, cond, ◌&&◌, List, map, ℕ, zero, suc, ◌+◌, ◌^◌, ◌≤◌, ◌<◌, eqb, ltb, length, set}
use Rattle.std.proofs.Math.Path.{sym, ap}
use Rattle.std.proofs.Common.{◌∙◌}
use Rattle.std.proofs.Math.Bool.{not}
use native.Mathlib.Omega.{arith}
use borrow.Author.Tests.{eqb-true, ltb-true, ltb-false, lt-ltb, le-ltb}
use Rattle.std.proofs.Math.ListN.{length-set}
use Rattle.std.proofs.Math.Seq.{get_or-set_other}
use Rattle.slices.specs.Least.{first_passes, first_found}
use Rattle.slices.specs.Tests.{and_both}
use Rattle.bits.specs.Digits.{bit}
use Rattle.sums.specs.Sums.{one}
use Rattle.block.specs.Words.{none, row, under, of_rows, word_part}
use Rattle.block.specs.Refusals.{bad_row, row_at, driven}
use Rattle.block.specs.declared.Row.{Row}
use Rattle.pair_laws.specs.Cube.{Sound}
use Rattle.pair_laws.specs.Theorem.{Every, Apart, Disjoint}
use Rattle.pair_laws.specs.Share.{good-sound, good-word, sound-good}
use Rattle.step_laws.specs.Hits.{hits, hits-apart, apart-hits}
use Rattle.block.specs.Joins.{joins, joined_row, mate, joining, pair_left, join_at, join_next, join_up_to, joined}
use Rattle.join_laws.specs.Two.{Alike, joins-alike, union}
use Rattle.join_laws.specs.Totals.{total, total-set, total-without, total-two, same-zero, drives, driven-total, length_without, every_set, every-without, over1, weight, total-hits, same_word}

-- the least later row that a row joins, where there is one
pub mate-joins : (rs : List Row) (i : ℕ) → mate rs i < length rs
    → (i < mate rs i) × (mate rs i < length rs) × (joins (row_at rs i) (row_at rs (mate rs i)) ≡ true)
unfolding mate
mate-joins rs i l =
    let b =
    and_both (ltb i (mate rs i)) (joins (row_at rs i) (row_at rs (mate rs i)))
    (first_passes (length rs) (λ j. ltb i j && joins (row_at rs i) (row_at rs j)) l) in
    (ltb-true _ _ b.0, l, b.1)

-- the pair that is next: two rows, in order, that are written as one
pub first-pair : (rs : List Row) → pair_left rs ≡ true
    → (joining rs < mate rs (joining rs)) × (mate rs (joining rs) < length rs)
    × (joins (row_at rs (joining rs)) (row_at rs (mate rs (joining rs))) ≡ true)
unfolding joining
first-pair rs e = mate-joins rs (joining rs) (ltb-true _ _ (first_passes (length rs) (λ i. ltb (mate rs i) (length rs)) (ltb-true _ _ e)))

module _ (n : ℕ) (rs : List Row) (i j : ℕ) (l : i < j) (h : j < length rs) where
  -- what a join does to a total
  total-join : (f : Row → ℕ) → f (joined_row (row_at rs i) (row_at rs j)) ≡ f (row_at rs i) + f (row_at rs j) → total f (join_at i j rs) ≡ total f rs
  unfolding join_at
  total-join f e =
      let y : Row = joined_row (row_at rs i) (row_at rs j) in
      let other : row_at (set rs i y) j ≡ row_at rs j = get_or-set_other rs i j y (row 0 0 0) (λ d. omega arith) in
      omega (
        arith,
        total-set f rs i y (omega arith),
        total-without f (set rs i y) j (omega (arith, length-set rs i y)),
        ap f other,
        e,
      )

  -- one row fewer
  pub join-length : suc (length (join_at i j rs)) ≡ length rs
  unfolding join_at
  join-length =
      let y : Row = joined_row (row_at rs i) (row_at rs j) in
      length_without (set rs i y) j (omega (arith, length-set rs i y)) ∙ length-set rs i y

  -- the columns that the words drive stay driven, and no others are
  pub join-driven : joins (row_at rs i) (row_at rs j) ≡ true → (c : ℕ) → driven (map word_part (join_at i j rs)) c ≡ driven (map word_part rs) c
  unfolding join_at joins
  join-driven e c =
      let y : Row = joined_row (row_at rs i) (row_at rs j) in
      let other : row_at (set rs i y) j ≡ row_at rs j = get_or-set_other rs i j y (row 0 0 0) (λ d. omega arith) in
      let words : (row_at rs i).word ≡ (row_at rs j).word = eqb-true _ _ (and_both (eqb (row_at rs i).word (row_at rs j).word) _ e).0 in
      driven-total (join_at i j rs) c
      ∙ ap not
      (same-zero (total (drives c) (join_at i j rs)) (total (drives c) rs) (drives c (row_at rs j))
      (omega (
        arith,
        total-set (drives c) rs i y (omega arith),
        total-without (drives c) (set rs i y) j (omega (arith, length-set rs i y)),
        ap (drives c) other,
      ))
      (omega (arith, total-two (drives c) rs i j l h, ap (λ (w : ℕ). one (eqb (bit w c) 1)) words)))
      ∙ sym (driven-total rs c)

  module _ (sound : Every (Sound n) rs) (e : joins (row_at rs i) (row_at rs j) ≡ true) where
    alike : Alike n (row_at rs i) (row_at rs j)
    alike = joins-alike n (row_at rs i) (row_at rs j) (sound i (omega arith)) (sound j h) e

    points : (x : ℕ) → one (under (joined_row (row_at rs i) (row_at rs j)) x) ≡ one (under (row_at rs i) x) + one (under (row_at rs j) x)
    points x = (union n (row_at rs i) (row_at rs j) (sound i (omega arith)) (sound j h) alike).points x

    join-hits : (x : ℕ) → hits (join_at i j rs) x ≡ hits rs x
    join-hits x = sym (total-hits (join_at i j rs) x) ∙ total-join (over1 x) (points x) ∙ total-hits rs x

    weights : (a b c : Bool) (v w : ℕ) → one a ≡ one b + one c → v ≡ w → cond a (suc v) 0 ≡ cond b (suc v) 0 + cond c (suc w) 0
    weights true true true v w p q = absurd (omega (arith, p))
    weights true true false v w p q = omega arith
    weights true false true v w p q = omega (arith, q)
    weights true false false v w p q = absurd (omega (arith, p))
    weights false true c v w p q = absurd (omega (arith, p))
    weights false false true v w p q = absurd (omega (arith, p))
    weights false false false v w p q = omega arith

    -- well formed rows stay so
    pub join-sound : Every (Sound n) (join_at i j rs)
    unfolding join_at
    join-sound =
        every-without (Sound n) (set rs i (joined_row (row_at rs i) (row_at rs j))) j
        (every_set (Sound n) rs i (joined_row (row_at rs i) (row_at rs j)) sound
        (union n (row_at rs i) (row_at rs j) (sound i (omega arith)) (sound j h) alike).sound)

    -- what holds of the words stays
    pub join-words : (P : ℕ → Type 0) → Every (λ r. P r.word) rs → Every (λ r. P r.word) (join_at i j rs)
    unfolding join_at
    join-words P w =
        every-without (λ r. P r.word) (set rs i (joined_row (row_at rs i) (row_at rs j))) j
        (every_set (λ r. P r.word) rs i (joined_row (row_at rs i) (row_at rs j)) w (w i (omega arith)))

    -- rows stay apart
    pub join_apart : Apart n rs → Apart n (join_at i j rs)
    join_apart a = hits-apart n (join_at i j rs) (λ x b. omega (arith, join-hits x, apart-hits n rs a x b))

    -- the block is unchanged at each point
    pub join-word : Apart n rs → (missing x : ℕ) → x < 2 ^ n → of_rows missing (join_at i j rs) x ≡ of_rows missing rs x
    join-word a missing x b =
        same_word missing rs (join_at i j rs) x (apart-hits n rs a x b) (join-hits x)
        (total-join (weight x)
        (weights (under (joined_row (row_at rs i) (row_at rs j)) x) (under (row_at rs i) x) (under (row_at rs j) x) (row_at rs i).word (row_at rs j).word
        (points x) alike.words))

-- ---- all joins

-- a list that stands for another: well formed, apart, with its words
pub record Stands (n : ℕ) (rs ss : List Row) : Type 1 where
  pub sound : Every (Sound n) ss
  pub apart : Apart n ss
  pub word : (missing x : ℕ) → x < 2 ^ n → of_rows missing ss x ≡ of_rows missing rs x
  pub words : (P : ℕ → Type 0) → Every (λ r. P r.word) rs → Every (λ r. P r.word) ss

next-length : (rs : List Row) → pair_left rs ≡ true → suc (length (join_next rs)) ≡ length rs
unfolding join_next
next-length rs e =
    let p = first-pair rs e in
    join-length 0 rs (joining rs) (mate rs (joining rs)) p.0 p.1

next-stands : (n : ℕ) (rs : List Row) → Every (Sound n) rs → Apart n rs → pair_left rs ≡ true → Stands n rs (join_next rs)
unfolding join_next
next-stands n rs s a e =
    let p = first-pair rs e in
    record {
      sound = join-sound n rs (joining rs) (mate rs (joining rs)) p.0 p.1 s p.2;
      apart = join_apart n rs (joining rs) (mate rs (joining rs)) p.0 p.1 s p.2 a;
      word = join-word n rs (joining rs) (mate rs (joining rs)) p.0 p.1 s p.2 a;
      words = join-words n rs (joining rs) (mate rs (joining rs)) p.0 p.1 s p.2;
    }

next-driven : (rs : List Row) → pair_left rs ≡ true → (c : ℕ) → driven (map word_part (join_next rs)) c ≡ driven (map word_part rs) c
unfolding join_next
next-driven rs e c =
    let p = first-pair rs e in
    join-driven 0 rs (joining rs) (mate rs (joining rs)) p.0 p.1 p.2 c

stands-up-to : (n m : ℕ) (rs : List Row) → Every (Sound n) rs → Apart n rs → Stands n rs (join_up_to m rs)
unfolding join_up_to
stands-up-to n zero rs s a = record { sound = s; apart = a; word = λ missing x h. refl; words = λ P w. w }
stands-up-to n (suc m) rs s a = go (pair_left rs) refl (λ t b. stands-up-to n m (join_next rs) t b)
  where
    go : (b : Bool) → pair_left rs ≡ b → (Every (Sound n) (join_next rs) → Apart n (join_next rs) → Stands n (join_next rs) (join_up_to m (join_next rs)))
        → Stands n rs (cond (pair_left rs) (join_up_to m (join_next rs)) rs)
    go false e ih = rw e (record { sound = s; apart = a; word = λ missing x h. refl; words = λ P w. w })
    go true e ih =
        let f = next-stands n rs s a e in
        let g = ih f.sound f.apart in
        rw e
        (record {
          sound = g.sound;
          apart = g.apart;
          word = λ missing x h. g.word missing x h ∙ f.word missing x h;
          words = λ P w. g.words P (f.words P w);
        })

none_left : (m : ℕ) (rs : List Row) → length rs ≤ m → pair_left (join_up_to m rs) ≡ false
unfolding join_up_to
none_left zero rs h = le-ltb (joining rs) (length rs) (omega arith)
none_left (suc m) rs h = go (pair_left rs) refl (λ l. none_left m (join_next rs) l)
  where
    go : (b : Bool) → pair_left rs ≡ b → (length (join_next rs) ≤ m → pair_left (join_up_to m (join_next rs)) ≡ false)
        → pair_left (cond (pair_left rs) (join_up_to m (join_next rs)) rs) ≡ false
    go false e ih = ap (λ (b : Bool). pair_left (cond b (join_up_to m (join_next rs)) rs)) e ∙ e
    go true e ih = ap (λ (b : Bool). pair_left (cond b (join_up_to m (join_next rs)) rs)) e ∙ ih (omega (arith, next-length rs e))

length-up-to : (m : ℕ) (rs : List Row) → (length (join_up_to m rs) ≤ length rs) × (1 ≤ length rs → 1 ≤ length (join_up_to m rs))
unfolding join_up_to
length-up-to zero rs = (omega arith, λ h. h)
length-up-to (suc m) rs = go (pair_left rs) refl (length-up-to m (join_next rs))
  where
    go : (b : Bool) → pair_left rs ≡ b
        → (length (join_up_to m (join_next rs)) ≤ length (join_next rs)) × (1 ≤ length (join_next rs) → 1 ≤ length (join_up_to m (join_next rs)))
        → (length (cond (pair_left rs) (join_up_to m (join_next rs)) rs) ≤ length rs)
        × (1 ≤ length rs → 1 ≤ length (cond (pair_left rs) (join_up_to m (join_next rs)) rs))
    go false e ih = rw e (omega arith, λ h. h)
    go true e ih =
        let p = first-pair rs e in
        rw e (omega (arith, ih.0, next-length rs e), λ h. ih.1 (omega (arith, next-length rs e, p.0, p.1)))

driven-up-to : (m : ℕ) (rs : List Row) (c : ℕ) → driven (map word_part (join_up_to m rs)) c ≡ driven (map word_part rs) c
unfolding join_up_to
driven-up-to zero rs c = refl
driven-up-to (suc m) rs c = go (pair_left rs) refl (driven-up-to m (join_next rs) c)
  where
    go : (b : Bool) → pair_left rs ≡ b → driven (map word_part (join_up_to m (join_next rs))) c ≡ driven (map word_part (join_next rs)) c
        → driven (map word_part (cond (pair_left rs) (join_up_to m (join_next rs)) rs)) c ≡ driven (map word_part rs) c
    go false e ih = rw e
    go true e ih = rw e (ih ∙ next-driven rs e c)

-- a list with no pair left is its own end
up-to-done : (m : ℕ) (rs : List Row) → pair_left rs ≡ false → join_up_to m rs ≡ rs
unfolding join_up_to
up-to-done zero rs e = refl
up-to-done (suc m) rs e = rw e

-- ---- the theorems

-- a list with no pair left stays as it is, and else the next pair is joined
pub joined-done : (rs : List Row) → pair_left rs ≡ false → joined rs ≡ rs
unfolding joined
joined-done rs e = up-to-done (length rs) rs e

pub joined_step : (rs : List Row) → pair_left rs ≡ true → joined rs ≡ joined (join_next rs)
unfolding joined join_up_to
joined_step rs e = ap (λ (m : ℕ). join_up_to m rs) (sym (next-length rs e)) ∙ rw e

module _ (n : ℕ) (rs : List Row) where
  -- the joined list stands for the list: 02's "the block at each point is unchanged" is its field `word`
  pub joined-stands : Every (Sound n) rs → Apart n rs → Stands n rs (joined rs)
  unfolding joined
  joined-stands s a = stands-up-to n (length rs) rs s a

  -- rows stay disjoint
  pub joined-disjoint : Disjoint n rs → Disjoint n (joined rs)
  joined-disjoint d =
      let t = joined-stands d.sound d.apart in
      record { sound = t.sound; outputs = t.words (λ w. w ≡ none → ⊥) d.outputs; apart = t.apart }

  -- and none becomes malformed
  pub joined-good : (k : ℕ) → Apart n rs → Every (λ r. bad_row n k r ≡ false) rs → Every (λ r. bad_row n k r ≡ false) (joined rs)
  joined-good k a g i l =
      let t = joined-stands (λ j h. good-sound n k (row_at rs j) (g j h)) a in
      sound-good n k (row_at (joined rs) i) (t.sound i l) (t.words (λ w. w < 2 ^ k) (λ j h. good-word n k (row_at rs j) (g j h)) i l)

-- "no such pair is left"
pub joined-none : (rs : List Row) → pair_left (joined rs) ≡ false
unfolding joined
joined-none rs = none_left (length rs) rs (omega arith)

-- where no pair is left, no two rows are written as one
pub none-joins : (rs : List Row) → pair_left rs ≡ false → (i j : ℕ) → i < j → j < length rs → joins (row_at rs i) (row_at rs j) ≡ false
unfolding joining mate
none-joins rs e i j l h = go (joins (row_at rs i) (row_at rs j)) refl
  where
    go : (b : Bool) → joins (row_at rs i) (row_at rs j) ≡ b → joins (row_at rs i) (row_at rs j) ≡ false
    go true d =
        let m : mate rs i < length rs = first_found (length rs) (λ q. ltb i q && joins (row_at rs i) (row_at rs q)) j h (rw (lt-ltb i j l, d)) in
        absurd
        (omega (
          arith,
          ltb-false (joining rs) (length rs) e,
          first_found (length rs) (λ i. ltb (mate rs i) (length rs)) i (omega arith) (lt-ltb _ _ m),
        ))
    go false d = d

-- joining twice is joining once
pub joined-twice : (rs : List Row) → joined (joined rs) ≡ joined rs
joined-twice rs = joined-done (joined rs) (joined-none rs)

-- the number of rows never grows, and a list that has a row keeps one
pub joined_length : (rs : List Row) → length (joined rs) ≤ length rs
unfolding joined
joined_length rs = (length-up-to (length rs) rs).0

pub joined-some : (rs : List Row) → 1 ≤ length rs → 1 ≤ length (joined rs)
unfolding joined
joined-some rs h = (length-up-to (length rs) rs).1 h

-- the rows drive the columns that they drove
pub joined-driven : (rs : List Row) (c : ℕ) → driven (map word_part (joined rs)) c ≡ driven (map word_part rs) c
unfolding joined
joined-driven rs c = driven-up-to (length rs) rs c
