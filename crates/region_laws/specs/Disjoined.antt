-- What comes out of a region: rows that lie over the points of the region that some row of the list lies over, each over by one of them, with
-- the OR of the list's rows there. So what comes out of the whole space is a disjoint list, lies over the same points as the list, and read as fd
-- has the list's words; of a list that is disjoint these are its own. Assumes nothing.
use Rattle.std.specs.Prelude.{◌≡◌, ◌&&◌, ◌⊎◌, ltb}
use Rattle.std.proofs.Math.Path.{refl, sym}
use Rattle.std.proofs.Common.{ap, ◌∙◌, inl, inr, pow_pos, pow_mono}
use Rattle.std.proofs.Math.Bool.{Bool, true, false, not, cond, false≢true}
use mathlib.Core.List.{List, [], ◌∷◌, ◌++◌}
use Prim.Native.Nat.{ℕ, ◌+◌, ◌^◌, ◌≤◌, ◌<◌}
use native.Mathlib.Omega.{arith}
use borrow.Author.Tests.{eq-eqb, lt-ltb, ltb-true}
use Rattle.std.specs.Int.Bits.{bit_and, and_zero_l}
use Rattle.std.proofs.Math.ListN.{length}
use Rattle.bits.specs.Digits.{bit}
use Rattle.slices.specs.Places.{first}
use Rattle.slices.specs.Least.{first_passes}
use Rattle.slices.specs.Tests.{and_both}
use Rattle.sums.specs.Sums.{one}
use Rattle.sums.specs.Laws.{one-le, count_none, count-some, one-and}
use Rattle.block.specs.Limits.{outputs}
use Rattle.block.specs.Words.{row, under, of_rows}
use Rattle.block.specs.Rows.{half}
use Rattle.block.specs.Refusals.{row_at, share, bad_row}
use Rattle.block.specs.Overlaps.{ors, or_at, lies_inside, met, met_word, cut, whole_space, region_rows, disjoined}
use Rattle.block.specs.declared.Row.{Row}
use Rattle.pair_laws.specs.Cube.{Sound, sound-values}
use Rattle.pair_laws.specs.Theorem.{Every, Apart, Disjoint, Nowhere, Somewhere, every-cons, find}
use Rattle.pair_laws.specs.Share.{share-at, sound-good, good-sound, good-word}
use Rattle.step_laws.specs.Hits.{every_append, hits, hits-append, hits-cons, hits-none, hits-one, hits-apart, word_none, halves}
use Rattle.region_laws.specs.Ors.{ors-none, ors-cong, ors-lt, ors-only}
use Rattle.region_laws.specs.Open.{open_inputs, some_at, count-nothing, inside-all}
use Rattle.region_laws.specs.Free.{by-halves}
use Rattle.region_laws.specs.Pieces.{Unmet, Single, Halved, region-cases}

-- some row of the list lies over x
abbrev pub over : List Row → ℕ → Bool
over rs x = ltb 0 (hits rs x)

-- a point under a row is hit
row-hit : (rs : List Row) (i : ℕ) → i < length rs → (x : ℕ) → under (row_at rs i) x ≡ true → hits rs x ≡ 0 → ⊥
unfolding hits
row-hit rs i l x u z = false≢true (sym (count_none (λ i. under (row_at rs i) x) (length rs) z i l) ∙ u)

-- ---- a list of rows before another

-- a point under no row of the first list has its word from the second
word-right : (missing : ℕ) (s t : List Row) (x : ℕ) → hits s x ≡ 0 → of_rows missing (s ++ t) x ≡ of_rows missing t x
unfolding of_rows
word-right missing [] t x e = refl
word-right missing (r ∷ s) t x e = go (under r x) refl (λ z. word-right missing s t x z)
  where
    go : (b : Bool) → under r x ≡ b → (hits s x ≡ 0 → of_rows missing (s ++ t) x ≡ of_rows missing t x)
        → cond (under r x) r.word (of_rows missing (s ++ t) x) ≡ of_rows missing t x
    go true d ih = absurd (omega (arith, hits-cons r s x, ap one d, e))
    go false d ih = rw d (ih (omega (arith, hits-cons r s x, ap one d, e)))

-- and the other way round
word-left : (missing : ℕ) (s t : List Row) (x : ℕ) → hits t x ≡ 0 → of_rows missing (s ++ t) x ≡ of_rows missing s x
unfolding of_rows
word-left missing [] t x e = word_none missing t x e
word-left missing (r ∷ s) t x e = rw (word-left missing s t x e)

-- ---- a point of a region

module _ (n : ℕ) (rs : List Row) (q : Row) (x : ℕ) (h : x < 2 ^ n) (u : under q x ≡ true) where
  -- a row that does not meet the region does not lie over its points
  not-over : (r : Row) → share n q r ≡ false → under r x ≡ false
  not-over r s = go (under r x) refl
    where
      go : (b : Bool) → under r x ≡ b → under r x ≡ false
      go true e = absurd (false≢true (sym s ∙ share-at n q r x h u e))
      go false e = e

  -- a row with the region inside lies over all of them
  over-all : (r : Row) → lies_inside n q r ≡ true → under r x ≡ true
  unfolding lies_inside
  over-all r s = go (under r x) refl
    where
      go : (b : Bool) → under r x ≡ b → under r x ≡ true
      go true e = e
      go false e =
          absurd (false≢true (sym (ap not (some_at (2 ^ n) (λ y. under q y && not (under r y)) x h (rw (u, e)))) ∙ s))

  -- no row meets the region
  module _ (z : met n rs q ≡ 0) where
    none_over : (i : ℕ) → i < length rs → under (row_at rs i) x ≡ false
    unfolding met
    none_over i l = not-over (row_at rs i) (count_none (λ i. share n q (row_at rs i)) (length rs) z i l)

    word-unmet : or_at rs x ≡ 0
    unfolding or_at
    word-unmet = ors-none (λ i. cond (under (row_at rs i) x) (row_at rs i).word 0) (length rs) (λ i l. rw (none_over i l))

    hits-unmet : hits rs x ≡ 0
    unfolding hits
    hits-unmet = count-nothing (λ i. under (row_at rs i) x) (length rs) none_over

  -- it lies inside every row that meets it
  module _ (sound : Every (Sound n) rs) (a : Sound n q) (z : open_inputs n rs q ≡ 0) where
    word-inside : or_at rs x ≡ met_word n rs q
    unfolding or_at met_word
    word-inside =
        ors-cong (λ i. cond (under (row_at rs i) x) (row_at rs i).word 0) (λ i. cond (share n q (row_at rs i)) (row_at rs i).word 0) (length rs)
        (λ i l. go i l (share n q (row_at rs i)) refl)
      where
        go : (i : ℕ) → i < length rs → (b : Bool) → share n q (row_at rs i) ≡ b
            → cond (under (row_at rs i) x) (row_at rs i).word 0 ≡ cond (share n q (row_at rs i)) (row_at rs i).word 0
        go i l true e = rw (e, over-all (row_at rs i) (inside-all n rs sound q a z i l e))
        go i l false e = rw (e, not-over (row_at rs i) e)

    hits-inside : (met n rs q ≡ 0 → ⊥) → 0 < hits rs x
    unfolding met
    hits-inside e =
        let w = count-some (λ i. share n q (row_at rs i)) (length rs) (omega (arith, e)) in
        let o = over-all (row_at rs w.0) (inside-all n rs sound q a z w.0 w.1 w.2) in
        omega (arith, row-hit rs w.0 w.1 x o)

met_word-lt : (n k : ℕ) (rs : List Row) (q : Row) → Every (λ r. r.word < 2 ^ k) rs → met_word n rs q < 2 ^ k
unfolding met_word
met_word-lt n k rs q w =
    ors-lt (λ i. cond (share n q (row_at rs i)) (row_at rs i).word 0) k (length rs)
    (λ i h. few (share n q (row_at rs i)) (row_at rs i).word (w i h))
  where
    few : (b : Bool) (y : ℕ) → y < 2 ^ k → cond b y 0 < 2 ^ k
    few true y h = h
    few false y h = pow_pos k

-- ---- what comes out of a region

-- well formed rows with words below 2^k, over the points of the region that the list lies over and no others, over each once, with the list's word
pub record Parts (n k : ℕ) (rs : List Row) (q : Row) (out : List Row) : Type 0 where
  pub sound : Every (Sound n) out
  pub words : Every (λ r. r.word < 2 ^ k) out
  pub once : (x : ℕ) → x < 2 ^ n → hits out x ≡ one (under q x && over rs x)
  pub word : (x : ℕ) → x < 2 ^ n → under q x ≡ true → of_rows 0 out x ≡ or_at rs x

module _ (n k : ℕ) (rs : List Row) (s : Every (Sound n) rs) (w : Every (λ r. r.word < 2 ^ k) rs) where
  parts_none : (q : Row) → met n rs q ≡ 0 → Parts n k rs q []
  unfolding of_rows
  parts_none q z =
      record {
        sound = λ i h. absurd (omega arith);
        words = λ i h. absurd (omega arith);
        once = λ x h. hits-none x ∙ go x h (under q x) refl;
        word = λ x h u. sym (word-unmet n rs q x h u z);
      }
    where
      go : (x : ℕ) → x < 2 ^ n → (b : Bool) → under q x ≡ b → 0 ≡ one (b && over rs x)
      go x h true u = rw (hits-unmet n rs q x h u z)
      go x h false u = refl

  parts-one : (q : Row) → Sound n q → (met n rs q ≡ 0 → ⊥) → open_inputs n rs q ≡ 0
      → Parts n k rs q (row q.mask q.values (met_word n rs q) ∷ [])
  unfolding of_rows
  parts-one q a e z =
      let r : Row = row q.mask q.values (met_word n rs q) in
      record {
        sound = every-cons (Sound n) r [] (record { fixed = a.fixed; inside = a.inside }) (λ i h. absurd (omega arith));
        words = every-cons (λ r. r.word < 2 ^ k) r [] (met_word-lt n k rs q w) (λ i h. absurd (omega arith));
        once = λ x h. hits-one r x ∙ go x h (under q x) refl;
        word = λ x h u. rw u (sym (word-inside n rs q x h u s a z));
      }
    where
      go : (x : ℕ) → x < 2 ^ n → (b : Bool) → under q x ≡ b → one b ≡ one (b && over rs x)
      go x h true u = rw (lt-ltb 0 (hits rs x) (hits-inside n rs q x h u s a z e))
      go x h false u = refl

  -- points that are shared out stay so among those that pass
  shared-out : (a b u c : Bool) → one a + one b ≡ one u → one (a && c) + one (b && c) ≡ one (u && c)
  shared-out a b u true e = omega (arith, one-and a true, one-and b true, one-and u true, e)
  shared-out a b u false e = omega (arith, one-and a false, one-and b false, one-and u false)

  parts-two : (h : ℕ) (q : Row) (o p : List Row) → Sound n q → bit q.mask h ≡ 0
      → Parts n k rs (half h 0 q) o → Parts n k rs (half h 1 q) p → Parts n k rs q (o ++ p)
  parts-two h q o p a free c d =
      record {
        sound = every_append (Sound n) o p c.sound d.sound;
        words = every_append (λ r. r.word < 2 ^ k) o p c.words d.words;
        once = λ x l.
            omega (
              arith,
              hits-append o p x,
              c.once x l,
              d.once x l,
              shared-out (under (half h 0 q) x) (under (half h 1 q) x) (under q x) (over rs x) (halves n h q x a free),
            );
        word = λ x l u. go x l u (under (half h 0 q) x) (under (half h 1 q) x) refl refl;
      }
    where
      missed : (r : Row) (t : List Row) (x : ℕ) → hits t x ≡ one (under r x && over rs x) → under r x ≡ false → hits t x ≡ 0
      missed r t x e f = e ∙ rw f

      go : (x : ℕ) → x < 2 ^ n → under q x ≡ true → (e f : Bool) → under (half h 0 q) x ≡ e → under (half h 1 q) x ≡ f
          → of_rows 0 (o ++ p) x ≡ or_at rs x
      go x l u true true e f = absurd (omega (arith, halves n h q x a free, ap one e, ap one f, ap one u))
      go x l u false false e f = absurd (omega (arith, halves n h q x a free, ap one e, ap one f, ap one u))
      go x l u true false e f = word-left 0 o p x (missed (half h 1 q) p x (d.once x l) f) ∙ c.word x l e
      go x l u false true e f = word-right 0 o p x (missed (half h 0 q) o x (c.once x l) e) ∙ d.word x l f

  pub region-parts : (q : Row) → Sound n q → Parts n k rs q (region_rows n rs q)
  region-parts = by-halves n (λ q. Parts n k rs q (region_rows n rs q)) (λ q a ih. step q a ih (region-cases n rs s q a))
    where
      step : (q : Row) → Sound n q
          → ((h d : ℕ) → h < n → d < 2 → bit q.mask h ≡ 0 → Parts n k rs (half h d q) (region_rows n rs (half h d q)))
          → Unmet n rs q ⊎ (Single n rs q ⊎ Halved n rs q) → Parts n k rs q (region_rows n rs q)
      step q a ih (inl c) = rw c.rows (parts_none q c.unmet)
      step q a ih (inr (inl c)) = rw c.rows (parts-one q a c.some-row c.decided)
      step q a ih (inr (inr c)) =
          rw c.rows
          (parts-two (cut n rs q) q (region_rows n rs (half (cut n rs q) 0 q)) (region_rows n rs (half (cut n rs q) 1 q)) a c.free
          (ih (cut n rs q) 0 c.place (omega arith) c.free) (ih (cut n rs q) 1 c.place (omega arith) c.free))

-- ---- the whole space

whole : (x : ℕ) → under whole_space x ≡ true
whole x = eq-eqb (bit_and 0 x) 0 (and_zero_l x)

pub whole-sound : (n : ℕ) → Sound n whole_space
whole-sound n = record { fixed = pow_pos n; inside = and_zero_l 0 }

-- of rows that are well formed, words among it
module _ (n k : ℕ) (rs : List Row) (good : Every (λ r. bad_row n k r ≡ false) rs) where
  pub rows-sound : Every (Sound n) rs
  rows-sound i h = good-sound n k (row_at rs i) (good i h)

  rows_words : Every (λ r. r.word < 2 ^ k) rs
  rows_words i h = good-word n k (row_at rs i) (good i h)

  -- a region that some row meets gives a row
  pub region-some : (q : Row) → Sound n q → (met n rs q ≡ 0 → ⊥) → 1 ≤ length (region_rows n rs q)
  unfolding met share
  region-some q a e =
      let w = count-some (λ i. share n q (row_at rs i)) (length rs) (omega (arith, e)) in
      let r : Row = row_at rs w.0 in
      let p : ℕ → Bool = λ x. under q x && under r x in
      let l : first (2 ^ n) p < 2 ^ n = ltb-true _ _ w.2 in
      let b = and_both (under q (first (2 ^ n) p)) (under r (first (2 ^ n) p)) (first_passes (2 ^ n) p l) in
      some (region_rows n rs q) (first (2 ^ n) p) l (region-parts n k rs rows-sound rows_words q a) b.0 (row-hit rs w.0 w.1 (first (2 ^ n) p) b.1)
    where
      some : (out : List Row) (x : ℕ) → x < 2 ^ n → Parts n k rs q out → under q x ≡ true → (hits rs x ≡ 0 → ⊥) → 1 ≤ length out
      some [] x l p u f =
          let one-row : hits [] x ≡ 1 = p.once x l ∙ rw (u, lt-ltb 0 (hits rs x) (omega (arith, f))) in
          absurd (omega (arith, hits-none x, one-row))
      some (r ∷ out) x l p u f = omega arith

  out : Parts n k rs whole_space (disjoined n rs)
  unfolding disjoined
  out = region-parts n k rs rows-sound rows_words whole_space (whole-sound n)

  -- at each point the word is the OR of all rows over it, 0 where there is none
  pub disjoined-word : (x : ℕ) → x < 2 ^ n → of_rows 0 (disjoined n rs) x ≡ or_at rs x
  disjoined-word x h = out.word x h (whole x)

  -- a row lies over a point exactly where one of the list's does, and no two do
  pub disjoined-hits : (x : ℕ) → x < 2 ^ n → hits (disjoined n rs) x ≡ one (over rs x)
  disjoined-hits x h = out.once x h ∙ ap (λ (b : Bool). one (b && over rs x)) (whole x)

  pub disjoined-apart : Apart n (disjoined n rs)
  disjoined-apart = hits-apart n (disjoined n rs) (λ x h. omega (arith, disjoined-hits x h, one-le (over rs x)))

  -- no row is malformed
  pub disjoined-good : Every (λ r. bad_row n k r ≡ false) (disjoined n rs)
  disjoined-good i h = sound-good n k (row_at (disjoined n rs) i) (out.sound i h) (out.words i h)

  pub disjoined-disjoint : k ≤ outputs → Disjoint n (disjoined n rs)
  disjoined-disjoint h =
      record {
        sound = out.sound;
        outputs = λ i l e. omega (arith, out.words i l, pow_mono h);
        apart = disjoined-apart;
      }

  -- of a list with a row, a row
  pub disjoined-some : 1 ≤ length rs → 1 ≤ length (disjoined n rs)
  unfolding disjoined met
  disjoined-some l =
      region-some whole_space (whole-sound n)
      (λ z.
      false≢true
      (sym (count_none (λ i. share n whole_space (row_at rs i)) (length rs) z 0 (omega arith))
      ∙ share-at n whole_space (row_at rs 0) (row_at rs 0).values (sound-values n (row_at rs 0) (rows-sound 0 (omega arith)))
      (whole (row_at rs 0).values) (eq-eqb (bit_and (row_at rs 0).mask (row_at rs 0).values) (row_at rs 0).values (rows-sound 0 (omega arith)).inside)))

-- ---- a list that is disjoint already

-- its OR at a point is its word there, read as fd
pub apart-word : (n : ℕ) (rs : List Row) → Apart n rs → (x : ℕ) → x < 2 ^ n → or_at rs x ≡ of_rows 0 rs x
unfolding or_at
apart-word n rs apart x h = go (find 0 rs x)
  where
    f : ℕ → ℕ
    f i = cond (under (row_at rs i) x) (row_at rs i).word 0

    other : (i : ℕ) → i < length rs → under (row_at rs i) x ≡ true → (j : ℕ) → j < length rs → (j ≡ i → ⊥) → (b : Bool)
        → under (row_at rs j) x ≡ b → cond b (row_at rs j).word 0 ≡ 0
    other i l u j m e true v = absurd (e (apart j i x m l h v u))
    other i l u j m e false v = refl

    go : Nowhere 0 rs x ⊎ Somewhere 0 rs x → ors f (length rs) ≡ of_rows 0 rs x
    go (inl (none, e)) = ors-none f (length rs) (λ i l. rw (none i l)) ∙ sym e
    go (inr (i, l, u, e)) =
        ors-only f (length rs) i l (λ j m d. other i l u j m d (under (row_at rs j) x) refl) ∙ rw u (sym e)
