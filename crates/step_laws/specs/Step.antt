-- One step on a list of rows: the exchange of positions k and h in every row, then the flips and splits of v. The list after it, at
-- the point after it, is the list before at the point; rows stay well formed and apart, keep their words, and never grow fewer.
-- Not here: which h and v a step has (`Moved`). Assumes nothing.
use Rattle.std.specs.Prelude.{◌≡◌, Bool, true, false, cond, ◌&&◌, eqb, length}
use Rattle.std.proofs.Math.Path.{refl, sym, ap, ap₂}
use Rattle.std.proofs.Common.{◌∙◌, arith, eq-eqb, ne_eqb, length-append}
use mathlib.Core.List.{List, [], ◌∷◌, ◌++◌, map}
use Prim.Native.Nat.{ℕ, zero, suc, ◌+◌, ◌*◌, ◌^◌, ◌≤◌, ◌<◌}
use Rattle.std.proofs.Math.Decide.{ℕ_discrete}
use Rattle.std.specs.Int.Bits.{bit_and}
use Rattle.std.proofs.lemmas.List.{length-map}
use Rattle.bits.specs.Digits.{bit}
use Rattle.bits.specs.Bit.{bit-lt}
use Rattle.sums.specs.Sums.{one}
use Rattle.block.specs.Words.{none, under, of_rows}
use Rattle.block.specs.Rows.{exchange, shear, exchange_row, flip_row, half, split_row, split_rows}
use Rattle.block.specs.Refusals.{bad_row, row_at}
use Rattle.block.specs.declared.Row.{Row}
use Rattle.pair_laws.specs.Cube.{Sound}
use Rattle.pair_laws.specs.Theorem.{Every, Apart, Disjoint, every-cons}
use Rattle.pair_laws.specs.Share.{good-sound, good-word, sound-good}
use Rattle.matrix_laws.specs.Steps.{exchange-lt, exchange-twice, shear-lt, shear-twice}
use Rattle.step_laws.specs.Exchange.{under-exchange, sound-exchange}
use Rattle.step_laws.specs.Shear.{under-keep, under_flip, sound-flip, half-fixed, under-half, sound-half}
use Rattle.step_laws.specs.Hits.{every-tail, every_append, every_map, hits, hits-append, hits-none, hits-one, hits-cons, apart-hits, hits-apart, both_one}

-- what a step needs: positions k and h below n, and a number v below 2^n without bit k
pub record Ready (n k h v : ℕ) : Type 0 where
  pub place : k < n
  pub other : h < n
  pub below : v < 2 ^ n
  pub clear : bit v k ≡ 0

-- a list after the step
abbrev pub step_rows : ℕ → ℕ → ℕ → List Row → List Row
step_rows k h v rs = split_rows k v (map (exchange_row k h) rs)

-- a point after the step
abbrev pub step_point : ℕ → ℕ → ℕ → ℕ → ℕ
step_point k h v x = shear k v (exchange k h x)

-- and before it
abbrev pub back_point : ℕ → ℕ → ℕ → ℕ → ℕ
back_point k h v x = exchange k h (shear k v x)

-- ---- what becomes of one row

-- one row with its points, or two that share them out by bit k; the word is the row's own
data Became (n k v : ℕ) (r : Row) : List Row → Type 0 where
  single : (s : Row) → s.word ≡ r.word → Sound n s → ((x : ℕ) → under s (shear k v x) ≡ under r x) → Became n k v r (s ∷ [])
  double : (s t : Row) → s.word ≡ r.word → t.word ≡ r.word → Sound n s → Sound n t
      → ((x : ℕ) → under s (shear k v x) ≡ under r x && eqb (bit x k) 0)
      → ((x : ℕ) → under t (shear k v x) ≡ under r x && eqb (bit x k) 1) → Became n k v r (s ∷ t ∷ [])

became : (n k h v : ℕ) (r : Row) → Ready n k h v → Sound n r → Became n k v r (split_row k v r)
unfolding split_row
became n k h v r d s = go (ℕ_discrete (bit r.mask k) 1) (ℕ_discrete (bit_and r.mask v) 0)
  where
    go : Dec (bit r.mask k ≡ 1) → Dec (bit_and r.mask v ≡ 0) → Became n k v r (split_row k v r)
    go (yes a) b =
        rw (eq-eqb (bit r.mask k) 1 a) (single (flip_row k v r) refl (sound-flip n k v r s) (λ x. under_flip k v r x a d.clear))
    go (no a) (yes b) =
        rw (ne_eqb (bit r.mask k) 1 a, eq-eqb (bit_and r.mask v) 0 b) (single r refl s (λ x. under-keep k v r x b))
    go (no a) (no b) =
        rw (ne_eqb (bit r.mask k) 1 a, ne_eqb (bit_and r.mask v) 0 b)
        (double (flip_row k v (half k 0 r)) (flip_row k v (half k 1 r)) refl refl
        (sound-flip n k v (half k 0 r) (sound-half n k 0 r d.place (omega arith) s free))
        (sound-flip n k v (half k 1 r) (sound-half n k 1 r d.place (omega arith) s free))
        (λ x. under_flip k v (half k 0 r) x (half-fixed k 0 r free) d.clear ∙ under-half n k 0 r x (omega arith) s free)
        (λ x. under_flip k v (half k 1 r) x (half-fixed k 1 r free) d.clear ∙ under-half n k 1 r x (omega arith) s free))
      where
        free : bit r.mask k ≡ 0
        free = omega (arith, bit-lt r.mask k)

-- the two halves of a test, by a digit
both_cond : (p : Bool) (b w y : ℕ) → b < 2 → cond (p && eqb b 0) w (cond (p && eqb b 1) w y) ≡ cond p w y
both_cond true zero w y h = refl
both_cond true (suc zero) w y h = refl
both_cond true (suc (suc b)) w y h = absurd (omega arith)
both_cond false b w y h = refl

module _ {n k v : ℕ} {r : Row} where
  became-word : {l : List Row} → Became n k v r l → (missing : ℕ) (rs : List Row) (x : ℕ)
      → of_rows missing (l ++ rs) (shear k v x) ≡ cond (under r x) r.word (of_rows missing rs (shear k v x))
  unfolding of_rows
  became-word (single s e a u) missing rs x = rw (u x, e)
  became-word (double s t e f a b u w) missing rs x =
      rw (u x, w x, e, f) (both_cond (under r x) (bit x k) r.word (of_rows missing rs (shear k v x)) (bit-lt x k))

  became-hits : {l : List Row} → Became n k v r l → (x : ℕ) → hits l (shear k v x) ≡ one (under r x)
  became-hits (single s e a u) x = hits-one s (shear k v x) ∙ ap one (u x)
  became-hits (double s t e f a b u w) x =
      hits-cons s (t ∷ []) (shear k v x)
      ∙ ap₂ ◌+◌ (ap one (u x)) (hits-one t (shear k v x) ∙ ap one (w x)) ∙ both_one (under r x) (bit x k) (bit-lt x k)

  became-sound : {l : List Row} → Became n k v r l → Every (Sound n) l
  became-sound (single s e a u) = every-cons (Sound n) s [] a (λ i h. absurd (omega arith))
  became-sound (double s t e f a b u w) =
      every-cons (Sound n) s (t ∷ []) a (every-cons (Sound n) t [] b (λ i h. absurd (omega arith)))

  became-words : {l : List Row} → Became n k v r l → (P : ℕ → Type 0) → P r.word → Every (λ s. P s.word) l
  became-words (single s e a u) P p = every-cons (λ s. P s.word) s [] (rw e p) (λ i h. absurd (omega arith))
  became-words (double s t e f a b u w) P p =
      every-cons (λ s. P s.word) s (t ∷ []) (rw e p) (every-cons (λ s. P s.word) t [] (rw f p) (λ i h. absurd (omega arith)))

-- what becomes of one row has one row or two, whatever the row
became-length : (k v : ℕ) (r : Row) → (1 ≤ length (split_row k v r)) × (length (split_row k v r) ≤ 2)
unfolding split_row
became-length k v r = go (eqb (bit r.mask k) 1) (eqb (bit_and r.mask v) 0)
  where
    go : (a b : Bool)
        → (1 ≤ length (cond a (flip_row k v r ∷ []) (cond b (r ∷ []) (flip_row k v (half k 0 r) ∷ flip_row k v (half k 1 r) ∷ []))))
        × (length (cond a (flip_row k v r ∷ []) (cond b (r ∷ []) (flip_row k v (half k 0 r) ∷ flip_row k v (half k 1 r) ∷ []))) ≤ 2)
    go true b = (omega arith, omega arith)
    go false true = (omega arith, omega arith)
    go false false = (omega arith, omega arith)

-- ---- the whole list

-- the splits never lessen the number of rows, and at most double it
pub split-length : (k v : ℕ) (rs : List Row) → (length rs ≤ length (split_rows k v rs)) × (length (split_rows k v rs) ≤ length rs * 2)
unfolding split_rows
split-length k v [] = (omega arith, omega arith)
split-length k v (r ∷ rs) = go (became-length k v r) (split-length k v rs)
  where
    go : (1 ≤ length (split_row k v r)) × (length (split_row k v r) ≤ 2)
        → (length rs ≤ length (split_rows k v rs)) × (length (split_rows k v rs) ≤ length rs * 2)
        → (suc (length rs) ≤ length (split_row k v r ++ split_rows k v rs))
        × (length (split_row k v r ++ split_rows k v rs) ≤ suc (length rs) * 2)
    go a b = (
      omega (arith, a.0, b.0, length-append (split_row k v r) (split_rows k v rs)),
      omega (arith, a.1, b.1, length-append (split_row k v r) (split_rows k v rs)),
    )

-- a step never lessens the number of rows
pub step-length : (k h v : ℕ) (rs : List Row) → length rs ≤ length (step_rows k h v rs)
step-length k h v rs = omega (arith, (split-length k v (map (exchange_row k h) rs)).0, length-map rs (exchange_row k h))

module _ (n k h v : ℕ) (d : Ready n k h v) where
  -- a point after the step is within the width
  pub step-lt : (x : ℕ) → x < 2 ^ n → step_point k h v x < 2 ^ n
  step-lt x l = shear-lt n k v (exchange k h x) d.below (exchange-lt n k h x d.place d.other l)

  -- and so is the point before it
  pub back-lt : (x : ℕ) → x < 2 ^ n → back_point k h v x < 2 ^ n
  back-lt x l = exchange-lt n k h (shear k v x) d.place d.other (shear-lt n k v x d.below l)

  -- the point before the step leads to it
  pub step_back : (x : ℕ) → step_point k h v (back_point k h v x) ≡ x
  step_back x = ap (shear k v) (exchange-twice k h (shear k v x)) ∙ shear-twice k v x d.clear

  -- the exchange alone
  word-exchange : (missing : ℕ) (rs : List Row) (x : ℕ) → Every (Sound n) rs → x < 2 ^ n
      → of_rows missing (map (exchange_row k h) rs) (exchange k h x) ≡ of_rows missing rs x
  unfolding of_rows
  word-exchange missing [] x s l = refl
  word-exchange missing (r ∷ rs) x s l =
      rw (
        under-exchange n k h r x d.place d.other (s 0 (omega arith)) l,
        word-exchange missing rs x (every-tail (Sound n) r rs s) l,
      )

  hits-exchange : (rs : List Row) (x : ℕ) → Every (Sound n) rs → x < 2 ^ n
      → hits (map (exchange_row k h) rs) (exchange k h x) ≡ hits rs x
  hits-exchange [] x s l = hits-none (exchange k h x) ∙ sym (hits-none x)
  hits-exchange (r ∷ rs) x s l =
      hits-cons (exchange_row k h r) (map (exchange_row k h) rs) (exchange k h x)
      ∙ ap₂ ◌+◌ (ap one (under-exchange n k h r x d.place d.other (s 0 (omega arith)) l))
      (hits-exchange rs x (every-tail (Sound n) r rs s) l)
      ∙ sym (hits-cons r rs x)

  exchanged : (rs : List Row) → Every (Sound n) rs → Every (Sound n) (map (exchange_row k h) rs)
  exchanged = every_map (Sound n) (Sound n) (exchange_row k h) (λ r s. sound-exchange n k h r d.place d.other s)

  -- the splits alone
  word_split : (missing : ℕ) (rs : List Row) (x : ℕ) → Every (Sound n) rs
      → of_rows missing (split_rows k v rs) (shear k v x) ≡ of_rows missing rs x
  unfolding of_rows split_rows
  word_split missing [] x s = refl
  word_split missing (r ∷ rs) x s =
      became-word (became n k h v r d (s 0 (omega arith))) missing (split_rows k v rs) x
      ∙ ap (cond (under r x) r.word) (word_split missing rs x (every-tail (Sound n) r rs s))

  hits-split : (rs : List Row) (x : ℕ) → Every (Sound n) rs → hits (split_rows k v rs) (shear k v x) ≡ hits rs x
  unfolding split_rows
  hits-split [] x s = hits-none (shear k v x) ∙ sym (hits-none x)
  hits-split (r ∷ rs) x s =
      hits-append (split_row k v r) (split_rows k v rs) (shear k v x)
      ∙ ap₂ ◌+◌ (became-hits (became n k h v r d (s 0 (omega arith))) x) (hits-split rs x (every-tail (Sound n) r rs s))
      ∙ sym (hits-cons r rs x)

  sound-split : (rs : List Row) → Every (Sound n) rs → Every (Sound n) (split_rows k v rs)
  unfolding split_rows
  sound-split [] s = λ i l. absurd (omega arith)
  sound-split (r ∷ rs) s =
      every_append (Sound n) (split_row k v r) (split_rows k v rs) (became-sound (became n k h v r d (s 0 (omega arith))))
      (sound-split rs (every-tail (Sound n) r rs s))

  words-split : (P : ℕ → Type 0) (rs : List Row) → Every (Sound n) rs → Every (λ r. P r.word) rs
      → Every (λ r. P r.word) (split_rows k v rs)
  unfolding split_rows
  words-split P [] s p = λ i l. absurd (omega arith)
  words-split P (r ∷ rs) s p =
      every_append (λ r. P r.word) (split_row k v r) (split_rows k v rs)
      (became-words (became n k h v r d (s 0 (omega arith))) P (p 0 (omega arith)))
      (words-split P rs (every-tail (Sound n) r rs s) (every-tail (λ r. P r.word) r rs p))

  -- the list after the step, at the point after it, is the list at the point
  pub step-word : (missing : ℕ) (rs : List Row) (x : ℕ) → Every (Sound n) rs → x < 2 ^ n
      → of_rows missing (step_rows k h v rs) (step_point k h v x) ≡ of_rows missing rs x
  step-word missing rs x s l =
      word_split missing (map (exchange_row k h) rs) (exchange k h x) (exchanged rs s) ∙ word-exchange missing rs x s l

  -- rows stay well formed
  pub step-sound : (rs : List Row) → Every (Sound n) rs → Every (Sound n) (step_rows k h v rs)
  step-sound rs s = sound-split (map (exchange_row k h) rs) (exchanged rs s)

  -- what all words have, the new words have: they are words of the old rows
  pub step_words : (P : ℕ → Type 0) (rs : List Row) → Every (Sound n) rs → Every (λ r. P r.word) rs
      → Every (λ r. P r.word) (step_rows k h v rs)
  step_words P rs s p =
      words-split P (map (exchange_row k h) rs) (exchanged rs s)
      (every_map (λ r. P r.word) (λ r. P r.word) (exchange_row k h) (λ r q. q) rs p)

  -- no row becomes malformed
  pub step-good : (outs : ℕ) (rs : List Row) → Every (λ r. bad_row n outs r ≡ false) rs
      → Every (λ r. bad_row n outs r ≡ false) (step_rows k h v rs)
  step-good outs rs g i l =
      sound-good n outs (row_at (step_rows k h v rs) i) (step-sound rs (λ j m. good-sound n outs (row_at rs j) (g j m)) i l)
      (step_words (λ w. w < 2 ^ outs) rs (λ j m. good-sound n outs (row_at rs j) (g j m))
      (λ j m. good-word n outs (row_at rs j) (g j m)) i l)

  -- rows stay apart
  pub step-apart : (rs : List Row) → Every (Sound n) rs → Apart n rs → Apart n (step_rows k h v rs)
  step-apart rs s a =
      hits-apart n (step_rows k h v rs)
      (λ x l.
      rw (
        sym (step_back x),
        hits-split (map (exchange_row k h) rs) (exchange k h (back_point k h v x)) (exchanged rs s),
        hits-exchange rs (back_point k h v x) s (back-lt x l),
      )
      (apart-hits n rs a (back_point k h v x) (back-lt x l)))

  -- so a list of disjoint rows becomes one
  pub step-disjoint : (rs : List Row) → Disjoint n rs → Disjoint n (step_rows k h v rs)
  step-disjoint rs g =
      record {
        sound = step-sound rs g.sound;
        outputs = step_words (λ w. w ≡ none → ⊥) rs g.sound g.outputs;
        apart = step-apart rs g.sound g.apart;
      }
