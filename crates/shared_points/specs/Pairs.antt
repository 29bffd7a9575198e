-- The first pair of rows that share a point, as an answer (01, Numbers that come back, 7); that two nested loops over masks and
-- values find it; and check 7 by it. Assumes nothing.
use Rattle.std.specs.Prelude.{◌≡◌, refl, Bool, true, false, cond, ℕ, ◌≤◌, ◌<◌, ltb, Option, Some, None}
use Rattle.std.proofs.Common.{sym, ap, ap₂, subst, ◌∙◌}
use mathlib.Core.List.{List, [], ◌∷◌}
use native.Mathlib.Omega.{arith}
use borrow.Author.Tests.{lt-ltb, le-ltb}
use Rattle.std.specs.Int.Bits.{bit_and, bit_xor}
use Rattle.std.proofs.Math.ListN.{length}
use Rattle.slices.specs.Places.{at}
use Rattle.block.specs.Words.{rows_of}
use Rattle.block.specs.Refusals.{answer, verdict, and_then, row_at, second, sharing}
use Rattle.block.specs.Lists.{share_check}
use Rattle.block.specs.declared.Row.{Row}
use Rattle.block.specs.declared.Answer.{Answer}
use Rattle.refusal_laws.specs.Verdicts.{then-refused, then-answered}
use Rattle.pair_laws.specs.Cube.{Sound}
use Rattle.pair_laws.specs.Closed.{demanded}
use Rattle.pair_laws.specs.Theorem.{Every}
use Rattle.pair_laws.specs.Share.{Clear, ClearBelow, sharing-none, sharing-at, second_at}
use Rattle.flat_rows.specs.Listing.{rows-count, row-at}

-- the first pair of rows that share a point, smallest first row and then smallest second
unfoldable pub pair_of : ℕ → List Row → Option (ℕ × ℕ)
pair_of n rs = cond (ltb (sharing n rs) (length rs)) (Some (sharing n rs, second n rs (sharing n rs))) None

-- r is that pair for the rows with these masks and values, whatever their words, if they are well formed
abbrev pub FirstPair : List ℕ → List ℕ → Option (ℕ × ℕ) → Type 0
FirstPair masks values r =
    (n : ℕ) (words : List ℕ) → length words ≡ length masks → Every (Sound n) (rows_of masks values words)
    → r ≡ pair_of n (rows_of masks values words)

-- the answer of check 7
abbrev pub pair_answer : Option (ℕ × ℕ) → Answer
pair_answer (Some (i, j)) = answer 7 i j
pair_answer None = answer 0 0 0

-- what two rows demand of t, by places
abbrev pub demanded_at : List ℕ → List ℕ → ℕ → ℕ → ℕ
demanded_at masks values i j = bit_and (bit_and (at masks i) (at masks j)) (bit_xor (at values i) (at values j))

-- row i shares no point with the rows behind it and below j
abbrev pub Passed : List ℕ → List ℕ → ℕ → ℕ → Type 0
Passed masks values i j = (k : ℕ) → k < j → i < k → demanded_at masks values i k ≡ 0 → ⊥

-- no row below i shares a point with a later one
abbrev pub PassedBelow : List ℕ → List ℕ → ℕ → Type 0
PassedBelow masks values i = (k : ℕ) → k < i → Passed masks values k (length masks)

-- ---- what two nested loops find

module _ (n : ℕ) (masks values words : List ℕ) (e : length values ≡ length masks) (f : length words ≡ length masks)
    (sound : Every (Sound n) (rows_of masks values words)) where
  demanded-at : (i j : ℕ) → i < length masks → j < length masks
      → demanded (row_at (rows_of masks values words) i) (row_at (rows_of masks values words) j) ≡ demanded_at masks values i j
  demanded-at i j hi hj = ap₂ demanded (row-at masks values words e f i hi) (row-at masks values words e f j hj)

  clear : (i j : ℕ) → i < length masks → j ≤ length masks → Passed masks values i j → Clear (rows_of masks values words) i j
  clear i j hi hj p k a b d = p k b a (sym (demanded-at i k hi (omega arith)) ∙ d)

  clear-below : (i : ℕ) → i ≤ length masks → PassedBelow masks values i → ClearBelow (rows_of masks values words) i
  clear-below i h p k l =
      rw (rows-count masks values words e f) (clear k (length masks) (omega arith) (omega arith) (p k l))

  -- the pair i, j at which the loops are left
  pub pair-at : (i j : ℕ) → i < j → j < length masks → PassedBelow masks values i → Passed masks values i j
      → demanded_at masks values i j ≡ 0 → Some (i, j) ≡ pair_of n (rows_of masks values words)
  unfolding pair_of
  pair-at i j h l p q d =
      let rs : List Row = rows_of masks values words in
      let c = rows-count masks values words e f in
      let m : j < length rs = omega arith in
      let z = demanded-at i j (omega arith) l ∙ d in
      let a = sharing-at n rs sound i j h m (clear-below i (omega arith) p) (clear i j (omega arith) (omega arith) q) z in
      let b = second_at n rs sound i j h m (clear i j (omega arith) (omega arith) q) z in
      rw (a, lt-ltb i (length rs) (omega arith), b)

  -- the loops end: no two rows share a point
  pub pair-none : PassedBelow masks values (length masks) → None ≡ pair_of n (rows_of masks values words)
  unfolding pair_of
  pair-none p =
      let rs : List Row = rows_of masks values words in
      let c = rows-count masks values words e f in
      let a = sharing-none n rs sound (subst (λ (m : ℕ). ClearBelow rs m) (sym c) (clear-below (length masks) (omega arith) p)) in
      rw (a, le-ltb (length rs) (length rs) (omega arith))

-- ---- check 7

pub pair-check : (n : ℕ) (rs : List Row) → pair_answer (pair_of n rs) ≡ verdict (share_check n rs ∷ [])
unfolding pair_of verdict
pair-check n rs = go (ltb (sharing n rs) (length rs))
  where
    go : (b : Bool) → pair_answer (cond b (Some (sharing n rs, second n rs (sharing n rs))) None)
        ≡ cond b (answer 7 (sharing n rs) (second n rs (sharing n rs))) (answer 0 0 0)
    go true = refl
    go false = refl

-- r is the answer of check 7 after v, for the rows with these masks and values, whatever their words, if they are well formed where it is
-- asked
abbrev pub ApartAfter : Answer → List ℕ → List ℕ → Answer → Type 0
ApartAfter v masks values r =
    (n : ℕ) (words : List ℕ) → length words ≡ length masks → (v.number ≡ 0 → Every (Sound n) (rows_of masks values words))
    → r ≡ and_then v (verdict (share_check n (rows_of masks values words) ∷ []))

module _ (v : Answer) (masks values : List ℕ) where
  pub apart-refused : (v.number ≡ 0 → ⊥) → ApartAfter v masks values v
  apart-refused h n words f sound = then-refused v _ h

  pub apart-asked : v.number ≡ 0 → (p : Option (ℕ × ℕ)) (r : Answer) → FirstPair masks values p → r ≡ pair_answer p → ApartAfter v masks values r
  apart-asked h p r first e n words f sound =
      e ∙ ap pair_answer (first n words f (sound h)) ∙ pair-check n (rows_of masks values words) ∙ then-answered v _ h
