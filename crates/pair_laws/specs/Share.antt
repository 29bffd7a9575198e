-- Refusal 7: two well-formed rows share a point exactly where no input is fixed at different values in the two; the first such pair
-- as two nested loops find it; and the checks 6 and 7 together: where neither holds, the rows are disjoint. Not here: R
-- (`Theorem`). Assumes nothing.
use Rattle.std.specs.Prelude.{◌≡◌, refl, Bool, true, not, cond, ◌&&◌, ◌||◌, List, ℕ, ◌^◌, ◌≤◌, ◌<◌, eqb, length}
use Rattle.std.proofs.Common.{sym, ap, ◌∙◌, arith, pow_pos, pow_mono}
use Rattle.std.proofs.Math.Bool.{false}
use Rattle.std.proofs.lemmas.Bool.{false≢true}
use Rattle.std.proofs.Math.Decide.{dec_lt, ℕ_discrete}
use borrow.Author.Tests.{eq-eqb, ne_eqb, eqb-true, lt-ltb, le-ltb, ltb-true, ltb-false}
use Rattle.std.specs.Int.Bits.{bit_and, xor_zero_r}
use Rattle.std.proofs.Math.Dec.{ltb}
use Rattle.bits.specs.Xor.{eqb-turn}
use Rattle.slices.specs.Places.{first}
use Rattle.slices.specs.Least.{first-is, first_found, first_passes}
use Rattle.slices.specs.Tests.{and_both}
use Rattle.sums.specs.Sums.{count}
use Rattle.sums.specs.Laws.{count_none, count-some}
use Rattle.block.specs.Limits.{outputs}
use Rattle.block.specs.Words.{under}
use Rattle.block.specs.Refusals.{bad_row, row_at, share, second, sharing}
use Rattle.block.specs.Lists.{bad_row_check, share_check}
use Rattle.block.specs.declared.Row.{Row}
use Rattle.pair_laws.specs.Cube.{Sound, meets, pair-count, sound-values}
use Rattle.pair_laws.specs.Closed.{demanded, free_both, pair-closed}
use Rattle.pair_laws.specs.Theorem.{Every, Apart, Disjoint}

-- ---- two rows

-- a point under both says that they share one
pub share-at : (n : ℕ) (r s : Row) (x : ℕ) → x < 2 ^ n → under r x ≡ true → under s x ≡ true → share n r s ≡ true
unfolding share
share-at n r s x h a b = lt-ltb _ _ (first_found (2 ^ n) (λ x. under r x && under s x) x h (rw (a, b)))

-- they share a point exactly where t = 0 breaks no demand
pub share-closed : (n : ℕ) (r s : Row) → Sound n r → Sound n s → share n r s ≡ eqb (demanded r s) 0
unfolding share
share-closed n r s a b = go (ℕ_discrete (demanded r s) 0)
  where
    how-many : count (meets r s 0) (2 ^ n) ≡ cond (eqb (demanded r s) 0) (2 ^ free_both n r s) 0
    how-many =
        pair-count n r s 0 a b (pow_pos n) ∙ pair-closed n r s 0 a b
        ∙ ap (λ (e : Bool). cond e (2 ^ free_both n r s) 0) (eqb-turn 0 (demanded r s))

    go : Dec (demanded r s ≡ 0) → ltb (first (2 ^ n) (λ x. under r x && under s x)) (2 ^ n) ≡ eqb (demanded r s) 0
    go (yes e) =
        let w = count-some (meets r s 0) (2 ^ n) (rw (how-many, eq-eqb (demanded r s) 0 e) (pow_pos (free_both n r s))) in
        rw (eq-eqb (demanded r s) 0 e)
        (lt-ltb _ _
        (first_found (2 ^ n) (λ x. under r x && under s x) w.0 w.1
        (ap (λ (y : ℕ). under r w.0 && under s y) (sym (xor_zero_r w.0)) ∙ w.2)))
    go (no e) =
        rw (ne_eqb (demanded r s) 0 e)
        (le-ltb (first (2 ^ n) (λ x. under r x && under s x)) (2 ^ n)
        (omega (arith, first-is (2 ^ n) (λ x. under r x && under s x) (2 ^ n) (omega arith) none-at (λ l. absurd (omega arith)))))
      where
        none-at : (x : ℕ) → x < 2 ^ n → under r x && under s x ≡ false
        none-at x h =
            ap (λ (y : ℕ). under r x && under s y) (sym (xor_zero_r x))
            ∙ count_none (meets r s 0) (2 ^ n) (how-many ∙ rw (ne_eqb (demanded r s) 0 e)) x h

-- ---- the first pair, as two nested loops find it

-- row i shares no point with the rows behind it and below j
abbrev pub Clear : List Row → ℕ → ℕ → Type 0
Clear rs i j = (k : ℕ) → i < k → k < j → demanded (row_at rs i) (row_at rs k) ≡ 0 → ⊥

-- no row below i shares a point with a later one
abbrev pub ClearBelow : List Row → ℕ → Type 0
ClearBelow rs i = (k : ℕ) → k < i → Clear rs k (length rs)

module _ (n : ℕ) (rs : List Row) (sound : Every (Sound n) rs) where
  -- the test of `second`
  later : ℕ → ℕ → Bool
  later i j = ltb i j && share n (row_at rs i) (row_at rs j)

  later-not : (i j k : ℕ) → i < length rs → j ≤ length rs → Clear rs i j → k < j → later i k ≡ false
  unfolding later
  later-not i j k hi hj c h = go (dec_lt i k)
    where
      go : Dec (i < k) → ltb i k && share n (row_at rs i) (row_at rs k) ≡ false
      go (yes l) =
          rw (
            lt-ltb i k l,
            share-closed n (row_at rs i) (row_at rs k) (sound i hi) (sound k (omega arith)),
            ne_eqb (demanded (row_at rs i) (row_at rs k)) 0 (c k l h),
          )
      go (no m) = rw (le-ltb i k (omega arith))

  -- row i shares no point with a later one
  pub second_none : (i : ℕ) → i < length rs → Clear rs i (length rs) → second n rs i ≡ length rs
  unfolding second later
  second_none i h c =
      first-is (length rs) (later i) (length rs) (omega arith) (λ k l. later-not i (length rs) k h (omega arith) c l)
      (λ l. absurd (omega arith))

  -- the least row that row i shares a point with
  pub second_at : (i j : ℕ) → i < j → j < length rs → Clear rs i j → demanded (row_at rs i) (row_at rs j) ≡ 0 → second n rs i ≡ j
  unfolding second later
  second_at i j h l c e =
      first-is (length rs) (later i) j (omega arith) (λ k m. later-not i j k (omega arith) (omega arith) c m)
      (λ m.
      rw (
        lt-ltb i j h,
        share-closed n (row_at rs i) (row_at rs j) (sound i (omega arith)) (sound j l),
        eq-eqb (demanded (row_at rs i) (row_at rs j)) 0 e,
      ))

  -- no two rows share a point
  pub sharing-none : ClearBelow rs (length rs) → sharing n rs ≡ length rs
  unfolding sharing
  sharing-none c =
      first-is (length rs) (λ i. ltb (second n rs i) (length rs)) (length rs) (omega arith)
      (λ k l. le-ltb (second n rs k) (length rs) (omega (arith, second_none k l (c k l))))
      (λ l. absurd (omega arith))

  -- the least row that shares a point with a later one
  pub sharing-at : (i j : ℕ) → i < j → j < length rs → ClearBelow rs i → Clear rs i j → demanded (row_at rs i) (row_at rs j) ≡ 0
      → sharing n rs ≡ i
  unfolding sharing
  sharing-at i j h l c d e =
      first-is (length rs) (λ i. ltb (second n rs i) (length rs)) i (omega arith)
      (λ k m. le-ltb (second n rs k) (length rs) (omega (arith, second_none k (omega arith) (c k m))))
      (λ m. lt-ltb (second n rs i) (length rs) (omega (arith, second_at i j h l d e)))

-- ---- the checks 6 and 7

-- two rows that share a point are found
pub sharing-found : (n : ℕ) (rs : List Row) (i j : ℕ) → i < j → j < length rs → share n (row_at rs i) (row_at rs j) ≡ true
    → sharing n rs < length rs
unfolding sharing second
sharing-found n rs i j h l e =
    first_found (length rs) (λ i. ltb (second n rs i) (length rs)) i (omega arith)
    (lt-ltb (second n rs i) (length rs)
    (first_found (length rs) (λ j. ltb i j && share n (row_at rs i) (row_at rs j)) j l (rw (lt-ltb i j h, e))))

second-share : (n : ℕ) (rs : List Row) (i : ℕ) → second n rs i < length rs
    → (i < second n rs i) × (second n rs i < length rs) × (share n (row_at rs i) (row_at rs (second n rs i)) ≡ true)
unfolding second
second-share n rs i l =
    let b =
    and_both (ltb i (second n rs i)) (share n (row_at rs i) (row_at rs (second n rs i)))
    (first_passes (length rs) (λ j. ltb i j && share n (row_at rs i) (row_at rs j)) l) in
    (ltb-true _ _ b.0, l, b.1)

-- what is found are two rows that share a point
pub sharing-share : (n : ℕ) (rs : List Row) → sharing n rs < length rs
    → (sharing n rs < second n rs (sharing n rs)) × (second n rs (sharing n rs) < length rs)
    × (share n (row_at rs (sharing n rs)) (row_at rs (second n rs (sharing n rs))) ≡ true)
unfolding sharing
sharing-share n rs h =
    second-share n rs (sharing n rs) (ltb-true _ _ (first_passes (length rs) (λ i. ltb (second n rs i) (length rs)) h))

-- where none is found, no two rows share a point
pub sharing-apart : (n : ℕ) (rs : List Row) → (sharing n rs < length rs → ⊥) → Apart n rs
sharing-apart n rs no-pair i j x hi hj hx a b = go (dec_lt i j) (dec_lt j i)
  where
    go : Dec (i < j) → Dec (j < i) → i ≡ j
    go (yes l) d = absurd (no-pair (sharing-found n rs i j l hj (share-at n (row_at rs i) (row_at rs j) x hx a b)))
    go (no m) (yes l) = absurd (no-pair (sharing-found n rs j i l hi (share-at n (row_at rs j) (row_at rs i) x hx b a)))
    go (no m) (no l) = omega arith

-- and the other way round
pub apart-sharing : (n : ℕ) (rs : List Row) → Apart n rs → sharing n rs < length rs → ⊥
unfolding share
apart-sharing n rs apart h =
    let w = sharing-share n rs h in
    let l = ltb-true _ _ w.2 in
    let p : ℕ → Bool = λ x. under (row_at rs (sharing n rs)) x && under (row_at rs (second n rs (sharing n rs))) x in
    let b =
    and_both (under (row_at rs (sharing n rs)) (first (2 ^ n) p)) (under (row_at rs (second n rs (sharing n rs))) (first (2 ^ n) p))
    (first_passes (2 ^ n) p l) in
    omega (arith, w.0, apart (sharing n rs) (second n rs (sharing n rs)) (first (2 ^ n) p) h w.1 l b.0 b.1)

-- the four tests that no malformed row passes
four : (a b c d : Bool) → not a || (not b || (not c || not d)) ≡ false → (a ≡ true) × (b ≡ true) × (c ≡ true) × (d ≡ true)
four true true true true e = (refl, refl, refl, refl)
four true true true false e = absurd (false≢true (sym e))
four true true false d e = absurd (false≢true (sym e))
four true false c d e = absurd (false≢true (sym e))
four false b c d e = absurd (false≢true (sym e))

tests : (n k : ℕ) (r : Row) → bad_row n k r ≡ false
    → (ltb r.mask (2 ^ n) ≡ true) × (ltb r.values (2 ^ n) ≡ true) × (ltb r.word (2 ^ k) ≡ true)
    × (eqb (bit_and r.mask r.values) r.values ≡ true)
unfolding bad_row
tests n k r e =
    four (ltb r.mask (2 ^ n)) (ltb r.values (2 ^ n)) (ltb r.word (2 ^ k)) (eqb (bit_and r.mask r.values) r.values) e

-- a row that is not malformed is well formed
pub good-sound : (n k : ℕ) (r : Row) → bad_row n k r ≡ false → Sound n r
good-sound n k r e = record { fixed = ltb-true _ _ (tests n k r e).0; inside = eqb-true _ _ (tests n k r e).3 }

-- and its word is below 2^k
pub good-word : (n k : ℕ) (r : Row) → bad_row n k r ≡ false → r.word < 2 ^ k
good-word n k r e = ltb-true _ _ (tests n k r e).2

-- and the other way round
pub sound-good : (n k : ℕ) (r : Row) → Sound n r → r.word < 2 ^ k → bad_row n k r ≡ false
unfolding bad_row
sound-good n k r a w =
    rw (
      lt-ltb r.mask (2 ^ n) a.fixed,
      lt-ltb r.values (2 ^ n) (sound-values n r a),
      lt-ltb r.word (2 ^ k) w,
      eq-eqb (bit_and r.mask r.values) r.values a.inside,
    )

-- where 6 does not hold, no row is malformed
pub every-good : (n k : ℕ) (rs : List Row) → (bad_row_check n k rs).holds ≡ false → Every (λ r. bad_row n k r ≡ false) rs
every-good n k rs e i h = go (bad_row n k (row_at rs i)) refl
  where
    go : (b : Bool) → bad_row n k (row_at rs i) ≡ b → bad_row n k (row_at rs i) ≡ false
    go true d =
        absurd
        (omega (
          arith,
          ltb-false (first (length rs) (λ i. bad_row n k (row_at rs i))) (length rs) e,
          first_found (length rs) (λ i. bad_row n k (row_at rs i)) i h d,
        ))
    go false d = d

-- where neither 6 nor 7 holds, the rows are disjoint
pub checked-disjoint : (n k : ℕ) (rs : List Row) → k ≤ outputs → (bad_row_check n k rs).holds ≡ false → (share_check n rs).holds ≡ false
    → Disjoint n rs
checked-disjoint n k rs hk six seven =
    record {
      sound = λ i h. good-sound n k (row_at rs i) (every-good n k rs six i h);
      outputs = λ i h e. omega (arith, good-word n k (row_at rs i) (every-good n k rs six i h), pow_mono hk);
      apart = sharing-apart n rs (λ h. omega (arith, ltb-false (sharing n rs) (length rs) seven));
    }
