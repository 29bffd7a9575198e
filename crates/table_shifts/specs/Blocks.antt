-- R of a full table by blocks of 64 points: t is high * 64 + low. The table is held to a copy of itself that is moved by low and marks
-- the points without an output, so that one comparison says all of a point. Blocks b and b XOR high add the same, so each such pair is
-- counted once. First the copy, then R, and that no sum on the way passes 2^n. Not here: what a pair of blocks adds (table_words), and
-- the order in which the values are stored (`Light`). Assumes nothing.
use Rattle.std.specs.Prelude.{◌≡◌, refl, Bool, true, false, not, ◌&&◌, List, ℕ, ◌+◌, ◌*◌, ◌-◌, ◌^◌, ◌≤◌, ◌<◌, ltb, leb, length}
use Rattle.std.proofs.Common.{sym, ◌∙◌, ltb-true, eq-eqb, ne_eqb, pow_mono}
use Rattle.std.proofs.Math.Path.{ap}
use Rattle.std.proofs.Math.Bool.{cond, and-false}
use Rattle.std.proofs.Math.Decide.{ℕ_discrete}
use native.Mathlib.Omega.{arith}
use Rattle.std.specs.Int.Bits.{bit_xor, xor_zero_r}
use Rattle.std.proofs.lemmas.Nat.{xor_lt, xor_block}
use Rattle.std.proofs.Math.Dec.{eqb}
use Rattle.bits.specs.Xor.{xor-cancel-r, eqb-turn}
use Rattle.slices.specs.Places.{at, tab, over}
use Rattle.slices.specs.Filled.{length_over, over-at, get_d_any}
use Rattle.sums.specs.Sums.{sum, count}
use Rattle.sums.specs.Laws.{count-cong, count-le, count-blocks, count-moved, sum-cong, sum_mono, sum-paired}
use Rattle.block.specs.Limits.{table_inputs, outputs}
use Rattle.block.specs.Words.{none, of_table}
use Rattle.block.specs.Measure.{same, shift}
use Rattle.block.specs.Refusals.{bad_entry}
use Rattle.table_words.specs.Matching.{hole, marked, matching, pair_adds, whole, point-lt}

-- a full table of at least one block, in which no entry is the mark
pub record FullTable (table : List ℕ) (n : ℕ) : Type 0 where
  pub entries : length table ≡ 2 ^ n
  pub least : 6 ≤ n
  pub most : n ≤ table_inputs
  pub unmarked : (i : ℕ) → i < 2 ^ n → at table i ≡ hole → ⊥

-- an entry that passes the checks is not the mark, which is no word of a missing point
pub good-unmarked : (m k x : ℕ) → (m ≡ hole → ⊥) → k ≤ outputs → bad_entry m k x ≡ false → x ≡ hole → ⊥
good-unmarked m k x other h good e = go (ltb x (2 ^ k)) refl
  where
    go : (b : Bool) → ltb x (2 ^ k) ≡ b → ⊥
    go true d = omega (arith, ltb-true x (2 ^ k) d, pow_mono h)
    go false d =
        let z : ◌≡◌ {A = Bool} true false = sym (rw (d, ne_eqb x m (λ d. other (sym d ∙ e)))) ∙ good in
        let w : ◌≡◌ {A = ℕ} 0 1 = cc in
        omega arith

-- the marked copy p: entry y is the table's entry at y XOR low
pub record Copied (table p : List ℕ) (n low : ℕ) : Type 0 where
  pub full : FullTable table n
  pub below : low < 64
  pub room : 2 ^ n ≤ length p
  pub copy : (y : ℕ) → y < 2 ^ n → at p y ≡ marked (at table (bit_xor y low))

-- a copy stored entry by entry
pub copy-made : (table p l : List ℕ) (n low : ℕ) → FullTable table n → low < 64 → 2 ^ n ≤ length l
    → p ≡ over (tab (2 ^ n) (λ y. marked (at table (bit_xor y low)))) l → Copied table p n low
copy-made table p l n low b h r e =
    record {
      full = b;
      below = h;
      room = omega (arith, ap length e ∙ length_over (2 ^ n) (λ y. marked (at table (bit_xor y low))) l r);
      copy = λ y hy. ap (λ (k : List ℕ). at k y) e ∙ over-at (2 ^ n) (λ y. marked (at table (bit_xor y low))) l 0 y hy;
    }

-- ---- R

and-turn : (a b c : Bool) → (a && (b && c)) ≡ (b && (a && c))
and-turn true b c = refl
and-turn false true c = refl
and-turn false false c = refl

-- x and x XOR t count both or neither
same_turn : (f : ℕ → ℕ) (t x : ℕ) → same f t (bit_xor x t) ≡ same f t x
unfolding same
same_turn f t x =
    rw (xor-cancel-r x t, eqb-turn (f (bit_xor x t)) (f x))
    (and-turn (not (eqb (f (bit_xor x t)) none)) (not (eqb (f x) none)) (eqb (f x) (f (bit_xor x t))))

-- the copy is compared with at once: both have an output and the words are equal
same-marked : (a b : ℕ) → (a ≡ hole → ⊥) → (not (eqb a none) && (not (eqb b none) && eqb a b)) ≡ eqb a (marked b)
same-marked a b h = go (ℕ_discrete b none) (ℕ_discrete a none)
  where
    go : Dec (b ≡ none) → Dec (a ≡ none) → (not (eqb a none) && (not (eqb b none) && eqb a b)) ≡ eqb a (marked b)
    go (yes e) d = rw (eq-eqb b none e, ne_eqb a hole h) (and-false (not (eqb a none)))
    go (no n) (yes e) = rw (ne_eqb b none n, eq-eqb a none e) (sym (ne_eqb a b (omega arith)))
    go (no n) (no m) = rw (ne_eqb b none n, ne_eqb a none m)

module _ (table p : List ℕ) (n low high : ℕ) (c : Copied table p n low) (hh : high < 2 ^ (n - 6)) where
  -- the shift moves blocks by its high part, and points within them by its low part
  moved : (b i : ℕ) → i < 64 → bit_xor (b * 64 + i) (high * 64 + low) ≡ bit_xor b high * 64 + bit_xor i low
  moved b i hi = xor_block 6 b high i low hi c.below

  -- what block b adds
  abbrev adds : ℕ → ℕ
  adds b = count (λ i. same (of_table table) (high * 64 + low) (b * 64 + i)) 64

  other-lt : (b : ℕ) → b < 2 ^ (n - 6) → bit_xor b high < 2 ^ (n - 6)
  other-lt b hb = xor_lt (n - 6) b high hb hh

  low-lt : (i : ℕ) → i < 64 → bit_xor i low < 64
  low-lt i hi = xor_lt 6 i low hi c.below

  adds-turn : (b : ℕ) → b < 2 ^ (n - 6) → adds (bit_xor b high) ≡ adds b
  adds-turn b hb =
      count-cong _ _ 64
      (λ i hi.
      sym (same_turn (of_table table) (high * 64 + low) (bit_xor b high * 64 + i))
      ∙ ap (same (of_table table) (high * 64 + low))
      (moved (bit_xor b high) i hi ∙ ap (λ (x : ℕ). x * 64 + bit_xor i low) (xor-cancel-r b high)))
      ∙ count-moved (λ i. same (of_table table) (high * 64 + low) (b * 64 + i)) (λ i. bit_xor i low) 64 low-lt (λ i hi. xor-cancel-r i low)

  adds-matching : (b : ℕ) → b < 2 ^ (n - 6) → adds b ≡ matching table p b (bit_xor b high)
  unfolding matching same
  adds-matching b hb = count-cong _ _ 64 (λ i hi. point i hi)
    where
      point : (i : ℕ) → i < 64 → same (of_table table) (high * 64 + low) (b * 64 + i) ≡ eqb (at table (b * 64 + i)) (at p (bit_xor b high * 64 + i))
      point i hi =
          let x = b * 64 + i in
          let y = bit_xor b high * 64 + i in
          let z = bit_xor b high * 64 + bit_xor i low in
          let hx : b * 64 + i < 2 ^ n = point-lt n b i c.full.least hb hi in
          let hz : bit_xor b high * 64 + bit_xor i low < 2 ^ n = point-lt n (bit_xor b high) (bit_xor i low) c.full.least (other-lt b hb) (low-lt i hi) in
          rw (
            moved b i hi,
            get_d_any table none 0 x (omega (arith, c.full.entries)),
            get_d_any table none 0 z (omega (arith, c.full.entries)),
          )
          (same-marked (at table x) (at table z) (c.full.unmarked x hx)
          ∙ ap (λ (v : ℕ). eqb (at table x) (marked (at table v))) (sym within)
          ∙ ap (eqb (at table x)) (sym (c.copy y (point-lt n (bit_xor b high) i c.full.least (other-lt b hb) hi))))
        where
          lowest : low ≡ 0 * 64 + low
          lowest = omega arith

          within : bit_xor (bit_xor b high * 64 + i) low ≡ bit_xor b high * 64 + bit_xor i low
          within =
              ap (bit_xor (bit_xor b high * 64 + i)) lowest
              ∙ xor_block 6 (bit_xor b high) 0 i low hi c.below ∙ ap (λ (v : ℕ). v * 64 + bit_xor i low) (xor_zero_r (bit_xor b high))

  -- R by pairs of blocks
  pub shift-blocks : shift (of_table table) n (high * 64 + low) ≡ sum (pair_adds table p high) (2 ^ (n - 6))
  unfolding shift pair_adds
  shift-blocks =
      ap (count (same (of_table table) (high * 64 + low))) (whole n c.full.least)
      ∙ count-blocks (same (of_table table) (high * 64 + low)) 64 (2 ^ (n - 6))
      ∙ sum-paired adds (λ b. bit_xor b high) (2 ^ (n - 6)) other-lt (λ b hb. xor-cancel-r b high) adds-turn
      ∙ sum-cong _ _ (2 ^ (n - 6))
      (λ b hb. ap (λ (x : ℕ). cond (leb b (bit_xor b high)) (x * cond (eqb b (bit_xor b high)) 1 2) 0) (adds-matching b hb))

  -- so no sum on the way passes the number of points
  pub pairs_small : (b : ℕ) → b < 2 ^ (n - 6) → sum (pair_adds table p high) (b + 1) ≤ 2 ^ n
  unfolding shift
  pairs_small b h =
      omega (
        arith,
        sum_mono (pair_adds table p high) (b + 1) (2 ^ (n - 6)) (omega arith),
        shift-blocks,
        count-le (same (of_table table) (high * 64 + low)) (2 ^ n),
      )
