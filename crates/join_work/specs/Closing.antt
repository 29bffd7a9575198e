-- Entries behind a place close up, in one slice and in the three of a list; what is freed is 0. Assumes nothing.
use Rattle.std.specs.Prelude.{◌≡◌, List, ℕ, suc, ◌+◌, ◌≤◌, ◌<◌, length, set}
use Rattle.std.proofs.Math.Path.{refl, sym, ap, ap₂}
use Rattle.std.proofs.Common.{◌∙◌, add-one, arith}
use Rattle.std.proofs.Math.Decide.{dec_lt, ℕ_discrete}
use Rattle.std.specs.Int.Bits.{bit_and, bit_xor}
use Rattle.std.proofs.Math.ListN.{length-set}
use Rattle.std.proofs.Math.Seq.{get_or-set_same, get_or-set_other, ext_get_or}
use Rattle.slices.specs.Places.{at}
use Rattle.slices.specs.Filled.{length-tab, tab-at}
use Rattle.block.specs.Words.{row}
use Rattle.block.specs.Refusals.{row_at}
use Rattle.block.specs.declared.Row.{Row}
use Rattle.flat_rows.specs.Listing.{rows_from}
use Rattle.block.specs.Joins.{joined_row, without, join_at}
use Rattle.join_laws.specs.Totals.{length_without}
use Rattle.join_laws.specs.Next.{stood, row-without, stood-before, stood-behind}

-- of p entries those behind j were moved one place down, so far to place k
pub record Shifted (j k : ℕ) (l l' : List ℕ) : Type 0 where
  pub same_length : length l' ≡ length l
  pub before : (q : ℕ) → q < j → at l' q ≡ at l q
  pub down : (q : ℕ) → j ≤ q → q < k → at l' q ≡ at l (suc q)
  pub rest : (q : ℕ) → k ≤ q → at l' q ≡ at l q

pub shifted_none : (j : ℕ) (l : List ℕ) → Shifted j j l l
shifted_none j l = record { same_length = refl; before = λ q h. refl; down = λ q a b. absurd (omega arith); rest = λ q h. refl }

pub shifted-more : (j k : ℕ) (l l' : List ℕ) → Shifted j k l l' → j ≤ k → k + 1 < length l → Shifted j (k + 1) l (set l' k (at l' (k + 1)))
shifted-more j k l l' s h u =
    record {
      same_length = length-set l' k (at l' (k + 1)) ∙ s.same_length;
      before = λ q a. get_or-set_other l' k q (at l' (k + 1)) 0 (λ d. omega arith) ∙ s.before q a;
      down = λ q a b. go q a (ℕ_discrete q k) (omega arith);
      rest = λ q a. get_or-set_other l' k q (at l' (k + 1)) 0 (λ d. omega arith) ∙ s.rest q (omega arith);
    }
  where
    go : (q : ℕ) → j ≤ q → Dec (q ≡ k) → q ≤ k → at (set l' k (at l' (k + 1))) q ≡ at l (suc q)
    go q a (yes e) b =
        ap (λ (i : ℕ). at (set l' k (at l' (k + 1))) i) e ∙ get_or-set_same l' k (at l' (k + 1)) 0 (omega (arith, s.same_length))
        ∙ s.rest (k + 1) (omega arith) ∙ ap (at l) (add-one k ∙ ap suc (sym e))
    go q a (no e) b = get_or-set_other l' k q (at l' (k + 1)) 0 e ∙ s.down q a (omega arith)

-- all were moved, and the last of the p is 0
pub record Closed (p j : ℕ) (l l' : List ℕ) : Type 0 where
  pub same_length : length l' ≡ length l
  pub before : (q : ℕ) → q < j → at l' q ≡ at l q
  pub down : (q : ℕ) → j ≤ q → suc q < p → at l' q ≡ at l (suc q)
  pub freed : (q : ℕ) → suc q ≡ p → at l' q ≡ 0
  pub beyond : (q : ℕ) → p ≤ q → at l' q ≡ at l q

pub closed : (p j k : ℕ) (l l' : List ℕ) → Shifted j k l l' → j ≤ k → suc k ≡ p → p ≤ length l → Closed p j l (set l' k 0)
closed p j k l l' s h e u =
    record {
      same_length = length-set l' k 0 ∙ s.same_length;
      before = λ q a. get_or-set_other l' k q 0 0 (λ d. omega arith) ∙ s.before q a;
      down = λ q a b. get_or-set_other l' k q 0 0 (λ d. omega arith) ∙ s.down q a (omega arith);
      freed = λ q a.
          let d : q ≡ k = omega arith in
          ap (λ (i : ℕ). at (set l' k 0) i) d ∙ get_or-set_same l' k 0 0 (omega (arith, s.same_length));
      beyond = λ q a. get_or-set_other l' k q 0 0 (λ d. omega arith) ∙ s.rest q (omega arith);
    }

-- ---- the rows of three slices

-- the first p rows, their number and each by its place
pub long : (p : ℕ) (m v w : List ℕ) → length (rows_from p m v w) ≡ p
long p m v w = length-tab p (λ i. row (at m i) (at v i) (at w i))

pub here : (p : ℕ) (m v w : List ℕ) (i : ℕ) → i < p → row_at (rows_from p m v w) i ≡ row (at m i) (at v i) (at w i)
here p m v w i h = tab-at p (λ i. row (at m i) (at v i) (at w i)) (row 0 0 0) i h

same_row : (a b c d e f : ℕ) → a ≡ d → b ≡ e → c ≡ f → row a b c ≡ row d e f
same_row a b c d e f p q r = rw (p, q, r)

module _ (p i j : ℕ) (m v w : List ℕ) (h : i < j) (l : j < p) (um : p ≤ length m) (uv : p ≤ length v) where
  y : Row
  y = joined_row (row (at m i) (at v i) (at w i)) (row (at m j) (at v j) (at w j))

  put : List Row
  put = set (rows_from p m v w) i y

  put-at : (a b : ℕ) (k : ℕ) → k < p → a ≡ at (set m i y.mask) k → b ≡ at (set v i y.values) k → row a b (at w k) ≡ row_at put k
  unfolding y put
  put-at a b k u ea eb = go (ℕ_discrete k i)
    where
      go : Dec (k ≡ i) → row a b (at w k) ≡ row_at put k
      go (yes e) =
          same_row a b (at w k) y.mask y.values (at w i)
          (ea ∙ ap (λ (q : ℕ). at (set m i y.mask) q) e ∙ get_or-set_same m i y.mask 0 (omega arith))
          (eb ∙ ap (λ (q : ℕ). at (set v i y.values) q) e ∙ get_or-set_same v i y.values 0 (omega arith)) (ap (at w) e)
          ∙ sym (ap (λ (q : ℕ). row_at put q) e ∙ get_or-set_same (rows_from p m v w) i y (row 0 0 0) (omega (arith, long p m v w)))
      go (no e) =
          same_row a b (at w k) (at m k) (at v k) (at w k) (ea ∙ get_or-set_other m i k y.mask 0 e)
          (eb ∙ get_or-set_other v i k y.values 0 e) refl
          ∙ sym (get_or-set_other (rows_from p m v w) i k y (row 0 0 0) e ∙ here p m v w k u)

  -- a row joined into i, and the rows behind j closed up in each slice
  pub join-slices : {m' v' w' : List ℕ} (c : ℕ) → suc c ≡ p
      → Closed p j (set m i (bit_xor (at m i) (bit_xor (at v i) (at v j)))) m'
      → Closed p j (set v i (bit_and (at v i) (at v j))) v' → Closed p j w w'
      → rows_from c m' v' w' ≡ join_at i j (rows_from p m v w)
  unfolding y put join_at
  join-slices {m'} {v'} {w'} c e a b d =
      ext_get_or (row 0 0 0) (rows_from c m' v' w') (without j put)
      (long c m' v' w' ∙ omega (arith, length_without put j (omega (arith, length-set (rows_from p m v w) i y, long p m v w)), length-set (rows_from p m v w) i y, long p m v w))
      (λ k u. at_place k (omega (arith, u, long c m' v' w')))
      ∙ ap₂ (λ (r s : Row). without j (set (rows_from p m v w) i (joined_row r s))) (sym (here p m v w i (omega arith))) (sym (here p m v w j l))
    where
      at_place : (k : ℕ) → k < c → row_at (rows_from c m' v' w') k ≡ row_at (without j put) k
      at_place k u = here c m' v' w' k u ∙ go (dec_lt k j) ∙ sym (row-without put j k)
        where
          go : Dec (k < j) → row (at m' k) (at v' k) (at w' k) ≡ row_at put (stood j k)
          go (yes q) =
              rw (stood-before j k q)
              (ap (row (at m' k) (at v' k)) (d.before k q) ∙ put-at (at m' k) (at v' k) k (omega arith) (a.before k q) (b.before k q))
          go (no q) =
              rw (stood-behind j k (omega arith))
              (ap (row (at m' k) (at v' k)) (d.down k (omega arith) (omega arith))
              ∙ put-at (at m' k) (at v' k) (suc k) (omega arith) (a.down k (omega arith) (omega arith)) (b.down k (omega arith) (omega arith)))
