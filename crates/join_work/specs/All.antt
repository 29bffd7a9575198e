-- One join in the three slices of a list, and all joins: what the loop holds after each. Assumes nothing.
use Rattle.std.specs.Prelude.{◌≡◌, refl, List, ℕ, suc, ◌+◌, ◌-◌, ◌≤◌, ◌<◌, set}
use Rattle.std.proofs.Math.Path.{sym, ap}
use Rattle.std.proofs.Common.{◌∙◌, arith, get_or-set_other}
use Rattle.std.proofs.Math.Bool.{true}
use Rattle.std.proofs.Math.Decide.{dec_lt}
use borrow.Author.Tests.{lt-ltb}
use Rattle.std.specs.Int.Bits.{bit_and, bit_xor}
use Rattle.std.proofs.Math.ListN.{length}
use Rattle.slices.specs.Places.{at}
use Rattle.block.specs.Joins.{joining, pair_left, join_at, join_next, joined}
use Rattle.flat_rows.specs.Listing.{rows_from}
use Rattle.join_laws.specs.Joined.{joined-done, joined_step}
use Rattle.join_laws.specs.Next.{nearest, Looked, Ordered, StillSeen, looked-first, next-pair, looked-join, looked-more, looked-all}
use Rattle.join_work.specs.Closing.{Closed, long, join-slices}

-- ---- one join

-- rows i and j of the first p are joined; the last of the p records is all zeros, and those beyond hold what they held
pub record OneJoin (p i j : ℕ) (m v w m' v' w' : List ℕ) : Type 0 where
  pub rows : (c : ℕ) → suc c ≡ p → rows_from c m' v' w' ≡ join_at i j (rows_from p m v w)
  pub freed : (q : ℕ) → suc q ≡ p → (at m' q ≡ 0) × (at v' q ≡ 0) × (at w' q ≡ 0)
  pub beyond : (q : ℕ) → p ≤ q → (at m' q ≡ at m q) × (at v' q ≡ at v q) × (at w' q ≡ at w q)

pub one-join : (p i j : ℕ) (m v w m' v' w' : List ℕ) → i < j → j < p → p ≤ length m → p ≤ length v
    → Closed p j (set m i (bit_xor (at m i) (bit_xor (at v i) (at v j)))) m' → Closed p j (set v i (bit_and (at v i) (at v j))) v'
    → Closed p j w w' → OneJoin p i j m v w m' v' w'
one-join p i j m v w m' v' w' h l um uv a b d =
    record {
      rows = λ c e. join-slices p i j m v w h l um uv c e a b d;
      freed = λ q e. (a.freed q e, b.freed q e, d.freed q e);
      beyond = λ q e. (
        a.beyond q e ∙ get_or-set_other m i q (bit_xor (at m i) (bit_xor (at v i) (at v j))) 0 (λ z. omega arith),
        b.beyond q e ∙ get_or-set_other v i q (bit_and (at v i) (at v j)) 0 (λ z. omega arith),
        d.beyond q e,
      );
    }

-- ---- all joins

-- the slices at the end: the joined list, and each freed record all zeros
pub record AllJoined (count : ℕ) (m v w m' v' w' : List ℕ) : Type 0 where
  pub lengths : (length m' ≡ length m) × (length v' ≡ length m) × (length w' ≡ length m)
  pub rows : rows_from count m' v' w' ≡ joined (rows_from (length m) m v w)
  pub counted : count ≡ length (joined (rows_from (length m) m v w))
  pub zeros : (q : ℕ) → count ≤ q → q < length m → (at m' q ≡ 0) × (at v' q ≡ 0) × (at w' q ≡ 0)

-- after some joins the slices hold `count` rows that come to the same, of which row c is looked at, and zeros behind them
pub record SoFar (count c seen : ℕ) (m v w m' v' w' : List ℕ) : Type 0 where
  pub few : count ≤ length m
  pub same : joined (rows_from count m' v' w') ≡ joined (rows_from (length m) m v w)
  pub looked : Looked (rows_from count m' v' w') c seen
  pub zeros : (q : ℕ) → count ≤ q → q < length m → (at m' q ≡ 0) × (at v' q ≡ 0) × (at w' q ≡ 0)

pub so-far-none : (m v w : List ℕ) → 1 ≤ length m → SoFar (length m) 0 1 m v w m v w
so-far-none m v w h =
    record {
      few = omega arith;
      same = refl;
      looked = looked-first (rows_from (length m) m v w) (omega (arith, long (length m) m v w));
      zeros = λ q a b. absurd (omega arith);
    }

module _ (count c seen : ℕ) (m v w m' v' w' : List ℕ) (s : SoFar count c seen m v w m' v' w') (q : ℕ) (e : q ≡ nearest (rows_from count m' v' w') c) where
  -- the row that is looked at, and what was seen
  pub in_place : (c < seen) × (seen ≤ count)
  in_place = (s.looked.place, omega (arith, s.looked.few, long count m' v' w'))

  -- a row was found that joins it
  module _ (h : q < count) (i j : ℕ) (o : Ordered c q i j) where
    near : nearest (rows_from count m' v' w') c < length (rows_from count m' v' w')
    near = omega (arith, long count m' v' w', e)

    order : Ordered c (nearest (rows_from count m' v' w') c) i j
    order = rw (sym e) o

    pub pair-in-place : (i < j) × (j < count)
    pair-in-place =
        let p = next-pair (rows_from count m' v' w') c seen s.looked near i j order in
        (p.0, omega (arith, p.1, long count m' v' w'))

    -- there is less to do: a row has gone, and at most one that was seen
    pub less-left : (seen' : ℕ) → StillSeen seen j seen' → (count - 1) + ((count - 1) - seen') < count + (count - seen)
    less-left seen' t = go (dec_lt j seen)
      where
        go : Dec (j < seen) → (count - 1) + ((count - 1) - seen') < count + (count - seen)
        go (yes l) = omega (arith, t.fewer l, h)
        go (no l) = omega (arith, t.same (omega arith), h)

    pub so_far_more : (seen' : ℕ) (m'' v'' w'' : List ℕ) → StillSeen seen j seen' → OneJoin count i j m' v' w' m'' v'' w''
        → SoFar (count - 1) i seen' m v w m'' v'' w''
    unfolding join_next
    so_far_more seen' m'' v'' w'' t d =
        let p = next-pair (rows_from count m' v' w') c seen s.looked near i j order in
        let l = long count m' v' w' in
        let rows = d.rows (count - 1) (omega (arith, h)) in
        let left : pair_left (rows_from count m' v' w') ≡ true
        = lt-ltb (joining (rows_from count m' v' w')) (length (rows_from count m' v' w')) (omega (arith, p.0, p.1, p.3)) in
        let next : join_at i j (rows_from count m' v' w') ≡ join_next (rows_from count m' v' w')
        = sym (rw (p.3, p.2)) in
        record {
          few = omega (arith, s.few);
          same = ap joined (rows ∙ next) ∙ sym (joined_step (rows_from count m' v' w') left) ∙ s.same;
          looked = rw rows (looked-join (rows_from count m' v' w') c seen s.looked near i j order seen' t);
          zeros = λ q a b. go q (dec_lt q count) a b;
        }
      where
        go : (z : ℕ) → Dec (z < count) → count - 1 ≤ z → z < length m → (at m'' z ≡ 0) × (at v'' z ≡ 0) × (at w'' z ≡ 0)
        go z (yes u) a b = d.freed z (omega (arith, h))
        go z (no u) a b =
            let y = d.beyond z (omega arith) in
            let f = s.zeros z (omega arith) b in
            (y.0 ∙ f.0, y.1 ∙ f.1, y.2 ∙ f.2)

  -- no row joins it
  module _ (h : count ≤ q) where
    none : length (rows_from count m' v' w') ≤ nearest (rows_from count m' v' w') c
    none = omega (arith, long count m' v' w', e)

    pub so-far-next : (seen ≡ count → ⊥) → SoFar count seen (seen + 1) m v w m' v' w'
    so-far-next d =
        record {
          few = s.few;
          same = s.same;
          looked =
              looked-more (rows_from count m' v' w') c seen s.looked none (omega (arith, long count m' v' w', s.looked.few, d)) (seen + 1)
              (omega arith);
          zeros = s.zeros;
        }

    pub all-joined : (length m' ≡ length m) × (length v' ≡ length m) × (length w' ≡ length m) → seen ≡ count → AllJoined count m v w m' v' w'
    all-joined lengths d =
        let l = long count m' v' w' in
        let left = looked-all (rows_from count m' v' w') c seen s.looked none (d ∙ sym l) in
        let rows : rows_from count m' v' w' ≡ joined (rows_from (length m) m v w)
        = sym (joined-done (rows_from count m' v' w') left) ∙ s.same in
        record { lengths = lengths; rows = rows; counted = sym l ∙ ap length rows; zeros = s.zeros }
