-- How the next pair is found without looking at every row anew (02, Ticket 9, "the pair with the smallest first and then smallest second
-- row"). One row is looked at, and every pair whose first row is among the rows below `seen` has that row in it: so the least row that
-- joins it, before it or behind it, makes the next pair. After a join the joined row is the one to look at: it may join an earlier row, and no
-- other row below `seen` can have got a pair. Assumes nothing.
use Rattle.std.specs.Prelude.{◌≡◌, Bool, cond, ◌&&◌, List, [], ◌∷◌, ◌⊎◌, ℕ, zero, suc, ◌-◌, ◌≤◌, ◌<◌, set}
use Rattle.std.proofs.Math.Path.{refl}
use Rattle.std.proofs.Common.{sym, ap, ap₂, ◌∙◌, inl, inr, get_or-set_other}
use Rattle.std.proofs.Math.Bool.{true, false}
use Rattle.std.proofs.lemmas.Bool.{false≢true}
use Rattle.std.proofs.Math.Decide.{dec_lt, ℕ_discrete}
use native.Mathlib.Omega.{arith}
use borrow.Author.Tests.{lt-ltb, le-ltb, ltb-true}
use Rattle.std.proofs.Math.Dec.{ltb}
use Rattle.std.proofs.Math.ListN.{length}
use Rattle.slices.specs.Places.{first}
use Rattle.slices.specs.Least.{first-is, first_below, first_passes}
use Rattle.slices.specs.Tests.{and_both}
use Rattle.block.specs.Words.{row}
use Rattle.block.specs.Refusals.{row_at}
use Rattle.block.specs.Joins.{joins, joined_row, mate, joining, pair_left, without, join_at}
use Rattle.block.specs.declared.Row.{Row}
use Rattle.join_laws.specs.Two.{joins-turn, joins-self}
use Rattle.join_laws.specs.Joined.{mate-joins, join-length}

-- ---- a list after a join, row by row

-- where the rows of a list without its row j stood before
unfoldable pub stood : ℕ → ℕ → ℕ
stood j i = cond (ltb i j) i (suc i)

pub row-without : (rs : List Row) (j i : ℕ) → row_at (without j rs) i ≡ row_at rs (stood j i)
unfolding without stood
row-without [] j i = go (ltb i j)
  where
    go : (b : Bool) → row 0 0 0 ≡ row_at [] (cond b i (suc i))
    go true = refl
    go false = refl
row-without (r ∷ rs) zero i = rw (le-ltb i 0 (omega arith))
row-without (r ∷ rs) (suc j) zero = rw (lt-ltb 0 (suc j) (omega arith))
row-without (r ∷ rs) (suc j) (suc i) = row-without rs j i ∙ go (dec_lt i j)
  where
    go : Dec (i < j) → row_at rs (cond (ltb i j) i (suc i)) ≡ row_at (r ∷ rs) (cond (ltb (suc i) (suc j)) (suc i) (suc (suc i)))
    go (yes h) = rw (lt-ltb i j h, lt-ltb (suc i) (suc j) (omega arith))
    go (no h) = rw (le-ltb i j (omega arith), le-ltb (suc i) (suc j) (omega arith))

pub stood-before : (j i : ℕ) → i < j → stood j i ≡ i
unfolding stood
stood-before j i h = rw (lt-ltb i j h)

pub stood-behind : (j i : ℕ) → j ≤ i → stood j i ≡ suc i
unfolding stood
stood-behind j i h = rw (le-ltb i j h)

-- a row that is not the joined one is a row that was there, and is neither of the two
other_row : (rs : List Row) (i j x : ℕ) → i < j → (x ≡ i → ⊥) → row_at (join_at i j rs) x ≡ row_at rs (stood j x)
unfolding join_at
other_row rs i j x l d =
    row-without (set rs i (joined_row (row_at rs i) (row_at rs j))) j x
    ∙ get_or-set_other rs i (stood j x) (joined_row (row_at rs i) (row_at rs j)) (row 0 0 0) (go (dec_lt x j))
  where
    go : Dec (x < j) → stood j x ≡ i → ⊥
    go (yes h) e = d (sym (stood-before j x h) ∙ e)
    go (no h) e = omega (arith, stood-behind j x (omega arith), e)

-- ---- the row that is looked at

-- the least row that joins row c, before it or behind it; the number of rows where there is none
unfoldable pub nearest : List Row → ℕ → ℕ
nearest rs c = first (length rs) (λ q. joins (row_at rs q) (row_at rs c))

-- c is looked at: every pair whose first row is one of the first `seen` has c in it
pub record Looked (rs : List Row) (c seen : ℕ) : Type 0 where
  pub place : c < seen
  pub few : seen ≤ length rs
  pub only : (i j : ℕ) → i < j → j < length rs → i < seen → joins (row_at rs i) (row_at rs j) ≡ true → (i ≡ c) ⊎ (j ≡ c)

pub looked-first : (rs : List Row) → 1 ≤ length rs → Looked rs 0 1
looked-first rs h = record { place = omega arith; few = h; only = λ i j l m s e. inl (omega arith) }

-- row q and row c in their order: the first and the second of the pair
pub record Ordered (c q i j : ℕ) : Type 0 where
  pub lower : q < c → (i ≡ q) × (j ≡ c)
  pub upper : c ≤ q → (i ≡ c) × (j ≡ q)

-- how many rows were seen, after the second row of the pair went
pub record StillSeen (seen j seen' : ℕ) : Type 0 where
  pub fewer : j < seen → suc seen' ≡ seen
  pub same : seen ≤ j → seen' ≡ seen

module _ (rs : List Row) (c seen : ℕ) (s : Looked rs c seen) where
  -- a row that joins c is not before the least one
  joins-nearest : (q : ℕ) → q < length rs → joins (row_at rs q) (row_at rs c) ≡ true → nearest rs c ≤ q
  unfolding nearest
  joins-nearest q h e = go (dec_lt q (first (length rs) (λ q. joins (row_at rs q) (row_at rs c))))
    where
      go : Dec (q < first (length rs) (λ q. joins (row_at rs q) (row_at rs c))) → first (length rs) (λ q. joins (row_at rs q) (row_at rs c)) ≤ q
      go (yes l) = absurd (false≢true (sym (first_below (length rs) (λ q. joins (row_at rs q) (row_at rs c)) q l) ∙ e))
      go (no l) = omega arith

  -- of a pair whose first row was seen, the other row is no nearer than the nearest
  pair-nearest : (i j : ℕ) → i < j → j < length rs → i < seen → joins (row_at rs i) (row_at rs j) ≡ true
      → ((j ≡ c) × (nearest rs c ≤ i)) ⊎ ((i ≡ c) × (nearest rs c ≤ j))
  pair-nearest i j l m h e = go (s.only i j l m h e)
    where
      go : (i ≡ c) ⊎ (j ≡ c) → ((j ≡ c) × (nearest rs c ≤ i)) ⊎ ((i ≡ c) × (nearest rs c ≤ j))
      go (inl d) =
          inr (
            d,
            joins-nearest j m (joins-turn (row_at rs j) (row_at rs c) ∙ ap (λ (x : ℕ). joins (row_at rs x) (row_at rs j)) (sym d) ∙ e),
          )
      go (inr d) = inl (d, joins-nearest i (omega arith) (ap (λ (x : ℕ). joins (row_at rs i) (row_at rs x)) (sym d) ∙ e))

  -- so where no row joins c there is no pair whose first row was seen
  none_seen : length rs ≤ nearest rs c → (i j : ℕ) → i < j → j < length rs → i < seen → joins (row_at rs i) (row_at rs j) ≡ true → ⊥
  none_seen h i j l m u e = go (pair-nearest i j l m u e)
    where
      go : ((j ≡ c) × (nearest rs c ≤ i)) ⊎ ((i ≡ c) × (nearest rs c ≤ j)) → ⊥
      go (inl d) = omega (arith, d.1)
      go (inr d) = omega (arith, d.1)

  -- a pair before which no other comes is the next
  next-is : (i j : ℕ) → i < j → j < length rs → i < seen → joins (row_at rs i) (row_at rs j) ≡ true
      → ((a b : ℕ) → a < b → b < length rs → a < seen → joins (row_at rs a) (row_at rs b) ≡ true → (i ≤ a) × (a ≡ i → j ≤ b))
      → (mate rs i ≡ j) × (joining rs ≡ i)
  unfolding mate joining
  next-is i j l m u e least = (second, first-is (length rs) (λ a. ltb (mate rs a) (length rs)) i (omega arith) earlier (λ h. lt-ltb (mate rs i) (length rs) (omega (arith, second))))
    where
      nearer : (b : ℕ) → b < j → ltb i b && joins (row_at rs i) (row_at rs b) ≡ false
      nearer b h = go (ltb i b && joins (row_at rs i) (row_at rs b)) refl
        where
          go : (t : Bool) → ltb i b && joins (row_at rs i) (row_at rs b) ≡ t → ltb i b && joins (row_at rs i) (row_at rs b) ≡ false
          go true d =
              let p = and_both (ltb i b) (joins (row_at rs i) (row_at rs b)) d in
              absurd (omega (arith, (least i b (ltb-true i b p.0) (omega arith) u p.1).1 refl))
          go false d = d

      second : mate rs i ≡ j
      second = first-is (length rs) (λ b. ltb i b && joins (row_at rs i) (row_at rs b)) j (omega arith) nearer (λ h. rw (lt-ltb i j l, e))

      earlier : (a : ℕ) → a < i → ltb (mate rs a) (length rs) ≡ false
      earlier a h = go (dec_lt (mate rs a) (length rs))
        where
          go : Dec (mate rs a < length rs) → ltb (mate rs a) (length rs) ≡ false
          go (yes d) =
              let p = mate-joins rs a d in
              absurd (omega (arith, (least a (mate rs a) p.0 p.1 (omega arith) p.2).0))
          go (no d) = le-ltb (mate rs a) (length rs) (omega arith)

  -- ---- some row joins c

  module _ (near : nearest rs c < length rs) (i j : ℕ) (o : Ordered c (nearest rs c) i j) where
    found : joins (row_at rs (nearest rs c)) (row_at rs c) ≡ true
    unfolding nearest
    found = first_passes (length rs) (λ q. joins (row_at rs q) (row_at rs c)) near

    -- it is another row
    pub apart : nearest rs c ≡ c → ⊥
    apart e = false≢true (sym (joins-self (row_at rs c)) ∙ ap (λ (q : ℕ). joins (row_at rs q) (row_at rs c)) (sym e) ∙ found)

    -- c and that row are the next pair
    pub next-pair : (i < j) × (j < length rs) × (mate rs i ≡ j) × (joining rs ≡ i)
    next-pair = go (dec_lt (nearest rs c) c)
      where
        go : Dec (nearest rs c < c) → (i < j) × (j < length rs) × (mate rs i ≡ j) × (joining rs ≡ i)
        go (yes l) =
            let p = o.lower l in
            let e = ap₂ (λ (a b : ℕ). joins (row_at rs a) (row_at rs b)) p.0 p.1 ∙ found in
            let a : i < j = omega (arith, p.0, p.1) in
            let b : j < length rs = omega (arith, p.1, s.place, s.few) in
            let d = next-is i j a b (omega (arith, p.0, s.place)) e (λ x y h m u t. least x y h (pair-nearest x y h m u t)) in
            (a, b, d.0, d.1)
          where
            least : (x y : ℕ) → x < y → ((y ≡ c) × (nearest rs c ≤ x)) ⊎ ((x ≡ c) × (nearest rs c ≤ y)) → (i ≤ x) × (x ≡ i → j ≤ y)
            least x y h (inl d) = (omega (arith, d.1, (o.lower l).0), λ z. omega (arith, d.0, (o.lower l).1))
            least x y h (inr d) = (omega (arith, d.0, (o.lower l).0), λ z. omega (arith, d.0, z, (o.lower l).0))
        go (no l) =
            let p = o.upper (omega arith) in
            let e =
            ap₂ (λ (a b : ℕ). joins (row_at rs a) (row_at rs b)) p.0 p.1 ∙ joins-turn (row_at rs c) (row_at rs (nearest rs c)) ∙ found in
            let a : i < j = less l (ℕ_discrete (nearest rs c) c) in
            let b : j < length rs = omega (arith, p.1) in
            let d = next-is i j a b (omega (arith, p.0, s.place)) e (λ x y h m u t. least x y h (pair-nearest x y h m u t)) in
            (a, b, d.0, d.1)
          where
            less : (nearest rs c < c → ⊥) → Dec (nearest rs c ≡ c) → i < j
            less l (yes z) = absurd (apart z)
            less l (no z) = omega (arith, (o.upper (omega arith)).0, (o.upper (omega arith)).1)

            least : (x y : ℕ) → x < y → ((y ≡ c) × (nearest rs c ≤ x)) ⊎ ((x ≡ c) × (nearest rs c ≤ y)) → (i ≤ x) × (x ≡ i → j ≤ y)
            least x y h (inl d) = absurd (omega (arith, d.0, d.1, l))
            least x y h (inr d) = (omega (arith, d.0, (o.upper (omega arith)).0), λ z. omega (arith, d.1, (o.upper (omega arith)).1))

    -- c is one of the two
    one_of : (x : ℕ) → x ≡ c → (x ≡ i → ⊥) → x ≡ j
    one_of x e d = go (dec_lt (nearest rs c) c)
      where
        go : Dec (nearest rs c < c) → x ≡ j
        go (yes l) = e ∙ sym (o.lower l).1
        go (no l) = absurd (d (e ∙ sym (o.upper (omega arith)).0))

    -- after the join the joined row is looked at
    pub looked-join : (seen' : ℕ) → StillSeen seen j seen' → Looked (join_at i j rs) i seen'
    looked-join seen' t =
        let p = next-pair in
        record {
          place = place (dec_lt j seen) (dec_lt (nearest rs c) c) p.0;
          few = few (dec_lt j seen) (join-length 0 rs i j p.0 p.1) p.1;
          only = λ x y l m u e. only x y l (omega (arith, join-length 0 rs i j p.0 p.1)) u (ℕ_discrete x i) (ℕ_discrete y i) p.0 e;
        }
      where
        place : Dec (j < seen) → Dec (nearest rs c < c) → i < j → i < seen'
        place (yes l) d h = omega (arith, t.fewer l)
        place (no l) (yes d) h = absurd (omega (arith, (o.lower d).1, s.place, l))
        place (no l) (no d) h = omega (arith, (o.upper (omega arith)).0, s.place, t.same (omega arith))

        few : Dec (j < seen) → suc (length (join_at i j rs)) ≡ length rs → j < length rs → seen' ≤ length (join_at i j rs)
        few (yes l) e h = omega (arith, t.fewer l, s.few)
        few (no l) e h = omega (arith, t.same (omega arith))

        was-seen : (x : ℕ) → Dec (x < j) → Dec (j < seen) → x < seen' → stood j x < seen
        was-seen x (yes a) (yes b) u = omega (arith, stood-before j x a, t.fewer b)
        was-seen x (yes a) (no b) u = omega (arith, stood-before j x a, t.same (omega arith))
        was-seen x (no a) (yes b) u = omega (arith, stood-behind j x (omega arith), t.fewer b)
        was-seen x (no a) (no b) u = absurd (omega (arith, t.same (omega arith)))

        in_order : (x y : ℕ) → x < y → Dec (x < j) → Dec (y < j) → stood j x < stood j y
        in_order x y l (yes a) (yes b) = omega (arith, stood-before j x a, stood-before j y b)
        in_order x y l (yes a) (no b) = omega (arith, stood-before j x a, stood-behind j y (omega arith))
        in_order x y l (no a) (yes b) = absurd (omega arith)
        in_order x y l (no a) (no b) = omega (arith, stood-behind j x (omega arith), stood-behind j y (omega arith))

        not-second : (x : ℕ) → Dec (x < j) → stood j x ≡ j → ⊥
        not-second x (yes a) e = omega (arith, stood-before j x a)
        not-second x (no a) e = omega (arith, stood-behind j x (omega arith))

        not_first : (x : ℕ) → Dec (x < j) → i < j → (x ≡ i → ⊥) → stood j x ≡ i → ⊥
        not_first x (yes a) h d e = d (sym (stood-before j x a) ∙ e)
        not_first x (no a) h d e = omega (arith, stood-behind j x (omega arith))

        at-end : (y : ℕ) → Dec (y < j) → suc y < length rs → stood j y < length rs
        at-end y (yes a) h = omega (arith, stood-before j y a)
        at-end y (no a) h = omega (arith, stood-behind j y (omega arith))

        only : (x y : ℕ) → x < y → suc y < length rs → x < seen' → Dec (x ≡ i) → Dec (y ≡ i) → i < j
            → joins (row_at (join_at i j rs) x) (row_at (join_at i j rs) y) ≡ true → (x ≡ i) ⊎ (y ≡ i)
        only x y l m u (yes a) b h e = inl a
        only x y l m u (no a) (yes b) h e = inr b
        only x y l m u (no a) (no b) h e =
            absurd
            (go
            (s.only (stood j x) (stood j y) (in_order x y l (dec_lt x j) (dec_lt y j)) (at-end y (dec_lt y j) m)
            (was-seen x (dec_lt x j) (dec_lt j seen) u)
            (ap₂ joins (sym (other_row rs i j x h a)) (sym (other_row rs i j y h b)) ∙ e)))
          where
            go : (stood j x ≡ c) ⊎ (stood j y ≡ c) → ⊥
            go (inl d) = not-second x (dec_lt x j) (one_of (stood j x) d (not_first x (dec_lt x j) h a))
            go (inr d) = not-second y (dec_lt y j) (one_of (stood j y) d (not_first y (dec_lt y j) h b))

  -- ---- no row joins c

  module _ (none : length rs ≤ nearest rs c) where
    -- the next row is looked at
    pub looked-more : seen < length rs → (next : ℕ) → next ≡ suc seen → Looked rs seen next
    looked-more h next e =
        record {
          place = omega arith;
          few = omega arith;
          only = λ i j l m u t. go i j l m t (dec_lt i seen) (omega arith);
        }
      where
        go : (i j : ℕ) → i < j → j < length rs → joins (row_at rs i) (row_at rs j) ≡ true → Dec (i < seen) → i ≤ seen → (i ≡ seen) ⊎ (j ≡ seen)
        go i j l m t (yes d) u = absurd (none_seen none i j l m d t)
        go i j l m t (no d) u = inl (omega arith)

    -- or there is none, and no pair is left
    pub looked-all : seen ≡ length rs → pair_left rs ≡ false
    unfolding joining
    looked-all e =
        le-ltb (joining rs) (length rs)
        (omega (arith, first-is (length rs) (λ i. ltb (mate rs i) (length rs)) (length rs) (omega arith) each (λ h. absurd (omega arith))))
      where
        each : (i : ℕ) → i < length rs → ltb (mate rs i) (length rs) ≡ false
        each i h = go (dec_lt (mate rs i) (length rs))
          where
            go : Dec (mate rs i < length rs) → ltb (mate rs i) (length rs) ≡ false
            go (yes d) =
                let p = mate-joins rs i d in
                absurd (none_seen none i (mate rs i) p.0 p.1 (omega arith) p.2)
            go (no d) = le-ltb (mate rs i) (length rs) (omega arith)
