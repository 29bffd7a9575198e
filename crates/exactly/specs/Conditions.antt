-- 01's conditions in its words, number by number, and that each check of an operation decides its own: ranges (1 to 4), the type (3, of
-- 02) and rooms (5), the least malformed thing (6), the first pair of rows that share a point (7), the lowest column that no row drives (11,
-- of 02), the least dependent matrix row (8) and the first step that passes 512 rows (9). Not here: the form of a line (`Forms`). Assumes nothing.
use Rattle.std.specs.Prelude.{◌≡◌, refl, Bool, true, false, not, ◌&&◌, ◌||◌, List, [], ◌∷◌, map, ◌⊎◌, ◌↔◌, ℕ, zero, suc, ◌^◌, ◌≤◌, ◌<◌, min, eqb, ltb, length}
use Rattle.std.proofs.Common.{sym, ap, ap₂, ◌∙◌, inl, inr, mul-zero, mul-one, add-one, arith, lt-ltb, le-ltb, ltb-true, ltb-false, eq-eqb, ne_eqb, eqb-true, pow_pos}
use Rattle.std.proofs.lemmas.Bool.{false≢true, eqb-false, not-true}
use Rattle.std.proofs.Math.Decide.{dec_lt, ℕ_discrete}
use Rattle.std.specs.Int.Bits.{bit_and, bit_xor}
use Rattle.std.proofs.lemmas.Nat.{xor_lt, xor_comm, and_le_r}
use Rattle.bits.specs.Digits.{bit}
use Rattle.bits.specs.Xor.{xor-cancel, xor-cancel-r}
use Rattle.bits.specs.Bit.{bit-lt, bit-and, bit-none, bit-ext}
use Rattle.slices.specs.Places.{at, first}
use Rattle.slices.specs.Least.{first-is, first_below, first_passes, first_found}
use Rattle.block.specs.Limits.{outputs, smaller_rows}
use Rattle.block.specs.Words.{fr, fd, under, word_part}
use Rattle.block.specs.Basis.{span, columns}
use Rattle.block.specs.Refusals.{Check, check, outside, typed_checks, some, bad_entry, bad_number, bad_row, malformed, row_at, share, second, sharing, driven, undriven, dependent}
use Rattle.block.specs.Lists.{bad_row_check, share_check, undriven_check, rows_after, passing, passing_check}
use Rattle.block.specs.declared.Row.{Row}
use Rattle.matrix_laws.specs.Linear.{columns-none, columns-more, columns-xor, columns-unit}
use Rattle.exactly.specs.General.{Reason, placed, plain, Decides, Decided, ◌also◌}

-- ---- tests and what they say

-- the test passes exactly where P
abbrev pub Says : Bool → Type 0 → Type 0
Says p P = (p ≡ true) ↔ P

pub says-not : {p : Bool} {P : Type 0} → Says p P → (P → ⊥) → p ≡ false
says-not {p} {P} s w = go p s
  where
    go : (p : Bool) → Says p P → p ≡ false
    go true s = absurd (w (s.0 refl))
    go false s = refl

pub says-false : {p : Bool} {P : Type 0} → Says p P → p ≡ false → P → ⊥
says-false s e w = false≢true (sym e ∙ s.1 w)

pub lt-says : (a b : ℕ) → Says (ltb a b) (a < b)
lt-says a b = (ltb-true a b, lt-ltb a b)

pub ge-says : (a b : ℕ) → Says (not (ltb a b)) (b ≤ a)
ge-says a b = (λ e. ltb-false a b (not-true (ltb a b) e), λ h. ap not (le-ltb a b h))

pub eq-says : (a b : ℕ) → Says (eqb a b) (a ≡ b)
eq-says a b = (eqb-true a b, eq-eqb a b)

pub ne-says : (a b : ℕ) → Says (not (eqb a b)) (a ≡ b → ⊥)
ne-says a b = (λ e. eqb-false a b (not-true (eqb a b) e), λ h. ap not (ne_eqb a b h))

pub or-says : {p q : Bool} {P Q : Type 0} → Says p P → Says q Q → Says (p || q) (P ⊎ Q)
or-says {p} {q} {P} {Q} s t = go p s
  where
    right : Says false P → P ⊎ Q → q ≡ true
    right s (inl w) = absurd (false≢true (s.1 w))
    right s (inr w) = t.1 w

    go : (p : Bool) → Says p P → Says (p || q) (P ⊎ Q)
    go true s = (λ e. inl (s.0 refl), λ w. refl)
    go false s = (λ e. inr (t.0 e), right s)

pub and-says : {p q : Bool} {P Q : Type 0} → Says p P → Says q Q → Says (p && q) (P × Q)
and-says {p} {q} {P} {Q} s t = go p s
  where
    go : (p : Bool) → Says p P → Says (p && q) (P × Q)
    go true s = (λ e. (s.0 refl, t.0 e), λ (w, x). t.1 x)
    go false s = (λ e. absurd (false≢true e), λ (w, x). s.1 w)

-- a check that names no place
pub plain-decided : {p : Bool} {P : Type 0} (m : ℕ) → (m ≡ 0 → ⊥) → Says p P → Decides (check p m 0 0) (plain m P)
plain-decided m h s =
    record { same = refl; refuses = h; sound = λ e. (s.0 e, refl, refl); only = λ a b (w, x, y). (s.1 w, sym x, sym y) }

-- ---- 1 to 4: x lies outside lo to hi

abbrev pub OutOfRange : ℕ → ℕ → ℕ → Type 0
OutOfRange lo hi x = (x < lo) ⊎ (hi < x)

outside-says : (lo hi x : ℕ) → Says (outside lo hi x) (OutOfRange lo hi x)
outside-says lo hi x = or-says (lt-says x lo) (lt-says hi x)

pub range-decided : (m lo hi x : ℕ) → (m ≡ 0 → ⊥) → Decides (check (outside lo hi x) m 0 0) (plain m (OutOfRange lo hi x))
range-decided m lo hi x h = plain-decided m h (outside-says lo hi x)

-- 3: the number of no type
abbrev pub NoType : ℕ → Type 0
NoType y = (y ≡ fr → ⊥) × (y ≡ fd → ⊥)

type-says : (y : ℕ) → Says (outside fr fd y) (NoType y)
type-says y = (λ e. neither ((outside-says fr fd y).0 e), λ (a, b). (outside-says fr fd y).1 (beyond a b (dec_lt y fr)))
  where
    neither : OutOfRange fr fd y → NoType y
    neither (inl l) = (λ e. omega arith, λ e. omega arith)
    neither (inr l) = (λ e. omega arith, λ e. omega arith)

    beyond : (y ≡ fr → ⊥) → (y ≡ fd → ⊥) → Dec (y < fr) → OutOfRange fr fd y
    beyond a b (yes l) = inl l
    beyond a b (no l) = inr (omega arith)

-- 1, 2 and 3 of the type, with which every operation but reading begins
abbrev pub typed_reasons : ℕ → ℕ → ℕ → ℕ → List Reason → List Reason
typed_reasons most n k y rs = plain 1 (OutOfRange 1 most n) ∷ plain 2 (OutOfRange 1 outputs k) ∷ plain 3 (NoType y) ∷ rs

pub typed-decided : {cs : List Check} {rs : List Reason} (most n k y : ℕ) → Decided cs rs
    → Decided (typed_checks most n k y cs) (typed_reasons most n k y rs)
typed-decided most n k y d =
    range-decided 1 1 most n (λ e. omega arith)
    also range-decided 2 1 outputs k (λ e. omega arith)
    also plain-decided 3 (λ e. omega arith) (type-says y)
    also d

-- ---- the least number below m with P

pub record Least (m : ℕ) (P : ℕ → Type 0) (y : ℕ) : Type 0 where
  pub below : y < m
  pub holds : P y
  pub earlier : (j : ℕ) → j < y → P j → ⊥

module _ (m : ℕ) (p : ℕ → Bool) (P : ℕ → Type 0) (s : (i : ℕ) → i < m → Says (p i) (P i)) where
  pub first-least : first m p < m → Least m P (first m p)
  first-least l =
      record {
        below = l;
        holds = (s (first m p) l).0 (first_passes m p l);
        earlier = λ j b. says-false (s j (omega arith)) (first_below m p j b);
      }

  pub least_first : (y : ℕ) → Least m P y → (first m p < m) × (first m p ≡ y)
  least_first y w =
      let l : y < m = w.below in
      let e : first m p ≡ y =
      first-is m p y (omega arith) (λ j b. says-not (s j (omega arith)) (w.earlier j b)) (λ b. (s y b).1 w.holds) in
      (omega arith, e)

-- ---- 6: the least malformed thing

-- a table entry: neither below 2^k nor the word m of a missing point
abbrev pub MalformedEntry : ℕ → ℕ → ℕ → Type 0
MalformedEntry m k x = (2 ^ k ≤ x) × (x ≡ m → ⊥)

pub entry-says : (m k x : ℕ) → Says (bad_entry m k x) (MalformedEntry m k x)
entry-says m k x = and-says (ge-says x (2 ^ k)) (ne-says x m)

-- a matrix row: not below 2^n
abbrev pub MalformedNumber : ℕ → ℕ → Type 0
MalformedNumber n x = 2 ^ n ≤ x

pub number-says : (n x : ℕ) → Says (bad_number n x) (MalformedNumber n x)
number-says n x = ge-says x (2 ^ n)

-- a row: a one among the values where the mask has none
abbrev pub OutsideMask : Row → Type 0
OutsideMask r = (i : ℕ) × (bit r.values i ≡ 1) × (bit r.mask i ≡ 0)

-- a row: mask or values not below 2^n, word not below 2^k, or a value outside the mask
abbrev pub MalformedRow : ℕ → ℕ → Row → Type 0
MalformedRow n k r = (2 ^ n ≤ r.mask) ⊎ ((2 ^ n ≤ r.values) ⊎ ((2 ^ k ≤ r.word) ⊎ OutsideMask r))

below-pow : (v : ℕ) → v < 2 ^ v
below-pow zero = omega arith
below-pow (suc v) = omega (arith, below-pow v)

-- v has a one at i and m has none
abbrev strays : ℕ → ℕ → ℕ → Bool
strays m v i = eqb (bit v i) 1 && eqb (bit m i) 0

strays-says : (m v i : ℕ) → Says (strays m v i) ((bit v i ≡ 1) × (bit m i ≡ 0))
strays-says m v i = and-says (eq-says (bit v i) 1) (eq-says (bit m i) 0)

pub mask-says : (m v : ℕ) → Says (not (eqb (bit_and m v) v)) ((i : ℕ) × (bit v i ≡ 1) × (bit m i ≡ 0))
mask-says m v = (λ e. found ((ne-says (bit_and m v) v).0 e), λ w. (ne-says (bit_and m v) v).1 (differs w))
  where
    differs : (i : ℕ) × (bit v i ≡ 1) × (bit m i ≡ 0) → bit_and m v ≡ v → ⊥
    differs (i, a, b) e = omega (arith, bit-and m v i, ap (λ (x : ℕ). bit x i) e)

    agrees : (i : ℕ) → ((bit v i ≡ 1) × (bit m i ≡ 0) → ⊥) → min (bit m i) (bit v i) ≡ bit v i
    agrees i w = go (ℕ_discrete (bit v i) 1) (ℕ_discrete (bit m i) 0)
      where
        go : Dec (bit v i ≡ 1) → Dec (bit m i ≡ 0) → min (bit m i) (bit v i) ≡ bit v i
        go (yes a) (yes b) = absurd (w (a, b))
        go (yes a) (no b) = omega (arith, bit-lt m i)
        go (no a) d = omega (arith, bit-lt v i)

    found : (bit_and m v ≡ v → ⊥) → (i : ℕ) × (bit v i ≡ 1) × (bit m i ≡ 0)
    found d = go (dec_lt (first v (strays m v)) v)
      where
        same : v ≤ first v (strays m v) → bit_and m v ≡ v
        same l =
            bit-ext v (bit_and m v) v (omega (arith, and_le_r m v, below-pow v)) (below-pow v)
            (λ i b. bit-and m v i ∙ agrees i (says-false (strays-says m v i) (first_below v (strays m v) i (omega arith))))

        go : Dec (first v (strays m v) < v) → (i : ℕ) × (bit v i ≡ 1) × (bit m i ≡ 0)
        go (yes l) =
            let w = (strays-says m v (first v (strays m v))).0 (first_passes v (strays m v) l) in
            (first v (strays m v), w.0, w.1)
        go (no l) = absurd (d (same (omega arith)))

pub row-says : (n k : ℕ) (r : Row) → Says (bad_row n k r) (MalformedRow n k r)
unfolding bad_row
row-says n k r =
    or-says (ge-says r.mask (2 ^ n))
    (or-says (ge-says r.values (2 ^ n)) (or-says (ge-says r.word (2 ^ k)) (mask-says r.mask r.values)))

-- 6: A says where it was met, B is the least number below m with the fault
pub least-decided : (a m : ℕ) (bad : ℕ → Bool) (Bad : ℕ → Type 0) → ((i : ℕ) → Says (bad i) (Bad i))
    → Decides (check (some m bad) 6 a (first m bad)) (placed 6 (λ x y. (x ≡ a) × Least m Bad y))
least-decided a m bad Bad s =
    record {
      same = refl;
      refuses = λ e. omega arith;
      sound = λ e. (refl, first-least m bad Bad (λ i b. s i) (ltb-true _ _ e));
      only = λ x y (u, w). let f = least_first m bad Bad (λ i b. s i) y w in (lt-ltb _ _ f.0, sym u, f.1);
    }

-- in a list of numbers
pub malformed-decided : (a : ℕ) (bad : ℕ → Bool) (Bad : ℕ → Type 0) (l : List ℕ) → ((x : ℕ) → Says (bad x) (Bad x))
    → Decides (malformed a bad l) (placed 6 (λ x y. (x ≡ a) × Least (length l) (λ i. Bad (at l i)) y))
malformed-decided a bad Bad l s = least-decided a (length l) (λ i. bad (at l i)) (λ i. Bad (at l i)) (λ i. s (at l i))

-- in a list of rows
pub bad-row-decided : (n k : ℕ) (rs : List Row)
    → Decides (bad_row_check n k rs) (placed 6 (λ x y. (x ≡ 0) × Least (length rs) (λ i. MalformedRow n k (row_at rs i)) y))
bad-row-decided n k rs =
    least-decided 0 (length rs) (λ i. bad_row n k (row_at rs i)) (λ i. MalformedRow n k (row_at rs i)) (λ i. row-says n k (row_at rs i))

-- ---- 7: two rows share a point

-- the point x lies under the row: at each fixed input x has the row's value
abbrev pub LiesUnder : Row → ℕ → Type 0
LiesUnder r x = bit_and r.mask x ≡ r.values

-- some point lies under both
abbrev pub Meet : ℕ → Row → Row → Type 0
Meet n r s = (x : ℕ) × (x < 2 ^ n) × LiesUnder r x × LiesUnder s x

-- rows a and b share a point: smallest first, then smallest second
pub record FirstPair (n : ℕ) (rs : List Row) (a b : ℕ) : Type 0 where
  pub ordered : a < b
  pub given : b < length rs
  pub shared : Meet n (row_at rs a) (row_at rs b)
  pub before : (i j : ℕ) → i < a → i < j → j < length rs → Meet n (row_at rs i) (row_at rs j) → ⊥
  pub between : (j : ℕ) → a < j → j < b → Meet n (row_at rs a) (row_at rs j) → ⊥

pub share-says : (n : ℕ) (r s : Row) → Says (share n r s) (Meet n r s)
unfolding share
share-says n r s = (λ e. found (ltb-true _ _ e), λ (x, h, a, b). lt-ltb _ _ (first_found (2 ^ n) (λ x. under r x && under s x) x h ((both x).1 (a, b))))
  where
    both : (x : ℕ) → Says (under r x && under s x) (LiesUnder r x × LiesUnder s x)
    both x = and-says (eq-says (bit_and r.mask x) r.values) (eq-says (bit_and s.mask x) s.values)

    found : first (2 ^ n) (λ x. under r x && under s x) < 2 ^ n → Meet n r s
    found l =
        let w = (both (first (2 ^ n) (λ x. under r x && under s x))).0 (first_passes (2 ^ n) (λ x. under r x && under s x) l) in
        (first (2 ^ n) (λ x. under r x && under s x), l, w.0, w.1)

module _ (n : ℕ) (rs : List Row) where
  -- row j lies behind row i and shares a point with it
  abbrev Later : ℕ → ℕ → Type 0
  Later i j = (i < j) × Meet n (row_at rs i) (row_at rs j)

  later-says : (i j : ℕ) → Says (ltb i j && share n (row_at rs i) (row_at rs j)) (Later i j)
  later-says i j = and-says (lt-says i j) (share-says n (row_at rs i) (row_at rs j))

  second-least : (i : ℕ) → second n rs i < length rs → Least (length rs) (Later i) (second n rs i)
  unfolding second
  second-least i = first-least (length rs) _ (Later i) (λ j b. later-says i j)

  least-second : (i j : ℕ) → Least (length rs) (Later i) j → (second n rs i < length rs) × (second n rs i ≡ j)
  unfolding second
  least-second i = least_first (length rs) _ (Later i) (λ j b. later-says i j)

  second-found : (i j : ℕ) → j < length rs → Later i j → second n rs i < length rs
  unfolding second
  second-found i j l w = first_found (length rs) _ j l ((later-says i j).1 w)

  -- row i shares a point with a later one
  abbrev Shares : ℕ → Type 0
  Shares i = second n rs i < length rs

  sharing-least : sharing n rs < length rs → Least (length rs) Shares (sharing n rs)
  unfolding sharing
  sharing-least = first-least (length rs) _ Shares (λ i b. lt-says (second n rs i) (length rs))

  least-sharing : (i : ℕ) → Least (length rs) Shares i → (sharing n rs < length rs) × (sharing n rs ≡ i)
  unfolding sharing
  least-sharing = least_first (length rs) _ Shares (λ i b. lt-says (second n rs i) (length rs))

  pub pair-decided : Decides (share_check n rs) (placed 7 (FirstPair n rs))
  pair-decided = record { same = refl; refuses = λ e. omega arith; sound = λ e. sound (ltb-true _ _ e); only = only }
    where
      sound : sharing n rs < length rs → FirstPair n rs (sharing n rs) (second n rs (sharing n rs))
      sound l =
          let s = sharing-least l in
          let t = second-least (sharing n rs) s.holds in
          record {
            ordered = t.holds.0;
            given = t.below;
            shared = t.holds.1;
            before = λ i j h g k w. s.earlier i h (second-found i j k (g, w));
            between = λ j g h w. t.earlier j h (g, w);
          }

      only : (a b : ℕ) → FirstPair n rs a b
          → (ltb (sharing n rs) (length rs) ≡ true) × (sharing n rs ≡ a) × (second n rs (sharing n rs) ≡ b)
      only a b f =
          let l : a < length rs = omega (arith, f.ordered, f.given) in
          let t = least-second a b (record { below = f.given; holds = (f.ordered, f.shared); earlier = λ j h (g, w). f.between j g h w }) in
          let s =
          least-sharing a
          (record {
            below = l;
            holds = t.0;
            earlier =
                λ i h k. let w = second-least i k in f.before i (second n rs i) h w.holds.0 w.below w.holds.1;
          }) in
          (lt-ltb _ _ s.0, s.1, ap (second n rs) s.1 ∙ t.1)

-- ---- 11: a column is 0 in every row

abbrev pub ZeroColumn : List Row → ℕ → Type 0
ZeroColumn rs j = (i : ℕ) → i < length rs → bit (row_at rs i).word j ≡ 0

driven-zero : (rs : List Row) (j : ℕ) → driven (map word_part rs) j ≡ false → ZeroColumn rs j
unfolding driven
driven-zero [] j e i l = absurd (omega arith)
driven-zero (r ∷ rs) j e i l = go (driven-zero rs j) (eqb (bit r.word j) 1) refl e i l
  where
    go : (driven (map word_part rs) j ≡ false → ZeroColumn rs j) → (b : Bool) → eqb (bit r.word j) 1 ≡ b
        → b || driven (map word_part rs) j ≡ false → ZeroColumn (r ∷ rs) j
    go ih true d e i l = absurd (false≢true (sym e))
    go ih false d e zero l =
        let n : bit r.word j ≡ 1 → ⊥ = eqb-false (bit r.word j) 1 d in
        omega (arith, bit-lt r.word j)
    go ih false d e (suc i) l = ih e i (omega arith)

zero-driven : (rs : List Row) (j : ℕ) → ZeroColumn rs j → driven (map word_part rs) j ≡ false
unfolding driven
zero-driven [] j z = refl
zero-driven (r ∷ rs) j z =
    rw (ne_eqb (bit r.word j) 1 (λ e. omega (arith, z 0 (omega arith)))) (zero-driven rs j (λ i l. z (suc i) (omega arith)))

column-says : (rs : List Row) (j : ℕ) → Says (not (driven (map word_part rs) j)) (ZeroColumn rs j)
column-says rs j = (λ e. driven-zero rs j (not-true _ e), λ z. ap not (zero-driven rs j z))

pub undriven-decided : (k : ℕ) (rs : List Row) → Decides (undriven_check k (map word_part rs)) (placed 11 (λ a b. Least k (ZeroColumn rs) a × (b ≡ 0)))
unfolding undriven
undriven-decided k rs =
    record {
      same = refl;
      refuses = λ e. omega arith;
      sound = λ e. (first-least k _ (ZeroColumn rs) (λ j l. column-says rs j) (ltb-true _ _ e), refl);
      only =
          λ a b (z, e). let f = least_first k _ (ZeroColumn rs) (λ j l. column-says rs j) a z in (lt-ltb _ _ f.0, f.1, sym e);
    }

-- ---- 8: a matrix row is the XOR of some set of earlier rows

-- the one-bits of z are the set: z = 0 is the empty one, whose XOR is 0
abbrev pub XorOfEarlier : (ℕ → ℕ) → ℕ → Type 0
XorOfEarlier s a = (z : ℕ) × (z < 2 ^ a) × (columns s a z ≡ s a)

-- a test says that it passes
itself : (p : Bool) → Says p (p ≡ true)
itself p = (λ e. e, λ e. e)

span-only : (c : ℕ → ℕ) (k z t : ℕ) → columns c k z ≡ t → span c k t ≡ true
unfolding span columns
span-only c zero z t e = eq-eqb t 0 (sym e)
span-only c (suc k) z t e = go (span-only c k z) (ℕ_discrete (bit z k) 0)
  where
    go : ((t : ℕ) → columns c k z ≡ t → span c k t ≡ true) → Dec (bit z k ≡ 0) → span c k t || span c k (bit_xor t (c k)) ≡ true
    go ih (yes d) =
        let f : columns c k z ≡ t = rw (d, mul-zero (c k)) at e in
        rw (ih t f)
    go ih (no d) =
        let one : bit z k ≡ 1 = omega (arith, bit-lt z k) in
        let f : bit_xor (c k) (columns c k z) ≡ t = rw (one, mul-one (c k)) at e in
        (or-says (itself (span c k t)) (itself (span c k (bit_xor t (c k))))).1
        (inr (ih (bit_xor t (c k)) (sym (xor-cancel (c k) (columns c k z)) ∙ ap (bit_xor (c k)) f ∙ xor_comm (c k) t)))

span-when : (c : ℕ → ℕ) (k t : ℕ) → span c k t ≡ true → (z : ℕ) × (z < 2 ^ k) × (columns c k z ≡ t)
unfolding span
span-when c zero t e = (0, omega arith, none-at)
  where
    none-at : columns c 0 0 ≡ t
    none-at = columns-none c 0 ∙ sym (eqb-true t 0 e)
span-when c (suc k) t e = go (span-when c k) ((or-says (itself (span c k t)) (itself (span c k (bit_xor t (c k))))).0 e)
  where
    -- without bit k, column k is left out
    short : (z : ℕ) → z < 2 ^ k → columns c (suc k) z ≡ columns c k z
    short z h = ap (λ (m : ℕ). columns c m z) (sym (add-one k)) ∙ columns-more c k z ∙ rw (bit-none z k h, mul-zero (c k))

    go : ((t : ℕ) → span c k t ≡ true → (z : ℕ) × (z < 2 ^ k) × (columns c k z ≡ t))
        → (span c k t ≡ true) ⊎ (span c k (bit_xor t (c k)) ≡ true) → (z : ℕ) × (z < 2 ^ suc k) × (columns c (suc k) z ≡ t)
    go ih (inl q) =
        let w = ih t q in
        let l : w.0 < 2 ^ k = w.1 in
        (w.0, omega arith, short w.0 l ∙ w.2)
    go ih (inr q) =
        let w = ih (bit_xor t (c k)) q in
        let l : w.0 < 2 ^ k = w.1 in (
          bit_xor w.0 (2 ^ k),
          xor_lt (suc k) w.0 (2 ^ k) (omega arith) (omega (arith, pow_pos k)),
          columns-xor c (suc k) w.0 (2 ^ k)
              ∙ ap₂ bit_xor (short w.0 l ∙ w.2) (columns-unit c (suc k) k (omega arith))
              ∙ xor-cancel-r t (c k),
        )

pub span-says : (s : ℕ → ℕ) (a : ℕ) → Says (span s a (s a)) (XorOfEarlier s a)
span-says s a = (span-when s a (s a), λ (z, h, e). span-only s a z (s a) e)

-- 8: the least such index
pub dependent-decided : (n : ℕ) (s : ℕ → ℕ)
    → Decides (check (ltb (dependent n s) n) 8 (dependent n s) 0) (placed 8 (λ a b. Least n (XorOfEarlier s) a × (b ≡ 0)))
unfolding dependent
dependent-decided n s =
    record {
      same = refl;
      refuses = λ e. omega arith;
      sound = λ e. (first-least n _ _ (λ j b. span-says s j) (ltb-true _ _ e), refl);
      only =
          λ a b (w, u).
          let f = least_first n (λ j. span s j (s j)) (XorOfEarlier s) (λ j b. span-says s j) a w in
          (lt-ltb _ _ f.0, f.1, sym u);
    }

-- ---- 9: the list passes 512 rows

-- a, from 1, is the first step after which there are more than 512 rows; m is the word of a missing point
pub record FirstPassing (m n w : ℕ) (rs : List Row) (a : ℕ) : Type 0 where
  pub step : (1 ≤ a) × (a ≤ n)
  pub passes : smaller_rows < length (rows_after m n w a rs)
  pub before : (j : ℕ) → 1 ≤ j → j < a → length (rows_after m n w j rs) ≤ smaller_rows

module _ (m n w : ℕ) (rs : List Row) where
  -- there are more than 512 rows after step i + 1
  abbrev MoreAfter : ℕ → Type 0
  MoreAfter i = smaller_rows < length (rows_after m n w (suc i) rs)

  passing-least : passing m n w rs < n → Least n MoreAfter (passing m n w rs)
  unfolding passing
  passing-least = first-least n _ MoreAfter (λ i b. lt-says smaller_rows (length (rows_after m n w (suc i) rs)))

  least-passing : (i : ℕ) → Least n MoreAfter i → (passing m n w rs < n) × (passing m n w rs ≡ i)
  unfolding passing
  least-passing = least_first n _ MoreAfter (λ i b. lt-says smaller_rows (length (rows_after m n w (suc i) rs)))

  pub passing-decided :
      Decides (passing_check m n w rs) (placed 9 (λ a b. FirstPassing m n w rs a × (b ≡ 0)))
  passing-decided = record { same = refl; refuses = λ e. omega arith; sound = λ e. (sound (ltb-true _ _ e), refl); only = only }
    where
      sound : passing m n w rs < n → FirstPassing m n w rs (suc (passing m n w rs))
      sound l = record { step = (omega arith, omega arith); passes = s.holds; before = before }
        where
          s : Least n MoreAfter (passing m n w rs)
          s = passing-least l

          before : (j : ℕ) → 1 ≤ j → j < suc (passing m n w rs) → length (rows_after m n w j rs) ≤ smaller_rows
          before zero g h = absurd (omega arith)
          before (suc j) g h = few (s.earlier j (omega arith))
            where
              few : (smaller_rows < length (rows_after m n w (suc j) rs) → ⊥) → length (rows_after m n w (suc j) rs) ≤ smaller_rows
              few no_more = omega arith

      only : (a b : ℕ) → FirstPassing m n w rs a × (b ≡ 0) → (ltb (passing m n w rs) n ≡ true) × (suc (passing m n w rs) ≡ a) × (0 ≡ b)
      only zero b (f, u) = absurd (omega (arith, f.step.0))
      only (suc i) b (f, u) =
          let l =
          least-passing i
          (record {
            below = omega (arith, f.step.1);
            holds = f.passes;
            earlier = λ j h more. omega (arith, more, f.before (suc j) (omega arith) (omega arith));
          }) in
          (lt-ltb _ _ l.0, ap suc l.1, sym u)
