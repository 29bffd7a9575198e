-- What makes a test on two numbers a strict total order, and one that puts a greater R first; orders by keys; and that the order of
-- candidates is such an order. Not here: the choice under an order (`Choice`). Assumes nothing.
use Rattle.std.specs.Prelude.{◌≡◌, refl, Bool, true, false, ◌&&◌, ◌||◌, ℕ, ◌≤◌, ◌<◌, eqb, ltb}
use Rattle.std.proofs.Common.{sym, ap, ◌∙◌, arith, eq-eqb, ne_eqb, lt-ltb, le-ltb, ltb-true, ltb-false}
use Rattle.std.proofs.Math.Decide.{ℕ_discrete}
use Rattle.std.specs.Int.Count.{ones}
use Rattle.block.specs.Basis.{before}

-- `order a b` says that a stands before b: never both ways, passed on, and one way or the other for different numbers
pub record Strict (order : ℕ → ℕ → Bool) : Type 0 where
  pub asymmetric : (a b : ℕ) → order a b ≡ true → order b a ≡ false
  pub transitive : (a b c : ℕ) → order a b ≡ true → order b c ≡ true → order a c ≡ true
  pub total : (a b : ℕ) → (a ≡ b → ⊥) → order a b ≡ false → order b a ≡ true

-- it puts a greater R first
abbrev pub GreaterFirst : (ℕ → ℕ → Bool) → (ℕ → ℕ) → Type 0
GreaterFirst order r = (a b : ℕ) → r b < r a → order a b ≡ true

-- nothing stands before itself
pub strict-self : (order : ℕ → ℕ → Bool) → Strict order → (a : ℕ) → order a a ≡ false
strict-self order s a = go (order a a) refl
  where
    go : (x : Bool) → order a a ≡ x → order a a ≡ false
    go true e = s.asymmetric a a e
    go false e = e

-- the smaller number first
pub ltb-strict : Strict ltb
ltb-strict =
    record {
      asymmetric = λ a b h. le-ltb b a (omega (arith, ltb-true a b h));
      transitive = λ a b c h k. lt-ltb a c (omega (arith, ltb-true a b h, ltb-true b c k));
      total = λ a b n h. lt-ltb b a (omega (arith, ltb-false a b h));
    }

-- the greater number first
abbrev pub more : ℕ → ℕ → Bool
more a b = ltb b a

pub more-strict : Strict more
more-strict =
    record {
      asymmetric = λ a b h. ltb-strict.asymmetric b a h;
      transitive = λ a b c h k. ltb-strict.transitive c b a k h;
      total = λ a b n h. ltb-strict.total b a (λ e. n (sym e)) h;
    }

-- ---- orders by keys

-- a stands before b where its key does; among equal keys as `order` has it
abbrev pub by_key : (ℕ → ℕ → Bool) → (ℕ → ℕ) → (ℕ → ℕ → Bool) → ℕ → ℕ → Bool
by_key less key order a b = less (key a) (key b) || (eqb (key a) (key b) && order a b)

module _ (less : ℕ → ℕ → Bool) (sl : Strict less) (key : ℕ → ℕ) (order : ℕ → ℕ → Bool) where
  -- keys decide where they differ
  key-differs : (a b : ℕ) → (key a ≡ key b → ⊥) → by_key less key order a b ≡ less (key a) (key b)
  key-differs a b n = rw (ne_eqb (key a) (key b) n) (or-none (less (key a) (key b)))
    where
      or-none : (x : Bool) → x || false ≡ x
      or-none true = refl
      or-none false = refl

  -- and else the other order
  key-equal : (a b : ℕ) → key a ≡ key b → by_key less key order a b ≡ order a b
  key-equal a b e = rw (e, strict-self less sl (key b), eq-eqb (key b) (key b) refl)

  -- a key that stands before is enough
  pub key-first : (a b : ℕ) → less (key a) (key b) ≡ true → by_key less key order a b ≡ true
  key-first a b h = rw h

  -- an order by a key is strict and total
  pub key-strict : Strict order → Strict (by_key less key order)
  key-strict s = record { asymmetric = asymmetric; transitive = transitive; total = total }
    where
      asymmetric : (a b : ℕ) → by_key less key order a b ≡ true → by_key less key order b a ≡ false
      asymmetric a b h = go (ℕ_discrete (key a) (key b))
        where
          go : Dec (key a ≡ key b) → by_key less key order b a ≡ false
          go (yes e) = key-equal b a (sym e) ∙ s.asymmetric a b (sym (key-equal a b e) ∙ h)
          go (no n) = key-differs b a (λ e. n (sym e)) ∙ sl.asymmetric (key a) (key b) (sym (key-differs a b n) ∙ h)

      total : (a b : ℕ) → (a ≡ b → ⊥) → by_key less key order a b ≡ false → by_key less key order b a ≡ true
      total a b m h = go (ℕ_discrete (key a) (key b))
        where
          go : Dec (key a ≡ key b) → by_key less key order b a ≡ true
          go (yes e) = key-equal b a (sym e) ∙ s.total a b m (sym (key-equal a b e) ∙ h)
          go (no n) = key-differs b a (λ e. n (sym e)) ∙ sl.total (key a) (key b) n (sym (key-differs a b n) ∙ h)

      transitive : (a b c : ℕ) → by_key less key order a b ≡ true → by_key less key order b c ≡ true → by_key less key order a c ≡ true
      transitive a b c h k = go (ℕ_discrete (key a) (key b)) (ℕ_discrete (key b) (key c))
        where
          go : Dec (key a ≡ key b) → Dec (key b ≡ key c) → by_key less key order a c ≡ true
          go (yes e) (yes d) =
              key-equal a c (e ∙ d) ∙ s.transitive a b c (sym (key-equal a b e) ∙ h) (sym (key-equal b c d) ∙ k)
          go (yes e) (no n) = key-first a c (ap (λ (x : ℕ). less x (key c)) e ∙ sym (key-differs b c n) ∙ k)
          go (no n) (yes d) = key-first a c (ap (less (key a)) (sym d) ∙ sym (key-differs a b n) ∙ h)
          go (no n) (no m) = key-first a c (sl.transitive (key a) (key b) (key c) (sym (key-differs a b n) ∙ h) (sym (key-differs b c m) ∙ k))

  -- what it says that a stands before b: the other key does not, and among equal keys the other order has it so
  key-true : (a b : ℕ) → by_key less key order a b ≡ true → (less (key b) (key a) ≡ false) × (key a ≡ key b → order a b ≡ true)
  key-true a b h = go (ℕ_discrete (key a) (key b))
    where
      go : Dec (key a ≡ key b) → (less (key b) (key a) ≡ false) × (key a ≡ key b → order a b ≡ true)
      go (yes e) = (rw e (strict-self less sl (key b)), λ d. sym (key-equal a b d) ∙ h)
      go (no n) = (sl.asymmetric (key a) (key b) (sym (key-differs a b n) ∙ h), λ d. absurd (n d))

-- ---- the order of candidates: R is the key, the greater first; then the one-bits, the fewer first; then the smaller number

-- fewer one-bits first, and then the smaller number
lighter-strict : Strict (by_key ltb ones ltb)
lighter-strict = key-strict ltb ltb-strict ones ltb ltb-strict

-- it is a strict total order, for every R
pub before-strict : (r : ℕ → ℕ) → Strict (before r)
unfolding before
before-strict r = key-strict more more-strict r (by_key ltb ones ltb) lighter-strict

-- it puts a greater R first
pub before-greater : (r : ℕ → ℕ) → GreaterFirst (before r) r
unfolding before
before-greater r a b h = key-first more more-strict r (by_key ltb ones ltb) a b (lt-ltb (r b) (r a) h)

-- what it says that a stands before b
pub record Ahead (r : ℕ → ℕ) (a b : ℕ) : Type 0 where
  pub value : r b ≤ r a
  pub weight : r a ≡ r b → ones a ≤ ones b
  pub number : r a ≡ r b → ones a ≡ ones b → a < b

pub before-true : (r : ℕ → ℕ) (a b : ℕ) → before r a b ≡ true → Ahead r a b
unfolding before
before-true r a b h =
    let t = key-true more more-strict r (by_key ltb ones ltb) a b h in
    let u : r a ≡ r b → (ltb (ones b) (ones a) ≡ false) × (ones a ≡ ones b → ltb a b ≡ true) =
    λ e. key-true ltb ltb-strict ones ltb a b (t.1 e) in
    record {
      value = ltb-false (r a) (r b) t.0;
      weight = λ e. ltb-false (ones b) (ones a) (u e).0;
      number = λ e o. ltb-true a b ((u e).1 o);
    }
