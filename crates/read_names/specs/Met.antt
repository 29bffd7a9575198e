-- Bytes that are compared by place: `met_at` is the place after them where they stand, and else a place that no text reaches; met one after
-- the other they are met together (`met-then`). What a number of one or two digits is. Assumes nothing.
use Rattle.std.specs.Prelude.{◌≡◌, Bool, not, ◌&&◌, ℕ, ◌+◌, ◌/◌, ◌%◌, ◌^◌, ◌≤◌, ◌<◌, eqb, get_or, take, drop}
use Rattle.std.proofs.Math.Path.{refl}
use Rattle.std.proofs.Common.{sym, ap, ◌∙◌, add-one, arith, lt-ltb, le-ltb, eq-eqb, ne_eqb, length-drop, drop_of_length-le, take-suc, drop-cons, drop-drop}
use Rattle.std.proofs.Math.Bool.{true, false, cond}
use mathlib.Core.List.{List, [], ◌∷◌, ◌++◌}
use Rattle.std.proofs.Math.Nat.{add-zero}
use Rattle.std.proofs.Math.ListN.{length, length-append}
use Rattle.slices.specs.Places.{at}
use Rattle.block.specs.Text.{digits, decimal}

-- the text t begins with s
unfoldable pub begins : List ℕ → List ℕ → Bool
begins [] t = true
begins (b ∷ s) [] = false
begins (b ∷ s) (x ∷ t) = eqb x b && begins s t

pub begins-append : (a b t : List ℕ) → begins (a ++ b) t ≡ begins a t && begins b (drop (length a) t)
unfolding begins
begins-append [] b t = refl
begins-append (x ∷ a) b [] = refl
begins-append (x ∷ a) b (y ∷ t) = go (eqb y x) (begins-append a b t)
  where
    go : (e : Bool) → begins (a ++ b) t ≡ begins a t && begins b (drop (length a) t)
        → e && begins (a ++ b) t ≡ (e && begins a t) && begins b (drop (length a) t)
    go true ih = ih
    go false ih = refl

-- what begins a text is no longer than it
pub begins-length : (s t : List ℕ) → begins s t ≡ true → length s ≤ length t
unfolding begins
begins-length [] t e = omega arith
begins-length (b ∷ s) [] e = let z : ◌≡◌ {A = ℕ} 0 1 = cc in absurd (omega arith)
begins-length (b ∷ s) (x ∷ t) e = go (eqb x b) (begins-length s t) e
  where
    go : (q : Bool) → (begins s t ≡ true → length s ≤ length t) → q && begins s t ≡ true → length (b ∷ s) ≤ length (x ∷ t)
    go true ih e = let h = ih e in omega arith
    go false ih e = let z : ◌≡◌ {A = ℕ} 0 1 = cc in absurd (omega arith)

-- a place that no text reaches
unfoldable pub lost : ℕ
lost = 18446744073709551615

pub lost-is : lost ≡ 18446744073709551615
unfolding lost
lost-is = refl

-- the place after s, where s stands at a place of the text t
unfoldable pub met_at : List ℕ → ℕ → List ℕ → ℕ
met_at t at s = cond (begins s (drop at t)) (at + length s) lost

module _ (t : List ℕ) (h : length t < 2 ^ 63) where
  lost-none : drop lost t ≡ []
  lost-none = drop_of_length-le t {i = lost} (omega (arith, lost-is))

  -- at a lost place nothing stands, and it stays lost
  pub met-lost : (s : List ℕ) → met_at t lost s ≡ lost
  unfolding met_at begins
  met-lost [] = add-zero lost
  met-lost (b ∷ s) = rw lost-none

  pub met-yes : (at : ℕ) (s : List ℕ) → begins s (drop at t) ≡ true → met_at t at s ≡ at + length s
  unfolding met_at
  met-yes at s e = rw e

  pub met-no : (at : ℕ) (s : List ℕ) → begins s (drop at t) ≡ false → met_at t at s ≡ lost
  unfolding met_at
  met-no at s e = rw e

  both-begin : (at : ℕ) (a b : List ℕ) → begins (a ++ b) (drop at t) ≡ begins a (drop at t) && begins b (drop (at + length a) t)
  both-begin at a b =
      begins-append a b (drop at t) ∙ ap (λ (u : List ℕ). begins a (drop at t) && begins b u) (drop-drop (length a) at t)

  met-both : (at : ℕ) (a b : List ℕ) → begins a (drop at t) ≡ true → met_at t (at + length a) b ≡ met_at t at (a ++ b)
  unfolding met_at
  met-both at a b e =
      rw (both-begin at a b, e) (ap (λ (r : ℕ). cond (begins b (drop (at + length a) t)) r lost) (omega (arith, length-append a b)))

  -- bytes met one after the other are met together
  pub met-then : (at : ℕ) (a b : List ℕ) → met_at t (met_at t at a) b ≡ met_at t at (a ++ b)
  met-then at a b = go (begins a (drop at t)) refl
    where
      go : (q : Bool) → begins a (drop at t) ≡ q → met_at t (met_at t at a) b ≡ met_at t at (a ++ b)
      go true e = ap (λ (r : ℕ). met_at t r b) (met-yes at a e) ∙ met-both at a b e
      go false e =
          ap (λ (r : ℕ). met_at t r b) (met-no at a e) ∙ met-lost b
          ∙ sym (met-no at (a ++ b) (both-begin at a b ∙ ap (λ (q : Bool). q && begins b (drop (at + length a) t)) e))

  -- the same of places that were answered
  pub met-and : {r s : ℕ} (at : ℕ) (a b : List ℕ) → r ≡ met_at t at a → s ≡ met_at t r b → s ≡ met_at t at (a ++ b)
  met-and at a b p q = q ∙ ap (λ (r : ℕ). met_at t r b) p ∙ met-then at a b

  -- what follows bytes that were met stands there, or nowhere
  pub begins-then : (at : ℕ) (a : List ℕ) (x : ℕ) (b : List ℕ) → begins (a ++ (x ∷ b)) (drop at t) ≡ begins (x ∷ b) (drop (met_at t at a) t)
  unfolding met_at begins
  begins-then at a x b =
      both-begin at a (x ∷ b) ∙ go (begins a (drop at t))
    where
      go : (q : Bool) → q && begins (x ∷ b) (drop (at + length a) t) ≡ begins (x ∷ b) (drop (cond q (at + length a) lost) t)
      go true = refl
      go false = rw lost-none

  -- a place met, or lost
  pub met-found : (at : ℕ) (s : List ℕ) → (met_at t at s ≡ lost → ⊥) → begins s (drop at t) ≡ true
  met-found at s d = go (begins s (drop at t)) refl
    where
      go : (q : Bool) → begins s (drop at t) ≡ q → q ≡ true
      go true e = refl
      go false e = absurd (d (met-no at s e))

  pub met-missed : (at : ℕ) (s : List ℕ) → 1 ≤ length s → met_at t at s ≡ lost → begins s (drop at t) ≡ false
  met-missed at s l d = go (begins s (drop at t)) refl
    where
      go : (q : Bool) → begins s (drop at t) ≡ q → q ≡ false
      go true e = absurd (omega (arith, lost-is, met-yes at s e, begins-length s (drop at t) e, length-drop at t))
      go false e = refl

  -- the same as a test of the place that was answered
  pub met-test : (at : ℕ) (x : ℕ) (s : List ℕ) (r : ℕ) → r ≡ met_at t at (x ∷ s)
      → not (eqb r 18446744073709551615) ≡ begins (x ∷ s) (drop at t)
  met-test at x s r p = go (begins (x ∷ s) (drop at t)) refl
    where
      go : (q : Bool) → begins (x ∷ s) (drop at t) ≡ q → not (eqb r 18446744073709551615) ≡ q
      go true e =
          rw (ne_eqb r 18446744073709551615
          (λ d. omega (arith, met-yes at (x ∷ s) e, begins-length (x ∷ s) (drop at t) e, length-drop at t)))
      go false e = rw (eq-eqb r 18446744073709551615 (p ∙ met-no at (x ∷ s) e ∙ lost-is))

-- one byte that stands there, another one, and none
pub byte-met : (t : List ℕ) (at b : ℕ) → at < length t → get_or t at 0 ≡ b → met_at t at (b ∷ []) ≡ at + 1
unfolding met_at begins
byte-met t at b h e = rw (drop-cons t at 0 h, eq-eqb (get_or t at 0) b e)

pub byte-other : (t : List ℕ) (at b : ℕ) → at < length t → (get_or t at 0 ≡ b → ⊥) → met_at t at (b ∷ []) ≡ lost
unfolding met_at begins
byte-other t at b h e = rw (drop-cons t at 0 h, ne_eqb (get_or t at 0) b e)

pub byte_past : (t : List ℕ) (at b : ℕ) → length t ≤ at → met_at t at (b ∷ []) ≡ lost
unfolding met_at begins
byte_past t at b h = rw (drop_of_length-le t {i = at} h)

-- nothing yet, and one byte more of some bytes
pub met-none : (t : List ℕ) (at : ℕ) → met_at t at [] ≡ at
unfolding met_at begins
met-none t at = add-zero at

pub met-more : (t : List ℕ) → length t < 2 ^ 63 → (at i : ℕ) (s : List ℕ) → i < length s
    → met_at t (met_at t at (take i s)) (get_or s i 0 ∷ []) ≡ met_at t at (take (i + 1) s)
met-more t h at i s l = met-then t h at (take i s) (get_or s i 0 ∷ []) ∙ ap (met_at t at) (sym (rw (add-one i) (take-suc s i 0 l)))

-- ---- numbers

pub one-digit : (v : ℕ) → v < 10 → decimal v ≡ (48 + v) ∷ []
unfolding digits
one-digit v h = rw (lt-ltb v 10 h)

pub two_digits : (v : ℕ) → 10 ≤ v → v < 100 → decimal v ≡ (48 + v / 10) ∷ (48 + v % 10) ∷ []
unfolding digits
two_digits v h l = rw (le-ltb v 10 h, lt-ltb (v / 10) 10 (omega arith))
