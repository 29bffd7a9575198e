-- What checks that pass say: of a number in its range, of lent rooms that are long enough, and of n, k and the type; and what
-- holds of the word of a missing point whatever the type. Assumes nothing.
use Rattle.std.specs.Prelude.{◌≡◌, refl, Bool, true, false, cond, ◌||◌, List, [], ℕ, ◌≤◌, eqb, ltb}
use Rattle.std.proofs.Common.{arith, le-ltb, ltb-false}
use Rattle.block.specs.Limits.{outputs}
use Rattle.block.specs.Words.{none, fr, fd, missing}
use Rattle.block.specs.Refusals.{Check, verdict, outside, size_checks, typed_checks}
use Rattle.block.specs.declared.Answer.{Answer}
use Rattle.refusal_laws.specs.Verdicts.{zero-too, passes, Asked}

-- neither test passes
pub or_left : (p q : Bool) → p || q ≡ false → p ≡ false
or_left true q h = h
or_left false q h = refl

pub or_right : (p q : Bool) → p || q ≡ false → q ≡ false
or_right true q h = absurd (no h)
  where
    no : true ≡ false → ⊥
    no e = let z : ◌≡◌ {A = ℕ} 0 1 = cc in omega arith
or_right false q h = h

pub inside : (low high x : ℕ) → outside low high x ≡ false → (low ≤ x) × (x ≤ high)
inside low high x h = (ltb-false x low (or_left (ltb x low) (ltb high x) h), ltb-false high x (or_right (ltb x low) (ltb high x) h))

-- and a number within its range is not outside
pub within : (low high x : ℕ) → low ≤ x → x ≤ high → outside low high x ≡ false
within low high x a b = rw (le-ltb x low a, le-ltb high x b)

-- where no room of a method is short there are n numbers for each matrix and `most` places
pub long-enough : (n most roomT roomSigma room : ℕ) → ltb roomT n || (ltb roomSigma n || ltb room most) ≡ false
    → (n ≤ roomT) × (n ≤ roomSigma) × (most ≤ room)
long-enough n most roomT roomSigma room h =
    let rest = or_right (ltb roomT n) (ltb roomSigma n || ltb room most) h in (
      ltb-false roomT n (or_left (ltb roomT n) (ltb roomSigma n || ltb room most) h),
      ltb-false roomSigma n (or_left (ltb roomSigma n) (ltb room most) rest),
      ltb-false room most (or_right (ltb roomSigma n) (ltb room most) rest),
    )

-- sizes and a type that pass, before checks that pass
pub sizes-pass : (most n k y : ℕ) (cs : List Check) → (verdict (typed_checks most n k y cs)).number ≡ 0
    → (((1 ≤ n) × (n ≤ most)) × ((1 ≤ k) × (k ≤ outputs)) × ((fr ≤ y) × (y ≤ fd))) × ((verdict cs).number ≡ 0)
sizes-pass most n k y cs h =
    let one = passes _ _ refl h in
    let two = passes _ _ refl one.1 in
    let three = passes _ _ refl two.1 in
    ((inside 1 most n one.0, inside 1 outputs k two.0, inside fr fd y three.0), three.1)

-- the sizes and the type, as the first checks that are asked
pub asked-sizes : (most n k y : ℕ) (v : Answer) → v ≡ verdict (typed_checks most n k y []) → Asked (typed_checks most n k y []) v
asked-sizes most n k y v e = record { numbered = (refl, (refl, (refl, tt))); told = e }

-- where no type is asked for, that of fd stands in: it lets the sizes through
pub untyped : (most n k : ℕ) → verdict (typed_checks most n k fd []) ≡ verdict (size_checks most n k [])
unfolding verdict
untyped most n k = refl

-- sizes and a type that pass
pub sized : (most n k y : ℕ) (v : Answer) → v ≡ verdict (typed_checks most n k y []) → v.number ≡ 0
    → ((1 ≤ n) × (n ≤ most)) × ((1 ≤ k) × (k ≤ outputs)) × ((fr ≤ y) × (y ≤ fd))
sized most n k y v e h = (sizes-pass most n k y [] (zero-too e h)).0

-- what holds of no output and of word 0 holds of the word of a missing point
pub either-word : (P : ℕ → Type 0) → P none → P 0 → (y : ℕ) → P (missing y)
either-word P a b y = go (eqb y fr)
  where
    go : (c : Bool) → P (cond c none 0)
    go true = a
    go false = b
