-- A refusal leaves a lent list alone; and where no line is faulty, a lent list to which the rows' fields are copied holds them.
-- Assumes nothing.
use Rattle.std.specs.Prelude.{◌≡◌, refl, Bool, true, false, cond, List, ℕ, ◌+◌, ◌*◌, ltb, length}
use Rattle.std.proofs.Common.{ap, ◌∙◌, arith, eq-eqb, ne_eqb, ltb-true, ltb-false}
use Rattle.slices.specs.Places.{at, tab, first, over}
use Rattle.slices.specs.Filled.{tab-cong, over-at}
use Rattle.slices.specs.Least.{first-le}
use Rattle.read_laws.specs.ByPlace.{broken_line, end_of, fault_of, filled_of}

-- a faulty line leaves the list
pub filled-not : (fault p : ℕ) (f : ℕ → ℕ) (l : List ℕ) → (fault ≡ p + 2 → ⊥) → l ≡ filled_of fault p f l
unfolding filled_of
filled-not fault p f l h = rw (ne_eqb fault (p + 2) h)

-- where no line is faulty, no row is broken
pub none-broken : (s : List ℕ) (n k p : ℕ) → fault_of s n k p ≡ p + 2 → first p (broken_line s n k) ≡ p
unfolding fault_of
none-broken s n k p = go (ltb (first p (broken_line s n k)) p) refl
  where
    go : (b : Bool) → ltb (first p (broken_line s n k)) p ≡ b
        → cond b (first p (broken_line s n k))
        (end_of (at s (p * (n + k + 2))) (at s (p * (n + k + 2) + 1)) (at s (p * (n + k + 2) + 2)) (length s) (p * (n + k + 2) + 3) p)
        ≡ p + 2
        → first p (broken_line s n k) ≡ p
    go true t e = absurd (omega (arith, ltb-true (first p (broken_line s n k)) p t, e))
    go false t e = omega (arith, ltb-false (first p (broken_line s n k)) p t, first-le p (broken_line s n k))

-- copied from a list at whose front they lie
pub filled-copied : (fault p r : ℕ) (f : ℕ → ℕ) (held from l l' : List ℕ) → fault ≡ p + 2 → r ≡ p → from ≡ over (tab r f) held
    → l' ≡ over (tab p (at from)) l → l' ≡ filled_of fault p f l
unfolding filled_of
filled-copied fault p r f held from l l' h e lie c =
    c
    ∙ rw (eq-eqb fault (p + 2) h)
    (ap (λ (x : List ℕ). over x l)
    (tab-cong p (at from) f (λ i b. ap (λ (x : List ℕ). at x i) (lie ∙ ap (λ (j : ℕ). over (tab j f) held) e) ∙ over-at p f held 0 i b)))
