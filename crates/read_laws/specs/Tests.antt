-- What tests say together: each of a list's bytes, equal lists. Of two tests: slices' `Tests`. Assumes nothing.
use Rattle.std.specs.Prelude.{◌≡◌, refl, Bool, true, false, List, [], ◌∷◌, ◌++◌, ℕ, zero, suc, ◌<◌, eqb, length}
use Rattle.std.proofs.Common.{ap₂, arith, eq-eqb, eqb-true}
use Rattle.slices.specs.Places.{at}
use Rattle.slices.specs.Tests.{and_both}
use Rattle.block.specs.Text.{every, equal}

-- no test is both
pub not-both : {A : Type 0} (b : Bool) → b ≡ true → b ≡ false → A
not-both b p q = let z : ◌≡◌ {A = ℕ} 0 1 = cc in absurd (omega arith)

pub every-at : (p : ℕ → Bool) (l : List ℕ) → every p l ≡ true → (i : ℕ) → i < length l → p (at l i) ≡ true
unfolding every
every-at p [] e i h = absurd (omega arith)
every-at p (x ∷ l) e zero h = (and_both (p x) (every p l) e).0
every-at p (x ∷ l) e (suc i) h = every-at p l (and_both (p x) (every p l) e).1 i (omega arith)

pub every-all : (p : ℕ → Bool) (l : List ℕ) → ((i : ℕ) → i < length l → p (at l i) ≡ true) → every p l ≡ true
unfolding every
every-all p [] h = refl
every-all p (x ∷ l) h = rw (h 0 (omega arith)) (every-all p l (λ i k. h (suc i) (omega arith)))

pub every_append : (p : ℕ → Bool) (a b : List ℕ) → every p a ≡ true → every p b ≡ true → every p (a ++ b) ≡ true
unfolding every
every_append p [] b e f = f
every_append p (x ∷ a) b e f =
    let h = and_both (p x) (every p a) e in
    rw h.0 (every_append p a b h.1 f)

pub equal-true : (a b : List ℕ) → equal a b ≡ true → a ≡ b
unfolding equal
equal-true [] [] e = refl
equal-true [] (y ∷ b) e = let z : ◌≡◌ {A = ℕ} 0 1 = cc in absurd (omega arith)
equal-true (x ∷ a) [] e = let z : ◌≡◌ {A = ℕ} 0 1 = cc in absurd (omega arith)
equal-true (x ∷ a) (y ∷ b) e =
    let h = and_both (eqb x y) (equal a b) e in
    ap₂ ◌∷◌ (eqb-true x y h.0) (equal-true a b h.1)

pub equal-same : (a : List ℕ) → equal a a ≡ true
unfolding equal
equal-same [] = refl
equal-same (x ∷ a) = rw (eq-eqb x x refl) (equal-same a)
