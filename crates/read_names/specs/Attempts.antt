-- Attempts, one after the other: the first that is not bad decides, and it is the least number that passes a test. Assumes nothing.
use Rattle.std.specs.Prelude.{◌≡◌, refl, Bool, ℕ, zero, suc, ◌<◌, ltb}
use Rattle.std.proofs.Common.{sym, ap, ◌∙◌, arith, lt-ltb, le-ltb}
use Rattle.std.proofs.Math.Decide.{dec_lt}
use Rattle.slices.specs.Places.{first}
use Rattle.slices.specs.Least.{first-le, first_below, first_passes}
use Rattle.block.specs.ModelRead.{State, Outcome, More, Bad, on, or_else, attempt}

-- all are bad
pub attempt-none : (m : ℕ) (f : ℕ → Outcome) → ((j : ℕ) → j < m → f j ≡ Bad) → attempt m f ≡ Bad
unfolding attempt
attempt-none zero f h = refl
attempt-none (suc m) f h = rw (attempt-none m f (λ j l. h j (omega arith)), h m (omega arith))

or-good : (s : State) (o p : Outcome) → o ≡ More s → or_else o p ≡ More s
or-good s o p e = rw e

-- j is the first that is not
pub attempt-is : (m : ℕ) (f : ℕ → Outcome) (j : ℕ) (s : State) → j < m → ((i : ℕ) → i < j → f i ≡ Bad) → f j ≡ More s → attempt m f ≡ More s
unfolding attempt
attempt-is zero f j s h b e = absurd (omega arith)
attempt-is (suc m) f j s h b e = go (λ l. attempt-is m f j s l b e) (dec_lt j m)
  where
    go : (j < m → attempt m f ≡ More s) → Dec (j < m) → or_else (attempt m f) (f m) ≡ More s
    go ih (yes l) = or-good s (attempt m f) (f m) (ih l)
    go ih (no l) =
        let q : j ≡ m = omega arith in
        rw (attempt-none m f (λ i k. b i (omega arith))) (ap f (sym q) ∙ e)

-- attempts that are each a test
pub attempt-first : (m : ℕ) (f : ℕ → Outcome) (p : ℕ → Bool) (g : ℕ → State) → ((i : ℕ) → i < m → f i ≡ on (p i) (More (g i)))
    → attempt m f ≡ on (ltb (first m p) m) (More (g (first m p)))
attempt-first m f p g h = go (dec_lt (first m p) m)
  where
    go : Dec (first m p < m) → attempt m f ≡ on (ltb (first m p) m) (More (g (first m p)))
    go (yes l) =
        rw (lt-ltb (first m p) m l)
        (attempt-is m f (first m p) (g (first m p)) l
        (λ i k. h i (omega arith) ∙ ap (λ (q : Bool). on q (More (g i))) (first_below m p i k))
        (h (first m p) l ∙ ap (λ (q : Bool). on q (More (g (first m p)))) (first_passes m p l)))
    go (no l) =
        let e : first m p ≡ m = omega (arith, first-le m p) in
        rw (le-ltb (first m p) m (omega arith))
        (attempt-none m f (λ i k. h i k ∙ ap (λ (q : Bool). on q (More (g i))) (first_below m p i (omega arith))))
