-- Laws of the least place that passes a test: it is the only number with its two properties, and it has them. Assumes nothing.
use Rattle.std.specs.Prelude.{◌≡◌, refl, Bool, true, false, cond, ℕ, zero, suc, ◌≤◌, ◌<◌}
use Rattle.std.proofs.Common.{sym, ap, ◌∙◌, arith}
use Rattle.std.proofs.lemmas.Bool.{false≢true}
use Rattle.slices.specs.Places.{first}

-- no number below r passes, and r passes or is the end: r is the least place
pub first-is : (m : ℕ) (p : ℕ → Bool) (r : ℕ) → r ≤ m → ((j : ℕ) → j < r → p j ≡ false) → (r < m → p r ≡ true) → first m p ≡ r
unfolding first
first-is zero p zero h a b = refl
first-is zero p (suc r) h a b = absurd (omega arith)
first-is (suc m) p zero h a b = rw (b (omega arith))
first-is (suc m) p (suc r) h a b =
    rw (a 0 (omega arith))
    (ap suc (first-is m (λ i. p (suc i)) r (omega arith) (λ j hj. a (suc j) (omega arith)) (λ hr. b (omega arith))))

pub first-le : (m : ℕ) (p : ℕ → Bool) → first m p ≤ m
unfolding first
first-le zero p = omega arith
first-le (suc m) p = go (p 0) (first-le m (λ i. p (suc i)))
  where
    go : (b : Bool) → first m (λ i. p (suc i)) ≤ m → cond b 0 (suc (first m (λ i. p (suc i)))) ≤ suc m
    go true ih = omega arith
    go false ih = omega arith

pub first_below : (m : ℕ) (p : ℕ → Bool) (j : ℕ) → j < first m p → p j ≡ false
unfolding first
first_below zero p j h = absurd (omega arith)
first_below (suc m) p j h = go (first_below m (λ i. p (suc i))) (p 0) refl j h
  where
    go : ((j : ℕ) → j < first m (λ i. p (suc i)) → p (suc j) ≡ false)
        → (b : Bool) → p 0 ≡ b → (j : ℕ) → j < cond b 0 (suc (first m (λ i. p (suc i)))) → p j ≡ false
    go ih true e j h = absurd (omega arith)
    go ih false e zero h = e
    go ih false e (suc j) h = ih j (omega arith)

pub first_passes : (m : ℕ) (p : ℕ → Bool) → first m p < m → p (first m p) ≡ true
unfolding first
first_passes zero p h = absurd (omega arith)
first_passes (suc m) p h = go (first_passes m (λ i. p (suc i))) (p 0) refl h
  where
    go : (first m (λ i. p (suc i)) < m → p (suc (first m (λ i. p (suc i)))) ≡ true)
        → (b : Bool) → p 0 ≡ b → cond b 0 (suc (first m (λ i. p (suc i)))) < suc m
        → p (cond b 0 (suc (first m (λ i. p (suc i))))) ≡ true
    go ih true e h = e
    go ih false e h = ih (omega arith)

-- where some number passes, the least one is below the end
pub first_found : (m : ℕ) (p : ℕ → Bool) (x : ℕ) → x < m → p x ≡ true → first m p < m
unfolding first
first_found zero p x h e = absurd (omega arith)
first_found (suc m) p x h e = go (first_found m (λ i. p (suc i))) (p 0) refl x h e
  where
    go : ((x : ℕ) → x < m → p (suc x) ≡ true → first m (λ i. p (suc i)) < m)
        → (b : Bool) → p 0 ≡ b → (x : ℕ) → x < suc m → p x ≡ true → cond b 0 (suc (first m (λ i. p (suc i)))) < suc m
    go ih true d x h e = omega arith
    go ih false d zero h e = absurd (false≢true (sym d ∙ e))
    go ih false d (suc x) h e = omega (arith, ih x (omega arith) e)

-- the least place depends on the test's values alone
pub first_cong : (m : ℕ) (p q : ℕ → Bool) → ((i : ℕ) → i < m → p i ≡ q i) → first m p ≡ first m q
unfolding first
first_cong zero p q h = refl
first_cong (suc m) p q h =
    rw (h 0 (omega arith), first_cong m (λ i. p (suc i)) (λ i. q (suc i)) (λ i l. h (suc i) (omega arith)))

-- the least place depends on the test's values up to it alone
pub first-same : (m : ℕ) (p q : ℕ → Bool) → ((i : ℕ) → i < m → ((j : ℕ) → j < i → p j ≡ false) → p i ≡ q i) → first m p ≡ first m q
first-same m p q h =
    sym
    (first-is m q (first m p) (first-le m p)
    (λ j l. sym (h j (omega (arith, first-le m p)) (λ i b. first_below m p i (omega arith))) ∙ first_below m p j l)
    (λ l. sym (h (first m p) l (first_below m p)) ∙ first_passes m p l))
