-- A copy of the first n entries of a list: they are what f says, and the others are as they were. It is the promise of the two loops
-- that copy records, and their invariant. Assumes nothing.
use Rattle.std.specs.Prelude.{◌≡◌, refl, ℕ, ◌+◌, ◌≤◌, ◌<◌, List, length, get_or, set}
use Rattle.std.proofs.Common.{◌∙◌, sym, subst, arith, length-set, get_or-set_same, get_or-set_other, below_more}

pub record Copied {X : Type 0} (d : X) (f : ℕ → X) (n : ℕ) (before after : List X) : Type 0 where
  pub long : length after ≡ length before
  pub low : (k : ℕ) → k < n → get_or after k d ≡ f k
  pub high : (k : ℕ) → n ≤ k → get_or after k d ≡ get_or before k d

-- nothing is copied yet
pub copied_none : {X : Type 0} (d : X) (f : ℕ → X) (l : List X) → Copied d f 0 l l
copied_none d f l = record { long = refl; low = λ k h. absurd (no h); high = λ k h. refl }
  where
    no : {k : ℕ} → k < 0 → ⊥
    no h = omega arith

-- one more is copied
pub copied_more : {X : Type 0} {d : X} {f : ℕ → X} {i : ℕ} {before after : List X} → Copied d f i before after → i < length before
    → Copied d f (i + 1) before (set after i (f i))
copied_more {X} {d} {f} {i} {before} {after} c l =
    record {
      long = length-set after i (f i) ∙ c.long;
      low =
          below_more (λ k. get_or (set after i (f i)) k d ≡ f k) i
          (λ k h. get_or-set_other after i k (f i) d (λ e. omega arith) ∙ c.low k h)
          (get_or-set_same after i (f i) d (subst (λ (n : ℕ). i < n) (sym c.long) l));
      high = λ k h. get_or-set_other after i k (f i) d (λ e. omega arith) ∙ c.high k (omega arith);
    }
