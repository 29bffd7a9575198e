-- The search for the least number below m that passes a test, as a loop over the numbers goes: where it has come, how it goes on, and what
-- it finds. The loops over entries, over matrix rows and over patterns are this search. Assumes nothing.
use Rattle.std.specs.Prelude.{◌≡◌, Bool, true, false, ℕ, ◌+◌, ◌≤◌, ◌<◌}
use Rattle.std.proofs.Common.{sym, arith, below_more}
use Rattle.slices.specs.Places.{first}
use Rattle.slices.specs.Least.{first-is}

-- no number before i passes
pub record Searched (p : ℕ → Bool) (m i : ℕ) : Type 0 where
  pub within : i ≤ m
  pub none : (j : ℕ) → j < i → p j ≡ false

module _ (p : ℕ → Bool) (m : ℕ) where
  pub search-starts : Searched p m 0
  search-starts = record { within = omega arith; none = λ j h. absurd (omega arith) }

  pub search-goes-on : (i : ℕ) → Searched p m i → i < m → p i ≡ false → Searched p m (i + 1)
  search-goes-on i s h e = record { within = omega arith; none = below_more _ _ s.none e }

  pub search-finds : (i : ℕ) → Searched p m i → p i ≡ true → i ≡ first m p
  search-finds i s e = sym (first-is _ _ _ s.within s.none (λ h. e))

  pub search-ends : (i : ℕ) → Searched p m i → m ≤ i → i ≡ first m p
  search-ends i s h = sym (first-is _ _ _ s.within s.none (λ b. absurd (omega arith)))
