-- Places of smaller values that are passed over together. Assumes nothing.
use Rattle.std.specs.Prelude.{◌≡◌, List, ℕ, ◌+◌, ◌≤◌, ◌<◌}
use Rattle.std.proofs.Common.{ap, arith}
use Rattle.std.proofs.Math.Decide.{dec_lt}
use Rattle.slices.specs.Places.{at}

-- r is a place from `from` on, or the end, and the values before it are below `top`
pub record NextPlace (values : List ℕ) (from count top r : ℕ) : Type 0 where
  pub later : from ≤ r
  pub within : r ≤ count
  pub smaller : (j : ℕ) → from ≤ j → j < r → at values j < top

pub next-none : (values : List ℕ) (from count top : ℕ) → from ≤ count → NextPlace values from count top from
next-none values from count top h = record { later = omega arith; within = h; smaller = λ j a b. absurd (omega arith) }

-- one that is passed over
pub next_more : (values : List ℕ) (from count top r : ℕ) → NextPlace values from count top r → r < count → at values r < top
    → NextPlace values from count top (r + 1)
next_more values from count top r s h low =
    record {
      later = omega (arith, s.later);
      within = omega arith;
      smaller = λ j a b. go j a (dec_lt j r) b;
    }
  where
    go : (j : ℕ) → from ≤ j → Dec (j < r) → j < r + 1 → at values j < top
    go j a (yes k) b = s.smaller j a k
    go j a (no k) b = let e : r ≡ j = omega arith in omega (arith, low, ap (at values) e)
