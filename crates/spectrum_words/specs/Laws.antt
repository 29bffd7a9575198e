-- Laws for the inner functions' proofs. Assumes nothing.
use Rattle.std.specs.Prelude.{◌≡◌, ℕ, ◌+◌, ◌<◌, ◌≤◌, Bool, List, ℤ, pos}
use Rattle.std.proofs.Common.{ap, ◌∙◌, arith, to_z, of_z}
use Rattle.std.proofs.Math.Decide.{dec_lt}
use Rattle.std.specs.Int.{w32}
use Rattle.slices.specs.Places.{at}
use Rattle.sums.specs.Sums.{one}
use Rattle.sums.specs.Laws.{one-le}
use Rattle.walsh_laws.specs.Machine.{back}
use Rattle.spectrum_words.specs.Words.{Nearer}

-- a mark as the code stores it
pub mark-back : (z : ℤ) (b : Bool) → z ≡ pos (one b) → to_z w32 (of_z w32 z) ≡ pos (one b)
mark-back z b e = ap (λ z. to_z w32 (of_z w32 z)) e ∙ back (pos (one b)) (omega (arith, one-le b))

-- one entry more
pub nearer-more : (table : List ℕ) (u far x z : ℕ) → ((y : ℕ) → y < x → u ≤ at table y → u + far ≤ at table y) → Nearer (at table x) u far z
    → (y : ℕ) → y < x + 1 → u ≤ at table y → u + z ≤ at table y
nearer-more table u far x z h n y b d = go (dec_lt y x)
  where
    go : Dec (y < x) → u + z ≤ at table y
    go (yes c) = omega (arith, h y c d, n.most)
    go (no c) =
        let e : y ≡ x = omega arith in
        rw e (n.least (rw e at d))
