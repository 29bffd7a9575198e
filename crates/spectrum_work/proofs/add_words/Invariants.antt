-- `spectrum_work::add_words` meets its contract. The loop's invariant: the words below u are added, and the working room holds zeros. The
-- measure is what is left of the words. Assumes nothing.
use mathlib.Core.Path.{◌≡◌}
use Prim.Native.Nat.{◌-◌, ◌≤◌, ◌^◌}
use lib.IntN.{pos}
use Rattle.slices.specs.Places.{at, tab}
use Rattle.spectrum_work.specs.Words.{below}
use Rattle.spectrum_work.proofs.add_words.Given as goal

abbrev pub invariant-loop-u : goal.invariant-loop-u
invariant-loop-u l = (l.u ≤ 65535) × (l.working ≡ tab (2 ^ l.n) (λ _. pos 0)) × (l.values ≡ tab (2 ^ l.n) (below (at l.table) l.n l.u))

abbrev pub decreases-loop-u : goal.decreases-loop-u
decreases-loop-u l = 65535 - l.u
