-- `spectrum_words::next_word` meets its contract. The loop's invariant: the way from u leads past no entry passed that is not below u.
-- Assumes nothing.
use Rattle.std.proofs.Common.{ℕ, ◌+◌, ◌<◌, ◌≤◌}
use Rattle.slices.specs.Places.{at}
use Rattle.spectrum_words.proofs.next_word.Given as goal

abbrev pub invariant-loop-w : goal.invariant-loop-w
invariant-loop-w l = (y : ℕ) → y < l.w-index → l.u ≤ at l.table y → l.u + l.far ≤ at l.table y
