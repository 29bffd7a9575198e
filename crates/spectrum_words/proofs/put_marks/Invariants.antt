-- `spectrum_words::put_marks` meets its contract. The loop's invariant: the first x marks are stored. Assumes nothing.
use Rattle.std.proofs.Common.{◌≡◌, pos}
use Rattle.slices.specs.Places.{at, tab, over}
use Rattle.spectrum_words.specs.Words.{marks}
use Rattle.spectrum_words.proofs.put_marks.Given as goal

abbrev pub invariant-loop-x : goal.invariant-loop-x
invariant-loop-x l = l.s ≡ over (tab l.x (λ x. pos (marks (at l.table) l.u x))) l.initial.s
