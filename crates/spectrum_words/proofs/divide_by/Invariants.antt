-- `spectrum_words::divide_by` meets its contract. The loop's invariant: the first t quotients are added. Assumes nothing.
use Rattle.std.proofs.Common.{◌≡◌, ◌+◌, ◌/◌, length, pos, nat_abs}
use Rattle.slices.specs.Places.{at, tab, over}
use Rattle.walsh_laws.specs.Passes.{val}
use Rattle.spectrum_words.proofs.divide_by.Given as goal

abbrev pub invariant-loop-t : goal.invariant-loop-t
invariant-loop-t l = record {
  cleared : l.s ≡ over (tab l.t (λ _. pos 0)) l.initial.s;
  added : l.out ≡ over (tab l.t (λ t. at l.initial.out t + nat_abs (val l.initial.s t) / length l.initial.s)) l.initial.out;
}
