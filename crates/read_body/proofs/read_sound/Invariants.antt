-- `read_body::read_sound` meets its contract. The loop's invariant: no row passed is broken, and the fields of the rows passed lie over each
-- slice. Assumes nothing.
use mathlib.Core.Bool.{false}
use mathlib.Core.Path.{◌≡◌}
use Prim.Native.Nat.{ℕ, ◌<◌}
use Rattle.slices.specs.Places.{tab, over}
use Rattle.block.specs.Words.{mask_part, values_part, word_part}
use Rattle.read_laws.specs.ByPlace.{broken_line, field_of}
use Rattle.read_body.proofs.read_sound.Given as goal

abbrev pub invariant-loop-i : goal.invariant-loop-i
invariant-loop-i l = ((j : ℕ) → j < l.i → broken_line l.s l.n l.k j ≡ false)
    × (l.masks ≡ over (tab l.i (field_of mask_part l.s l.n l.k)) l.initial.masks)
    × (l.values ≡ over (tab l.i (field_of values_part l.s l.n l.k)) l.initial.values)
    × (l.words ≡ over (tab l.i (field_of word_part l.s l.n l.k)) l.initial.words)
