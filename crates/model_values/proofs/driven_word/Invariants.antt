-- `model_values::driven_word` meets its contract. The loop's invariant: the word of the outputs passed, the next power, and where the next
-- output's patterns begin. Assumes nothing.
use Rattle.std.proofs.Common.{◌≡◌, ◌^◌, ◌<◌}
use Rattle.model_values.specs.Driven.{driven_word, begun}
use Rattle.model_values.proofs.driven_word.Given as goal

abbrev pub invariant-loop-j : goal.invariant-loop-j
invariant-loop-j l = (l.word ≡ driven_word l.j l.counts l.masks l.values l.z) × (l.power ≡ 2 ^ l.j) × (l.word < l.power) × (l.from ≡ begun l.counts l.j)
