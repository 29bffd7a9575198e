-- `read_bytes::number_at` meets its contract. The loop's invariant: the first `count` bytes are digits, and v is what they spell. Assumes nothing.
use mathlib.Core.Path.{◌≡◌}
use Rattle.block.specs.Text.{value_of}
use Rattle.read_laws.specs.ByPlace.{bytes_at}
use Rattle.read_bytes.specs.Digits.{AllDigits}
use Rattle.read_bytes.proofs.number_at.Given as goal

abbrev pub invariant-loop-count : goal.invariant-loop-count
invariant-loop-count l = AllDigits l.s l.from l.count × (l.v ≡ value_of (bytes_at l.s l.from l.count))
