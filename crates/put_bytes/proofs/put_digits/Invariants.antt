-- `put_bytes::put_digits` meets its contract. The loop's invariant: the digits that are left, stored in what is there, give what all
-- digits, stored at entry, give. Assumes nothing.
use mathlib.Core.Path.{◌≡◌}
use lib.Seq.{sets}
use Rattle.put_bytes.specs.Digits.{last_digits}
use Rattle.put_bytes.proofs.put_digits.Given as goal

abbrev pub invariant-loop-i : goal.invariant-loop-i
invariant-loop-i l = sets l.initial.out l.at (last_digits l.base l.count l.v) ≡ sets l.out l.at (last_digits l.base l.i l.rest)
