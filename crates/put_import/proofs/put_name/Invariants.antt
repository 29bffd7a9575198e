-- `put_import::put_name` meets its contract. The loop's invariant: the first i bytes of the name are put as they are shown. Assumes
-- nothing.
use Rattle.std.proofs.Common.{◌≡◌, map, take}
use lib.Seq.{sets}
use Rattle.put_import.specs.Line.{shown_byte}
use Rattle.put_import.proofs.put_name.Given as goal

abbrev pub invariant-loop-i : goal.invariant-loop-i
invariant-loop-i l = l.out ≡ sets l.initial.out 0 (map shown_byte (take l.i l.name))
