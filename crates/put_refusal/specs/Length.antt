-- How long a word and three numbers are at most, and the line of a refusal: every number has room. Assumes nothing.
use Rattle.std.specs.Prelude.{List, ℕ, ◌+◌, ◌≤◌, length}
use Rattle.std.proofs.Common.{arith, length-append}
use Rattle.block.specs.Sheet.{refusal_line}
use Rattle.block.specs.declared.Answer.{Answer}
use Rattle.put_bytes.specs.Digits.{decimal-most}
use Rattle.put_refusal.specs.Words.{three}

-- three numbers and the spaces between
abbrev pub three_room : ℕ
three_room = 20 + (1 + 20) + (1 + 20)

pub three-le : (word : List ℕ) (x y z : ℕ) → length (three word x y z) ≤ length word + three_room
three-le word x y z = simp length-append (omega (arith, decimal-most x, decimal-most y, decimal-most z))

-- "refused ", the numbers and LF
abbrev pub refusal_room : ℕ
refusal_room = 8 + three_room + 1

pub refusal-le : (v : Answer) → length (refusal_line v) ≤ refusal_room
unfolding refusal_line
refusal-le v = simp length-append (omega (arith, decimal-most v.number, decimal-most v.a, decimal-most v.b))
