-- How long row text is: a heading, the type line, and the whole, which fits the room that 01 asks for (5). Not here: how long rows are (put_bytes'
-- `Length`). Assumes nothing.
use Rattle.std.specs.Prelude.{◌≡◌, Bool, true, false, cond, List, [], ◌∷◌, ℕ, ◌+◌, ◌*◌, ◌^◌, ◌≤◌, ◌<◌, eqb, length}
use Rattle.std.proofs.Common.{mul-le-mul, arith, ne_eqb, length-append}
use Rattle.block.specs.Limits.{list_inputs, outputs, given_rows, row_bytes, text_room}
use Rattle.block.specs.Text.{decimal, head_line, type_line_of, type_lines, text_of}
use Rattle.block.specs.declared.Row.{Row}
use Rattle.put_bytes.specs.Digits.{decimal-le}
use Rattle.put_bytes.specs.Length.{length-rows}

length-heading : (letter v : ℕ) → length (head_line letter v) ≡ length (decimal v) + 4
unfolding head_line
length-heading letter v = omega (arith, length-append (46 ∷ letter ∷ 32 ∷ decimal v) (10 ∷ []))

-- of a number below 10^d
pub heading-le : (letter v d : ℕ) → 1 ≤ d → v < 10 ^ d → length (head_line letter v) ≤ d + 4
heading-le letter v d l h = omega (arith, length-heading letter v, decimal-le d v l h)

-- nine bytes where it stands, and so at most nine (02, Ticket 2)
pub type-length : (y z : ℕ) → (z ≡ 0 → ⊥) → length (type_lines y z) ≡ 9
type-length y z h = rw (ne_eqb z 0 h)

type-le : (y z : ℕ) → length (type_lines y z) ≤ 9
type-le y z = go (eqb z 0)
  where
    go : (b : Bool) → length (cond b [] (type_line_of y)) ≤ 9
    go true = omega arith
    go false = omega arith

-- a text within the ranges fits the room
pub text-le : (n k y z : ℕ) (rs : List Row) → n ≤ list_inputs → k ≤ outputs → length rs ≤ given_rows → length (text_of n k y z rs) ≤ text_room
unfolding text_of
text-le n k y z rs hn hk hp =
    let row : row_bytes n k ≤ row_bytes list_inputs outputs = omega arith in
    let rows : length rs * row_bytes n k ≤ given_rows * row_bytes list_inputs outputs = mul-le-mul hp row in
    simp length-append
    (omega (
      arith,
      heading-le 105 n 2 (omega arith) (omega arith),
      heading-le 111 k 2 (omega arith) (omega arith),
      type-le y z,
      heading-le 112 (length rs) 3 (omega arith) (omega arith),
      length-rows n k rs,
    ))
