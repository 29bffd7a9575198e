-- The promises of row text, written and read. Assumes nothing.
use Rattle.std.specs.Prelude.{◌≡◌, List, ℕ, length}
use Rattle.block.specs.Refusals.{stored}
use Rattle.block.specs.Text.{text_of, write_verdict, write_text, read_verdict, read_text, rows_in}
use Rattle.block.specs.declared.Row.{Row}
use Rattle.block.specs.declared.TextAnswer.{TextAnswer}
use Rattle.block.specs.declared.ReadAnswer.{ReadAnswer}
use Rattle.promises.specs.Lent.{Lent}

-- writing the rows rs, of type y; z is 0 where the type line is not to stand
pub record WritePromise (n k y z : ℕ) (rs : List Row) (out₀ : List ℕ) (r : TextAnswer) (out₁ : List ℕ) : Type 0 where
  pub answer : r ≡ write_text n k y z rs (length out₀)
  pub text : out₁ ≡ stored (write_verdict n k y z rs (length out₀)) (text_of n k y z rs) out₀

-- reading a text, its rows to lent room; r is the answer in numbers, those of an enum among them (block's `numbers`)
pub record ReadPromise (text : List ℕ) (lent : Lent) (r : ReadAnswer) : Type 0 where
  pub answer : r ≡ read_text text lent.room
  pub rows : lent.holds (read_verdict text lent.room) (rows_in text)
