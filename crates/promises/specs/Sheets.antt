-- The promises of the sheet, and of what the program prints. Assumes nothing.
use Rattle.std.specs.Prelude.{◌≡◌, List, ℕ, length}
use Rattle.slices.specs.Places.{over}
use Rattle.block.specs.Words.{missing}
use Rattle.block.specs.Refusals.{stored}
use Rattle.block.specs.Sheet.{sheet, sheet_text, sheet_verdict, printed}
use Rattle.block.specs.declared.Row.{Row}
use Rattle.block.specs.declared.TextAnswer.{TextAnswer}

-- the sheet of the rows rs, of type y
pub record SheetPromise (n k y w : ℕ) (rs : List Row) (out₀ : List ℕ) (r : TextAnswer) (out₁ : List ℕ) : Type 0 where
  pub answer : r ≡ sheet n k y w rs (length out₀)
  pub text : out₁ ≡ stored (sheet_verdict n k y w rs (length out₀)) (sheet_text (missing y) n k w rs) out₀

-- printing a text: the bytes that are printed, and how many
pub record PrintPromise (input out₀ : List ℕ) (count : ℕ) (out₁ : List ℕ) : Type 0 where
  pub text : out₁ ≡ over (printed input) out₀
  pub bytes : count ≡ length (printed input)
