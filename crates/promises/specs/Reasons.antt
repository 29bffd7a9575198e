-- The promise of why a number was not taken (02, Ticket 7). Assumes nothing.
use Rattle.std.specs.Prelude.{◌≡◌, List, ℕ}
use Rattle.block.specs.Words.{missing, of_rows}
use Rattle.block.specs.Basis.{basis_of}
use Rattle.block.specs.Refusals.{stored}
use Rattle.block.specs.Reasons.{why_verdict, why_not, why_numbers}
use Rattle.block.specs.declared.Row.{Row}
use Rattle.block.specs.declared.WhyAnswer.{WhyAnswer}

-- why t was not taken, of the rows rs of type y with the weight limit w; r is the answer in numbers, those of an enum among them (block's
-- `why_numbers`), and the taken numbers, T by columns, go to lent room
pub record WhyNotPromise (n k y w t : ℕ) (rs : List Row) (taken₀ : List ℕ) (r : WhyAnswer) (taken₁ : List ℕ) : Type 0 where
  pub answer : r ≡ why_numbers (why_not n k y w t rs)
  pub taken : taken₁ ≡ stored (why_verdict n k y w t rs) (basis_of (of_rows (missing y) rs) n w) taken₀
