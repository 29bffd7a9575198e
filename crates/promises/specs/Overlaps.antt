-- The promises of disjoining a list that overlaps on purpose (02, Ticket 10), and of what the program prints of it. Assumes nothing.
use Rattle.std.specs.Prelude.{◌≡◌, List, ℕ, length}
use Rattle.slices.specs.Places.{over}
use Rattle.block.specs.Overlaps.{disjoined, disjoin_verdict, disjoin, printed_disjoint}
use Rattle.block.specs.declared.Row.{Row}
use Rattle.block.specs.declared.DisjoinAnswer.{DisjoinAnswer}
use Rattle.promises.specs.Lent.{Lent}

-- disjoining the rows rs: the disjoint list goes to lent room
pub record DisjoinPromise (n k : ℕ) (rs : List Row) (lent : Lent) (r : DisjoinAnswer) : Type 0 where
  pub answer : r ≡ disjoin n k rs lent.room
  pub rows : lent.holds (disjoin_verdict n k rs lent.room) (disjoined n rs)

-- printing the disjoint list of a text: the bytes that are printed, and how many
pub record PrintDisjointPromise (input out₀ : List ℕ) (count : ℕ) (out₁ : List ℕ) : Type 0 where
  pub text : out₁ ≡ over (printed_disjoint input) out₀
  pub bytes : count ≡ length (printed_disjoint input)
