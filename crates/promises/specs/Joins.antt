-- The promises of joining (02, Ticket 9), and of what the program prints of it. Assumes nothing.
use Rattle.std.specs.Prelude.{◌≡◌, List, ℕ, length}
use Rattle.slices.specs.Places.{over}
use Rattle.block.specs.Joins.{join_verdict, join, joined_room, printed_join}
use Rattle.block.specs.declared.Row.{Row}
use Rattle.block.specs.declared.JoinAnswer.{JoinAnswer}
use Rattle.promises.specs.Lent.{Lent}

-- joining the rows rs, in the storage that lends them: the joined rows come to its front, and each freed record becomes all zeros
pub record JoinPromise (n k : ℕ) (rs : List Row) (lent : Lent) (r : JoinAnswer) : Type 0 where
  pub answer : r ≡ join n k rs
  pub rows : lent.holds (join_verdict n k rs) (joined_room rs)

-- printing the joined rows of a text: the bytes that are printed, and how many
pub record PrintJoinPromise (input out₀ : List ℕ) (count : ℕ) (out₁ : List ℕ) : Type 0 where
  pub text : out₁ ≡ over (printed_join input) out₀
  pub bytes : count ≡ length (printed_join input)
