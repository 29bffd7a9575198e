-- Joining (02, Ticket 9), on the answers themselves: "The block at each point is unchanged", for each type; "no such pair is left"; no two rows
-- share a point and none becomes malformed; the number of rows never grows, and one is left; joining twice is joining once; and what is worked
-- out of the joined list is what was worked out of the list: R, T, sigma, the measures, and whether a column is driven. The laws of any list
-- stand in crate join_laws. Assumes nothing.
use Rattle.std.specs.Prelude.{◌≡◌, false, List, map, ℕ, ◌^◌, ◌≤◌, ◌<◌, length}
use Rattle.std.proofs.Common.{arith}
use Rattle.block.specs.Words.{missing, of_rows, word_part}
use Rattle.block.specs.Measure.{shift, measure}
use Rattle.block.specs.Basis.{basis_of, sigma_of, smaller_of}
use Rattle.block.specs.Refusals.{answer, bad_row, row_at, driven}
use Rattle.block.specs.Joins.{joins, joined, join_verdict, join, joined_room}
use Rattle.block.specs.declared.Row.{Row}
use Rattle.refusal_laws.specs.Verdicts.{carried-yes}
use Rattle.matrix_laws.specs.Smaller.{shift-points, measure-points}
use Rattle.pair_laws.specs.Theorem.{Every, Apart}
use Rattle.answered_laws.specs.Passed.{JoinPassed, join-passed, join-answers}
use Rattle.join_laws.specs.Joined as J
use Rattle.join_laws.specs.Room.{room_whole}
use Rattle.demands.specs.Lists.{basis-points, sigma-points, smaller-points}

module _ (n k : ℕ) (rs : List Row) (h : (join_verdict n k rs).number ≡ 0) where
  passed : JoinPassed n k rs
  passed = join-passed n k rs h

  -- the answer's count is the number of joined rows
  pub joined-count : (join n k rs).count ≡ length (joined rs)
  unfolding join
  joined-count = carried-yes (join_verdict n k rs) (length (joined rs)) h

  -- the block at each point is unchanged, whatever the type
  pub joined_word : (y x : ℕ) → x < 2 ^ n → of_rows (missing y) (joined rs) x ≡ of_rows (missing y) rs x
  joined_word y x l = (J.joined-stands n rs passed.disjoint.sound passed.disjoint.apart).word (missing y) x l

  -- no such pair is left
  pub none_left : (i j : ℕ) → i < j → j < (join n k rs).count → joins (row_at (joined rs) i) (row_at (joined rs) j) ≡ false
  none_left i j l b = J.none-joins (joined rs) (J.joined-none rs) i j l (omega (arith, joined-count))

  -- rows stay disjoint, and well formed
  pub joined-apart : Apart n (joined rs)
  joined-apart = (J.joined-disjoint n rs passed.disjoint).apart

  pub joined-formed : Every (λ r. bad_row n k r ≡ false) (joined rs)
  joined-formed = J.joined-good n rs k passed.disjoint.apart passed.good

  -- the number of rows never grows, and one is left
  pub joined-fewer : (1 ≤ (join n k rs).count) × ((join n k rs).count ≤ length rs)
  joined-fewer = (
    omega (arith, joined-count, J.joined-some rs passed.range.count.0),
    omega (arith, joined-count, J.joined_length rs),
  )

  -- joining twice is joining once: the joined list is answered, by itself, and no record of it is freed
  pub joined-again : (join_verdict n k (joined rs) ≡ answer 0 0 0) × (joined (joined rs) ≡ joined rs) × (joined_room (joined rs) ≡ joined rs)
  joined-again = (
    join-answers n k (joined rs)
        (record {
          range =
              record {
                size = passed.range.size;
                columns = passed.range.columns;
                count = (J.joined-some rs passed.range.count.0, omega (arith, passed.range.count.1, J.joined_length rs));
              };
          good = joined-formed;
          disjoint = J.joined-disjoint n rs passed.disjoint;
        }),
    J.joined-twice rs,
    room_whole (joined rs) (J.joined-twice rs),
  )

  -- ---- what is worked out of the joined list, of type y

  pub joined-shift : (y t : ℕ) → t < 2 ^ n → shift (of_rows (missing y) (joined rs)) n t ≡ shift (of_rows (missing y) rs) n t
  joined-shift y t l = shift-points (of_rows (missing y) (joined rs)) (of_rows (missing y) rs) n t l (joined_word y)

  pub joined-basis : (y w : ℕ) → basis_of (of_rows (missing y) (joined rs)) n w ≡ basis_of (of_rows (missing y) rs) n w
  joined-basis y w = basis-points (of_rows (missing y) (joined rs)) (of_rows (missing y) rs) n w (joined_word y)

  pub joined-sigma : (y w : ℕ) → sigma_of (of_rows (missing y) (joined rs)) n w ≡ sigma_of (of_rows (missing y) rs) n w
  joined-sigma y w = sigma-points (of_rows (missing y) (joined rs)) (of_rows (missing y) rs) n w (joined_word y)

  pub joined-measures : (y w : ℕ) → 1 ≤ w
      → (measure (of_rows (missing y) (joined rs)) n ≡ measure (of_rows (missing y) rs) n)
      × (measure (smaller_of (of_rows (missing y) (joined rs)) n w) n ≡ measure (smaller_of (of_rows (missing y) rs) n w) n)
  joined-measures y w l = (
    measure-points (of_rows (missing y) (joined rs)) (of_rows (missing y) rs) n (joined_word y),
    measure-points (smaller_of (of_rows (missing y) (joined rs)) n w) (smaller_of (of_rows (missing y) rs) n w) n
        (smaller-points (of_rows (missing y) (joined rs)) (of_rows (missing y) rs) n w l (joined_word y)),
  )

  pub joined-driven : (c : ℕ) → driven (map word_part (joined rs)) c ≡ driven (map word_part rs) c
  joined-driven c = J.joined-driven rs c
