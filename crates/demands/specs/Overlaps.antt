-- Lists that overlap on purpose (02, Ticket 10), on the answers themselves: at each point the disjoint list, of type fd, has the OR of all rows over it,
-- 0 where there is none; no two of its rows share a point, and none is malformed; its rows lie over the points that the list's lie over; a list that
-- was disjoint already keeps its block, read as fd. Of the rule itself: it visits no region twice, and how many it visits. And what is worked out of the
-- disjoint list is that of the block of ORs; of its rows no more is asked than that they drive each column. The laws of any region, and the rule in three
-- cases, stand in crate region_laws. Assumes nothing.
use Rattle.std.specs.Prelude.{◌≡◌, false, cond, List, map, ℕ, ◌+◌, ◌*◌, ◌^◌, ◌≤◌, ◌<◌, length}
use Rattle.std.proofs.Common.{◌∙◌, arith}
use Rattle.sums.specs.Sums.{one}
use Rattle.block.specs.Limits.{list_inputs, given_rows}
use Rattle.block.specs.Words.{fd, missing, under, of_rows, word_part}
use Rattle.block.specs.Measure.{shift, measure}
use Rattle.block.specs.Basis.{basis_of, sigma_of, smaller_of}
use Rattle.block.specs.Refusals.{bad_row, row_at}
use Rattle.block.specs.Overlaps.{or_at, whole_space, disjoined, disjoin_verdict, disjoin}
use Rattle.block.specs.declared.Row.{Row}
use Rattle.refusal_laws.specs.Verdicts.{carried-yes}
use Rattle.refusal_laws.specs.Driven.{AllDriven}
use Rattle.matrix_laws.specs.Smaller.{shift-points, measure-points}
use Rattle.pair_laws.specs.Theorem.{Every, Apart}
use Rattle.step_laws.specs.Hits.{hits}
use Rattle.answered_laws.specs.Passed.{DisjoinAnswered, Passed, disjoin-answered}
use Rattle.region_laws.specs.Ors.{ors-none}
use Rattle.region_laws.specs.Disjoined as D
use Rattle.region_laws.specs.Pieces.{visited}
use Rattle.region_laws.specs.Visited.{Distinct, visited-distinct, visited-few}
use Rattle.demands.specs.Lists.{basis-points, sigma-points, smaller-points}

-- a point under no row has word 0
pub none_over : (rs : List Row) (x : ℕ) → Every (λ r. under r x ≡ false) rs → or_at rs x ≡ 0
unfolding or_at
none_over rs x e = ors-none (λ i. cond (under (row_at rs i) x) (row_at rs i).word 0) (length rs) (λ i l. rw (e i l))

module _ (n k : ℕ) (rs : List Row) (room : ℕ) (h : (disjoin_verdict n k rs room).number ≡ 0) where
  answered : DisjoinAnswered n k rs room
  answered = disjoin-answered n k rs room h

  good : Every (λ r. bad_row n k r ≡ false) rs
  good = answered.passed.good

  -- the answer's count is the number of rows that come out, from 1 to 128
  pub disjoint-count : (disjoin n k rs room).count ≡ length (disjoined n rs)
  unfolding disjoin
  disjoint-count = carried-yes (disjoin_verdict n k rs room) (length (disjoined n rs)) h

  pub disjoint-few : (1 ≤ (disjoin n k rs room).count) × ((disjoin n k rs room).count ≤ given_rows)
  disjoint-few = (
    omega (arith, disjoint-count, D.disjoined-some n k rs good answered.passed.range.count.0),
    omega (arith, disjoint-count, answered.few),
  )

  -- its word at every point is the OR of all rows over it
  pub disjoint-word : (x : ℕ) → x < 2 ^ n → of_rows (missing fd) (disjoined n rs) x ≡ or_at rs x
  disjoint-word x l = D.disjoined-word n k rs good x l

  -- no two rows share a point, and none is malformed
  pub disjoint-apart : Apart n (disjoined n rs)
  disjoint-apart = D.disjoined-apart n k rs good

  pub disjoint-formed : Every (λ r. bad_row n k r ≡ false) (disjoined n rs)
  disjoint-formed = D.disjoined-good n k rs good

  -- a row comes out over a point, and then one, exactly where a row of the list lies over it
  pub disjoint-points : (x : ℕ) → x < 2 ^ n → hits (disjoined n rs) x ≡ one (D.over rs x)
  disjoint-points x l = D.disjoined-hits n k rs good x l

  -- a list that was disjoint already keeps its block, read as fd
  pub disjoint-kept : Apart n rs → (x : ℕ) → x < 2 ^ n → of_rows (missing fd) (disjoined n rs) x ≡ of_rows (missing fd) rs x
  disjoint-kept apart x l = disjoint-word x l ∙ D.apart-word n rs apart x l

  -- no region is visited twice, and there are one and twice n of them at most for each row that comes out
  pub regions-once : Distinct (visited n rs whole_space)
  regions-once = visited-distinct n k rs good

  pub regions-few : length (visited n rs whole_space) ≤ 1 + 2 * (n * (disjoin n k rs room).count)
  regions-few = rw disjoint-count (visited-few n k rs good)

  -- ---- what is worked out of the disjoint list is that of the block of ORs

  pub disjoint-shift : (t : ℕ) → t < 2 ^ n → shift (of_rows (missing fd) (disjoined n rs)) n t ≡ shift (or_at rs) n t
  disjoint-shift t l = shift-points (of_rows (missing fd) (disjoined n rs)) (or_at rs) n t l disjoint-word

  pub disjoint-basis : (w : ℕ) → basis_of (of_rows (missing fd) (disjoined n rs)) n w ≡ basis_of (or_at rs) n w
  disjoint-basis w = basis-points (of_rows (missing fd) (disjoined n rs)) (or_at rs) n w disjoint-word

  pub disjoint-sigma : (w : ℕ) → sigma_of (of_rows (missing fd) (disjoined n rs)) n w ≡ sigma_of (or_at rs) n w
  disjoint-sigma w = sigma-points (of_rows (missing fd) (disjoined n rs)) (or_at rs) n w disjoint-word

  pub disjoint-measures : (w : ℕ) → 1 ≤ w
      → (measure (of_rows (missing fd) (disjoined n rs)) n ≡ measure (or_at rs) n)
      × (measure (smaller_of (of_rows (missing fd) (disjoined n rs)) n w) n ≡ measure (smaller_of (or_at rs) n w) n)
  disjoint-measures w l = (
    measure-points (of_rows (missing fd) (disjoined n rs)) (or_at rs) n disjoint-word,
    measure-points (smaller_of (of_rows (missing fd) (disjoined n rs)) n w) (smaller_of (or_at rs) n w) n
        (smaller-points (of_rows (missing fd) (disjoined n rs)) (or_at rs) n w l disjoint-word),
  )

  -- and an operation that works a block out asks nothing more of it than that each column is driven: 1, 2, 4, 6 and 7 do not come
  pub disjoint-passes : AllDriven k (map word_part (disjoined n rs)) → Passed list_inputs given_rows n k (disjoined n rs)
  disjoint-passes d =
      let r = answered.passed.range in
      record {
        range =
            record {
              size = r.size;
              columns = r.columns;
              count = (D.disjoined-some n k rs good r.count.0, answered.few);
            };
        good = disjoint-formed;
        disjoint = D.disjoined-disjoint n k rs good r.columns.1;
        columns-driven = d;
      }
