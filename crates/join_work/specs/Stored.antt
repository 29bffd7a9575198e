-- The three slices at the end, each as one equation: the part of the joined rows that it holds, and zeros; and the answer. Assumes nothing.
use Rattle.std.specs.Prelude.{◌≡◌, ℕ, ◌≤◌, ◌<◌, get_or}
use Rattle.std.proofs.Math.Path.{refl, sym, ap}
use Rattle.std.proofs.Common.{◌∙◌, arith, eq-eqb, ne_eqb, ext_get_or}
use mathlib.Core.List.{List, map}
use Rattle.std.proofs.Math.Decide.{dec_lt}
use Rattle.std.proofs.Math.ListN.{length, get_or-map}
use Rattle.std.proofs.lemmas.List.{length-map}
use Rattle.slices.specs.Places.{at, over}
use Rattle.slices.specs.Filled.{tab-list, over-whole}
use Rattle.block.specs.Words.{row, rows_of, mask_part, values_part, word_part}
use Rattle.block.specs.Refusals.{row_at}
use Rattle.block.specs.Joins.{joined, join_verdict, join, joined_room}
use Rattle.block.specs.declared.Row.{Row}
use Rattle.block.specs.declared.Answer.{Answer}
use Rattle.flat_rows.specs.Listing.{rows_from, rows-of, rows-count}
use Rattle.join_laws.specs.Room.{room-length, room_row, room-freed}
use Rattle.join_work.specs.Closing.{here}
use Rattle.join_work.specs.All.{AllJoined}

-- a slice that has a part of each joined row, and zeros behind them
module _ (part : Row → ℕ) (blank : part (row 0 0 0) ≡ 0) (rs : List Row) (l : List ℕ) (same : length l ≡ length rs) where
  part_room : ((q : ℕ) → q < length (joined rs) → at l q ≡ part (row_at (joined rs) q))
      → ((q : ℕ) → length (joined rs) ≤ q → q < length rs → at l q ≡ 0) → l ≡ map part (joined_room rs)
  part_room rows zeros =
      ext_get_or 0 l (map part (joined_room rs)) (same ∙ sym (length-map (joined_room rs) part ∙ room-length rs)) (λ q h. go q (omega arith) (dec_lt q (length (joined rs))))
    where
      entry : (q : ℕ) → at (map part (joined_room rs)) q ≡ part (row_at (joined_room rs) q)
      entry q = ap (λ (d : ℕ). get_or (map part (joined_room rs)) q d) (sym blank) ∙ get_or-map part (joined_room rs) q (row 0 0 0)

      go : (q : ℕ) → q < length rs → Dec (q < length (joined rs)) → at l q ≡ at (map part (joined_room rs)) q
      go q h (yes b) = rows q b ∙ ap part (sym (room_row rs q b)) ∙ sym (entry q)
      go q h (no b) = zeros q (omega arith) h ∙ sym blank ∙ ap part (sym (room-freed rs q (omega arith) h)) ∙ sym (entry q)

  -- in the place of a slice of that length
  part-stored : (held : List ℕ) → length held ≡ length rs → l ≡ map part (joined_room rs) → l ≡ over (map part (joined_room rs)) held
  part-stored held h e = e ∙ sym whole
    where
      whole : over (map part (joined_room rs)) held ≡ map part (joined_room rs)
      whole =
          ap (λ (x : List ℕ). over x held) (sym (tab-list 0 (map part (joined_room rs))))
          ∙ over-whole (length (map part (joined_room rs))) (at (map part (joined_room rs))) held
          (h ∙ sym (length-map (joined_room rs) part ∙ room-length rs))
          ∙ tab-list 0 (map part (joined_room rs))

-- the three slices
module _ (count : ℕ) (m v w m' v' w' : List ℕ) (vs : length v ≡ length m) (ws : length w ≡ length m)
    (j : AllJoined count m v w m' v' w') where
  rs : List Row
  rs = rows_of m v w

  all : joined (rows_from (length m) m v w) ≡ joined rs
  unfolding rs
  all = ap joined (sym (rows-of m v w vs ws))

  row_now : (q : ℕ) → q < length (joined rs) → row (at m' q) (at v' q) (at w' q) ≡ row_at (joined rs) q
  unfolding rs
  row_now q h =
      sym (here count m' v' w' q (omega (arith, j.counted, ap length all))) ∙ ap (λ (l : List Row). row_at l q) (j.rows ∙ all)

  pub joined-count : count ≡ length (joined (rows_of m v w))
  unfolding rs
  joined-count = j.counted ∙ ap length all

  pub record Stored : Type 0 where
    pub masks : m' ≡ over (map mask_part (joined_room (rows_of m v w))) m
    pub values : v' ≡ over (map values_part (joined_room (rows_of m v w))) v
    pub words : w' ≡ over (map word_part (joined_room (rows_of m v w))) w

  pub stored-all : Stored
  unfolding rs
  stored-all =
      let n = rows-count m v w vs ws in
      let d = joined-count in
      let held : (q : ℕ) → length (joined rs) ≤ q → q < length rs → (at m' q ≡ 0) × (at v' q ≡ 0) × (at w' q ≡ 0)
      = λ q h l. j.zeros q (omega arith) (omega arith) in
      record {
        masks = part-stored mask_part refl rs m' (j.lengths.0 ∙ sym n) m (sym n) (part_room mask_part refl rs m' (j.lengths.0 ∙ sym n) (λ q h. ap mask_part (row_now q h)) (λ q h l. (held q h l).0));
        values = part-stored values_part refl rs v' (j.lengths.1 ∙ sym n) v (vs ∙ sym n) (part_room values_part refl rs v' (j.lengths.1 ∙ sym n) (λ q h. ap values_part (row_now q h)) (λ q h l. (held q h l).1));
        words = part-stored word_part refl rs w' (j.lengths.2 ∙ sym n) w (ws ∙ sym n) (part_room word_part refl rs w' (j.lengths.2 ∙ sym n) (λ q h. ap word_part (row_now q h)) (λ q h l. (held q h l).2));
      }

-- the answer: the number of rows on 0, and 0 with a refusal
pub count-refused : (n k : ℕ) (rs : List Row) (v : Answer) → v ≡ join_verdict n k rs → (v.number ≡ 0 → ⊥)
    → record { number = v.number; a = v.a; b = v.b; count = 0 } ≡ join n k rs
unfolding join
count-refused n k rs v e h = rw (← e, ne_eqb v.number 0 h)

pub count-answered : (n k : ℕ) (rs : List Row) (v : Answer) (count : ℕ) → v ≡ join_verdict n k rs → v.number ≡ 0 → count ≡ length (joined rs)
    → record { number = v.number; a = v.a; b = v.b; count = count } ≡ join n k rs
unfolding join
count-answered n k rs v count e h d = rw (← e, eq-eqb v.number 0 h, d)
