-- Joined rows, written: after joining they lie at the front of storage (`joined-front`), as many as are answered, so that joining and then writing
-- them comes to the refusal of the one, or to the writing of the joined rows (`join-refused`, `join_written`). And rows that pass joining's checks, no
-- more than can be given, pass the writer's once they are joined (`joined-writable`). Assumes nothing.
use Rattle.std.specs.Prelude.{◌≡◌, List, ◌++◌, map, ℕ, ◌-◌, ◌≤◌, length, drop}
use Rattle.std.proofs.Common.{sym, ◌∙◌, append_assoc, arith}
use Rattle.std.proofs.Math.Path.{ap}
use Rattle.std.proofs.lemmas.List.{map-append}
use Rattle.slices.specs.Places.{tab, over}
use Rattle.block.specs.Limits.{given_rows, text_room}
use Rattle.block.specs.Words.{fr, fd, row, rows_of, mask_part, values_part, word_part}
use Rattle.block.specs.Refusals.{answer, and_then, stored}
use Rattle.block.specs.Text.{text_of, write_verdict}
use Rattle.block.specs.Joins.{joined, join_verdict, join, joined_room}
use Rattle.block.specs.declared.Row.{Row}
use Rattle.block.specs.declared.Answer.{Answer}
use Rattle.block.specs.declared.JoinAnswer.{JoinAnswer}
use Rattle.block.specs.declared.TextAnswer.{TextAnswer}
use Rattle.promises.specs.Lent.{lent_flat}
use Rattle.promises.specs.Joins.{JoinPromise}
use Rattle.promises.specs.Texts.{WritePromise}
use Rattle.refusal_laws.specs.Verdicts.{carried-yes, stored-yes, Written}
use Rattle.answered_laws.specs.Passed.{JoinPassed}
use Rattle.put_text.specs.Checks.{write-answers}
use Rattle.join_laws.specs.Joined.{joined-good, joined_length, joined-some}
use Rattle.text_work.specs.Work.{first_rows}
use Rattle.text_work.specs.Front.{InFront, in-front, front-rows, front_long, rows-refused, rows_written}

-- ---- where the joined rows lie

-- a part of the joined rows at the front of storage, before the freed records
part-front : (part : Row → ℕ) (rs : List Row) (l l' : List ℕ) → l' ≡ over (map part (joined_room rs)) l → InFront part (joined rs) l'
unfolding joined_room
part-front part rs l l' e =
    let freed : List Row = tab (length rs - length (joined rs)) (λ _. row 0 0 0) in
    in-front part (joined rs) _ l'
    (e
    ∙ ap (λ (s : List ℕ). s ++ drop (length (map part (joined_room rs))) l) (map-append part (joined rs) freed)
    ∙ append_assoc (map part (joined rs)) (map part freed) (drop (length (map part (joined_room rs))) l))

-- joining has answered r, and left m', v' and w' where m, v and w held the list
module _ (n k : ℕ) (m v w m' v' w' : List ℕ) (r : JoinAnswer) (p : JoinPromise n k (rows_of m v w) (lent_flat m v w m' v' w') r) where
  abbrev rs : List Row
  rs = rows_of m v w

  pub joined-said : answer r.number r.a r.b ≡ join_verdict n k rs
  unfolding join
  joined-said = ap (λ (x : JoinAnswer). answer x.number x.a x.b) p.answer

  module _ (h : r.number ≡ 0) where
    pub joined-zero : (join_verdict n k rs).number ≡ 0
    joined-zero = sym (ap (λ (x : Answer). x.number) joined-said) ∙ h

    counted : r.count ≡ length (joined rs)
    unfolding join
    counted = ap (λ (x : JoinAnswer). x.count) p.answer ∙ carried-yes (join_verdict n k rs) (length (joined rs)) joined-zero

    laid : (part : Row → ℕ) (l l' : List ℕ) → l' ≡ stored (join_verdict n k rs) (map part (joined_room rs)) l → InFront part (joined rs) l'
    laid part l l' e = part-front part rs l l' (e ∙ stored-yes (join_verdict n k rs) (map part (joined_room rs)) l joined-zero)

    -- as many rows as are answered lie in storage
    pub joined-lies : (r.count ≤ length m') × (r.count ≤ length v') × (r.count ≤ length w')
    joined-lies =
        front_long (joined rs) r.count counted m' v' w'
        (laid mask_part m m' p.rows.masks) (laid values_part v v' p.rows.values) (laid word_part w w' p.rows.words)

    -- and these are the joined rows
    pub joined-front : first_rows r.count m' v' w' ≡ joined rs
    joined-front =
        front-rows (joined rs) r.count counted m' v' w'
        (laid mask_part m m' p.rows.masks) (laid values_part v v' p.rows.values) (laid word_part w w' p.rows.words)

  -- ---- joining and then writing, as text of type y, with its type line or, where z is 0, without

  module _ (y z : ℕ) (l : List ℕ) where
    abbrev text : List ℕ
    text = text_of n k y z (joined rs)

    abbrev both : Answer
    both = and_then (join_verdict n k rs) (write_verdict n k y z (joined rs) (length l))

    pub join-refused : (r.number ≡ 0 → ⊥) → Written both text l (record { number = r.number; a = r.a; b = r.b; count = 0 }) l
    join-refused = rows-refused (join_verdict n k rs) r.number r.a r.b joined-said n k y z (joined rs) l

    pub join_written : r.number ≡ 0 → (t : TextAnswer) (l' : List ℕ) → WritePromise n k y z (first_rows r.count m' v' w') l t l'
        → Written both text l t l'
    join_written h t l' q =
        rows_written (join_verdict n k rs) r.number r.a r.b joined-said n k y z (joined rs) l h t l' (rw (joined-front h) at q)

-- ---- the writer does not refuse them

pub joined-writable : (n k y z : ℕ) (rs : List Row) (room : ℕ) → JoinPassed n k rs → length rs ≤ given_rows → (fr ≤ y) × (y ≤ fd)
    → (y ≡ fr → z ≡ 0 → ⊥) → text_room ≤ room → write_verdict n k y z (joined rs) room ≡ answer 0 0 0
joined-writable n k y z rs room p few known lined enough =
    write-answers n k y z (joined rs) room
    (record {
      inputs = p.range.size;
      outputs = p.range.columns;
      known = known;
      lined = lined;
      count = (joined-some rs p.range.count.0, omega (arith, joined_length rs));
      enough = enough;
      rows = joined-good n rs k p.disjoint.apart p.good;
    })
