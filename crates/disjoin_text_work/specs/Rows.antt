-- The disjoint list, written: after disjoining its rows lie at the front of storage (`disjoined-front`), as many as are answered. Of a list of type fr
-- nothing is written (`fr-refused`); of one of type fd, disjoining and then writing comes to the refusal of the one, or to the text of the disjoint
-- list (`disjoin-refused`, `disjoin-written`). Writing adds no refusal, since at least one row and at most 128 come out and none is malformed
-- (`write-adds-none`). Assumes nothing.
use Rattle.std.specs.Prelude.{◌≡◌, ℕ, ◌≤◌, length}
use Rattle.std.proofs.Math.Path.{sym, ap}
use Rattle.std.proofs.Common.{◌∙◌, arith, eq-eqb, ne_eqb}
use mathlib.Core.List.{List, [], map}
use Rattle.block.specs.Limits.{given_rows, text_room}
use Rattle.block.specs.Words.{fr, fd, mask_part, values_part, word_part}
use Rattle.block.specs.Refusals.{answer, and_then, stored}
use Rattle.block.specs.Text.{text_of, write_verdict}
use Rattle.block.specs.Overlaps.{disjoined, disjoin_verdict, disjoin, disjoin_typed_verdict}
use Rattle.block.specs.declared.Row.{Row}
use Rattle.block.specs.declared.Answer.{Answer}
use Rattle.block.specs.declared.DisjoinAnswer.{DisjoinAnswer}
use Rattle.block.specs.declared.TextAnswer.{TextAnswer}
use Rattle.promises.specs.Lent.{shortest, lent_flat}
use Rattle.promises.specs.Overlaps.{DisjoinPromise}
use Rattle.promises.specs.Texts.{WritePromise}
use Rattle.refusal_laws.specs.Verdicts.{carried-yes, stored-yes, Written, not_written, verdict-hit, verdict-miss, verdict-none, then-refused, then-answered}
use Rattle.answered_laws.specs.Passed.{DisjoinAnswered, disjoin-answered, disjoin-answers}
use Rattle.put_text.specs.Checks.{write-answers}
use Rattle.region_laws.specs.Disjoined.{disjoined-good, disjoined-some}
use Rattle.text_work.specs.Work.{first_rows}
use Rattle.text_work.specs.Front.{InFront, in-front, front-rows, front_long, adds_none, rows-refused, rows_written}

-- ---- the writer refuses nothing that disjoining has answered

writable : (n k : ℕ) (rs : List Row) (room : ℕ) → DisjoinAnswered n k rs given_rows → text_room ≤ room
    → write_verdict n k fd 1 (disjoined n rs) room ≡ answer 0 0 0
writable n k rs room p enough =
    write-answers n k fd 1 (disjoined n rs) room
    (record {
      inputs = p.passed.range.size;
      outputs = p.passed.range.columns;
      known = (omega arith, omega arith);
      lined = λ e. absurd (omega arith);
      count = (disjoined-some n k rs p.passed.good p.passed.range.count.0, p.few);
      enough = enough;
      rows = disjoined-good n k rs p.passed.good;
    })

pub write-adds-none : (n k : ℕ) (rs : List Row) (room : ℕ) → text_room ≤ room
    → and_then (disjoin_verdict n k rs given_rows) (write_verdict n k fd 1 (disjoined n rs) room) ≡ disjoin_verdict n k rs given_rows
write-adds-none n k rs room enough =
    adds_none (disjoin_verdict n k rs given_rows) (write_verdict n k fd 1 (disjoined n rs) room)
    (λ z.
    let p = disjoin-answered n k rs given_rows z in
    writable n k rs room p enough ∙ sym (disjoin-answers n k rs given_rows p))

-- ---- the type

module _ (n k y : ℕ) (rs : List Row) where
  -- 3, of a list of type fr
  pub typed-three : y ≡ fr → disjoin_typed_verdict n k y rs ≡ answer 3 0 0
  unfolding disjoin_typed_verdict
  typed-three e =
      let three = verdict-hit _ [] (eq-eqb y fr e) in
      sym (then-refused _ (disjoin_verdict n k rs given_rows) (λ z. absurd (omega (arith, sym (ap (λ (v : Answer). v.number) three) ∙ z)))) ∙ three

  -- of any other, the verdict of disjoining
  typed-passes : (y ≡ fr → ⊥) → disjoin_typed_verdict n k y rs ≡ disjoin_verdict n k rs given_rows
  unfolding disjoin_typed_verdict
  typed-passes h =
      sym (then-answered _ (disjoin_verdict n k rs given_rows) (ap (λ (v : Answer). v.number) (verdict-miss _ [] (ne_eqb y fr h) ∙ verdict-none)))

  pub fr-refused : y ≡ fr → (l : List ℕ)
      → Written (disjoin_typed_verdict n k y rs) (text_of n k fd 1 (disjoined n rs)) l (record { number = 3; a = 0; b = 0; count = 0 }) l
  fr-refused e l =
      not_written (answer 3 0 0) (disjoin_typed_verdict n k y rs) (text_of n k fd 1 (disjoined n rs)) l (sym (typed-three e)) (λ z. omega arith)

-- ---- disjoining has answered r, and left m', v' and w' where m, v and w were lent

module _ (n k : ℕ) (rs : List Row) (m v w m' v' w' : List ℕ) (long : shortest m v w ≡ given_rows) (r : DisjoinAnswer)
    (p : DisjoinPromise n k rs (lent_flat m v w m' v' w') r) where
  abbrev u : Answer
  u = disjoin_verdict n k rs given_rows

  disjoined-said : answer r.number r.a r.b ≡ u
  unfolding disjoin
  disjoined-said =
      ap (λ (x : DisjoinAnswer). answer x.number x.a x.b) p.answer ∙ ap (disjoin_verdict n k rs) long

  module _ (h : r.number ≡ 0) where
    disjoined-zero : u.number ≡ 0
    disjoined-zero = sym (ap (λ (x : Answer). x.number) disjoined-said) ∙ h

    counted : r.count ≡ length (disjoined n rs)
    unfolding disjoin
    counted =
        ap (λ (x : DisjoinAnswer). x.count) p.answer ∙ carried-yes (disjoin_verdict n k rs (shortest m v w)) (length (disjoined n rs)) (rw long disjoined-zero)

    laid : (part : Row → ℕ) (l l' : List ℕ) → l' ≡ stored (disjoin_verdict n k rs (shortest m v w)) (map part (disjoined n rs)) l
        → InFront part (disjoined n rs) l'
    laid part l l' e =
        in-front part (disjoined n rs) _ l'
        (e ∙ stored-yes (disjoin_verdict n k rs (shortest m v w)) (map part (disjoined n rs)) l (rw long disjoined-zero))

    -- as many rows as are answered lie in storage
    pub disjoined-lies : (r.count ≤ length m') × (r.count ≤ length v') × (r.count ≤ length w')
    disjoined-lies =
        front_long (disjoined n rs) r.count counted m' v' w'
        (laid mask_part m m' p.rows.masks) (laid values_part v v' p.rows.values) (laid word_part w w' p.rows.words)

    -- and these are the disjoint rows
    disjoined-front : first_rows r.count m' v' w' ≡ disjoined n rs
    disjoined-front =
        front-rows (disjoined n rs) r.count counted m' v' w'
        (laid mask_part m m' p.rows.masks) (laid values_part v v' p.rows.values) (laid word_part w w' p.rows.words)

  -- of a list that is not of type fr
  module _ (y : ℕ) (other : y ≡ fr → ⊥) (l : List ℕ) (enough : text_room ≤ length l) where
    abbrev text : List ℕ
    text = text_of n k fd 1 (disjoined n rs)

    -- disjoining and then writing, both, is by the verdict of disjoining
    one-verdict : and_then u (write_verdict n k fd 1 (disjoined n rs) (length l)) ≡ disjoin_typed_verdict n k y rs
    one-verdict = write-adds-none n k rs (length l) enough ∙ sym (typed-passes n k y rs other)

    pub disjoin-refused : (r.number ≡ 0 → ⊥)
        → Written (disjoin_typed_verdict n k y rs) text l (record { number = r.number; a = r.a; b = r.b; count = 0 }) l
    disjoin-refused h =
        rw one-verdict at (rows-refused u r.number r.a r.b disjoined-said n k fd 1 (disjoined n rs) l h)

    pub disjoin-written : r.number ≡ 0 → (t : TextAnswer) (l' : List ℕ) → WritePromise n k fd 1 (first_rows r.count m' v' w') l t l'
        → Written (disjoin_typed_verdict n k y rs) text l t l'
    disjoin-written h t l' q =
        rw one-verdict at
        (rows_written u r.number r.a r.b disjoined-said n k fd 1 (disjoined n rs) l h t l' (rw (disjoined-front h) at q))
