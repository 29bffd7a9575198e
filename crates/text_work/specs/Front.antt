-- Rows at the front of storage: the list of the first so many is theirs (`front-rows`). And what it comes to that they are written as row text
-- after an operation that made them: its refusal, or their text (`rows-refused`, `rows_written`). Assumes nothing.
use Rattle.std.specs.Prelude.{◌≡◌, refl, Bool, true, false, cond, List, ◌++◌, map, ℕ, ◌≤◌, length, get_or, take}
use Rattle.std.proofs.Common.{sym, ◌∙◌, arith, eqb-true, length-take, take_at}
use Rattle.std.proofs.Math.Path.{ap}
use Rattle.std.proofs.lemmas.List.{length-map}
use Rattle.std.proofs.Math.ListN.{get_or-map}
use Rattle.slices.specs.Places.{at}
use Rattle.slices.specs.Filled.{tab-cong, tab-list}
use Rattle.block.specs.Words.{row, rows_of, mask_part, values_part, word_part}
use Rattle.block.specs.Refusals.{answer, answered, and_then, stored}
use Rattle.block.specs.Text.{text_of, write_verdict, write_text, with_bytes}
use Rattle.block.specs.declared.Row.{Row}
use Rattle.block.specs.declared.Answer.{Answer}
use Rattle.block.specs.declared.TextAnswer.{TextAnswer}
use Rattle.promises.specs.Texts.{WritePromise}
use Rattle.refusal_laws.specs.Verdicts.{then-refused, then-answered, Written, not_written}
use Rattle.flat_rows.specs.Listing.{rows_from, rows-of}
use Rattle.text_work.specs.Work.{first_rows}

-- the list whose masks, values and words lie in three slices is the list
rows-parts : (rs : List Row) → rows_of (map mask_part rs) (map values_part rs) (map word_part rs) ≡ rs
rows-parts rs =
    let masks : List ℕ = map mask_part rs in
    let values : List ℕ = map values_part rs in
    let words : List ℕ = map word_part rs in
    let size = length-map rs mask_part in
    rows-of masks values words (length-map rs values_part ∙ sym size) (length-map rs word_part ∙ sym size)
    ∙ ap (λ (i : ℕ). rows_from i masks values words) size
    ∙ tab-cong (length rs) (λ i. row (at masks i) (at values i) (at words i)) (λ i. get_or rs i (row 0 0 0))
    (λ i h.
    rw (
      get_or-map mask_part rs i (row 0 0 0),
      get_or-map values_part rs i (row 0 0 0),
      get_or-map word_part rs i (row 0 0 0),
    ))
    ∙ tab-list (row 0 0 0) rs

-- a part of the rows lies at the front of l
abbrev pub InFront : (Row → ℕ) → List Row → List ℕ → Type 0
InFront part rs l = take (length rs) l ≡ map part rs

pub in-front : (part : Row → ℕ) (rs : List Row) (rest l : List ℕ) → l ≡ map part rs ++ rest → InFront part rs l
in-front part rs rest l e = ap (take (length rs)) e ∙ take_at (map part rs) rest (length rs) (length-map rs part)

part-long : (part : Row → ℕ) (rs : List Row) (l : List ℕ) → InFront part rs l → length rs ≤ length l
part-long part rs l e = omega (arith, simp length-take at (ap length e), length-map rs part)

-- the rows lie at the front of m, v and d
module _ (rs : List Row) (count : ℕ) (counted : count ≡ length rs) (m v d : List ℕ) (a : InFront mask_part rs m) (b : InFront values_part rs v)
    (c : InFront word_part rs d) where
  pub front-rows : first_rows count m v d ≡ rs
  front-rows = rw (counted, a, b, c, rows-parts rs)

  pub front_long : (count ≤ length m) × (count ≤ length v) × (count ≤ length d)
  front_long = (
    omega (arith, counted, part-long mask_part rs m a),
    omega (arith, counted, part-long values_part rs v b),
    omega (arith, counted, part-long word_part rs d c),
  )

-- ---- rows that an operation made are written

-- a second answer that is 0 where the first is adds no refusal
pub adds_none : (u v : Answer) → (u.number ≡ 0 → v ≡ u) → and_then u v ≡ u
adds_none u v h = go (answered u) refl
  where
    go : (b : Bool) → answered u ≡ b → cond b v u ≡ u
    go true e = h (eqb-true u.number 0 e)
    go false e = refl

-- the operation answered with this number and these places, by the verdict u; its rows are written as text of type y, with its type line or,
-- where z is 0, without
module _ (u : Answer) (number a b : ℕ) (said : answer number a b ≡ u) (n k y z : ℕ) (rs : List Row) (l : List ℕ) where
  abbrev text : List ℕ
  text = text_of n k y z rs

  abbrev both : Answer
  both = and_then u (write_verdict n k y z rs (length l))

  pub rows-refused : (number ≡ 0 → ⊥) → Written both text l (record { number = number; a = a; b = b; count = 0 }) l
  rows-refused h =
      not_written (answer number a b) both text l (said ∙ then-refused u _ (λ e. h (ap (λ (x : Answer). x.number) said ∙ e))) h

  pub rows_written : number ≡ 0 → (t : TextAnswer) (l' : List ℕ) → WritePromise n k y z rs l t l' → Written both text l t l'
  unfolding write_text
  rows_written h t l' p =
      let e = then-answered u (write_verdict n k y z rs (length l)) (sym (ap (λ (x : Answer). x.number) said) ∙ h) in
      (p.answer ∙ ap (λ (v : Answer). with_bytes v text) e, p.text ∙ ap (λ (v : Answer). stored v text l) e)
