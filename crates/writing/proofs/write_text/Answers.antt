-- `writing::write_text` meets its contract. A refusal leaves the slice alone; on 0 every check passed, so that the text fits, and what is
-- put at the front lies over the slice. Assumes nothing.
use mathlib.Core.Path.{sym, ap, ◌∙◌}
use native.Mathlib.Omega.{arith}
use native.Mathlib.Nat.{zero-add}
use borrow.Author.Tests.{eq-eqb, ne_eqb}
use lib.ListN.{length}
use Rattle.block.specs.Text.{write_text}
use Rattle.put_bytes.specs.Puts.{put-over}
use Rattle.put_text.specs.Length.{text-le}
use Rattle.block.specs.Words.{rows_of}
use Rattle.flat_rows.specs.Listing.{equal-lengths}
use Rattle.put_text.specs.Checks.{writable}
use Rattle.writing.proofs.write_text.Goals as goal

pub returns-then-v-ne0 : goal.returns-then-v-ne0
unfolding write_text
returns-then-v-ne0 c =
    let e = c.write_checks-v.ensures in
    record { answer = rw (c.from.ensures, ← e, ne_eqb _ _ c.if-v-ne0.true); text = rw (← e, ne_eqb _ _ c.if-v-ne0.true) }

pub put_text-count-requires : goal.put_text-count-requires
put_text-count-requires c =
    let a = c.args in
    let w = writable a.n a.k a.block_type a.type_line (rows_of a.masks.now a.values.now a.words.now) (length a.out.now)
    (ap (λ v. v.number) (sym c.write_checks-v.ensures) ∙ c.if-v-ne0.false) in
    let e = equal-lengths a.masks.now a.values.now a.words.now w.count.0 in
    record {
      words_in_bounds = omega (arith, text-le a.n a.k a.block_type a.type_line (rows_of a.masks.now a.values.now a.words.now) w.inputs.1 w.outputs.1 w.count.1, w.enough);
      values_len = e;
    }

pub returns : goal.returns
unfolding write_text
returns c =
    let a = c.args in
    let rs = rows_of a.masks.now a.values.now a.words.now in
    let e = c.write_checks-v.ensures in
    let w = writable a.n a.k a.block_type a.type_line rs (length a.out.now) (ap (λ v. v.number) (sym e) ∙ c.if-v-ne0.false) in
    record {
      answer = rw (c.from-2.ensures, ← e, eq-eqb _ _ c.if-v-ne0.false, c.put_text-count.ensures.place ∙ zero-add _);
      text = rw (← e, eq-eqb _ _ c.if-v-ne0.false)
          (put-over (omega (arith, text-le a.n a.k a.block_type a.type_line rs w.inputs.1 w.outputs.1 w.count.1)) c.put_text-count.ensures);
    }
