-- `read_work::read_from` meets its contract: what the headings give leads to the case of `reading_of` and `after_of`, and the part of the text
-- from the cursor on, which stands in it, is the rest. Assumes nothing.
use mathlib.Core.Path.{refl, sym, ◌∙◌}
use native.Mathlib.Omega.{arith}
use borrow.Author.Rules.{rules}
use Rattle.read_laws.specs.Whole.{fault-le}
use Rattle.read_laws.specs.ByPlace.{reading_of, after_of}
use Rattle.read_work.specs.Cursor.{cursor-le, part-from}
use Rattle.read_work.proofs.read_from.Goals as goal

pub slice_bounds-read_rows-count : goal.slice_bounds-read_rows-count
slice_bounds-read_rows-count c = cursor-le c.args.text.now _ _ _ (sym c.read_headings.ensures.value ∙ c.in_ok-h.was)

pub slice_bounds-read_rows-start : goal.slice_bounds-read_rows-start
slice_bounds-read_rows-start c = cursor-le c.args.text.now _ _ _ (sym c.read_headings.ensures.value ∙ c.in_ok-h.was)

pub read_rows-fault-requires : goal.read_rows-fault-requires
read_rows-fault-requires c = omega (arith, c.in_ok-h.ensures.open_within)

pub closed-requires : goal.closed-requires
closed-requires c =
    let w = c.in_ok-h.ensures.open_within in
    (rw c.read_rows-fault.ensures.value (fault-le _ _ _ _), omega arith, omega arith)

pub returns-in_err-h : goal.returns-in_err-h
unfolding reading_of after_of
returns-in_err-h c =
    rw (← c.read_headings.ensures.value, c.in_err-h.was) record {
      value = search rules;
      masks_after = refl;
      values_after = refl;
      words_after = refl;
    }

pub returns : goal.returns
unfolding reading_of after_of
returns c =
    let a = c.args in
    let r = c.read_rows-fault.ensures in
    rw (← c.read_headings.ensures.value, c.in_ok-h.was, ← (part-from a.text.now _), ← r.value)
    record {
      value = c.closed.ensures;
      masks_after = r.masks_after;
      values_after = r.values_after;
      words_after = r.words_after;
    }
