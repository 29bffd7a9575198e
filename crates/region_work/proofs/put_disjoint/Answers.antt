-- `region_work::put_disjoint` meets its contract: what the whole space gives, copied where it is not too much. Assumes nothing.
use native.Mathlib.Omega.{arith}
use lib.ListN.{length}
use Rattle.flat_rows.specs.Listing.{rows_from}
use Rattle.region_laws.specs.Disjoined.{whole-sound}
use Rattle.region_work.specs.Whole.{too_many, all-put}
use borrow.Author.Rules.{rules}
use Rattle.region_work.proofs.put_disjoint.Goals as goal

pub put_region-count-requires : goal.put_region-count-requires
put_region-count-requires c =
    record {
      n_le_list_inputs = (c.requires.n_le_list_inputs.0, omega arith, whole-sound c.args.n, search rules);
      values_len = c.requires.values_len;
    }

pub returns-then-count-gt-GIVEN_ROWS : goal.returns-then-count-gt-GIVEN_ROWS
returns-then-count-gt-GIVEN_ROWS c =
    let a = c.args in
    too_many a.n (rows_from (length a.masks.now) a.masks.now a.values.now a.words.now) c.put_region-count.ensures _ _ _
    c.if-count-gt-GIVEN_ROWS.true

pub returns : goal.returns
returns c =
    let a = c.args in
    all-put a.n (rows_from (length a.masks.now) a.masks.now a.values.now a.words.now) c.put_region-count.ensures _ _ _ _ _ _
    (omega (arith, c.if-count-gt-GIVEN_ROWS.false)) c.put_list.ensures
