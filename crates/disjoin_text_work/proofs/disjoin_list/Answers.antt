-- `disjoin_text_work::disjoin_list` meets its contract: a list of type fr is refused; where disjoining refuses, nothing is written; where it answers,
-- the disjoint rows lie at the front of working storage, and what is left is the writing of them, which refuses none. Assumes nothing.
use mathlib.Core.Path.{refl}
use borrow.Author.Rules.{rules}
use Rattle.block.specs.Words.{rows_of}
use Rattle.disjoin_text_work.specs.Rows.{fr-refused, disjoined-lies, disjoin-refused, disjoin-written}
use Rattle.disjoin_text_work.proofs.disjoin_list.Goals as goal

pub returns-then-block_type-eq-FR : goal.returns-then-block_type-eq-FR
returns-then-block_type-eq-FR c =
    let a = c.args in
    let whole =
    fr-refused a.n a.k a.block_type (rows_of a.masks.now a.values.now a.words.now) c.if-block_type-eq-FR.true a.out.now in
    record { result_value = whole.0; out_after = whole.1 }

pub returns-then-d-ne0 : goal.returns-then-d-ne0
returns-then-d-ne0 c =
    let a = c.args in
    let whole =
    disjoin-refused a.n a.k (rows_of a.masks.now a.values.now a.words.now) _ _ _ _ _ _ refl _
    c.disjoin_rows-d.ensures a.block_type c.if-block_type-eq-FR.false a.out.now c.requires c.if-d-ne0.true in
    record { result_value = whole.0; out_after = whole.1 }

pub write_rows-requires : goal.write_rows-requires
write_rows-requires c =
    let a = c.args in
    disjoined-lies a.n a.k (rows_of a.masks.now a.values.now a.words.now) _ _ _ _ _ _ refl _
    c.disjoin_rows-d.ensures c.if-d-ne0.false

pub returns : goal.returns
returns c =
    let a = c.args in
    let whole =
    disjoin-written a.n a.k (rows_of a.masks.now a.values.now a.words.now) _ _ _ _ _ _ refl _
    c.disjoin_rows-d.ensures a.block_type c.if-block_type-eq-FR.false a.out.now c.requires c.if-d-ne0.false _ _
    c.write_rows.ensures in
    record { result_value = whole.0; out_after = whole.1 }
