-- `symmetric::symmetric_block` meets its contract: the verdict, and on 0 the work. Assumes nothing.
use mathlib.Core.Path.{ap, ap₂, ◌∙◌}
use Prim.Native.Nat.{ℕ}
use lib.ListN.{length}
use Rattle.block.specs.Measure.{measure}
use Rattle.block.specs.Basis.{smaller}
use Rattle.block.specs.Tables.{with_measures}
use Rattle.block.specs.Symmetric.{of_counts, symmetric_table, gray_column, gray_table, symmetric_block}
use Rattle.block.specs.declared.Answer.{Answer}
use Rattle.table_checks.specs.Passed.{symmetric-passed}
use Rattle.refusal_laws.specs.Verdicts.{measures-refused, measures-answered, kept, given}
use Rattle.symmetric.proofs.symmetric_block.Goals as goal

pub returns-then-v-ne0 : goal.returns-then-v-ne0
unfolding symmetric_block
returns-then-v-ne0 c =
    let a = c.args in
    let f = of_counts a.words.now in
    let v = c.symmetric_verdict-v.result in
    let e = c.symmetric_verdict-v.ensures in
    let x = measure f a.n in
    let y = measure (smaller f gray_column a.n) a.n in
    record {
      answer = c.from.ensures ∙ measures-refused v x y c.if-v-ne0.true ∙ ap (λ (v : Answer). with_measures v x y) e;
      table = kept v _ (symmetric_table a.words.now a.n) a.table.now e c.if-v-ne0.true;
      smaller = kept v _ (gray_table a.words.now a.n) a.smaller.now e c.if-v-ne0.true;
    }

pub make_symmetric-measures-requires : goal.make_symmetric-measures-requires
make_symmetric-measures-requires c =
    let a = c.args in
    let p = symmetric-passed a.n a.k a.block_type a.words.now (length a.table.now) (length a.smaller.now) _
    c.symmetric_verdict-v.ensures c.if-v-ne0.false in
    (p.counts, p.least, p.inputs, p.table, p.smaller)

pub returns : goal.returns
unfolding symmetric_block
returns c =
    let a = c.args in
    let f = of_counts a.words.now in
    let v = c.symmetric_verdict-v.result in
    let e = c.symmetric_verdict-v.ensures in
    let l = c.if-v-ne0.false in
    let x = measure f a.n in
    let y = measure (smaller f gray_column a.n) a.n in
    let done = c.make_symmetric-measures.ensures in
    record {
      answer = rw (c.from-2.ensures, done.earlier, done.later) (measures-answered v x y l ∙ ap (λ (v : Answer). with_measures v x y) e);
      table = done.table ∙ given v _ (symmetric_table a.words.now a.n) a.table.now e l;
      smaller = done.smaller ∙ given v _ (gray_table a.words.now a.n) a.smaller.now e l;
    }
