-- `tables::table_method` meets its contract: the verdict, and on 0 the work. Assumes nothing.
use mathlib.Core.Path.{◌≡◌, ap, ap₂, ◌∙◌}
use Prim.Native.Nat.{ℕ}
use native.Mathlib.Omega.{arith}
use lib.ListN.{length}
use Rattle.block.specs.Limits.{outputs}
use Rattle.block.specs.Words.{of_table}
use Rattle.block.specs.Measure.{measure}
use Rattle.block.specs.Basis.{basis_of, sigma_of, smaller_of}
use Rattle.block.specs.Tables.{table_method, with_measures, smaller_table}
use Rattle.block.specs.declared.Answer.{Answer}
use Rattle.shared_checks.specs.Sizes.{inside, either-word}
use Rattle.table_words.specs.Matching.{hole}
use Rattle.table_shifts.specs.Blocks.{good-unmarked}
use Rattle.table_checks.specs.Passed.{method-passed, method-sizes, method-entries}
use Rattle.refusal_laws.specs.Verdicts.{measures-refused, measures-answered, kept, given}
use Rattle.tables.proofs.table_method.Goals as goal

pub returns-then-v-ne0 : goal.returns-then-v-ne0
unfolding table_method
returns-then-v-ne0 c =
    let a = c.args in
    let f = of_table a.table.now in
    let v = c.table_method_verdict-v.result in
    let e = c.table_method_verdict-v.ensures in
    let x = measure f a.n in
    let y = measure (smaller_of f a.n a.w) a.n in
    record {
      answer = c.from.ensures ∙ measures-refused v x y c.if-v-ne0.true ∙ ap (λ (v : Answer). with_measures v x y) e;
      basis = kept v _ (basis_of f a.n a.w) a.basis.now e c.if-v-ne0.true;
      sigma = kept v _ (sigma_of f a.n a.w) a.sigma.now e c.if-v-ne0.true;
      smaller = kept v _ (smaller_table f a.n a.w) a.smaller.now e c.if-v-ne0.true;
    }

pub linearize-measures-requires : goal.linearize-measures-requires
linearize-measures-requires c =
    let a = c.args in
    let e = c.table_method_verdict-v.ensures in
    let l = c.if-v-ne0.false in
    let b = length a.basis.now in
    let s = length a.sigma.now in
    let m = length a.smaller.now in
    let p = method-passed a.n a.k a.block_type a.w a.table.now b s m _ e l in
    let sizes = method-sizes a.n a.k a.block_type a.w a.table.now b s m _ e l in
    let good = method-entries a.n a.k a.block_type a.w a.table.now b s m _ e l in (
      p.entries,
      p.inputs,
      p.least,
      p.most,
      p.columns,
      p.rows,
      p.smaller,
      λ i h. good-unmarked _ a.k _ (either-word (λ m. m ≡ hole → ⊥) (λ e. omega arith) (λ e. omega arith) a.block_type) (inside 1 outputs a.k sizes.1).1 (good i (omega (arith, p.entries))),
    )

pub returns : goal.returns
unfolding table_method
returns c =
    let a = c.args in
    let f = of_table a.table.now in
    let v = c.table_method_verdict-v.result in
    let e = c.table_method_verdict-v.ensures in
    let l = c.if-v-ne0.false in
    let x = measure f a.n in
    let y = measure (smaller_of f a.n a.w) a.n in
    let done = c.linearize-measures.ensures in
    record {
      answer = rw (c.from-2.ensures, done.earlier, done.later) (measures-answered v x y l ∙ ap (λ (v : Answer). with_measures v x y) e);
      basis = done.basis ∙ given v _ (basis_of f a.n a.w) a.basis.now e l;
      sigma = done.sigma ∙ given v _ (sigma_of f a.n a.w) a.sigma.now e l;
      smaller = done.smaller ∙ given v _ (smaller_table f a.n a.w) a.smaller.now e l;
    }
