-- `symmetric::table_symmetric` meets its contract: the verdict, and beside a 0 the value. Assumes nothing.
use mathlib.Core.Path.{ap, ◌∙◌}
use Prim.Native.Nat.{ℕ}
use Rattle.sums.specs.Sums.{one}
use Rattle.block.specs.Tables.{with_value}
use Rattle.block.specs.Symmetric.{is_symmetric, table_symmetric}
use Rattle.block.specs.declared.Answer.{Answer}
use Rattle.table_checks.specs.Passed.{table-symmetric-passed}
use Rattle.refusal_laws.specs.Verdicts.{value-refused, value-answered}
use Rattle.symmetric.proofs.table_symmetric.Goals as goal

pub returns-then-v-ne0 : goal.returns-then-v-ne0
unfolding table_symmetric
returns-then-v-ne0 c =
    let a = c.args in
    let x = one (is_symmetric a.table.now a.n) in
    let v = c.table_symmetric_verdict-v in
    record { answer = c.from.ensures ∙ value-refused v.result x c.if-v-ne0.true ∙ ap (λ (v : Answer). with_value v x) v.ensures }

pub symmetric_value-value-requires : goal.symmetric_value-value-requires
symmetric_value-value-requires c =
    let a = c.args in
    let p = table-symmetric-passed a.n a.k a.block_type a.table.now _ c.table_symmetric_verdict-v.ensures c.if-v-ne0.false in
    (p.entries, p.inputs)

pub returns : goal.returns
unfolding table_symmetric
returns c =
    let a = c.args in
    let x = one (is_symmetric a.table.now a.n) in
    let v = c.table_symmetric_verdict-v.result in
    record {
      answer = rw (c.from-2.ensures, c.symmetric_value-value.ensures) (value-answered v x c.if-v-ne0.false
          ∙ ap (λ (v : Answer). with_value v x) c.table_symmetric_verdict-v.ensures);
    }
