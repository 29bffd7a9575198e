-- `tables::table_value` meets its contract: the verdict, and beside a 0 the value. Assumes nothing.
use mathlib.Core.Path.{ap, ◌∙◌}
use Prim.Native.Nat.{ℕ}
use Rattle.block.specs.Words.{of_table}
use Rattle.block.specs.Measure.{shift}
use Rattle.block.specs.Tables.{table_value, with_value}
use Rattle.block.specs.declared.Answer.{Answer}
use Rattle.table_checks.specs.Passed.{value-passed}
use Rattle.refusal_laws.specs.Verdicts.{value-refused, value-answered}
use Rattle.tables.proofs.table_value.Goals as goal

pub returns-then-v-ne0 : goal.returns-then-v-ne0
unfolding table_value
returns-then-v-ne0 c =
    let a = c.args in
    let x = shift (of_table a.table.now) a.n a.t in
    let v = c.table_value_verdict-v in
    record { answer = c.from.ensures ∙ value-refused v.result x c.if-v-ne0.true ∙ ap (λ (v : Answer). with_value v x) v.ensures }

pub shift_at-value-requires : goal.shift_at-value-requires
shift_at-value-requires c =
    let a = c.args in
    let p = value-passed a.n a.k a.block_type a.t a.table.now _ c.table_value_verdict-v.ensures c.if-v-ne0.false in
    (p.entries, p.asked, p.inputs)

pub returns : goal.returns
unfolding table_value
returns c =
    let a = c.args in
    let x = shift (of_table a.table.now) a.n a.t in
    let v = c.table_value_verdict-v.result in
    record {
      answer = rw (c.from-2.ensures, c.shift_at-value.ensures) (value-answered v x c.if-v-ne0.false
          ∙ ap (λ (v : Answer). with_value v x) c.table_value_verdict-v.ensures);
    }
