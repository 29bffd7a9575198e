-- `read_sigma::read_row` meets its contract: the row's first line is a copy, begins a chain, or is neither. Assumes nothing.
use native.Mathlib.Omega.{arith}
use Rattle.block.specs.ModelRead.{RowDue}
use Rattle.read_chains.specs.Chains.{Chained, power-lt, power_pos}
use Rattle.read_sigma.specs.Rows.{row-none}
use Rattle.read_sigma.specs.Rows.{row_copied, row_chained}
use Rattle.read_sigma.proofs.read_row.Goals as goal

pub returns-then-copy-n : goal.returns-then-copy-n
returns-then-copy-n c =
    let a = c.args in
    let f = c.copy_input-copy in
    row_copied a.text.now (omega arith) a.n a.i a.at c.meet_bytes-begun.result
    c.meet_bytes-begun.ensures f.result f.ensures c.if-copy-n.true
    c.power.result c.meet_last-to.result c.power.ensures c.meet_last-to.ensures
    c.end_copy.result c.end_copy.ensures

pub returns-then-n-a : goal.returns-then-n-a
unfolding Chained
returns-then-n-a c =
    let a = c.args in
    row-none a.text.now (omega arith) a.n a.i a.at c.meet_bytes-begun.result
    c.meet_bytes-begun.ensures (rw c.copy_input-copy.ensures at c.if-copy-n.false)
    (rw c.chain_input-a.ensures at c.if-n-a.true)

pub read_chain-requires : goal.read_chain-requires
read_chain-requires c =
    let a = c.args in
    let v = c.chain_input-a.result in
    omega (arith, c.power-2.ensures, power-lt v a.n (omega arith), power_pos v)

pub returns : goal.returns
returns c =
    let a = c.args in
    let f = c.chain_input-a in
    c.read_chain.ensures (λ k rs. RowDue a.n k rs)
    (row_chained a.text.now (omega arith) a.n a.i a.at c.meet_bytes-begun.result
    c.meet_bytes-begun.ensures
    (rw c.copy_input-copy.ensures at c.if-copy-n.false)
    f.result f.ensures c.if-n-a.false c.power-2.result c.meet_input-met.result c.power-2.ensures
    c.meet_input-met.ensures)
