use Rattle.std.proofs.Common.{◌≡◌, sym, ◌∙◌, refl, arith}
use Rattle.put_bytes.specs.Digits.{length_symbols, symbols-down}
use Rattle.block.specs.Text.{symbols}
use Rattle.put_bytes.proofs.put_symbols.Goals as goal

pub overflow_add-out : goal.overflow_add-out
overflow_add-out c = omega (arith, length_symbols)

pub bounds-out-at : goal.bounds-out-at
bounds-out-at c = omega (arith, length_symbols)

pub loop-i-preserved : goal.loop-i-preserved
loop-i-preserved c =
    let l = c.loop-i in
    rw c.symbol.ensures (l.invariant ∙ symbols-down l.out c.args.at l.i l.m l.v c.loop-i-test.true)

pub overflow_add-result : goal.overflow_add-result
overflow_add-result c = omega (arith, length_symbols)

pub returns : goal.returns
unfolding symbols
returns c =
    let e : c.loop-i.i ≡ 0 = omega arith in
    record { place = omega (arith, length_symbols); stored = sym (c.loop-i.invariant ∙ rw e refl) }
