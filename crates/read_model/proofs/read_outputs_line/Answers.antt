-- `read_model::read_outputs_line` meets its contract: the number of names on the line, or no such line. Assumes nothing.
use mathlib.Core.List.{[]}
use mathlib.Core.Path.{refl}
use Prim.Native.Nat.{◌≤◌}
use native.Mathlib.Omega.{arith}
use Rattle.block.specs.Text.{every}
use Rattle.block.specs.ModelRead.{OutputsDue, RowDue}
use Rattle.read_model.specs.Whole.{named_none, named_some, named-next, outputs-due, Outlined}
use Rattle.block.specs.Covers.{outputs_word}
use Rattle.read_model.proofs.read_outputs_line.Goals as goal

pub returns-then-k-gt-OUTPUTS : goal.returns-then-k-gt-OUTPUTS
unfolding Outlined every
returns-then-k-gt-OUTPUTS c =
    let a = c.args in
    named_none a.text.now (omega arith) a.at outputs_word 121 refl refl 15 (OutputsDue a.n) (λ k. RowDue a.n k []) (outputs-due a.n) c.named-k.result
    c.named-k.ensures c.if-k-gt-OUTPUTS.true

pub returns : goal.returns
unfolding Outlined every
returns c =
    let a = c.args in
    let k = c.named-k in
    let l : k.result ≤ 15 = omega arith in (
      refl,
      named_some a.text.now (omega arith) a.at outputs_word 121 refl refl 15 (OutputsDue a.n) (λ k. RowDue a.n k []) (outputs-due a.n) k.result k.ensures l,
      l,
      named-next a.text.now (omega arith) a.at outputs_word 121 refl refl 15 (OutputsDue a.n) (λ k. RowDue a.n k []) (outputs-due a.n) k.result k.ensures l
          c.meet_named.result c.meet_named.ensures,
    )
