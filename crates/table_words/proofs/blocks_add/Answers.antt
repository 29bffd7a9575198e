-- `table_words::blocks_add` meets its contract: one case for each answer. Assumes nothing.
use mathlib.Core.Path.{ap, ◌∙◌}
use Prim.Native.Nat.{ℕ, ◌-◌, ◌*◌}
use native.Mathlib.Omega.{arith}
use lib.Bits.{bit_xor, xor_lt}
use Rattle.table_words.specs.Matching.{block-le, pair-counted, pair-alone, pair-both}
use Rattle.table_words.proofs.blocks_add.Goals as goal

pub returns-then-c-b : goal.returns-then-c-b
returns-then-c-b c = pair-counted _ _ _ _ c.if-c-b.true

pub matches-m-requires : goal.matches-m-requires
matches-m-requires c =
    let a = c.args in
    let h = c.requires in (
      omega (arith, block-le a.n a.b h.1 h.4),
      omega (arith, block-le a.n (bit_xor a.b a.high) h.1 (xor_lt (a.n - 6) a.b a.high h.4 h.3)),
    )

pub returns-then-b-c : goal.returns-then-b-c
returns-then-b-c c = c.matches-m.ensures ∙ pair-alone _ _ _ _ c.if-b-c.true

pub returns-else-b-c : goal.returns-else-b-c
returns-else-b-c c = ap (λ (m : ℕ). m * 2) c.matches-m.ensures ∙ pair-both _ _ _ _ (omega arith) c.if-b-c.false
