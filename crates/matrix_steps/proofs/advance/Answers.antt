-- `matrix_steps::advance` meets its contract: an exchange and then a shear are a step. Assumes nothing.
use mathlib.Core.Path.{◌≡◌, ap, ◌∙◌}
use Prim.Native.Nat.{ℕ, ◌<◌, ◌^◌}
use native.Mathlib.Omega.{arith}
use lib.Bits.{bit_xor}
use Rattle.block.specs.Rows.{partner, exchange, rest}
use Rattle.matrix_steps.specs.Steps.{partner-lt, step-made}
use Rattle.matrix_steps.proofs.advance.Goals as goal

-- what is left of the chosen number, by the numbers in hand
rest-is : (n k h y x v : ℕ) → v ≡ bit_xor (exchange k h y) (2 ^ k) → h ≡ partner n k y → y ≡ x → v ≡ rest n k x
unfolding rest
rest-is n k h y x v a b e = a ∙ ap (λ (h : ℕ). bit_xor (exchange k h y) (2 ^ k)) b ∙ ap (λ (y : ℕ). bit_xor (exchange k (partner n k y) y) (2 ^ k)) e

pub rest_of-rest-requires : goal.rest_of-rest-requires
rest_of-rest-requires c =
    let near : c.partner_of-partner.result < c.args.n = rw c.partner_of-partner.ensures (partner-lt _ _ _ c.requires.2) in
    omega arith

pub exchange_rows-requires : goal.exchange_rows-requires
exchange_rows-requires c = (c.requires.0, c.requires.2, rw c.partner_of-partner.ensures (partner-lt _ _ _ c.requires.2))

pub returns : goal.returns
returns c =
    let a = c.args in
    let y = c.apply_rows-y.ensures in
    let e = c.partner_of-partner.ensures ∙ ap (partner a.n a.k) y in
    let d = rest-is a.n a.k _ _ _ _ c.rest_of-rest.ensures c.partner_of-partner.ensures y in
    record {
      rows =
          step-made _ _ a.t _ _ a.s.now _ _ c.requires.0 c.requires.2 e d c.exchange_rows.ensures c.shear_rows.ensures;
      exchanged = e;
      flipped = d;
    }
