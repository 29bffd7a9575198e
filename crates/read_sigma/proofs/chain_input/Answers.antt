use mathlib.Core.Path.{◌≡◌, sym, ap, ap₂, ◌∙◌}
use mathlib.Core.List.{List, ◌∷◌}
use Prim.Native.Nat.{ℕ, ◌^◌}
use native.Mathlib.Omega.{arith}
use borrow.Author.Tests.{lt-ltb}
use lib.Dec.{ltb}
use Rattle.slices.specs.Places.{first}
use Rattle.slices.specs.Least.{first-is}
use Rattle.block.specs.Model.{x_name}
use Rattle.read_names.specs.Met.{met_at}
use Rattle.read_chains.specs.Chains.{linked_at}
use Rattle.read_sigma.specs.Rows.{chain_at}
use Rattle.read_sigma.proofs.chain_input.Goals as goal

-- the test by what was found
tested : (t : List ℕ) (at n i a met v r : ℕ) → met ≡ met_at t at (32 ∷ x_name a) → v ≡ 2 ^ a → r ≡ first n (linked_at t met n v i 1)
    → ltb r n ≡ chain_at t at n i a
tested t at n i a met v r e f g =
    ap (λ (x : ℕ). ltb x n) (g ∙ ap₂ (λ (x y : ℕ). first n (linked_at t x n y i 1)) e f)

pub returns-then-link_input-n : goal.returns-then-link_input-n
returns-then-link_input-n c =
    let l = c.loop-a in
    let a = c.args in
    sym
    (first-is a.n (chain_at a.text.now a.at a.n a.i) l.a (omega arith) l.invariant
    (λ q.
    sym (tested a.text.now a.at a.n a.i l.a _ _ _ c.meet_input-met.ensures c.power.ensures c.link_input.ensures)
    ∙ lt-ltb c.link_input.result a.n c.if-link_input-n.true))

pub returns : goal.returns
returns c =
    let a = c.args in
    let e : c.loop-a.a ≡ a.n = omega arith in
    sym (first-is a.n (chain_at a.text.now a.at a.n a.i) a.n (omega arith) (rw e at c.loop-a.invariant) (λ q. absurd (omega arith)))
