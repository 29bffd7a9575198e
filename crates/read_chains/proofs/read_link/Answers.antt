-- `read_chains::read_link` meets its contract: no input fits, the line ends the row, or it has a part. Assumes nothing.
use mathlib.Core.Path.{sym, ap, ◌∙◌}
use Prim.Native.Nat.{ℕ, ◌+◌}
use native.Mathlib.Omega.{arith}
use mathlib.Core.Path.{ap₂}
use Rattle.read_names.specs.Met.{lost-is}
use Rattle.read_chains.specs.declared.Link.TheVariants.{Last, Part}
use Rattle.read_chains.specs.Chains.{link-told, link-none, link-last, link-part}
use Rattle.read_chains.proofs.read_link.Goals as goal

pub returns-then-n-b : goal.returns-then-n-b
returns-then-n-b c =
    let a = c.args in
    let whole =
    link-told a.text.now a.at a.n a.m a.i a.p
    (link-none a.text.now (omega arith) a.at a.n a.m a.i a.p c.link_input-b.result c.link_input-b.ensures c.if-n-b.true) in
    record { value = whole.0; grown = whole.1 }

pub returns-then-last : goal.returns-then-last
returns-then-last c =
    let a = c.args in
    let f = c.link_input-b in
    let whole =
    link-told a.text.now a.at a.n a.m a.i a.p
    (ap₂ Last (ap (λ (x : ℕ). a.m + x) c.power.ensures) c.meet_last-last.ensures
    ∙ link-last a.text.now (omega arith) a.at a.n a.m a.i a.p f.result f.ensures c.if-n-b.false
    (λ d. c.if-last.true (c.meet_last-last.ensures ∙ d ∙ lost-is))) in
    record { value = whole.0; grown = whole.1 }

pub returns : goal.returns
returns c =
    let a = c.args in
    let f = c.link_input-b in
    let whole =
    link-told a.text.now a.at a.n a.m a.i a.p
    (ap₂ Part (ap (λ (x : ℕ). a.m + x) c.power.ensures) c.meet_more.ensures
    ∙ link-part a.text.now (omega arith) a.at a.n a.m a.i a.p f.result f.ensures c.if-n-b.false
    (sym c.meet_last-last.ensures ∙ c.if-last.false ∙ sym lost-is)) in
    record { value = whole.0; grown = whole.1 }
