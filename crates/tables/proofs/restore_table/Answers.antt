-- `tables::restore_table` meets its contract: the checks before 8, then 8, and on 0 the restored table. Assumes nothing.
use mathlib.Core.Path.{◌≡◌, refl, sym, ap, ◌∙◌}
use mathlib.Core.List.{[]}
use Prim.Native.Nat.{ℕ}
use native.Mathlib.Omega.{arith}
use borrow.Author.Tests.{lt-ltb, le-ltb}
use lib.Dec.{ltb}
use lib.ListN.{length}
use Rattle.slices.specs.Places.{at}
use Rattle.block.specs.Refusals.{check, answer, dependent}
use Rattle.block.specs.Tables.{restore_verdict, restored}
use Rattle.block.specs.declared.Answer.{Answer}
use Rattle.table_checks.specs.Restoring.{restore_checked}
use Rattle.table_checks.specs.Passed.{restore-passed}
use Rattle.refusal_laws.specs.Verdicts.{verdict-hit, verdict-miss, verdict-none, part-refuses, part-passes, kept, given}
use Rattle.tables.proofs.restore_table.Goals as goal

eight : ◌≡◌ {A = ℕ} 8 0 → ⊥
eight e = omega arith

pub returns-then-v-ne0 : goal.returns-then-v-ne0
unfolding restore_verdict restore_checked
returns-then-v-ne0 c =
    let a = c.args in
    let e : c.restore_checked-v.result ≡ restore_verdict a.n a.k a.block_type a.sigma.now a.smaller.now (length a.table.now) =
    part-refuses _ (restore_checked a.n a.k a.block_type a.sigma.now a.smaller.now (length a.table.now)) _
    c.restore_checked-v.ensures c.if-v-ne0.true in
    record { answer = e; table = kept _ _ (restored a.n a.sigma.now a.smaller.now) a.table.now e c.if-v-ne0.true }

pub first_dependent-j-requires : goal.first_dependent-j-requires
first_dependent-j-requires c =
    let a = c.args in
    let p = restore-passed a.n a.k a.block_type a.sigma.now a.smaller.now (length a.table.now) _ c.restore_checked-v.ensures c.if-v-ne0.false in
    (omega (arith, p.rows), p.inputs, omega (arith, p.inputs), p.below)

pub returns-then-j-n : goal.returns-then-j-n
unfolding restore_verdict restore_checked
returns-then-j-n c =
    let a = c.args in
    let d = c.first_dependent-j.ensures in
    let j = dependent a.n (at a.sigma.now) in
    let e : c.refuse.result ≡ restore_verdict a.n a.k a.block_type a.sigma.now a.smaller.now (length a.table.now) =
    c.refuse.ensures ∙ ap (λ (j : ℕ). answer 8 j 0) d
    ∙ sym (verdict-hit (check (ltb j a.n) 8 j 0) [] (sym (ap (λ (j : ℕ). ltb j a.n) d) ∙ lt-ltb _ _ c.if-j-n.true))
    ∙ part-passes _ (restore_checked a.n a.k a.block_type a.sigma.now a.smaller.now (length a.table.now)) _
    c.restore_checked-v.ensures (refl, (refl, (refl, (refl, (refl, (refl, (refl, tt))))))) c.if-v-ne0.false in
    record {
      answer = e;
      table = kept _ _ (restored a.n a.sigma.now a.smaller.now) a.table.now e
          (λ z. eight (sym (ap (λ (v : Answer). v.number) c.refuse.ensures) ∙ z));
    }

pub put_restored-requires : goal.put_restored-requires
put_restored-requires c =
    let a = c.args in
    let p = restore-passed a.n a.k a.block_type a.sigma.now a.smaller.now (length a.table.now) _ c.restore_checked-v.ensures c.if-v-ne0.false in
    (p.entries, p.inputs, omega (arith, p.rows), p.space)

pub returns : goal.returns
unfolding restore_verdict restore_checked
returns c =
    let a = c.args in
    let d = c.first_dependent-j.ensures in
    let j = dependent a.n (at a.sigma.now) in
    let e : c.refuse-2.result ≡ restore_verdict a.n a.k a.block_type a.sigma.now a.smaller.now (length a.table.now) =
    c.refuse-2.ensures
    ∙ sym (verdict-miss (check (ltb j a.n) 8 j 0) [] (sym (ap (λ (j : ℕ). ltb j a.n) d) ∙ le-ltb _ _ c.if-j-n.false) ∙ verdict-none)
    ∙ part-passes _ (restore_checked a.n a.k a.block_type a.sigma.now a.smaller.now (length a.table.now)) _
    c.restore_checked-v.ensures (refl, (refl, (refl, (refl, (refl, (refl, (refl, tt))))))) c.if-v-ne0.false in
    record {
      answer = e;
      table = c.put_restored.ensures
          ∙ given _ _ (restored a.n a.sigma.now a.smaller.now) a.table.now e (ap (λ (v : Answer). v.number) c.refuse-2.ensures);
    }
