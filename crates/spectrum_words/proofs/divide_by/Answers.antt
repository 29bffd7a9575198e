use Rattle.std.proofs.Common.{◌≡◌, ◌+◌, ◌/◌, ◌%◌, ◌<◌, ◌≤◌, length, ℤ, pos, nat_abs, sym, refl, ap, ◌∙◌, subst, ap₂, div-le_self, arith, w32, to_z, of_z}
use Rattle.walsh_laws.specs.Machine.{back, quotient-asks, quotient-gives}
use Rattle.slices.specs.Places.{at}
use Rattle.slices.specs.Filled.{over_none, over-more, over-beyond, over-whole}
use Rattle.walsh_laws.specs.Walsh.{most_number}
use Rattle.walsh_laws.specs.Passes.{val}
use Rattle.spectrum_words.proofs.divide_by.Goals as goal
use Rattle.spectrum_words.proofs.divide_by.Goals.{After-exact_quotient, In-loop-t}

-- the number and the result's entry are those that stood there
abbrev here : goal.In-loop-t → ℤ
here c =
    val c.loop-t.s c.loop-t.t

kept : (c : goal.In-loop-t) → here c ≡ val c.args.s.now c.loop-t.t
kept c =
    ap (λ l. val l c.loop-t.t) c.loop-t.invariant.cleared
    ∙ over-beyond c.loop-t.t _ c.args.s.now (pos 0) c.loop-t.t (omega arith)

stood : (c : goal.In-loop-t) → at c.loop-t.out c.loop-t.t ≡ at c.args.out.now c.loop-t.t
stood c =
    ap (λ l. at l c.loop-t.t) c.loop-t.invariant.added
    ∙ over-beyond c.loop-t.t _ c.args.out.now 0 c.loop-t.t (omega arith)

-- what the argument divides by
divisor : (c : goal.In-loop-t) → to_z w32 (of_z w32 c.args.d) ≡ pos (length c.args.s.now)
divisor c =
    let p = c.requires in
    ap (λ z. to_z w32 (of_z w32 z)) p.0 ∙ back (pos (length c.args.s.now)) (omega (arith, p.2))

within : (c : goal.In-loop-t) → c.loop-t.t < length c.args.s.now
within c =
    omega arith

small : (c : goal.In-loop-t) → nat_abs (here c) ≤ most_number
small c =
    subst (λ z. nat_abs z ≤ most_number) (sym (kept c)) (c.requires.3.small _ (within c))

-- what the division gives
given : (c : goal.After-exact_quotient) → c.exact_quotient.result
    ≡ nat_abs (val c.args.s.now c.loop-t.t) / length c.args.s.now
given c =
    let same : val c.loop-t.s c.loop-t.t ≡ val c.args.s.now c.loop-t.t
    = ap (λ l. val l c.loop-t.t) c.loop-t.invariant.cleared ∙ over-beyond c.loop-t.t _ c.args.s.now (pos 0) c.loop-t.t (omega arith) in
    let low : nat_abs (val c.loop-t.s c.loop-t.t) ≤ most_number
    = subst (λ z. nat_abs z ≤ most_number) (sym same) (c.requires.3.small _ (omega arith)) in
    let by : to_z w32 (of_z w32 c.args.d) ≡ pos (length c.args.s.now)
    = ap (λ z. to_z w32 (of_z w32 z)) c.requires.0 ∙ back (pos (length c.args.s.now)) (omega (arith, c.requires.2)) in
    quotient-gives (val c.loop-t.s c.loop-t.t) _ (length c.args.s.now) low by (omega arith) _ c.exact_quotient.ensures
    ∙ ap (λ (z : ℤ). nat_abs z / length c.args.s.now) same

pub loop-t-init : goal.loop-t-init
loop-t-init c = record { cleared = over_none _ _; added = over_none _ _ }

pub exact_quotient-requires : goal.exact_quotient-requires
exact_quotient-requires c =
    quotient-asks (here (goal.at.exact_quotient-requires c).In-loop-t) _ (length c.args.s.now) (small (goal.at.exact_quotient-requires c).In-loop-t) (divisor (goal.at.exact_quotient-requires c).In-loop-t) (omega arith)
    (subst (λ z. z ≡ pos (nat_abs z)) (sym (kept (goal.at.exact_quotient-requires c).In-loop-t)) (c.requires.3.whole _ (within (goal.at.exact_quotient-requires c).In-loop-t)))
    (ap (λ (z : ℤ). nat_abs z % length c.args.s.now) (kept (goal.at.exact_quotient-requires c).In-loop-t) ∙ c.requires.3.divides _ (within (goal.at.exact_quotient-requires c).In-loop-t))

pub overflow_add-out : goal.overflow_add-out
overflow_add-out c =
    omega (
      arith,
      stood (goal.at.overflow_add-out c).In-loop-t,
      given (goal.at.overflow_add-out c).After-exact_quotient,
      c.requires.4 _ (within (goal.at.overflow_add-out c).In-loop-t),
      c.requires.3.small _ (within (goal.at.overflow_add-out c).In-loop-t),
      div-le_self (nat_abs (val c.args.s.now c.loop-t.t)) (length c.args.s.now),
    )

pub loop-t-preserved : goal.loop-t-preserved
loop-t-preserved c = record {
  cleared = over-more _ _ _ _ _ c.loop-t.invariant.cleared refl (omega arith);
  added = over-more _ _ _ _ _ c.loop-t.invariant.added (ap₂ ◌+◌ (stood (goal.at.loop-t-preserved c).In-loop-t) (given (goal.at.loop-t-preserved c).After-exact_quotient)) (omega arith);
}

pub returns : goal.returns
returns c =
    let a = c.args in
    let m = length a.s.now in
    let end : c.loop-t.t ≡ m = omega arith in (
      (rw end at c.loop-t.invariant.cleared) ∙ over-whole m (λ _. pos 0) a.s.now refl,
      (rw end at c.loop-t.invariant.added) ∙ over-whole m (λ t. at a.out.now t + nat_abs (val a.s.now t) / m) a.out.now c.requires.1,
    )
