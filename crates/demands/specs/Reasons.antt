-- Why a number was not taken (02, Ticket 7), on the answers themselves: "The reason given must be the true one, and the set named is the only
-- such set." Each reason is given exactly where it is the first of the four that holds, and one always is; the set named is the only set of
-- taken numbers with the XOR t, and each number of it has no smaller R than t; and a list that the row method refuses with 9 is answered.
-- The laws of any block stand in crate reason_laws. Assumes nothing.
use Rattle.std.specs.Prelude.{◌≡◌, refl, Bool, true, false, not, cond, List, ◌↔◌, ℕ, ◌-◌, ◌^◌, ◌<◌, Result, Ok, Err}
use Rattle.std.proofs.Common.{sym, ap, ◌∙◌, arith, eq-eqb, eqb-true, lt-ltb}
use Rattle.std.proofs.lemmas.Bool.{false≢true}
use Rattle.bits.specs.Digits.{bit}
use Rattle.slices.specs.Places.{at}
use Rattle.block.specs.Words.{missing, of_rows}
use Rattle.block.specs.Measure.{shift}
use Rattle.block.specs.Basis.{before, columns, apply, basis_of, sigma_of}
use Rattle.block.specs.Refusals.{answer, answered}
use Rattle.block.specs.Lists.{method_checks, row_method_verdict}
use Rattle.block.specs.Reasons.{FirstToHold, reason_of, why_verdict, why_not}
use Rattle.block.specs.declared.Row.{Row}
use Rattle.block.specs.declared.Answer.{Answer}
use Rattle.block.specs.declared.Reason.{Reason}
use Rattle.block.specs.declared.Reason.TheVariants.{Zero, Taken, Xor}
use Rattle.refusal_laws.specs.Verdicts.{verdict-miss, verdict-none, passed_over}
use Rattle.choice_laws.specs.Order.{Ahead}
use Rattle.answered_laws.specs.Passed.{WhyPassed, why-passed}
use Rattle.reason_laws.specs.Blocks.{reason-first, reason-only, set-only, taken-sigma, xor-ahead}

-- ---- what an answer says of itself

is_given : Result Reason Answer → Bool
is_given (Ok r) = true
is_given (Err v) = false

reason_in : Result Reason Answer → Reason
reason_in (Ok r) = r
reason_in (Err v) = Zero

-- a reason was given: the verdict is 0, and that is the reason
given-when : (v : Answer) (r p : Reason) → cond (answered v) (Ok r) (Err v) ≡ Ok p → (v.number ≡ 0) × (r ≡ p)
unfolding is_given reason_in
given-when v r p e = go (answered v) refl e
  where
    go : (b : Bool) → answered v ≡ b → cond b (Ok r) (Err v) ≡ Ok p → (v.number ≡ 0) × (r ≡ p)
    go true d e = (eqb-true v.number 0 d, ap reason_in e)
    go false d e = absurd (false≢true (ap is_given e))

module _ (n k y w t : ℕ) (rs : List Row) where
  -- the block, and the numbers that were taken
  abbrev f : ℕ → ℕ
  f = of_rows (missing y) rs

  abbrev c : ℕ → ℕ
  c = at (basis_of f n w)

  told : (p : Reason) → why_not n k y w t rs ≡ Ok p → WhyPassed n k y w t rs × (reason_of f n w t ≡ p)
  unfolding why_not
  told p e =
      let g = given-when (why_verdict n k y w t rs) (reason_of f n w t) p e in
      (why-passed n k y w t rs g.0, g.1)

  -- always one of the four: where nothing is refused a reason is given
  pub reason-given : (why_verdict n k y w t rs).number ≡ 0 → why_not n k y w t rs ≡ Ok (reason_of f n w t)
  unfolding why_not
  reason-given h = rw (eq-eqb (why_verdict n k y w t rs).number 0 h)

  -- the reason given is the true one: it holds, and none before it does
  pub given-first : (p : Reason) → why_not n k y w t rs ≡ Ok p → FirstToHold (before (shift f n)) n w c t p
  given-first p e =
      let g = told p e in
      rw g.1 at (reason-first f n w g.0.weight.0 t g.0.number)

  -- each reason exactly when
  pub given-exactly : (why_verdict n k y w t rs).number ≡ 0 → (p : Reason)
      → (why_not n k y w t rs ≡ Ok p) ↔ FirstToHold (before (shift f n)) n w c t p
  given-exactly h p =
      let q = why-passed n k y w t rs h in
      (given-first p, λ held. reason-given h ∙ ap Ok (reason-only f n w q.weight.0 t q.number p held))

  -- the set named is what sigma sends t to ..
  pub given-sigma : (z : ℕ) → why_not n k y w t rs ≡ Ok (Xor z) → z ≡ apply (at (sigma_of f n w)) n t
  given-sigma z e =
      let g = told (Xor z) e in
      let q = (given-first (Xor z) e).3 in
      set-only f n w g.0.weight.0 t z q.below q.gives

  -- .. and the only set of taken numbers with that XOR
  pub given-only : (z : ℕ) → why_not n k y w t rs ≡ Ok (Xor z) → (u : ℕ) → u < 2 ^ n → columns c n u ≡ t → u ≡ z
  given-only z e u h d =
      let g = told (Xor z) e in
      set-only f n w g.0.weight.0 t u h d ∙ sym (given-sigma z e)

  -- each number of it has no smaller R than t; at equal R it has no more one-bits, and with as many it is the smaller number
  pub given-ahead : (z : ℕ) → why_not n k y w t rs ≡ Ok (Xor z) → (j : ℕ) → j < n → bit z j ≡ 1 → Ahead (shift f n) (c j) t
  given-ahead z e = xor-ahead f n w t z (given-first (Xor z) e).3

  -- the step named is the one whose bit alone is in sigma t
  pub given-step : (step : ℕ) → why_not n k y w t rs ≡ Ok (Taken step) → apply (at (sigma_of f n w)) n t ≡ 2 ^ (step - 1)
  given-step step e =
      let g = told (Taken step) e in
      let held = (given-first (Taken step) e).2 in
      taken-sigma f n w g.0.weight.0 (step - 1) t (omega (arith, held.0, held.1)) held.2

-- ---- a list that the row method refuses with 9

-- it is answered here, for every t below 2^n: the list is not moved
pub nine-answered : (n k y w t : ℕ) (rs : List Row) (roomT roomSigma roomRows : ℕ) → (row_method_verdict n k y w rs roomT roomSigma roomRows).number ≡ 9
    → t < 2 ^ n → why_verdict n k y w t rs ≡ answer 0 0 0
unfolding row_method_verdict method_checks why_verdict
nine-answered n k y w t rs roomT roomSigma roomRows h below =
    let inputs = passed_over 9 _ _ refl h in
    let columns = passed_over 9 _ _ refl inputs.1 in
    let typed = passed_over 9 _ _ refl columns.1 in
    let weight = passed_over 9 _ _ refl typed.1 in
    let count = passed_over 9 _ _ refl weight.1 in
    let room = passed_over 9 _ _ refl count.1 in
    let formed = passed_over 9 _ _ refl room.1 in
    let apart = passed_over 9 _ _ refl formed.1 in
    let driven = passed_over 9 _ _ refl apart.1 in
    verdict-miss _ _ inputs.0
    ∙ verdict-miss _ _ columns.0
    ∙ verdict-miss _ _ typed.0
    ∙ verdict-miss _ _ weight.0
    ∙ verdict-miss _ _ (ap not (lt-ltb t (2 ^ n) below))
    ∙ verdict-miss _ _ count.0
    ∙ verdict-miss _ _ formed.0
    ∙ verdict-miss _ _ apart.0
    ∙ verdict-miss _ _ driven.0
    ∙ verdict-none
