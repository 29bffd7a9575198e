-- The answer is known from its numbers: no second answer has the same. Assumes nothing.
use Rattle.std.specs.Prelude.{◌≡◌, refl, cond, eqb, Result, Ok, Err}
use Rattle.std.proofs.Common.{sym, ap, ◌∙◌, arith}
use Rattle.block.specs.Reasons.{why_numbers}
use Rattle.block.specs.declared.Reason.{Reason}
use Rattle.block.specs.declared.Reason.TheVariants.{Zero, Over, Taken, Xor}
use Rattle.block.specs.declared.Answer.{Answer}
use Rattle.block.specs.declared.WhyAnswer.{WhyAnswer}

-- the reason with these numbers
reason_with : WhyAnswer → Reason
reason_with a = cond (eqb a.reason 1) Zero (cond (eqb a.reason 2) Over (cond (eqb a.reason 3) (Taken a.step) (Xor a.set)))

reason-back : (r : Reason) → reason_with (why_numbers (Ok r)) ≡ r
unfolding reason_with
reason-back Zero = refl
reason-back Over = refl
reason-back (Taken step) = refl
reason-back (Xor set) = refl

-- every reason has a number
numbered : {A : Type 0} (r : Reason) → (why_numbers (Ok r)).reason ≡ 0 → A
numbered Zero e = absurd (omega arith)
numbered Over e = absurd (omega arith)
numbered (Taken step) e = absurd (omega arith)
numbered (Xor set) e = absurd (omega arith)

pub why-one : (r s : Result Reason Answer) → why_numbers r ≡ why_numbers s → r ≡ s
why-one (Ok r) (Ok s) e = ap Ok (sym (reason-back r) ∙ ap reason_with e ∙ reason-back s)
why-one (Ok r) (Err v) e = numbered r (ap (λ (a : WhyAnswer). a.reason) e)
why-one (Err v) (Ok s) e = numbered s (sym (ap (λ (a : WhyAnswer). a.reason) e))
why-one (Err v) (Err u) e = ap (λ (a : WhyAnswer). Err (record { number = a.number; a = a.a; b = a.b })) e
