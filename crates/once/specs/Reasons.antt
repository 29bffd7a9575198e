-- Why a number was not taken: the promise leaves one answer. It gives the numbers of the answer; equal numbers are equal answers. Assumes
-- nothing.
use Rattle.std.specs.Prelude.{◌≡◌, List, ℕ, Result}
use Rattle.block.specs.Reasons.{why_numbers}
use Rattle.block.specs.declared.Row.{Row}
use Rattle.block.specs.declared.Reason.{Reason}
use Rattle.block.specs.declared.Answer.{Answer}
use Rattle.block.specs.declared.WhyAnswer.{WhyAnswer}
use Rattle.promises.specs.Reasons.{WhyNotPromise}
use Rattle.reason_laws.specs.Numbers.{why-one}
use Rattle.once.specs.Law.{one}

module _ {n k y w t : ℕ} {rs : List Row} {taken₀ taken₁ taken₂ : List ℕ} where
  pub why-numbers-once : {r s : WhyAnswer} → WhyNotPromise n k y w t rs taken₀ r taken₁ → WhyNotPromise n k y w t rs taken₀ s taken₂
      → (r ≡ s) × (taken₁ ≡ taken₂)
  why-numbers-once p q = (one p.answer q.answer, one p.taken q.taken)

  pub why-not-once : {r s : Result Reason Answer} → WhyNotPromise n k y w t rs taken₀ (why_numbers r) taken₁ → WhyNotPromise n k y w t rs taken₀ (why_numbers s) taken₂
      → (r ≡ s) × (taken₁ ≡ taken₂)
  why-not-once {r = r} {s = s} p q = (why-one r s (one p.answer q.answer), one p.taken q.taken)
