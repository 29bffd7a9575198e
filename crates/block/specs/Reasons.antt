-- Why a number was not taken (02, Ticket 7: "Given a block as a list, a weight limit and a number t, answer the first of these that holds"):
-- what each reason says, the reason as it is found, and the operation with its answer. Not here: that the reason found is the first that
-- holds, and the only one, which are laws. Assumes nothing.
use Rattle.std.specs.Prelude.{◌≡◌, Bool, true, not, cond, List, ◌∷◌, ℕ, suc, ◌-◌, ◌^◌, ◌≤◌, ◌<◌, eqb, ltb, Result, Ok, Err}
use Rattle.std.specs.Int.Count.{ones}
use Rattle.bits.specs.Digits.{bit}
use Rattle.slices.specs.Places.{at, first}
use Rattle.block.specs.Limits.{list_inputs, given_rows}
use Rattle.block.specs.Words.{missing, of_rows}
use Rattle.block.specs.Basis.{columns, basis_of}
use Rattle.block.specs.Refusals.{check, verdict, answered, outside, typed_checks}
use Rattle.block.specs.Lists.{count_check, row_checks}
use Rattle.block.specs.declared.Row.{Row}
use Rattle.block.specs.declared.Answer.{Answer}
use Rattle.block.specs.declared.Reason.{Reason}
use Rattle.block.specs.declared.Reason.TheVariants.{Zero, Over, Taken, Xor}
use Rattle.block.specs.declared.WhyAnswer.{WhyAnswer}

-- ---- what a reason says of t, where c 0 .. c (n - 1) were taken, under an order and with the weight limit w

-- "t is the XOR of this set of taken numbers, each of which stands before t in the order": the set is the number z, whose bit j - 1 stands
-- for step j
pub record XorOf (order : ℕ → ℕ → Bool) (n : ℕ) (c : ℕ → ℕ) (t z : ℕ) : Type 0 where
  pub below : z < 2 ^ n
  pub gives : columns c n z ≡ t
  pub before : (j : ℕ) → j < n → bit z j ≡ 1 → order (c j) t ≡ true

module _ (order : ℕ → ℕ → Bool) (n w : ℕ) (c : ℕ → ℕ) (t : ℕ) where
  -- "t is 0; t is over the weight limit; t was taken at step j", from 1; or that
  abbrev pub Holds : Reason → Type 0
  Holds Zero = t ≡ 0
  Holds Over = w < ones t
  Holds (Taken step) = (1 ≤ step) × (step ≤ n) × (c (step - 1) ≡ t)
  Holds (Xor z) = XorOf order n c t z

  -- "the first of these that holds"
  abbrev pub FirstToHold : Reason → Type 0
  FirstToHold Zero = Holds Zero
  FirstToHold Over = (Holds Zero → ⊥) × Holds Over
  FirstToHold (Taken step) = (Holds Zero → ⊥) × (Holds Over → ⊥) × Holds (Taken step)
  FirstToHold (Xor z) = (Holds Zero → ⊥) × (Holds Over → ⊥) × ((step : ℕ) → Holds (Taken step) → ⊥) × Holds (Xor z)

-- ---- the reason, as it is found

-- the step that took t, less 1; n where none did
abbrev pub place_of : ℕ → (ℕ → ℕ) → ℕ → ℕ
place_of n c t = first n (λ j. eqb (c j) t)

-- the set of taken numbers with the XOR t
abbrev pub set_of : ℕ → (ℕ → ℕ) → ℕ → ℕ
set_of n c t = first (2 ^ n) (λ z. eqb (columns c n z) t)

unfoldable pub reason : ℕ → ℕ → (ℕ → ℕ) → ℕ → Reason
reason n w c t =
    cond (eqb t 0) Zero
    (cond (ltb w (ones t)) Over
    (cond (ltb (place_of n c t) n) (Taken (suc (place_of n c t)))
    (Xor (set_of n c t))))

-- of a block f with n inputs and the weight limit w
unfoldable pub reason_of : (ℕ → ℕ) → ℕ → ℕ → ℕ → Reason
reason_of f n w t = reason n w (at (basis_of f n w)) t

-- ---- why t was not taken, of a list of type y: "as for single values and for the row method, in 01's order, without 9": 1, 2, 3 (y, w,
-- t), 4, and its rows

unfoldable pub why_verdict : ℕ → ℕ → ℕ → ℕ → ℕ → List Row → Answer
why_verdict n k y w t rs =
    verdict (typed_checks list_inputs n k y (
    check (outside 1 n w) 3 0 0
    ∷ check (not (ltb t (2 ^ n))) 3 0 0
    ∷ count_check given_rows rs
    ∷ row_checks n k rs))

unfoldable pub why_not : ℕ → ℕ → ℕ → ℕ → ℕ → List Row → Result Reason Answer
why_not n k y w t rs =
    cond (answered (why_verdict n k y w t rs)) (Ok (reason_of (of_rows (missing y) rs) n w t)) (Err (why_verdict n k y w t rs))

-- ---- its answer in numbers: 1 to 4 for the reason and 0 with a refusal; a step, or a set, where the reason has one, and else 0

abbrev pub given : ℕ → ℕ → ℕ → WhyAnswer
given reason step set = record { number = 0; a = 0; b = 0; reason = reason; step = step; set = set }

abbrev pub why_numbers : Result Reason Answer → WhyAnswer
why_numbers (Ok Zero) = given 1 0 0
why_numbers (Ok Over) = given 2 0 0
why_numbers (Ok (Taken step)) = given 3 step 0
why_numbers (Ok (Xor z)) = given 4 0 z
why_numbers (Err v) = record { number = v.number; a = v.a; b = v.b; reason = 0; step = 0; set = 0 }
