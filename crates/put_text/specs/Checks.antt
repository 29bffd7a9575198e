-- What the checks of writing say where none holds, and that none holds where that is so; and the last of them as the code finds it. Assumes
-- nothing.
use Rattle.std.specs.Prelude.{◌≡◌, refl, Bool, true, false, ◌&&◌, List, [], ◌∷◌, ℕ, ◌≤◌, ◌<◌, eqb, ltb, length}
use Rattle.std.proofs.Common.{sym, ap₂, ◌∙◌, arith, ltb-false, le-ltb, eq-eqb, eqb-true}
use Rattle.std.proofs.lemmas.Bool.{false≢true}
use Rattle.slices.specs.Places.{first}
use Rattle.slices.specs.Least.{first_below}
use Rattle.block.specs.Limits as limits
use Rattle.block.specs.Words.{fr, fd}
use Rattle.block.specs.Refusals.{check, answer, verdict, bad_row, row_at}
use Rattle.block.specs.Lists.{bad_row_check}
use Rattle.block.specs.Text.{write_verdict}
use Rattle.block.specs.declared.Row.{Row}
use Rattle.refusal_laws.specs.Verdicts.{answered-clear, verdict-miss, verdict-none, none_passes}
use Rattle.shared_checks.specs.Sizes.{inside, within}

-- n, k, the type and the number of rows are in range, fr has its line, the room is long enough, and no row is malformed
pub record Writable (n k y z : ℕ) (rs : List Row) (room : ℕ) : Type 0 where
  pub inputs : (1 ≤ n) × (n ≤ limits.list_inputs)
  pub outputs : (1 ≤ k) × (k ≤ limits.outputs)
  pub known : (fr ≤ y) × (y ≤ fd)
  pub lined : y ≡ fr → z ≡ 0 → ⊥
  pub count : (1 ≤ length rs) × (length rs ≤ limits.given_rows)
  pub enough : limits.text_room ≤ room
  pub rows : (i : ℕ) → i < length rs → bad_row n k (row_at rs i) ≡ false

-- two tests that do not both pass
not-both : {p q : Bool} → p && q ≡ false → p ≡ true → q ≡ true → ⊥
not-both e f g = false≢true (sym e ∙ ap₂ ◌&&◌ f g)

pub writable : (n k y z : ℕ) (rs : List Row) (room : ℕ) → (write_verdict n k y z rs room).number ≡ 0 → Writable n k y z rs room
unfolding write_verdict
writable n k y z rs room e =
    let clear = answered-clear _ (refl, (refl, (refl, (refl, (refl, (refl, (refl, tt))))))) (eq-eqb _ 0 e) in
    record {
      inputs = inside 1 limits.list_inputs n (clear 0 (omega arith));
      outputs = inside 1 limits.outputs k (clear 1 (omega arith));
      known = inside fr fd y (clear 2 (omega arith));
      lined = λ p q. not-both (clear 3 (omega arith)) (eq-eqb y fr p) (eq-eqb z 0 q);
      count = inside 1 limits.given_rows (length rs) (clear 4 (omega arith));
      enough = ltb-false room limits.text_room (clear 5 (omega arith));
      rows =
          λ i h.
          first_below (length rs) (λ i. bad_row n k (row_at rs i)) i
          (omega (arith, ltb-false _ (length rs) (clear 6 (omega arith))));
    }

never_both : (p q : Bool) → (p ≡ true → q ≡ true → ⊥) → p && q ≡ false
never_both true true h = absurd (h refl refl)
never_both true false h = refl
never_both false q h = refl

-- a list with those facts is answered
pub write-answers : (n k y z : ℕ) (rs : List Row) (room : ℕ) → Writable n k y z rs room → write_verdict n k y z rs room ≡ answer 0 0 0
unfolding write_verdict
write-answers n k y z rs room w =
    verdict-miss _ _ (within 1 limits.list_inputs n w.inputs.0 w.inputs.1)
    ∙ verdict-miss _ _ (within 1 limits.outputs k w.outputs.0 w.outputs.1)
    ∙ verdict-miss _ _ (within fr fd y w.known.0 w.known.1)
    ∙ verdict-miss _ _ (never_both (eqb y fr) (eqb z 0) (λ p q. w.lined (eqb-true y fr p) (eqb-true z 0 q)))
    ∙ verdict-miss _ _ (within 1 limits.given_rows (length rs) w.count.0 w.count.1)
    ∙ verdict-miss _ _ (le-ltb room limits.text_room w.enough)
    ∙ verdict-miss _ _ (none_passes (length rs) (λ i. bad_row n k (row_at rs i)) w.rows)
    ∙ verdict-none

-- 6 by the least malformed row and the number of rows
pub bad-check : (n k : ℕ) (rs : List Row) (count bad : ℕ) → count ≡ length rs → bad ≡ first (length rs) (λ i. bad_row n k (row_at rs i))
    → verdict (check (ltb bad count) 6 0 bad ∷ []) ≡ verdict (bad_row_check n k rs ∷ [])
bad-check n k rs count bad e f = rw (f, e)
