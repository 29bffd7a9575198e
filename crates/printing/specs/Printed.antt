-- What the program prints, by the work of its text: the sheet, the model, the joined rows or the disjoint list itself, or the line of the refusal. Assumes nothing.
use Rattle.std.specs.Prelude.{◌≡◌, refl, Bool, true, false, cond, List, ℕ, ◌≤◌, length}
use Rattle.std.proofs.Math.Path.{sym}
use Rattle.std.proofs.Common.{ap, ◌∙◌, arith, eq-eqb, ne_eqb}
use Rattle.std.proofs.Math.Nat.{zero-add}
use Rattle.slices.specs.Places.{over}
use Rattle.block.specs.Refusals.{answer, answered, carried, stored}
use Rattle.block.specs.Sheet.{refusal_line, or_refused, printed_list, printed}
use Rattle.block.specs.Model.{printed_model_of, printed_model}
use Rattle.block.specs.Joins.{printed_join_of, printed_join}
use Rattle.block.specs.Overlaps.{printed_disjoint_of, printed_disjoint}
use Rattle.block.specs.declared.Answer.{Answer}
use Rattle.refusal_laws.specs.Verdicts.{carried-yes, stored-yes, stored_no}
use Rattle.put_bytes.specs.Puts.{Put, put-over}
use Rattle.put_refusal.specs.Length.{refusal_room, refusal-le}
use Rattle.text_work.specs.Work.{text_verdict, sheet_in}
use Rattle.model_text_work.specs.Work.{model_in_verdict, model_in}
use Rattle.join_text_work.specs.Work.{join_in_verdict, join_in}
use Rattle.disjoin_text_work.specs.Work.{disjoin_in_verdict, disjoin_in}

-- a text or the line of a second refusal, or the line of a first, is by the verdict of both
or-or : (u v : Answer) (t : List ℕ) → or_refused u (or_refused v t) ≡ or_refused (cond (answered u) v u) t
unfolding or_refused
or-or u v t = go (answered u) refl
  where
    go : (b : Bool) → answered u ≡ b
        → cond (answered u) (cond (answered v) t (refusal_line v)) (refusal_line u)
        ≡ cond (answered (cond (answered u) v u)) t (refusal_line (cond (answered u) v u))
    go true e = rw e
    go false e = rw (e, e)

-- the program prints the sheet that an import writes, or the line of the refusal that an import says
pub printed-by : (input : List ℕ) → printed input ≡ or_refused (text_verdict input) (sheet_in input)
unfolding printed printed_list text_verdict sheet_in
printed-by input = or-or _ _ _

-- and with --blif the model
pub printed-model-by : (input : List ℕ) → printed_model input ≡ or_refused (model_in_verdict input) (model_in input)
unfolding printed_model printed_model_of model_in_verdict model_in
printed-model-by input = or-or _ _ _

-- and with --join the joined rows
pub printed-join-by : (input : List ℕ) → printed_join input ≡ or_refused (join_in_verdict input) (join_in input)
unfolding printed_join printed_join_of join_in_verdict join_in
printed-join-by input = or-or _ _ _

-- and with --disjoint the disjoint list
pub printed-disjoint-by : (input : List ℕ) → printed_disjoint input ≡ or_refused (disjoin_in_verdict input) (disjoin_in input)
unfolding printed_disjoint printed_disjoint_of disjoin_in_verdict disjoin_in
printed-disjoint-by input = or-or _ _ _

-- what is printed where the work of a text left l' in l and says this number and these places, by the verdict u and the text t
module _ (u : Answer) (t l l' : List ℕ) (text : l' ≡ stored u t l) (number a b : ℕ) (said : answer number a b ≡ u) where
  numbered : number ≡ u.number
  numbered = ap (λ (v : Answer). v.number) said

  -- the line of a refusal
  pub line-printed : (p l'' : List ℕ) (c : ℕ) → p ≡ or_refused u t → (number ≡ 0 → ⊥) → refusal_room ≤ length l
      → Put l' 0 (refusal_line (answer number a b)) l'' c → (l'' ≡ over p l) × (c ≡ length p)
  unfolding or_refused
  line-printed p l'' c e h long q =
      let z : u.number ≡ 0 → ⊥ = λ e. h (numbered ∙ e) in
      let f : p ≡ refusal_line (answer number a b) = e ∙ rw (ne_eqb u.number 0 z, said) in
      let put : Put l 0 (refusal_line (answer number a b)) l'' c = rw (text ∙ stored_no u t l z) at q in
      rw f (put-over (omega (arith, refusal-le (answer number a b))) put, put.place ∙ zero-add _)

  -- the text
  pub text-printed : (p : List ℕ) (c : ℕ) → p ≡ or_refused u t → number ≡ 0 → c ≡ carried u (length t) → (l' ≡ over p l) × (c ≡ length p)
  unfolding or_refused
  text-printed p c e h count =
      let z : u.number ≡ 0 = sym numbered ∙ h in
      let f : p ≡ t = e ∙ rw (eq-eqb u.number 0 z) in
      rw f (text ∙ stored-yes u t l z, count ∙ carried-yes u (length t) z)
