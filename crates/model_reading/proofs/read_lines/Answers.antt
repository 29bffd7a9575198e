-- `model_reading::read_lines` meets its contract: a refusal leaves the slices alone, and where there is none all that the text holds fits.
-- Assumes nothing.
use mathlib.Core.Path.{◌≡◌, sym, ap, ◌∙◌}
use mathlib.Core.List.{map}
use Prim.Native.Nat.{min}
use lib.ListN.{length}
use Rattle.block.specs.ModelRead.{read_model_verdict, read_model, matrix_in, counts_in, patterns_in}
use Rattle.block.specs.declared.Pattern.{Pattern}
use Rattle.block.specs.declared.ModelAnswer.{ModelAnswer}
use Rattle.refusal_laws.specs.Verdicts.{stored-yes, stored_no}
use Rattle.model_reading.specs.Reading.{all-stored}
use Rattle.model_reading.proofs.read_lines.Goals as goal

pub returns-then-v-ne0 : goal.returns-then-v-ne0
unfolding read_model
returns-then-v-ne0 c =
    let a = c.args in
    let t = a.text.now in
    let s = a.matrix.now in
    let n = a.counts.now in
    let m = a.masks.now in
    let v = a.values.now in
    let e : c.model_answer-v.result ≡ read_model t (length s) (length n) (min (length m) (length v)) =
    c.model_answer-v.ensures ∙ ap (read_model t (length s) (length n)) c.min-room.ensures in
    let u = read_model_verdict t (length s) (length n) (min (length m) (length v)) in
    let d : u.number ≡ 0 → ⊥ = λ z. c.if-v-ne0.true (ap (λ (x : ModelAnswer). x.number) e ∙ z) in
    record {
      answer = e;
      matrix = sym (stored_no u (matrix_in t) s d);
      counts = sym (stored_no u (counts_in t) n d);
      masks = sym (stored_no u (map (λ (p : Pattern). p.mask) (patterns_in t)) m d);
      values = sym (stored_no u (map (λ (p : Pattern). p.values) (patterns_in t)) v d);
    }

pub returns : goal.returns
unfolding read_model
returns c =
    let a = c.args in
    let t = a.text.now in
    let s = a.matrix.now in
    let n = a.counts.now in
    let m = a.masks.now in
    let v = a.values.now in
    let e : c.model_answer-v.result ≡ read_model t (length s) (length n) (min (length m) (length v)) =
    c.model_answer-v.ensures ∙ ap (read_model t (length s) (length n)) c.min-room.ensures in
    let u = read_model_verdict t (length s) (length n) (min (length m) (length v)) in
    let d : u.number ≡ 0 = sym (ap (λ (x : ModelAnswer). x.number) e) ∙ c.if-v-ne0.false in
    let h = all-stored t s n m v _ _ _ _ c.read_model.result c.read_model.ensures d in
    record {
      answer = e;
      matrix = h.matrix ∙ sym (stored-yes u (matrix_in t) s d);
      counts = h.counts ∙ sym (stored-yes u (counts_in t) n d);
      masks = h.masks ∙ sym (stored-yes u (map (λ (p : Pattern). p.mask) (patterns_in t)) m d);
      values = h.values ∙ sym (stored-yes u (map (λ (p : Pattern). p.values) (patterns_in t)) v d);
    }
