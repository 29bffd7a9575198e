-- `models::model_value` meets its contract: the checks before 8, then 8, and on 0 the word by the patterns that drive each output.
-- Assumes nothing.
use mathlib.Core.Path.{◌∙◌}
use Prim.Native.Nat.{ℕ, ◌^◌, ◌≤◌, ◌<◌}
use native.Mathlib.Omega.{arith}
use lib.Pow.{pow_mono}
use Rattle.block.specs.ModelRead.{patterns_flat}
use Rattle.model_values.specs.Checks.{value-passed, flat-rooms}
use Rattle.models.specs.Value.{value-refused-early, value-dependent, value-given}
use Rattle.models.proofs.model_value.Goals as goal

-- a point of at most 16 inputs is a number of 32 bits
few : (n x : ℕ) → n ≤ 16 → x < 2 ^ n → x < 4294967296
few n x h l = let p : 2 ^ n ≤ 65536 = pow_mono {i = n} {j = 16} h in omega arith

pub returns-then-v-ne0 : goal.returns-then-v-ne0
returns-then-v-ne0 c =
    let a = c.args in
    record {
      answer = c.from.ensures ∙ value-refused-early a.n a.k a.x a.matrix.now a.counts.now (patterns_flat a.masks.now a.values.now) _
          c.value_checked-v.ensures c.if-v-ne0.true;
    }

pub first_dependent-j-requires : goal.first_dependent-j-requires
first_dependent-j-requires c =
    let a = c.args in
    let p = value-passed a.n a.k a.x a.matrix.now a.counts.now (patterns_flat a.masks.now a.values.now) _ c.value_checked-v.ensures c.if-v-ne0.false in
    (omega (arith, p.rows), p.inputs, p.inputs, p.below)

pub returns-then-j-n : goal.returns-then-j-n
returns-then-j-n c =
    let a = c.args in
    record {
      answer = value-dependent a.n a.k a.x a.matrix.now a.counts.now (patterns_flat a.masks.now a.values.now) _ _
          c.value_checked-v.ensures c.if-v-ne0.false c.first_dependent-j.ensures c.if-j-n.true;
    }

pub overflow_cast-x : goal.overflow_cast-x
overflow_cast-x c =
    let a = c.args in
    let p = value-passed a.n a.k a.x a.matrix.now a.counts.now (patterns_flat a.masks.now a.values.now) _ c.value_checked-v.ensures c.if-v-ne0.false in
    omega (arith, few a.n a.x p.inputs p.point)

pub apply_rows-z-requires : goal.apply_rows-z-requires
apply_rows-z-requires c =
    let a = c.args in
    let p = value-passed a.n a.k a.x a.matrix.now a.counts.now (patterns_flat a.masks.now a.values.now) _ c.value_checked-v.ensures c.if-v-ne0.false in
    (omega (arith, p.rows), p.inputs)

pub driven_word-word-requires : goal.driven_word-word-requires
driven_word-word-requires c =
    let a = c.args in
    let p = value-passed a.n a.k a.x a.matrix.now a.counts.now (patterns_flat a.masks.now a.values.now) _ c.value_checked-v.ensures c.if-v-ne0.false in
    let r = flat-rooms a.masks.now a.values.now in
    (p.outs, p.counted, omega (arith, p.all, r.0), omega (arith, p.all, r.1))

pub returns : goal.returns
returns c =
    let a = c.args in
    record {
      answer = value-given a.n a.k a.x a.matrix.now a.counts.now a.masks.now a.values.now _ _ _ _
          c.value_checked-v.ensures c.if-v-ne0.false c.first_dependent-j.ensures c.if-j-n.false
          c.apply_rows-z.ensures c.driven_word-word.ensures;
    }
