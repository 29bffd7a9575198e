use Rattle.std.proofs.Common.{◌≡◌, ℕ, ◌*◌, refl, ap, ◌∙◌, arith}
use Rattle.block.specs.Model.{patterns_of}
use Rattle.flat_rows.specs.Listing.{rows_from}
use Rattle.put_names.specs.Fitting.{next, none-fitted}
use Rattle.model_laws.specs.Powers.{power-more, power_le}
use Rattle.put_outputs.specs.Outputs.{back_none, back_more}
use Rattle.put_outputs.proofs.emit_back.Goals as goal

pub loop-j-init : goal.loop-j-init
loop-j-init c = (refl, omega arith, rw back_none (none-fitted _ _))

pub overflow_mul-power : goal.overflow_mul-power
overflow_mul-power c = omega (arith, power_le c.loop-j.j (omega arith))

pub loop-j-preserved : goal.loop-j-preserved
loop-j-preserved c =
    let l = c.loop-j in
    let a = c.args in (
      ap (λ (x : ℕ). x * 2) l.invariant.0 ∙ power-more l.j,
      omega (arith, c.emit_output-to.ensures.upper_bound),
      rw (back_more a.n (λ (i : ℕ). patterns_of i (rows_from a.p a.masks.now a.values.now a.words.now)) l.j)
          (next l.invariant.2 c.emit_output-to.ensures.fact),
    )

pub returns-clause-fact : goal.returns-clause-fact
returns-clause-fact c =
    let e : c.loop-j.j ≡ c.args.k = omega arith in
    rw e at c.loop-j.invariant.2
