use Rattle.std.proofs.Common.{◌≡◌, ◌-◌, ◌+◌, arith}
use Rattle.put_names.specs.Fitting.{Fitted}
use Rattle.put_chains.specs.Texts.{cover_text}
use Rattle.put_chains.specs.Links.{digit_covers}
use Rattle.put_chains.specs.Rows.{row-none, row_more, row_done, half_lt}
use Rattle.put_chains.proofs.emit_row.Goals as goal

pub loop-b-init : goal.loop-b-init
loop-b-init c =
    let e : c.args.n - 0 ≡ c.args.n = omega arith in
    (omega arith, omega arith, omega arith, rw e c.requires.3, rw e (row-none _ _ _ _ _))

pub loop-b-preserved : goal.loop-b-preserved
loop-b-preserved c =
    let l = c.loop-b in
    let n = c.args.n in
    let now : n - (n - l.b) ≡ l.b = omega arith in
    let next : n - l.b - 1 ≡ n - (l.b + 1) = omega arith in
    let digit = c.emit_digit-to in
    let put : Fitted l.out l.to (cover_text (digit_covers c.args.i l.a (n - (n - l.b)) l.q l.rest)) digit.new.out digit.result =
    rw now digit.ensures.fitted in (
      c.lowest_of-a.ensures.upper_bound,
      omega arith,
      omega (arith, digit.ensures.upper_bound),
      rw next at (half_lt (n - l.b) l.rest (omega arith) l.invariant.3),
      rw c.lowest_of-a.ensures.value
          (rw (now, next) at (row_more _ _ _ _ _ _ _ _ _ _ _ _ _ l.invariant.4 (omega arith) (omega arith) l.invariant.3 put)),
    )

pub returns-clause-fitted : goal.returns-clause-fitted
returns-clause-fitted c = row_done _ _ _ _ _ _ _ _ _ _ _ c.loop-b.invariant.4 (omega arith)
