use Rattle.std.proofs.Common.{ℕ, ◌+◌, ◌-◌, ◌*◌, ◌/◌, length, ◌≤◌, ◌<◌, ◌^◌, ◌∙◌, arith, pow_pos, below_more}
use Rattle.std.proofs.Math.Decide.{dec_lt}
use Rattle.symmetric_work.specs.Looks.{Repeated, stands-with, stands-without, stands-count, stands-below, stands-beyond, one_more, look-repeated, unlike-finds, looked-some, looked-none}
use Rattle.symmetric_work.proofs.is_unlike.Goals as goal
use Rattle.symmetric_work.proofs.is_unlike.Goals.{In-loop}

-- both numbers of the turn are below 2^n
within : (c : goal.In-loop) → c.loop.counter * (c.size-step.result + c.size-step.result) + (c.size-step.result + c.size-step.result) ≤ 2 ^ c.args.n
within c =
    let a = c.args in
    let x = c.loop.counter in
    let s = c.size-step in
    stands-below a.n a.k x s.result s.ensures c.requires.2
    (rw (c.requires.0, stands-count a.n a.k x s.result s.ensures c.requires.2) at c.loop-test.true)

pub returns-then-table-with : goal.returns-then-table-with
returns-then-table-with c =
    let a = c.args in
    let l = c.loop in
    let s = c.size-step in
    looked-some _ _ _
    (unlike-finds a.table.now a.n a.k l.counter l.with l.without c.requires.0
    (l.invariant.0 ∙ stands-with a.n a.k l.counter _ s.ensures) (l.invariant.1 ∙ stands-without a.n a.k l.counter _ s.ensures)
    (omega (arith, within (goal.at.returns-then-table-with c).In-loop, s.ensures, pow_pos a.k, l.invariant.0)) c.if-table-with.true)

pub loop-preserved : goal.loop-preserved
loop-preserved c =
    let a = c.args in
    let l = c.loop in
    let s = c.size-step in (
      omega (arith, l.invariant.0, one_more l.counter (s.result + s.result)),
      omega (arith, l.invariant.1, one_more l.counter s.result),
      below_more _ _ l.invariant.2
          (look-repeated a.table.now a.n a.k l.counter l.with l.without c.requires.0
          (l.invariant.0 ∙ stands-with a.n a.k l.counter _ s.ensures) (l.invariant.1 ∙ stands-without a.n a.k l.counter _ s.ensures)
          (omega (arith, within (goal.at.loop-preserved c).In-loop, s.ensures, pow_pos a.k, l.invariant.0)) c.if-table-with.false),
    )

pub returns : goal.returns
returns c = looked-none _ _ _ (λ x. all x (dec_lt x c.loop.counter))
  where
    ended : 2 ^ (c.args.n - 1 - c.args.k) ≤ c.loop.counter
    ended =
        let s = c.size-step in
        let e : length c.args.table.now / (s.result + s.result) ≤ c.loop.counter = omega arith in
        rw (c.requires.0, stands-count c.args.n c.args.k c.loop.counter s.result s.ensures c.requires.2) at e

    all : (x : ℕ) → Dec (x < c.loop.counter) → Repeated c.args.table.now c.args.n c.args.k x
    all x (yes b) = c.loop.invariant.2 x b
    all x (no b) =
        let e : 2 ^ (c.args.n - 1 - c.args.k) ≤ x = omega (arith, ended) in
        λ w. absurd (stands-beyond c.args.n c.args.k x c.size-step.result c.size-step.ensures c.requires.2 e w)
