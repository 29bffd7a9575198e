use Rattle.std.proofs.Common.{◌≡◌, ◌+◌, ◌≤◌, ◌-◌, ◌^◌, refl, arith, pow_pos, pow_mono}
use Rattle.block.specs.Limits.{table_inputs}
use Rattle.symmetric_laws.specs.Slices.{power-more}
use Rattle.symmetric_work.specs.Entries.{places, entered-held, entries-step, entries-end}
use Rattle.symmetric_work.proofs.double_entries.Goals as goal

pub loop-i-init : goal.loop-i-init
loop-i-init c =
    let most : 2 ^ (c.args.j + 1) ≤ 2 ^ c.args.n = pow_mono (omega arith) in
    let whole = power-more c.args.j in
    let first : 2 ^ (c.args.j + 1) - 2 ^ c.args.j ≡ 2 ^ c.args.j = omega arith in
    rw first (entered-held c.args.words.now _ _ (omega arith) c.requires.4)

pub repeat_before-requires : goal.repeat_before-requires
repeat_before-requires c =
    let l = c.loop-i in
    let most : 2 ^ (c.args.j + 1) ≤ 2 ^ c.args.n = pow_mono (omega arith) in
    let last : 2 ^ c.args.n ≤ 2 ^ table_inputs = pow_mono c.requires.2 in
    let same : l.i - 1 + 1 ≡ l.i = omega arith in
    let r = places l.i c.args.j _ _ _ (omega arith) (omega arith) c.size-end.ensures (rw same at c.size.ensures) c.size-in-loop-i.ensures in
    (r.0, omega (arith, r.3), omega (arith, r.3, c.size-end.ensures))

pub overflow_sub-end : goal.overflow_sub-end
overflow_sub-end c =
    let l = c.loop-i in
    let same : l.i - 1 + 1 ≡ l.i = omega arith in
    (places l.i c.args.j _ _ _ (omega arith) (omega arith) c.size-end.ensures (rw same at c.size.ensures) refl).2

pub loop-i-preserved : goal.loop-i-preserved
loop-i-preserved c =
    let l = c.loop-i in
    let most : 2 ^ (c.args.j + 1) ≤ 2 ^ c.args.n = pow_mono (omega arith) in
    let same : l.i - 1 + 1 ≡ l.i = omega arith in
    entries-step c.args.words.now c.args.j l.i c.args.out.now l.out _ _ _ _ (omega arith) (omega arith) c.size-end.ensures
    (rw same at c.size.ensures) c.size-in-loop-i.ensures (omega arith) l.invariant c.repeat_before.ensures

pub bounds-out-end : goal.bounds-out-end
bounds-out-end c =
    let most : 2 ^ (c.args.j + 1) ≤ 2 ^ c.args.n = pow_mono (omega arith) in
    omega (arith, c.size-end.ensures, pow_pos (c.args.j + 1))

pub returns : goal.returns
returns c =
    let l = c.loop-i in
    let most : 2 ^ (c.args.j + 1) ≤ 2 ^ c.args.n = pow_mono (omega arith) in
    entries-end c.args.words.now c.args.n c.args.j l.i _ c.args.out.now l.out c.requires.0 c.requires.1 (omega arith) c.size-end.ensures
    (omega arith) l.invariant
