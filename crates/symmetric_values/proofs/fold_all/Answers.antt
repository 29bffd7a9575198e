use Rattle.std.proofs.Common.{◌≡◌, ◌+◌, ◌-◌, arith}
use Rattle.symmetric_values.specs.Values.{fold-starts, fold-goes-on, fold-bounded}
use Rattle.symmetric_values.proofs.fold_all.Goals as goal

pub loop-left-init : goal.loop-left-init
loop-left-init c = fold-starts _ _

pub fold_once-requires : goal.fold_once-requires
fold_once-requires c =
    let l = c.loop-left in
    let same : l.left - 1 + 1 ≡ l.left = omega arith in
    rw same (omega arith, fold-bounded _ c.args.m _ _ l.invariant c.requires.1 c.requires.2)

pub loop-left-preserved : goal.loop-left-preserved
loop-left-preserved c =
    let l = c.loop-left in
    let same : l.left - 1 + 1 ≡ l.left = omega arith in
    fold-goes-on _ _ _ l.values _ l.invariant (omega arith) (rw same at c.fold_once.ensures)
