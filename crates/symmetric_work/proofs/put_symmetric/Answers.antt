use mathlib.Core.Path.{◌≡◌}
use Prim.Native.Nat.{◌+◌, ◌≤◌, ◌<◌, ◌^◌}
use native.Mathlib.Omega.{arith}
use lib.ListN.{length, get_or, length-set}
use lib.Pow.{pow_pos, pow_mono}
use Rattle.block.specs.Symmetric.{of_counts, symmetric_table}
use Rattle.symmetric_work.specs.Points.{laid-again}
use Rattle.symmetric_work.specs.Entries.{entered-over, entered-held, entered-first}
use borrow.Author.Rules.{rules}
use Rattle.symmetric_work.proofs.put_symmetric.Goals as goal

pub loop-j-init : goal.loop-j-init
loop-j-init c =
    let words = c.args.words.now in
    let l = c.args.out.now in
    let b : 0 < length l = omega (arith, pow_pos c.args.n) in
    entered-held words 1 _ (omega (arith, length-set l 0 (get_or words 0 0))) (entered-over words 1 l _ (entered-first words c.args.n l c.requires.0 b))

pub double_entries-requires : goal.double_entries-requires
double_entries-requires c =
    let e = length-set c.args.out.now 0 (get_or c.args.words.now 0 0) in
    (c.requires.0, search rules, c.requires.1, omega arith, entered-over c.args.words.now _ _ _ c.loop-j.invariant)

pub loop-j-preserved : goal.loop-j-preserved
loop-j-preserved c =
    let l = c.loop-j in
    let e = length-set c.args.out.now 0 (get_or c.args.words.now 0 0) in
    let more : 2 ^ l.j ≤ 2 ^ (l.j + 1) = pow_mono (omega arith) in
    let most : 2 ^ (l.j + 1) ≤ 2 ^ c.args.n = pow_mono (omega arith) in
    laid-again (of_counts c.args.words.now) _ _ _ l.out _ more (omega arith) l.invariant c.double_entries.ensures

pub returns : goal.returns
unfolding symmetric_table
returns c =
    let words = c.args.words.now in
    let l = c.args.out.now in
    let end : c.loop-j.j ≡ c.args.n = omega arith in
    let b : 0 < length l = omega (arith, pow_pos c.args.n) in
    laid-again (of_counts words) 1 _ l _ _ (omega (arith, pow_pos c.args.n)) c.requires.2 (entered-first words c.args.n l c.requires.0 b)
    (rw end at c.loop-j.invariant)
