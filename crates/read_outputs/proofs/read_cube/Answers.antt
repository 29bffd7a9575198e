use mathlib.Core.Path.{◌≡◌, sym, ap, ap₂, ◌∙◌}
use mathlib.Core.Bool.{true, not}
use mathlib.Core.List.{List}
use Prim.Native.Nat.{ℕ, ◌+◌}
use native.Mathlib.Omega.{arith}
use borrow.Author.Count.{below_more}
use lib.Dec.{eqb}
use lib.ListN.{get_or}
use Rattle.sums.specs.Sums.{sum}
use Rattle.sums.specs.Laws.{sum-zero, sum_more}
use Rattle.read_names.specs.Met.{lost-is}
use Rattle.read_chains.specs.Chains.{power_small}
use Rattle.read_outputs.specs.Cubes.{is_symbol, mask_bit, value_bit, cube-there, no_symbol, no_end, bit-small}
use Rattle.read_outputs.proofs.read_cube.Goals as goal

-- one symbol more of a sum
more : (text : List ℕ) (from i s : ℕ) (f : ℕ → ℕ → ℕ) (b d : ℕ) → s ≡ sum (λ j. f (get_or text (from + j) 0) j) i
    → b ≡ get_or text (from + i) 0 → d ≡ f b i → s + d ≡ sum (λ j. f (get_or text (from + j) 0) j) (i + 1)
more text from i s f b d e g h =
    ap₂ (λ (x y : ℕ). x + y) e (h ∙ ap (λ (x : ℕ). f x i) g) ∙ sym (sum_more (λ j. f (get_or text (from + j) 0) j) i)

pub loop-i-init : goal.loop-i-init
loop-i-init c = (λ j l. absurd (omega arith), sym (sum-zero _), sym (sum-zero _), omega arith, omega arith)

pub returns-then-not-is_symbol : goal.returns-then-not-is_symbol
returns-then-not-is_symbol c =
    let l = c.loop-i in
    let a = c.args in
    no_symbol a.text.now (omega arith) a.n a.at l.i (omega arith)
    (ap is_symbol (sym c.byte-b.ensures.value) ∙ sym c.is_symbol.ensures ∙ c.if-not-is_symbol.true)

pub overflow_add-m : goal.overflow_add-m
overflow_add-m c =
    let l = c.loop-i in
    omega (arith, c.mask_bit-m.ensures, bit-small (not (eqb c.byte-b.result 45)) l.m l.i (omega arith), power_small (l.i + 1) (omega arith))

pub overflow_add-v : goal.overflow_add-v
overflow_add-v c =
    let l = c.loop-i in
    omega (arith, c.value_bit-v.ensures, bit-small (eqb c.byte-b.result 49) l.v l.i (omega arith), power_small (l.i + 1) (omega arith))

pub loop-i-preserved : goal.loop-i-preserved
loop-i-preserved c =
    let l = c.loop-i in
    let a = c.args in
    let b = c.byte-b in (
      below_more (λ j. is_symbol (get_or a.text.now (a.at + j) 0) ≡ true) l.i l.invariant.0
          (ap is_symbol (sym b.ensures.value) ∙ sym c.is_symbol.ensures ∙ c.if-not-is_symbol.false),
      more a.text.now a.at l.i l.m mask_bit b.result c.mask_bit-m.result l.invariant.1 b.ensures.value c.mask_bit-m.ensures,
      more a.text.now a.at l.i l.v value_bit b.result c.value_bit-v.result l.invariant.2 b.ensures.value c.value_bit-v.ensures,
      rw c.mask_bit-m.ensures (bit-small (not (eqb b.result 45)) l.m l.i l.invariant.3),
      rw c.value_bit-v.ensures (bit-small (eqb b.result 49) l.v l.i l.invariant.4),
    )

pub returns-then-to : goal.returns-then-to
returns-then-to c =
    let a = c.args in
    no_end a.text.now (omega arith) a.n a.at (sym c.meet_bytes-to.ensures ∙ c.if-to.true ∙ sym lost-is)

pub returns : goal.returns
returns c =
    let l = c.loop-i in
    let a = c.args in
    let e : l.i ≡ a.n = omega arith in
    cube-there a.text.now (omega arith) a.n a.at (λ j k. l.invariant.0 j (omega arith)) l.m l.v c.meet_bytes-to.result
    (rw e at l.invariant.1) (rw e at l.invariant.2) c.meet_bytes-to.ensures (λ w. c.if-to.false (w ∙ lost-is))
