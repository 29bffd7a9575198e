-- `matrix_work::exchange_rows` meets its contract: place by place. Assumes nothing.
use mathlib.Core.Path.{◌≡◌, sym, ◌∙◌}
use mathlib.Core.List.{List}
use Prim.Native.Nat.{ℕ, ◌≤◌, ◌<◌}
use native.Mathlib.Decide.{ℕ_discrete}
use native.Mathlib.Omega.{arith}
use lib.ListN.{length}
use Rattle.std.specs.List.{SwappedAt}
use Rattle.slices.specs.Places.{at, tab, over}
use Rattle.slices.specs.Filled.{over-is}
use Rattle.matrix_laws.specs.Reach.{exchange_rows, exchange-row-left, exchange-row-right, exchange-row-other}
use Rattle.matrix_work.proofs.exchange_rows.Goals as goal

exchanged : (l s : List ℕ) (n k h : ℕ) → n ≤ length l → k < n → h < n → length s ≡ length l → SwappedAt l s k h
    → s ≡ over (tab n (exchange_rows k h (at l))) l
exchanged l s n k h hn hk hh e w =
    over-is n (exchange_rows k h (at l)) l s 0 hn e (λ i b. go i (ℕ_discrete i k) (ℕ_discrete i h))
    (λ i b. w.2 i 0 (λ e. omega arith) (λ e. omega arith))
  where
    go : (i : ℕ) → Dec (i ≡ k) → Dec (i ≡ h) → at s i ≡ exchange_rows k h (at l) i
    go i (yes e) d = rw e (w.0 0 ∙ sym (exchange-row-left k h (at l)))
    go i (no a) (yes e) = rw e (w.1 0 ∙ sym (exchange-row-right k h (at l)))
    go i (no a) (no b) = w.2 i 0 a b ∙ sym (exchange-row-other k h (at l) i a b)

pub returns : goal.returns
returns c =
    exchanged c.args.s.now _ _ _ _ (omega arith) (omega arith) (omega arith) c.swap.ensures.len c.swap.ensures.by_index
