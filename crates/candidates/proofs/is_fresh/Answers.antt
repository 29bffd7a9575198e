-- `candidates::is_fresh` meets its contract: a row from k on with an odd parity is a one-bit at its position, and where there is none the
-- rows send t below 2^k. Assumes nothing.
use mathlib.Core.Path.{◌≡◌, sym, ap, ◌∙◌}
use mathlib.Core.Bool.{Bool, true, false}
use mathlib.Core.List.{List}
use Prim.Native.Nat.{ℕ, ◌+◌, ◌-◌, ◌≤◌, ◌<◌, ◌^◌}
use native.Mathlib.Numerals.{add-one}
use native.Mathlib.Decide.{le_ind}
use native.Mathlib.Omega.{arith}
use Rattle.std.proofs.Common.{leb, length, drop, take, length-drop, length-take, MatchBool, rules, tests}
use Rattle.std.specs.List.{HoldsAt, AllWithin}
use Rattle.std.proofs.lemmas.List.{get_or-take, get_or-drop}
use Rattle.std.proofs.lemmas.Iterator.{cases_from_any, YieldsList-from_slice}
use lib.Bits.{bit_and}
use Rattle.bits.specs.Digits.{parity}
use Rattle.bits.specs.Parity.{parity-lt}
use Rattle.slices.specs.Places.{at}
use Rattle.block.specs.Basis.{apply}
use Rattle.candidates.specs.Fresh.{fresh_start, fresh-next, fresh-found, fresh-none}
use Rattle.candidates.proofs.is_fresh.Goals as goal

-- no row from k on has an odd parity
below : (s : ℕ → ℕ) (n k x : ℕ) → k ≤ n → ((j : ℕ) → k ≤ j → j < n → parity (bit_and (s j) x) ≡ 0) → apply s n x < 2 ^ k
below s n k x h even =
    le_ind (λ (m : ℕ). m ≤ n → apply s m x < 2 ^ k) (λ l. fresh_start s n k x)
    (λ m a ih l. rw (← add-one m) (fresh-next s n k x m (ih (omega arith)) (even m a (omega arith)))) n h (omega arith)

-- what the search through these rows answers
decided : (r : Bool) (s : ℕ → ℕ) (n k x : ℕ) (rows : List ℕ) → k ≤ n → length rows ≡ n - k
    → ((i : ℕ) → i < n - k → at rows i ≡ s (k + i))
    → MatchBool r ((i : ℕ) × (i < length rows) × HoldsAt (λ y. parity (bit_and y x) ≡ 1) rows i) (AllWithin (λ y. parity (bit_and y x) ≡ 1 → ⊥) rows 0 (length rows))
    → r ≡ leb (2 ^ k) (apply s n x)
decided true s n k x rows h e same w =
    sym
    (fresh-found s n k x (k + w.0) (omega arith) (omega (arith, w.1))
    (ap (λ (y : ℕ). parity (bit_and y x)) (sym (same w.0 (omega (arith, w.1)))) ∙ w.2 0))
decided false s n k x rows h e same w =
    sym
    (fresh-none s n k x
    (below s n k x h
    (λ j a b.
    let place : k + (j - k) ≡ j = omega arith in
    let here : at rows (j - k) ≡ s j = same (j - k) (omega arith) ∙ ap s place in
    ap (λ (y : ℕ). parity (bit_and y x)) (sym here)
    ∙ omega (arith, w (j - k) 0 (omega arith) (omega arith), parity-lt (bit_and (at rows (j - k)) x)))))

pub returns : goal.returns
returns c =
    let a = c.args in
    let rows = take (a.n - a.k) (drop a.k a.s.now) in
    decided c.any.result (at a.s.now) a.n a.k a.t rows (omega arith)
    (omega (arith, length-take (a.n - a.k) (drop a.k a.s.now), length-drop a.k a.s.now))
    (λ i h. get_or-take (a.n - a.k) (drop a.k a.s.now) i 0 h ∙ get_or-drop a.k a.s.now i 0)
    (cases_from_any _ _ _ (λ y. parity (bit_and y a.t) ≡ 1) (λ y. parity (bit_and y a.t) ≡ 1 → ⊥) c.any.ensures.ran
    (YieldsList-from_slice rows c.iter.ensures.rest) (λ x q k. search (rules, tests)) (λ x q k. search (rules, tests)))
