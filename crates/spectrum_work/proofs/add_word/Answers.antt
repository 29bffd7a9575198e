-- `spectrum_work::add_word` meets its contract: what each call leaves in the working room is what the next one asks. Assumes nothing.
use mathlib.Core.Path.{◌≡◌, sym, ap, ◌∙◌, subst}
use mathlib.Core.List.{List}
use Prim.Native.Nat.{ℕ, ◌+◌, ◌*◌, ◌/◌, ◌≤◌, ◌^◌}
use lib.IntN.{ℤ, pos, nat_abs}
use lib.Dec.{eqb}
use lib.ListN.{length}
use Rattle.slices.specs.Places.{at, tab}
use Rattle.slices.specs.Filled.{length-tab, tab-cong}
use Rattle.sums.specs.Laws.{one-le}
use Rattle.walsh_laws.specs.Walsh.{walsh, spectrum, power, auto}
use Rattle.walsh_laws.specs.Passes.{val}
use Rattle.walsh.specs.Numbers.{Ready}
use Rattle.spectrum_words.specs.Words.{marks, Exact}
use Rattle.spectrum_work.specs.Word.{naturals, transformed, ready-marks, ready-power, correlated, exact, quotient, squared, squarable}
use Rattle.spectrum_work.proofs.add_word.Goals as goal
use Rattle.spectrum_work.proofs.add_word.Goals.{After-put_marks, After-square, After-transform, After-transform-2}

-- at each place there is at most one of the word's points
bits : (f : ℕ → ℕ) (u x : ℕ) → marks f u x ≤ 1
bits f u x = one-le (eqb (f x) u)

-- the transform of numbers that are not negative
spectral : (f : ℕ → ℕ) (n : ℕ) (l s : List ℤ) → l ≡ naturals n f → s ≡ tab (2 ^ n) (walsh (val l) n) → s ≡ tab (2 ^ n) (spectrum f n)
spectral f n l s a b = b ∙ ap (λ (l : List ℤ). tab (2 ^ n) (walsh (val l) n)) a ∙ transformed n f

marked : (c : goal.After-put_marks) → c.put_marks.new.s ≡ naturals c.args.n (marks (at c.args.table.now) c.args.u)
marked c = c.put_marks.ensures ∙ ap (λ (m : ℕ). tab m (λ x. pos (marks (at c.args.table.now) c.args.u x))) c.requires.1

first : (c : goal.After-transform) → c.transform.new.s ≡ tab (2 ^ c.args.n) (spectrum (marks (at c.args.table.now) c.args.u) c.args.n)
first c =
    let f : ℕ → ℕ = marks (at c.args.table.now) c.args.u in
    spectral f c.args.n _ _ (c.put_marks.ensures ∙ ap (λ (m : ℕ). tab m (λ x. pos (f x))) c.requires.1) c.transform.ensures

powers : (c : goal.After-square) → c.square.new.s ≡ naturals c.args.n (power (marks (at c.args.table.now) c.args.u) c.args.n)
powers c =
    let f : ℕ → ℕ = marks (at c.args.table.now) c.args.u in
    c.square.ensures
    ∙ squared f c.args.n _
    (spectral f c.args.n _ _ (c.put_marks.ensures ∙ ap (λ (m : ℕ). tab m (λ x. pos (f x))) c.requires.1) c.transform.ensures)

multiples : (c : goal.After-transform-2)
    → c.transform-2.new.s ≡ naturals c.args.n (λ t. auto (marks (at c.args.table.now) c.args.u) c.args.n t * 2 ^ c.args.n)
multiples c =
    let n = c.args.n in
    let f : ℕ → ℕ = marks (at c.args.table.now) c.args.u in
    let squares : c.square.new.s ≡ naturals n (power f n)
    = c.square.ensures
    ∙ squared f n _ (spectral f n _ _ (c.put_marks.ensures ∙ ap (λ (m : ℕ). tab m (λ x. pos (f x))) c.requires.1) c.transform.ensures) in
    spectral (power f n) n _ _ squares c.transform-2.ensures ∙ correlated f n c.requires.3 (bits (at c.args.table.now) c.args.u)

pub transform-requires : goal.transform-requires
transform-requires c =
    subst (λ l. Ready l c.args.n) (sym (marked (goal.at.transform-requires c).After-put_marks))
    (ready-marks (marks (at c.args.table.now) c.args.u) c.args.n c.requires.3 (bits (at c.args.table.now) c.args.u))

pub square-requires : goal.square-requires
square-requires c =
    squarable (marks (at c.args.table.now) c.args.u) c.args.n _ c.requires.3 (bits (at c.args.table.now) c.args.u)
    (first (goal.at.square-requires c).After-transform)

pub transform-requires-2 : goal.transform-requires-2
transform-requires-2 c =
    subst (λ l. Ready l c.args.n) (sym (powers (goal.at.transform-requires-2 c).After-square))
    (ready-power (marks (at c.args.table.now) c.args.u) c.args.n c.requires.3 (bits (at c.args.table.now) c.args.u))

pub add_quotients-requires : goal.add_quotients-requires
add_quotients-requires c =
    let n = c.args.n in
    let f : ℕ → ℕ = marks (at c.args.table.now) c.args.u in
    let all = multiples (goal.at.add_quotients-requires c).After-transform-2 in (
      ap length all ∙ length-tab (2 ^ n) (λ t. pos (auto f n t * 2 ^ n)),
      c.requires.2,
      c.requires.3,
      subst (λ l. Exact l (2 ^ n)) (sym all) (exact f n c.requires.3 (bits (at c.args.table.now) c.args.u)),
      c.requires.4,
    )

pub returns : goal.returns
returns c =
    let n = c.args.n in
    let f : ℕ → ℕ = marks (at c.args.table.now) c.args.u in (
      c.add_quotients.ensures.0,
      c.add_quotients.ensures.1
          ∙ tab-cong (2 ^ n) _ _
          (λ t h.
          ap (λ (q : ℕ). at c.args.values.now t + q)
          (ap (λ l. nat_abs (val l t) / 2 ^ n) (multiples (goal.at.returns c).After-transform-2)
          ∙ quotient f n c.requires.3 (bits (at c.args.table.now) c.args.u) t h)),
    )
