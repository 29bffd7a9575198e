-- `copying::copy_first` meets its contract: the numbers copied are the first p, by their places. Assumes nothing.
use Rattle.std.proofs.Common.{◌≡◌, ◌≤◌, ℕ, List, length, take, refl, sym, ◌∙◌}
use Rattle.std.proofs.lemmas.List.{length-take-le, get_or-take}
use Rattle.slices.specs.Places.{at, tab}
use Rattle.slices.specs.Filled.{tab-list, tab-cong, over-part}
use Rattle.copying.proofs.copy_first.Goals as goal

front : (p : ℕ) (l : List ℕ) → p ≤ length l → take p l ≡ tab p (at l)
front p l h = sym (tab-list 0 (take p l)) ∙ rw (length-take-le p l h) (tab-cong p _ _ (λ i b. get_or-take p l i 0 b))

pub returns : goal.returns
returns c =
    let a = c.args in
    over-part a.p a.p (at a.from.now) _ _ (c.copy_from_slice.ensures.after ∙ front a.p a.from.now c.requires.0) refl
