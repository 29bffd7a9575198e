-- `filling::clear` meets its contract: what is filled is a list of one word. Assumes nothing.
use Rattle.std.proofs.Common.{◌≡◌, ℕ, refl, sym, ◌∙◌}
use Rattle.std.proofs.Math.ListN.{replicate}
use Rattle.std.proofs.lemmas.List.{length-take-le, length-replicate, get_or-replicate}
use Rattle.slices.specs.Places.{tab}
use Rattle.slices.specs.Filled.{tab-list, tab-cong, over-part}
use Rattle.filling.proofs.clear.Goals as goal

all : (m x : ℕ) → replicate m x ≡ tab m (λ _. x)
all m x = sym (tab-list 0 (replicate m x)) ∙ rw (length-replicate m x) (tab-cong m _ _ (λ i b. get_or-replicate m i x 0 b))

pub returns : goal.returns
returns c =
    let a = c.args in
    over-part a.size a.size (λ _. a.missing) _ _
    (c.fill.ensures.after (λ y e. e) ∙ rw (length-take-le a.size a.out.now c.requires) (all a.size a.missing)) refl
