-- Names with one letter, each after a space, one more at a time. Assumes nothing.
use Rattle.std.specs.Prelude.{◌≡◌, refl, List, [], ◌∷◌, ◌++◌, ℕ, ◌+◌}
use Rattle.std.proofs.Common.{sym, ap, ◌∙◌, append_assoc, append-nil, add-one}
use Rattle.slices.specs.Places.{tab}
use Rattle.slices.specs.Filled.{tab-suc}
use Rattle.block.specs.Text.{decimal}
use Rattle.block.specs.Model.{spaced}

-- a letter and a number
abbrev pub lettered : ℕ → ℕ → List ℕ
lettered c i = c ∷ decimal i

pub spaced-append : (ms ls : List (List ℕ)) → spaced (ms ++ ls) ≡ spaced ms ++ spaced ls
unfolding spaced
spaced-append [] ls = refl
spaced-append (m ∷ ms) ls =
    ap (λ (t : List ℕ). 32 ∷ m ++ t) (spaced-append ms ls)
    ∙ ap (λ (t : List ℕ). 32 ∷ t) (sym (append_assoc m (spaced ms) (spaced ls)))

pub spaced-one : (m : List ℕ) → spaced (m ∷ []) ≡ 32 ∷ m
unfolding spaced
spaced-one m = ap (λ (t : List ℕ). 32 ∷ t) (append-nil m)

-- the first names of a letter: one more, and none
pub names_more : (c i : ℕ) → spaced (tab (i + 1) (lettered c)) ≡ spaced (tab i (lettered c)) ++ (32 ∷ lettered c i)
names_more c i =
    rw (add-one i, tab-suc i (lettered c))
    (spaced-append (tab i (lettered c)) (lettered c i ∷ []) ∙ ap (λ (t : List ℕ). spaced (tab i (lettered c)) ++ t) (spaced-one (lettered c i)))

pub names-none : (c : ℕ) → spaced (tab 0 (lettered c)) ≡ []
unfolding spaced tab
names-none c = refl
