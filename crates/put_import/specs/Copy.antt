-- One byte more of a name, as it is shown. Assumes nothing.
use Rattle.std.specs.Prelude.{◌≡◌, List, [], ◌∷◌, map, ℕ, ◌+◌, ◌<◌, length, set, get_or, take}
use Rattle.std.proofs.Common.{sym, ap, ◌∙◌, add-one, arith, take-suc, length-take-le}
use Rattle.std.proofs.lemmas.List.{map-append, length-map}
use Rattle.std.proofs.lemmas.List.Edits.{sets}
use Rattle.put_bytes.specs.Puts.{sets-append}

pub name-more : (f : ℕ → ℕ) (l s : List ℕ) (i : ℕ) → i < length s
    → set (sets l 0 (map f (take i s))) i (f (get_or s i 0)) ≡ sets l 0 (map f (take (i + 1) s))
name-more f l s i h =
    sets-append (map f (take i s)) (f (get_or s i 0) ∷ []) l 0 i
    (omega (arith, length-map (take i s) f, length-take-le i s (omega arith)))
    ∙ ap (λ (t : List ℕ). sets l 0 t)
    (sym (map-append f (take i s) (get_or s i 0 ∷ [])) ∙ ap (map f) (sym (take-suc s i 0 h) ∙ ap (λ (j : ℕ). take j s) (sym (add-one i))))
