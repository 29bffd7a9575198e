-- What bytes spell: one byte more, and the digits that decide it. Assumes nothing.
use Rattle.std.specs.Prelude.{◌≡◌, refl, List, [], ◌∷◌, ◌++◌, ℕ, suc, ◌+◌, ◌*◌, ◌<◌, length}
use Rattle.std.proofs.Common.{arith}
use Rattle.slices.specs.Places.{at}
use Rattle.block.specs.Text.{spelled}

pub spelled-last : (base : ℕ) (f : ℕ → ℕ) (v : ℕ) (l : List ℕ) (x : ℕ) → spelled base f v (l ++ (x ∷ [])) ≡ spelled base f v l * base + f x
unfolding spelled
spelled-last base f v [] x = refl
spelled-last base f v (y ∷ l) x = spelled-last base f (v * base + f y) l x

pub spelled-cong : (base : ℕ) (f g : ℕ → ℕ) (v : ℕ) (l : List ℕ) → ((i : ℕ) → i < length l → f (at l i) ≡ g (at l i))
    → spelled base f v l ≡ spelled base g v l
unfolding spelled
spelled-cong base f g v [] h = refl
spelled-cong base f g v (x ∷ l) h =
    rw (h 0 (omega arith)) (spelled-cong base f g (v * base + g x) l (λ i k. h (suc i) (omega arith)))
