-- Lists by place. Not here: laws (`Least`, `Filled`). Assumes nothing.
use Rattle.std.specs.Prelude.{Bool, cond, List, [], ◌∷◌, ◌++◌, ℕ, zero, suc, length, get_or, drop}

-- what stands at i, 0 past the end
abbrev pub at : List ℕ → ℕ → ℕ
at l i = get_or l i 0

-- f 0, f 1, .. f (m - 1)
unfoldable pub tab {ℓ} : {A : Type ℓ} → ℕ → (ℕ → A) → List A
tab zero f = []
tab (suc m) f = tab m f ++ (f m ∷ [])

-- the least i below m at which the test passes, or m where there is none
unfoldable pub first : ℕ → (ℕ → Bool) → ℕ
first zero p = 0
first (suc m) p = cond (p 0) 0 (suc (first m (λ i. p (suc i))))

-- the lent list l with the list s stored at its front: what lies beyond s holds what it held
abbrev pub over {ℓ} : {A : Type ℓ} → List A → List A → List A
over s l = s ++ drop (length s) l
