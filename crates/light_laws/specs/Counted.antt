-- Laws of `ways` by its parts, and how many ways there are at most. Assumes nothing.
use Rattle.std.specs.Prelude.{◌≡◌, refl, List, [], ◌∷◌, ◌++◌, ℕ, zero, suc, ◌+◌, ◌≤◌, eqb, length}
use Rattle.std.proofs.Common.{sym, ap, ap₂, ◌∙◌, add-one, arith, length-append}
use Rattle.std.proofs.Math.Decide.{le_ind}
use Rattle.std.specs.Int.Bits.{bit_xor}
use Rattle.std.proofs.Math.ListN.{get_or-append}
use Rattle.std.proofs.Math.Seq.{get_or-append_seam}
use Rattle.slices.specs.Places.{at}
use Rattle.sums.specs.Sums.{one}
use Rattle.sums.specs.Laws.{one-le}
use Rattle.light_laws.specs.Ways.{ways}

-- where nothing may be flipped, or there is nothing to flip
pub ways-flat : (ps : List ℕ) (top b t : ℕ) → ways 0 ps top b t ≡ one (eqb t b)
unfolding ways
ways-flat ps zero b t = refl
ways-flat ps (suc top) b t = refl

pub ways-none : (d : ℕ) (ps : List ℕ) (b t : ℕ) → ways d ps 0 b t ≡ one (eqb t b)
unfolding ways
ways-none zero ps b t = refl
ways-none (suc d) ps b t = refl

-- one number more to flip: it is left, or it is flipped
pub ways-more : (d : ℕ) (ps : List ℕ) (top b t : ℕ)
    → ways (suc d) ps (top + 1) b t ≡ ways (suc d) ps top b t + ways d ps top (bit_xor b (at ps top)) t
unfolding ways
ways-more d ps top b t = rw add-one

-- how many choices there are of at most d among `top`
unfoldable pub choices : ℕ → ℕ → ℕ
choices d zero = 1
choices zero (suc top) = 1
choices (suc d) (suc top) = choices (suc d) top + choices d top

pub choices-flat : (top : ℕ) → choices 0 top ≡ 1
unfolding choices
choices-flat zero = refl
choices-flat (suc top) = refl

choices-step : (d m : ℕ) → choices d m ≤ choices d (suc m)
unfolding choices
choices-step zero m = omega (arith, choices-flat m)
choices-step (suc d) m = omega arith

pub choices-mono : (d a b : ℕ) → a ≤ b → choices d a ≤ choices d b
choices-mono d a b h =
    le_ind (λ (m : ℕ). choices d a ≤ choices d m) (omega arith) (λ m k e. omega (arith, choices-step d m)) b h

pub choices-more : (d e top : ℕ) → d ≤ e → choices d top ≤ choices e top
unfolding choices
choices-more d e zero h = omega arith
choices-more zero zero (suc top) h = omega arith
choices-more zero (suc e) (suc top) h = omega (arith, choices-more zero (suc e) top h, choices-flat top)
choices-more (suc d) zero (suc top) h = absurd (omega arith)
choices-more (suc d) (suc e) (suc top) h = omega (arith, choices-more (suc d) (suc e) top h, choices-more d e top (omega arith))

-- no more ways than choices
pub ways-le : (d : ℕ) (ps : List ℕ) (top b t : ℕ) → ways d ps top b t ≤ choices d top
unfolding ways choices
ways-le d ps zero b t = one-le (eqb t b)
ways-le zero ps (suc top) b t = one-le (eqb t b)
ways-le (suc d) ps (suc top) b t = omega (arith, ways-le (suc d) ps top b t, ways-le d ps top (bit_xor b (at ps top)) t)

-- of at most 16 numbers
pub ways-one-le : (ps : List ℕ) (top b t : ℕ) → top ≤ 16 → ways 1 ps top b t ≤ 17
unfolding choices
ways-one-le ps top b t h = omega (arith, ways-le 1 ps top b t, choices-mono 1 top 16 h)

pub ways-two-le : (ps : List ℕ) (top b t : ℕ) → top ≤ 16 → ways 2 ps top b t ≤ 137
unfolding choices
ways-two-le ps top b t h = omega (arith, ways-le 2 ps top b t, choices-mono 2 top 16 h)

pub ways-three-le : (ps : List ℕ) (top b t : ℕ) → top ≤ 16 → ways 3 ps top b t ≤ 697
unfolding choices
ways-three-le ps top b t h = omega (arith, ways-le 3 ps top b t, choices-mono 3 top 16 h)

-- only the numbers before `top` are looked at
pub ways-front : (d : ℕ) (ps qs : List ℕ) (top b t : ℕ) → top ≤ length ps → ways d (ps ++ qs) top b t ≡ ways d ps top b t
unfolding ways
ways-front d ps qs zero b t h = ways-none d (ps ++ qs) b t ∙ sym (ways-none d ps b t)
ways-front zero ps qs (suc top) b t h = refl
ways-front (suc d) ps qs (suc top) b t h =
    ap₂ ◌+◌ (ways-front (suc d) ps qs top b t (omega arith))
    (ways-front d ps qs top (bit_xor b (at (ps ++ qs) top)) t (omega arith)
    ∙ ap (λ (p : ℕ). ways d ps top (bit_xor b p) t) (get_or-append ps qs 0 top h))

-- a number put at the end: it is left, or it is flipped
pub ways-push : (d : ℕ) (ps : List ℕ) (p b t : ℕ)
    → ways (suc d) (ps ++ (p ∷ [])) (length (ps ++ (p ∷ []))) b t ≡ ways (suc d) ps (length ps) b t + ways d ps (length ps) (bit_xor b p) t
ways-push d ps p b t =
    ap (λ (top : ℕ). ways (suc d) (ps ++ (p ∷ [])) top b t) (length-append ps (p ∷ []))
    ∙ ways-more d (ps ++ (p ∷ [])) (length ps) b t
    ∙ ap₂ ◌+◌ (ways-front (suc d) ps (p ∷ []) (length ps) b t (omega arith))
    (ways-front d ps (p ∷ []) (length ps) (bit_xor b (at (ps ++ (p ∷ [])) (length ps))) t (omega arith)
    ∙ ap (λ (q : ℕ). ways d ps (length ps) (bit_xor b q) t) (get_or-append_seam ps p [] 0))
