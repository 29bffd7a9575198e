-- The lines of covers, one after the other: of the rows of sigma, of the outputs, and with one more of each. Assumes nothing.
use Rattle.std.specs.Prelude.{◌≡◌, refl, List, [], ◌∷◌, ◌++◌, map, ℕ, zero, suc, ◌+◌, ◌<◌, length}
use Rattle.std.proofs.Common.{sym, ap, ap₂, ◌∙◌, append_assoc, append-nil, zero-add, add-one, arith, length-append}
use Rattle.std.proofs.Math.ListN.{get_or-append}
use Rattle.std.proofs.Math.Seq.{get_or-append_seam}
use Rattle.slices.specs.Places.{at}
use Rattle.block.specs.Covers.{Cover}
use Rattle.block.specs.Model.{row_covers, inputs_of, front_covers, cube_of, output_cover, back_covers, names_line, cube_line, cover_lines}
use Rattle.block.specs.declared.Pattern.{Pattern}

pub lines-append : (cs ds : List Cover) → cover_lines (cs ++ ds) ≡ cover_lines cs ++ cover_lines ds
unfolding cover_lines
lines-append [] ds = refl
lines-append (c ∷ cs) ds =
    ap (λ (t : List (List ℕ)). names_line c ∷ map cube_line c.cubes ++ t) (lines-append cs ds)
    ∙ sym (append_assoc (names_line c ∷ map cube_line c.cubes) (cover_lines cs) (cover_lines ds))

-- ---- the rows of sigma

pub front-cong : (n : ℕ) (s t : ℕ → ℕ) (i : ℕ) → ((j : ℕ) → j < i → s j ≡ t j) → front_covers n s i ≡ front_covers n t i
unfolding front_covers
front-cong n s t zero h = refl
front-cong n s t (suc i) h =
    ap₂ (λ (cs : List Cover) (v : ℕ). cs ++ row_covers i (inputs_of n v)) (front-cong n s t i (λ j l. h j (omega arith))) (h i (omega arith))

-- one row more
pub front-more : (n : ℕ) (rs : List ℕ) (v : ℕ)
    → front_covers n (at (rs ++ (v ∷ []))) (length (rs ++ (v ∷ []))) ≡ front_covers n (at rs) (length rs) ++ row_covers (length rs) (inputs_of n v)
unfolding front_covers
front-more n rs v =
    ap (front_covers n (at (rs ++ (v ∷ [])))) (length-append rs (v ∷ []) ∙ add-one (length rs))
    ∙ ap₂ (λ (cs : List Cover) (u : ℕ). cs ++ row_covers (length rs) (inputs_of n u))
    (front-cong n (at (rs ++ (v ∷ []))) (at rs) (length rs) (λ j h. get_or-append rs (v ∷ []) 0 j h))
    (get_or-append_seam rs v [] 0)

-- ---- the outputs

pub back-append : (n : ℕ) (qs rs : List (List Pattern)) (j : ℕ) → back_covers n j (qs ++ rs) ≡ back_covers n j qs ++ back_covers n (j + length qs) rs
unfolding back_covers
back-append n [] rs j = ap (λ (i : ℕ). back_covers n i rs) (omega arith)
back-append n (ps ∷ qs) rs j =
    ap (λ (t : List Cover). output_cover n j ps ∷ t)
    (back-append n qs rs (suc j) ∙ ap (λ (i : ℕ). back_covers n (suc j) qs ++ back_covers n i rs) (omega arith))

pub map_more : {A B : Type 0} (f : A → B) (s : List A) (x : A) → map f (s ++ (x ∷ [])) ≡ map f s ++ (f x ∷ [])
map_more f [] x = refl
map_more f (a ∷ s) x = ap (λ l. f a ∷ l) (map_more f s x)

-- the lines of the outputs, the last one apart
pub output-lines : (n : ℕ) (qs : List (List Pattern)) (ps : List Pattern)
    → cover_lines (back_covers n 0 (qs ++ (ps ∷ [])))
    ≡ cover_lines (back_covers n 0 qs) ++ (names_line (output_cover n (length qs) []) ∷ map cube_line (map (cube_of n) ps))
unfolding back_covers cover_lines
output-lines n qs ps =
    ap cover_lines (back-append n qs (ps ∷ []) 0)
    ∙ lines-append (back_covers n 0 qs) (back_covers n (0 + length qs) (ps ∷ []))
    ∙ ap₂ (λ (j : ℕ) (t : List (List ℕ)). cover_lines (back_covers n 0 qs) ++ (names_line (output_cover n j []) ∷ t))
    (zero-add (length qs)) (append-nil (map cube_line (map (cube_of n) ps)))

-- with one pattern more
pub open_more : (n : ℕ) (qs : List (List Pattern)) (ps : List Pattern) (p : Pattern)
    → cover_lines (back_covers n 0 (qs ++ ((ps ++ (p ∷ [])) ∷ []))) ≡ cover_lines (back_covers n 0 (qs ++ (ps ∷ []))) ++ (cube_line (cube_of n p) ∷ [])
open_more n qs ps p =
    output-lines n qs (ps ++ (p ∷ []))
    ∙ ap (λ (t : List (List ℕ)). cover_lines (back_covers n 0 qs) ++ (names_line (output_cover n (length qs) []) ∷ t))
    (ap (map cube_line) (map_more (cube_of n) ps p) ∙ map_more cube_line (map (cube_of n) ps) (cube_of n p))
    ∙ sym
    (ap (λ (t : List (List ℕ)). t ++ (cube_line (cube_of n p) ∷ [])) (output-lines n qs ps)
    ∙ append_assoc (cover_lines (back_covers n 0 qs)) (names_line (output_cover n (length qs) []) ∷ map cube_line (map (cube_of n) ps)) (cube_line (cube_of n p) ∷ []))
