-- The outputs as the code puts them: the bytes of one, and one more at a time. Assumes nothing.
use Rattle.std.specs.Prelude.{◌≡◌, refl, List, [], ◌∷◌, ◌++◌, map, ℕ, ◌+◌, length}
use Rattle.std.proofs.Common.{ap, ap₂, ◌∙◌, append_assoc, append-nil, zero-add, add-one}
use Rattle.slices.specs.Places.{tab}
use Rattle.slices.specs.Filled.{tab-suc, length-tab}
use Rattle.block.specs.Covers.{names_word}
use Rattle.block.specs.Model.{y_name, z_name, cube_of, output_cover, back_covers, spaced, cube_line, cover_lines, joined}
use Rattle.block.specs.declared.Pattern.{Pattern}
use Rattle.model_laws.specs.Lines.{back-append}
use Rattle.model_laws.specs.Spaced.{spaced-append}
use Rattle.put_chains.specs.Texts.{cover_text, text-append}
use Rattle.put_outputs.specs.Patterns.{pattern_text}

line-parts : (s y p : List ℕ) → ((s ++ (32 ∷ (y ++ []))) ++ (10 ∷ [])) ++ p ≡ s ++ ((32 ∷ []) ++ (y ++ ((10 ∷ []) ++ p)))
line-parts s y p = simp (append_assoc, append-nil)

-- an output: ".names", the z, the y, LF and its patterns
pub output-text : (n j : ℕ) (ps : List Pattern)
    → cover_text (output_cover n j ps ∷ [])
    ≡ names_word ++ (spaced (tab n z_name) ++ ((32 ∷ []) ++ (y_name j ++ ((10 ∷ []) ++ pattern_text n ps))))
unfolding cover_lines joined spaced
output-text n j ps =
    ap₂ (λ (s t : List ℕ). 46 ∷ 110 ∷ 97 ∷ 109 ∷ 101 ∷ 115 ∷ ((s ++ (10 ∷ [])) ++ t))
    (spaced-append (tab n z_name) (y_name j ∷ []))
    (ap joined (append-nil (map cube_line (map (cube_of n) ps))))
    ∙ ap (λ (s : List ℕ). 46 ∷ 110 ∷ 97 ∷ 109 ∷ 101 ∷ 115 ∷ s) (line-parts (spaced (tab n z_name)) (y_name j) (pattern_text n ps))

-- the outputs, one more
pub back_none : (n : ℕ) (f : ℕ → List Pattern) → cover_text (back_covers n 0 (tab 0 f)) ≡ []
unfolding back_covers cover_lines joined tab
back_none n f = refl

pub back_more : (n : ℕ) (f : ℕ → List Pattern) (j : ℕ)
    → cover_text (back_covers n 0 (tab (j + 1) f)) ≡ cover_text (back_covers n 0 (tab j f)) ++ cover_text (output_cover n j (f j) ∷ [])
unfolding back_covers
back_more n f j =
    rw (add-one j, tab-suc j f)
    (ap cover_text (back-append n (tab j f) (f j ∷ []) 0)
    ∙ text-append (back_covers n 0 (tab j f)) (back_covers n (0 + length (tab j f)) (f j ∷ []))
    ∙ ap (λ (i : ℕ). cover_text (back_covers n 0 (tab j f)) ++ cover_text (output_cover n i (f j) ∷ []))
    (zero-add (length (tab j f)) ∙ length-tab j f))
