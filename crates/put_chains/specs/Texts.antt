-- The bytes of covers: one after the other, of one copy, of one XOR. Assumes nothing.
use Rattle.std.specs.Prelude.{◌≡◌, refl, List, [], ◌∷◌, ◌++◌, ℕ}
use Rattle.std.proofs.Common.{ap, ◌∙◌, append_assoc, append-nil}
use Rattle.block.specs.Covers.{Cover}
use Rattle.block.specs.Model.{x_name, z_name, copy_cover, xor_cover, spaced, cover_lines, joined}
use Rattle.model_laws.specs.Lines.{lines-append}
use Rattle.model_laws.specs.WordLines.{joined-append}

-- the bytes of covers
abbrev pub cover_text : List Cover → List ℕ
cover_text cs = joined (cover_lines cs)

pub text-append : (cs ds : List Cover) → cover_text (cs ++ ds) ≡ cover_text cs ++ cover_text ds
text-append cs ds = ap joined (lines-append cs ds) ∙ joined-append (cover_lines cs) (cover_lines ds)

pub no_text : cover_text [] ≡ []
unfolding cover_lines joined
no_text = refl

-- ---- one cover

-- ".names "
abbrev pub names_space : List ℕ
names_space = 46 ∷ 110 ∷ 97 ∷ 109 ∷ 101 ∷ 115 ∷ 32 ∷ []

three-names : (f x t e : List ℕ)
    → ((32 ∷ (f ++ (32 ∷ (x ++ (32 ∷ (t ++ [])))))) ++ (10 ∷ [])) ++ e ≡ 32 ∷ (f ++ (32 ∷ (x ++ (32 ∷ (t ++ (10 ∷ e))))))
three-names f x t e = simp (append_assoc, append-nil)

two-names : (x t e : List ℕ) → ((32 ∷ (x ++ (32 ∷ (t ++ [])))) ++ (10 ∷ [])) ++ e ≡ 32 ∷ (x ++ (32 ∷ (t ++ (10 ∷ e))))
two-names x t e = simp (append_assoc, append-nil)

pub xor-text : (from : List ℕ) (b : ℕ) (to : List ℕ)
    → cover_text (xor_cover from b to ∷ [])
    ≡ names_space ++ (from ++ ((32 ∷ []) ++ (x_name b ++ ((32 ∷ []) ++ (to ++ (10 ∷ 48 ∷ 49 ∷ 32 ∷ 49 ∷ 10 ∷ 49 ∷ 48 ∷ 32 ∷ 49 ∷ 10 ∷ []))))))
unfolding cover_lines joined spaced
xor-text from b to =
    ap (λ (s : List ℕ). 46 ∷ 110 ∷ 97 ∷ 109 ∷ 101 ∷ 115 ∷ s)
    (three-names from (x_name b) to (48 ∷ 49 ∷ 32 ∷ 49 ∷ 10 ∷ 49 ∷ 48 ∷ 32 ∷ 49 ∷ 10 ∷ []))

pub copy-text : (b i : ℕ)
    → cover_text (copy_cover b i ∷ []) ≡ names_space ++ (x_name b ++ ((32 ∷ []) ++ (z_name i ++ (10 ∷ 49 ∷ 32 ∷ 49 ∷ 10 ∷ []))))
unfolding cover_lines joined spaced
copy-text b i =
    ap (λ (s : List ℕ). 46 ∷ 110 ∷ 97 ∷ 109 ∷ 101 ∷ 115 ∷ s) (two-names (x_name b) (z_name i) (49 ∷ 32 ∷ 49 ∷ 10 ∷ []))
