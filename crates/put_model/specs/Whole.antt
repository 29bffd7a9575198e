-- The whole model as the code puts it: its first lines, the covers of sigma, those of the outputs, and the last line. Assumes nothing.
use Rattle.std.specs.Prelude.{◌≡◌, List, [], ◌∷◌, ◌++◌, ℕ, ◌≤◌, length}
use Rattle.std.proofs.Common.{ap, ◌∙◌, append_assoc, zero-add, arith}
use Rattle.slices.specs.Places.{at, tab, over}
use Rattle.slices.specs.Filled.{length-tab}
use Rattle.block.specs.Model.{x_name, y_name, back_covers, front_covers, patterns_of, model_covers, spaced, cover_lines, joined}
use Rattle.block.specs.Model.{title_line, inputs_line, outputs_line, last_line, model_lines, model_of, block_model}
use Rattle.block.specs.declared.Row.{Row}
use Rattle.block.specs.declared.Pattern.{Pattern}
use Rattle.put_bytes.specs.Puts.{put-over}
use Rattle.put_names.specs.Fitting.{Fitted}
use Rattle.model_laws.specs.WordLines.{joined-append}
use Rattle.put_chains.specs.Texts.{cover_text, text-append}

-- ".model block", LF and ".inputs"
abbrev title_inputs : List ℕ
title_inputs = 46 ∷ 109 ∷ 111 ∷ 100 ∷ 101 ∷ 108 ∷ 32 ∷ 98 ∷ 108 ∷ 111 ∷ 99 ∷ 107 ∷ 10 ∷ 46 ∷ 105 ∷ 110 ∷ 112 ∷ 117 ∷ 116 ∷ 115 ∷ []

-- ".end" and LF
abbrev last_text : List ℕ
last_text = 46 ∷ 101 ∷ 110 ∷ 100 ∷ 10 ∷ []

-- the three lines at the front
abbrev pub head_text : ℕ → ℕ → List ℕ
head_text n k =
    title_inputs
    ++ (spaced (tab n x_name) ++ ((10 ∷ 46 ∷ 111 ∷ 117 ∷ 116 ∷ 112 ∷ 117 ∷ 116 ∷ 115 ∷ []) ++ (spaced (tab k y_name) ++ (10 ∷ []))))

regroup : (a t w b x : List ℕ) → (a ++ t) ++ (((w ++ b) ++ t) ++ x) ≡ (a ++ (t ++ (w ++ (b ++ t)))) ++ x
regroup a t w b x = simp append_assoc

-- the whole text
pub model-text : (n k : ℕ) (sigma : List ℕ) (rs : List Row)
    → block_model n k sigma rs
    ≡ head_text n k ++ (cover_text (front_covers n (at sigma) n) ++ (cover_text (back_covers n 0 (tab k (λ j. patterns_of j rs))) ++ last_text))
unfolding block_model model_of model_lines model_covers joined spaced
model-text n k sigma rs =
    ap (λ (i : ℕ). joined (model_lines n i (model_covers n sigma qs))) (length-tab k (λ j. patterns_of j rs))
    ∙ ap (λ (t : List ℕ). title_line ++ (inputs_line n ++ (outputs_line k ++ t)))
    (joined-append (cover_lines (front_covers n (at sigma) n ++ back_covers n 0 qs)) (last_line ∷ [])
    ∙ ap (λ (t : List ℕ). t ++ last_text) (text-append (front_covers n (at sigma) n) (back_covers n 0 qs))
    ∙ append_assoc (cover_text (front_covers n (at sigma) n)) (cover_text (back_covers n 0 qs)) last_text)
    ∙ ap (λ (t : List ℕ). title_inputs ++ t)
    (regroup (spaced (tab n x_name)) (10 ∷ []) (46 ∷ 111 ∷ 117 ∷ 116 ∷ 112 ∷ 117 ∷ 116 ∷ 115 ∷ []) (spaced (tab k y_name))
    (cover_text (front_covers n (at sigma) n) ++ (cover_text (back_covers n 0 qs) ++ last_text)))
  where
    qs : List (List Pattern)
    qs = tab k (λ j. patterns_of j rs)

-- a text that fits, put at the front of a list, lies over it
pub whole-over : (l t l' : List ℕ) (r : ℕ) → Fitted l 0 t l' r → r ≤ length l → l' ≡ over t l
whole-over l t l' r p h = put-over (omega (arith, p.place)) (p.put h)

-- and the place after it is its length
pub whole_length : (l t l' : List ℕ) (r : ℕ) → Fitted l 0 t l' r → r ≡ length t
whole_length l t l' r p = p.place ∙ zero-add (length t)
