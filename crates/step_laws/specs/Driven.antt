-- Moved rows drive the columns that the given rows drive (02, Ticket 8: "smaller rows drive the same columns"): neither an exchange nor a
-- split changes a word, and a split row leaves its word behind. It holds of any rows and any steps. Assumes nothing.
use Rattle.std.specs.Prelude.{◌≡◌, refl, Bool, true, false, cond, ◌||◌, List, [], ◌∷◌, map, ℕ, zero, suc, eqb}
use Rattle.std.proofs.Common.{ap, ap₂, ◌∙◌}
use Rattle.std.proofs.Math.Bool.{or-false, or_self}
use Rattle.std.proofs.lemmas.Simd.{map-map}
use Rattle.std.proofs.lemmas.List.{map-append}
use Rattle.std.specs.Int.Bits.{bit_and}
use Rattle.bits.specs.Digits.{bit}
use Rattle.slices.specs.Places.{at}
use Rattle.block.specs.Words.{of_rows, word_part}
use Rattle.block.specs.Basis.{basis_of}
use Rattle.block.specs.Rows.{partner, rest, reached, exchange_row, flip_row, half, split_row, split_rows, moved}
use Rattle.block.specs.Refusals.{driven}
use Rattle.block.specs.Lists.{rows_after, smaller_list}
use Rattle.block.specs.declared.Row.{Row}
use Rattle.refusal_laws.specs.Driven.{driven-append}

-- what becomes of a row has its word, once or twice
became-driven : (k v : ℕ) (r : Row) (j : ℕ) → driven (map word_part (split_row k v r)) j ≡ eqb (bit r.word j) 1
unfolding split_row driven
became-driven k v r j = go (eqb (bit r.mask k) 1) (eqb (bit_and r.mask v) 0)
  where
    go : (a b : Bool)
        → driven (map word_part (cond a (flip_row k v r ∷ []) (cond b (r ∷ []) (flip_row k v (half k 0 r) ∷ flip_row k v (half k 1 r) ∷ [])))) j
        ≡ eqb (bit r.word j) 1
    go true b = or-false _
    go false true = or-false _
    go false false = ap (λ (b : Bool). eqb (bit r.word j) 1 || b) (or-false _) ∙ or_self _

split-driven : (k v : ℕ) (rs : List Row) (j : ℕ) → driven (map word_part (split_rows k v rs)) j ≡ driven (map word_part rs) j
unfolding split_rows driven
split-driven k v [] j = refl
split-driven k v (r ∷ rs) j =
    ap (λ (ws : List ℕ). driven ws j) (map-append word_part (split_row k v r) (split_rows k v rs))
    ∙ driven-append (map word_part (split_row k v r)) (map word_part (split_rows k v rs)) j
    ∙ ap₂ ◌||◌ (became-driven k v r j) (split-driven k v rs j)

pub moved-driven : (n : ℕ) (c : ℕ → ℕ) (i : ℕ) (rs : List Row) (j : ℕ) → driven (map word_part (moved n c i rs)) j ≡ driven (map word_part rs) j
unfolding moved
moved-driven n c zero rs j = refl
moved-driven n c (suc i) rs j =
    let y : ℕ = reached n c i (c i) in
    split-driven i (rest n i y) (map (exchange_row i (partner n i y)) (moved n c i rs)) j
    ∙ ap (λ (ws : List ℕ). driven ws j) (map-map word_part (exchange_row i (partner n i y)) (moved n c i rs))
    ∙ moved-driven n c i rs j

-- the smaller rows among them
pub smaller-driven : (m n w : ℕ) (rs : List Row) (j : ℕ) → driven (map word_part (smaller_list m n w rs)) j ≡ driven (map word_part rs) j
unfolding smaller_list rows_after
smaller-driven m n w rs j = moved-driven n (at (basis_of (of_rows m rs) n w)) n rs j
