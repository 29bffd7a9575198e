-- What becomes of a row at a step, as the code decides it: two halves, or one row after the flips. Assumes nothing.
use Rattle.std.specs.Prelude.{◌≡◌, Bool, ◌&&◌, ℕ, ◌*◌}
use Rattle.std.proofs.Math.Path.{refl, ap}
use Rattle.std.proofs.Common.{sym, ◌∙◌, zero-mul, eqb-true}
use Rattle.std.proofs.Math.Bool.{true, false, not, cond}
use Rattle.std.proofs.lemmas.Bool.{false≢true}
use mathlib.Core.List.{[], ◌∷◌}
use Rattle.std.specs.Int.Bits.{bit_and, bit_xor, xor_zero_r}
use Rattle.std.proofs.Math.Dec.{eqb}
use Rattle.bits.specs.Digits.{bit}
use Rattle.block.specs.Words.{row}
use Rattle.block.specs.Rows.{flip_row, half, split_row}
use Rattle.block.specs.declared.Row.{Row}

-- a row with mask m falls into two: free at k, and fixed somewhere that v has a one
unfoldable pub splits : ℕ → ℕ → ℕ → Bool
splits k v m = not (eqb (bit m k) 1) && not (eqb (bit_and m v) 0)

-- a row that is free wherever v has a one stays under the flips
flip-none : (k v : ℕ) (r : Row) → bit_and r.mask v ≡ 0 → flip_row k v r ≡ r
flip-none k v r e =
    ap (λ (a : ℕ). row r.mask (bit_xor r.values a) r.word) (ap (λ (x : ℕ). x * bit r.values k) e ∙ zero-mul (bit r.values k))
    ∙ ap (λ (a : ℕ). row r.mask a r.word) (xor_zero_r r.values)

module _ (k v : ℕ) (r : Row) where
  -- its halves, the 0 half first
  pub split-two : splits k v r.mask ≡ true → split_row k v r ≡ flip_row k v (half k 0 r) ∷ flip_row k v (half k 1 r) ∷ []
  unfolding split_row splits
  split-two e = go (eqb (bit r.mask k) 1) (eqb (bit_and r.mask v) 0) e
    where
      go : (a b : Bool) → not a && not b ≡ true
          → cond a (flip_row k v r ∷ []) (cond b (r ∷ []) (flip_row k v (half k 0 r) ∷ flip_row k v (half k 1 r) ∷ []))
          ≡ flip_row k v (half k 0 r) ∷ flip_row k v (half k 1 r) ∷ []
      go true b e = absurd (false≢true e)
      go false true e = absurd (false≢true e)
      go false false e = refl

  -- or one row, whether it is fixed at k or not
  pub split_one : splits k v r.mask ≡ false → split_row k v r ≡ flip_row k v r ∷ []
  unfolding split_row splits
  split_one e = go (eqb (bit r.mask k) 1) (eqb (bit_and r.mask v) 0) refl e
    where
      go : (a b : Bool) → eqb (bit_and r.mask v) 0 ≡ b → not a && not b ≡ false
          → cond a (flip_row k v r ∷ []) (cond b (r ∷ []) (flip_row k v (half k 0 r) ∷ flip_row k v (half k 1 r) ∷ [])) ≡ flip_row k v r ∷ []
      go true b d e = refl
      go false true d e = ap (λ (s : Row). s ∷ []) (sym (flip-none k v r (eqb-true (bit_and r.mask v) 0 d)))
      go false false d e = absurd (false≢true (sym e))
