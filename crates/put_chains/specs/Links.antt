-- What one input brings to a row's chain, and what is left after it: the row's inputs are its one-bits, upwards, one binary digit at a time
-- (`digit-more`). Assumes nothing.
use Rattle.std.specs.Prelude.{◌≡◌, refl, Bool, true, false, cond, List, [], ◌∷◌, ◌++◌, ℕ, zero, suc, ◌+◌, ◌-◌, ◌/◌, ◌%◌, ◌^◌, ◌<◌, eqb}
use Rattle.std.proofs.Common.{sym, ap, ap₂, ◌∙◌, add-zero, zero-add, pow-suc, arith, eq-eqb, ne_eqb}
use Rattle.std.proofs.Math.Decide.{ℕ_discrete}
use Rattle.bits.specs.Digits.{bit}
use Rattle.bits.specs.Bit.{bit-zero, bit-suc}
use Rattle.block.specs.Covers.{Cover}
use Rattle.block.specs.Model.{x_name, z_name, part_name, copy_cover, xor_cover, chain, row_covers, inputs_of}

-- what a chain with q inputs so far goes on from: its only input a, or its last part
abbrev pub from_name : ℕ → ℕ → ℕ → List ℕ
from_name i a q = cond (eqb q 1) (x_name a) (part_name i (q - 1))

-- and what it defines with one more: the row itself with the last input, or its part q
abbrev pub to_name : ℕ → ℕ → Bool → List ℕ
to_name i q last = cond last (z_name i) (part_name i q)

-- the cover that input b brings, where q inputs came before it
abbrev pub link_covers : ℕ → ℕ → ℕ → ℕ → Bool → List Cover
link_covers i a b q last =
    cond (eqb q 0) (cond last (copy_cover b i ∷ []) []) (xor_cover (from_name i a q) b (to_name i q last) ∷ [])

-- the covers that are left with q inputs so far, the lowest being a
abbrev pub remaining : ℕ → ℕ → ℕ → List ℕ → List Cover
remaining i a zero us = row_covers i us
remaining i a (suc q) us = chain i (from_name i a (suc q)) (suc q) us

-- no input is left after b
abbrev ends : List ℕ → Bool
ends [] = true
ends (c ∷ us) = false

-- the lowest input, with b one more
abbrev pub lowest : ℕ → ℕ → ℕ → ℕ
lowest a b q = cond (eqb q 0) b a

from-part : (i a q : ℕ) → from_name i a (suc (suc q)) ≡ part_name i (suc q)
from-part i a q = rw (ne_eqb (suc (suc q)) 1 (λ e. omega arith)) (ap (part_name i) (omega arith))

remaining-lowest : (i a b q : ℕ) (us : List ℕ) → remaining i (lowest a b q) q us ≡ remaining i a q us
remaining-lowest i a b zero us = refl
remaining-lowest i a b (suc q) us = rw (ne_eqb (suc q) 0 (λ e. omega arith))

remaining-more : (i a q b : ℕ) (us : List ℕ)
    → remaining i a q (b ∷ us) ≡ link_covers i a b q (ends us) ++ remaining i (lowest a b q) (suc q) us
unfolding row_covers chain
remaining-more i a zero b [] = refl
remaining-more i a zero b (c ∷ us) = refl
remaining-more i a (suc q) b [] = rw (ne_eqb (suc q) 0 (λ e. omega arith))
remaining-more i a (suc q) b (c ∷ us) =
    rw (ne_eqb (suc q) 0 (λ e. omega arith))
    (ap (λ (t : List ℕ). xor_cover (from_name i a (suc q)) b (part_name i (suc q)) ∷ chain i t (suc (suc q)) (c ∷ us)) (sym (from-part i a q)))

-- the one-bits of r, upwards from input b
unfoldable pub upwards : ℕ → ℕ → ℕ → List ℕ
upwards zero b r = []
upwards (suc f) b r = cond (eqb (r % 2) 0) (upwards f (suc b) (r / 2)) (b ∷ upwards f (suc b) (r / 2))

ends-none : (f b r : ℕ) → r < 2 ^ f → ends (upwards f b r) ≡ eqb r 0
unfolding upwards
ends-none zero b r h = sym (eq-eqb r 0 (omega arith))
ends-none (suc f) b r h = go (ℕ_discrete (r % 2) 0) (ends-none f (suc b) (r / 2) (omega (arith, pow-suc 2 f)))
  where
    go : Dec (r % 2 ≡ 0) → ends (upwards f (suc b) (r / 2)) ≡ eqb (r / 2) 0
        → ends (cond (eqb (r % 2) 0) (upwards f (suc b) (r / 2)) (b ∷ upwards f (suc b) (r / 2))) ≡ eqb r 0
    go (yes e) ih = rw (eq-eqb (r % 2) 0 e) (ih ∙ same (ℕ_discrete r 0))
      where
        same : Dec (r ≡ 0) → eqb (r / 2) 0 ≡ eqb r 0
        same (yes z) = eq-eqb (r / 2) 0 (omega arith) ∙ sym (eq-eqb r 0 z)
        same (no z) = ne_eqb (r / 2) 0 (λ w. z (omega arith)) ∙ sym (ne_eqb r 0 z)
    go (no e) ih = rw (ne_eqb (r % 2) 0 e) (sym (ne_eqb r 0 (λ z. e (omega arith))))

-- what digit b of r brings
abbrev pub digit_covers : ℕ → ℕ → ℕ → ℕ → ℕ → List Cover
digit_covers i a b q r = cond (eqb (r % 2) 0) [] (link_covers i a b q (eqb (r / 2) 0))

pub digit-more : (i a q f b r : ℕ) → r < 2 ^ suc f
    → remaining i a q (upwards (suc f) b r) ≡ digit_covers i a b q r ++ remaining i (lowest a b q) (q + r % 2) (upwards f (suc b) (r / 2))
unfolding upwards
digit-more i a q f b r h = go (ℕ_discrete (r % 2) 0)
  where
    us : List ℕ
    us = upwards f (suc b) (r / 2)

    go : Dec (r % 2 ≡ 0)
        → remaining i a q (cond (eqb (r % 2) 0) us (b ∷ us)) ≡ digit_covers i a b q r ++ remaining i (lowest a b q) (q + r % 2) us
    go (yes e) =
        let z : q + r % 2 ≡ q = omega arith in
        rw (eq-eqb (r % 2) 0 e) (sym (ap (λ (t : ℕ). remaining i (lowest a b q) t us) z ∙ remaining-lowest i a b q us))
    go (no e) =
        let z : suc q ≡ q + r % 2 = omega arith in
        rw (ne_eqb (r % 2) 0 e)
        (remaining-more i a q b us
        ∙ ap₂ (λ (l : Bool) (t : ℕ). link_covers i a b q l ++ remaining i (lowest a b q) t us)
        (ends-none f (suc b) (r / 2) (omega (arith, pow-suc 2 f))) z)

pub nothing_left : (i a q : ℕ) → remaining i a q [] ≡ []
unfolding row_covers chain
nothing_left i a zero = refl
nothing_left i a (suc q) = refl

upwards-top : (f b r : ℕ) → upwards (suc f) b r ≡ upwards f b r ++ cond (eqb (bit r f) 0) [] ((b + f) ∷ [])
unfolding upwards
upwards-top zero b r = rw (bit-zero r, add-zero b)
upwards-top (suc f) b r = go (eqb (r % 2) 0) (upwards-top f (suc b) (r / 2))
  where
    e : suc b + f ≡ b + suc f
    e = omega arith

    T : List ℕ
    T = cond (eqb (bit r (suc f)) 0) [] ((b + suc f) ∷ [])

    turn : upwards (suc f) (suc b) (r / 2) ≡ upwards f (suc b) (r / 2) ++ cond (eqb (bit (r / 2) f) 0) [] ((suc b + f) ∷ [])
        → upwards (suc f) (suc b) (r / 2) ≡ upwards f (suc b) (r / 2) ++ T
    turn ih = ih ∙ ap₂ (λ (d c : ℕ). upwards f (suc b) (r / 2) ++ cond (eqb d 0) [] (c ∷ [])) (sym (bit-suc r f)) e

    go : (t : Bool) → upwards (suc f) (suc b) (r / 2) ≡ upwards f (suc b) (r / 2) ++ cond (eqb (bit (r / 2) f) 0) [] ((suc b + f) ∷ [])
        → cond t (upwards (suc f) (suc b) (r / 2)) (b ∷ upwards (suc f) (suc b) (r / 2))
        ≡ cond t (upwards f (suc b) (r / 2)) (b ∷ upwards f (suc b) (r / 2)) ++ T
    go true ih = turn ih
    go false ih = ap (λ (l : List ℕ). b ∷ l) (turn ih)

-- a row's inputs, upwards
pub inputs-upwards : (n v : ℕ) → upwards n 0 v ≡ inputs_of n v
unfolding upwards inputs_of
inputs-upwards zero v = refl
inputs-upwards (suc n) v =
    upwards-top n 0 v ∙ ap₂ (λ (l : List ℕ) (c : ℕ). l ++ cond (eqb (bit v n) 0) [] (c ∷ [])) (inputs-upwards n v) (zero-add n)
