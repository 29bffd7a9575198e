-- What a cube adds at the light numbers, all at once: the array raised by the ways to the numbers of the cube, and the array left as it is
-- where the cube has no light number. Assumes nothing.
use Rattle.std.specs.Prelude.{◌≡◌, Bool, true, false, cond, ◌&&◌, List, ℕ, ◌+◌, ◌*◌, ◌^◌, ◌<◌, eqb, leb, length}
use Rattle.std.proofs.Common.{sym, ap, ap₂, ◌∙◌, add-zero, mul-zero, mul-one, arith, ext_get_or}
use Rattle.std.specs.Int.Bits.{bit_and}
use Rattle.std.proofs.lemmas.Nat.{xor_lt}
use Rattle.std.specs.Int.Count.{ones}
use Rattle.std.proofs.Math.ListN.{get_or-append}
use Rattle.slices.specs.Places.{at, tab, over}
use Rattle.slices.specs.Filled.{length-tab, tab-at, tab-list, tab-cong}
use Rattle.sums.specs.Sums.{one}
use Rattle.light_laws.specs.Ways.{ways, frees, lit}
use Rattle.light_laws.specs.Counted.{ways-front}
use Rattle.light_laws.specs.Free.{frees-lt}
use Rattle.light_laws.specs.Light.{heavy-none, light-ways}
use Rattle.pair_laws.specs.Symmetric.{cube, hit}
use Rattle.light_adding.specs.Raised.{Raised, Inside}

-- the array with what a cube adds at the light numbers
abbrev pub with_cube : ℕ → ℕ → ℕ → ℕ → ℕ → List ℕ → List ℕ
with_cube n w mask value weight l = tab (2 ^ n) (λ t. at l t + lit w t (hit t (cube mask value weight)))

-- a number is in the cube, and it is light
lit-both : (p q : Bool) (x : ℕ) → cond q (cond p x 0) 0 ≡ x * one (p && q)
lit-both true true x = sym (mul-one x)
lit-both true false x = sym (mul-zero x)
lit-both false true x = sym (mul-zero x)
lit-both false false x = sym (mul-zero x)

-- raised at the light numbers of the cube
pub raised-light : (n w mask value weight d top : ℕ) (ps z l m : List ℕ) → mask < 2 ^ n → bit_and value mask ≡ value → ones value + d ≡ w
    → length l ≡ 2 ^ n → top ≡ length (frees mask n) → ps ≡ over (frees mask n) z → Raised weight (ways d ps top value) l m
    → m ≡ with_cube n w mask value weight l
raised-light n w mask value weight d top ps z l m h e k size many put p =
    ext_get_or 0 m (with_cube n w mask value weight l) (p.long ∙ size ∙ sym (length-tab (2 ^ n) _))
    (λ t i. each t (omega (arith, p.long)))
  where
    often : (t : ℕ) → t < 2 ^ n → ways d ps top value t ≡ one (eqb (bit_and t mask) value && leb (ones t) w)
    often t i =
        ap₂ (λ (q : List ℕ) (j : ℕ). ways d q j value t) put many
        ∙ ways-front d (frees mask n) _ (length (frees mask n)) value t (omega arith)
        ∙ light-ways n mask value d t h e i
        ∙ ap (λ (j : ℕ). one (eqb (bit_and t mask) value && leb (ones t) j)) k

    each : (t : ℕ) → t < 2 ^ n → at m t ≡ at (with_cube n w mask value weight l) t
    each t i =
        p.each t (omega arith)
        ∙ ap (λ (x : ℕ). at l t + x) (ap (λ (x : ℕ). weight * x) (often t i) ∙ sym (lit-both (eqb (bit_and t mask) value) (leb (ones t) w) weight))
        ∙ sym (tab-at (2 ^ n) _ 0 t i)

-- nothing to add
pub raised-none : (n w mask value weight : ℕ) (l : List ℕ) → bit_and value mask ≡ value → w < ones value → length l ≡ 2 ^ n
    → l ≡ with_cube n w mask value weight l
raised-none n w mask value weight l e h size =
    sym (tab-list 0 l) ∙ ap (λ (m : ℕ). tab m (at l)) size
    ∙ tab-cong (2 ^ n) (at l) (λ t. at l t + lit w t (hit t (cube mask value weight)))
    (λ t i.
    sym
    (ap (λ (x : ℕ). at l t + x)
    (lit-both (eqb (bit_and t mask) value) (leb (ones t) w) weight ∙ ap (λ (b : Bool). weight * one b) (heavy-none mask value w t e h) ∙ mul-zero weight)
    ∙ add-zero (at l t)))

-- an XOR of a free input stays below 2^n
pub frees-inside : (n mask end top : ℕ) (ps z : List ℕ) → end ≡ 2 ^ n → top ≡ length (frees mask n) → ps ≡ over (frees mask n) z
    → Inside end ps top
frees-inside n mask end top ps z size many put b k h i =
    let i' : k < length (frees mask n) = omega arith in
    rw size
    (xor_lt n b (at ps k) (omega arith)
    (rw (ap (λ (q : List ℕ). at q k) put ∙ get_or-append (frees mask n) _ 0 k i') (frees-lt mask n k i')))
