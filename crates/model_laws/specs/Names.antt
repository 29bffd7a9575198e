-- Names: digits are digits, so a number's bytes hold no space, no LF and no _; names of different numbers, and a part and a whole, are
-- different. Assumes nothing.
use Rattle.std.specs.Prelude.{◌≡◌, refl, Bool, true, false, cond, List, [], ◌∷◌, ◌++◌, ℕ, zero, suc, ◌+◌, ◌/◌, ◌%◌, ◌≤◌, ◌<◌, ltb, length}
use Rattle.std.proofs.Common.{sym, ap, ◌∙◌, arith, ltb-true, le-leb, length-append}
use Rattle.std.proofs.Math.Seq.{get_or-append_seam}
use Rattle.slices.specs.Places.{at}
use Rattle.block.specs.Text.{digits, decimal, equal, every, is_digit, value_of}
use Rattle.read_laws.specs.Tests.{every-at, every_append, equal-true}
use Rattle.read_laws.specs.Numerals.{digit-range, head-decimal}
use Rattle.block.specs.Model.{z_name, part_name}

-- lists that are not equal
pub unequal : (a b : List ℕ) → (a ≡ b → ⊥) → equal a b ≡ false
unequal a b h = go (equal a b) refl
  where
    go : (t : Bool) → equal a b ≡ t → equal a b ≡ false
    go true e = absurd (h (equal-true a b e))
    go false e = e

-- ---- digits

is-digit : (x : ℕ) → x < 10 → is_digit (48 + x) ≡ true
is-digit x h = rw (le-leb 48 (48 + x) (omega arith), le-leb (48 + x) 57 (omega arith))

digits-every : (most v : ℕ) → every is_digit (digits most v) ≡ true
unfolding digits every
digits-every zero v = refl
digits-every (suc most) v = go (ltb v 10) refl (digits-every most (v / 10))
  where
    go : (b : Bool) → ltb v 10 ≡ b → every is_digit (digits most (v / 10)) ≡ true
        → every is_digit (cond b ((48 + v) ∷ []) (digits most (v / 10) ++ ((48 + v % 10) ∷ []))) ≡ true
    go true e ih = rw (is-digit v (ltb-true v 10 e))
    go false e ih = every_append is_digit (digits most (v / 10)) ((48 + v % 10) ∷ []) ih (rw (is-digit (v % 10) (omega arith)))

pub digit_at : (v i : ℕ) → i < length (decimal v) → (48 ≤ at (decimal v) i) × (at (decimal v) i ≤ 57)
digit_at v i h = digit-range (at (decimal v) i) (every-at is_digit (decimal v) (digits-every 20 v) i h)

pub decimal-same : (v w : ℕ) → v < 1000 → w < 1000 → decimal v ≡ decimal w → v ≡ w
decimal-same v w h l e = sym (head-decimal v h).1 ∙ ap value_of e ∙ (head-decimal w l).1

-- a number's bytes are not those of a number and more after a _
pub decimal-part : (v w : ℕ) (ds : List ℕ) → decimal v ≡ decimal w ++ (95 ∷ ds) → ⊥
decimal-part v w ds e =
    let l : length (decimal w) < length (decimal v) = omega (arith, ap length e, length-append (decimal w) (95 ∷ ds)) in
    let b = digit_at v (length (decimal w)) l in
    let c : at (decimal v) (length (decimal w)) ≡ 95 = ap (λ (s : List ℕ). at s (length (decimal w))) e
    ∙ get_or-append_seam (decimal w) 95 ds 0 in
    omega arith

-- ---- names

-- a letter and different numbers
pub name-apart : (c i j : ℕ) → i < 1000 → j < 1000 → (i ≡ j → ⊥) → equal (c ∷ decimal i) (c ∷ decimal j) ≡ false
name-apart c i j h l n = unequal (c ∷ decimal i) (c ∷ decimal j) (λ e. n (decimal-same i j h l (cc)))

pub whole_part : (i j p : ℕ) → equal (z_name i) (part_name j p) ≡ false
whole_part i j p = unequal (z_name i) (part_name j p) (λ e. decimal-part i j (decimal p) (cc))
