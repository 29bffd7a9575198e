-- A heading: the form of a line is what is written for its number; what the reader finds from a place on is a heading exactly where
-- what is written for its number stands there; so the reader's number is that of the line there (`head-line`). Assumes nothing.
use Rattle.std.specs.Prelude.{◌≡◌, refl, Bool, true, false, cond, ◌&&◌, List, [], ◌∷◌, ◌++◌, ℕ, zero, suc, ◌+◌, ◌-◌, ◌^◌, ◌<◌, eqb, length, get_or, take, drop, Option, Some, None}
use Rattle.std.proofs.Common.{sym, ap, ap₂, ◌∙◌, add-zero, arith, eq-eqb, ne_eqb, eqb-true, length-append, length-take, length-drop, take-append-drop, take-suc, take_all, take_at, get_or-drop}
use Rattle.std.proofs.Math.Seq.{get_or-append_seam}
use Rattle.slices.specs.Places.{at}
use Rattle.slices.specs.Tests.{and_both}
use Rattle.block.specs.Text.{decimal, head_line, every, equal, numeral, head_digits, number_part, head_form, value_of}
use Rattle.read_laws.specs.ByPlace.{number_at, widened, lead_of, head_at}
use Rattle.read_laws.specs.Tests.{not-both, equal-true, equal-same}
use Rattle.read_laws.specs.Front.{front, Stands, stands_here, stands-there, front-stands, stands-front, no_lf}
use Rattle.read_laws.specs.Numerals.{numeral-parts, numeral-no_lf, head-decimal, decimal-head}
use Rattle.read_laws.specs.Numbers.{no_value, value_in, number-back, number-stands}

-- ---- the form of a heading is what is written

-- a list with its last element apart
pub last_apart : (m : List ℕ) (j : ℕ) → length m ≡ suc j → m ≡ take j m ++ (at m j ∷ [])
last_apart m j e = sym (take_all (suc j) m (omega arith)) ∙ take-suc m j 0 (omega arith)

pub form-written : (letter : ℕ) (l : List ℕ) → head_form letter l ≡ true
    → (l ≡ head_line letter (value_of (number_part l))) × (value_of (number_part l) < 10 ^ head_digits)
unfolding head_form head_line
form-written letter l e =
    let h = and_both (equal (take 3 l) (46 ∷ letter ∷ 32 ∷ [])) (numeral head_digits (number_part l) && eqb (get_or l (length l - 1) 0) 10) e in
    let d = and_both (numeral head_digits (number_part l)) (eqb (get_or l (length l - 1) 0) 10) h.1 in
    let w = decimal-head (number_part l) d.0 in
    let n = numeral-parts head_digits (number_part l) d.0 in
    let a = length-take (length l - 4) (drop 3 l) in
    let b = length-drop 3 l in
    let f = get_or-drop 3 l (length l - 4) 0 in
    let i : 3 + (length l - 4) ≡ length l - 1 = omega arith in
    let c = last_apart (drop 3 l) (length l - 4) (omega arith) in (
      sym (take-append-drop 3 l)
          ∙ ap₂ ◌++◌ (equal-true (take 3 l) (46 ∷ letter ∷ 32 ∷ []) h.0) (c ∙ ap₂ (λ (x : List ℕ) (y : ℕ). x ++ (y ∷ [])) w.0 (f ∙ ap (at l) i ∙ eqb-true (at l (length l - 1)) 10 d.1)),
      w.1,
    )

part-written : (letter v : ℕ) → number_part (head_line letter v) ≡ decimal v
unfolding head_line
part-written letter v =
    take_at (decimal v) (10 ∷ []) (suc (suc (suc (length (decimal v ++ (10 ∷ []))))) - 4)
    (omega (arith, length-append (decimal v) (10 ∷ [])))

last_written : (letter v : ℕ) → at (head_line letter v) (length (head_line letter v) - 1) ≡ 10
unfolding head_line
last_written letter v =
    let i : suc (suc (suc (length (decimal v ++ (10 ∷ []))))) - 1 ≡ suc (suc (suc (length (decimal v)))) =
    omega (arith, length-append (decimal v) (10 ∷ [])) in
    ap (at (head_line letter v)) i ∙ get_or-append_seam (decimal v) 10 [] 0

starts : (letter v : ℕ) → equal (take 3 (head_line letter v)) (46 ∷ letter ∷ 32 ∷ []) ≡ true
unfolding head_line
starts letter v = equal-same (46 ∷ letter ∷ 32 ∷ [])

pub written-form : (letter v : ℕ) → v < 10 ^ head_digits → (head_form letter (head_line letter v) ≡ true) × (value_of (number_part (head_line letter v)) ≡ v)
unfolding head_form
written-form letter v h =
    let n = head-decimal v h in
    (rw (starts letter v, part-written letter v, n.0, last_written letter v), ap value_of (part-written letter v) ∙ n.1)

-- ---- a heading from a place on

head-back : (s : List ℕ) (from letter v : ℕ) → v < 10 ^ head_digits → Stands s from (head_line letter v)
    → head_at s from letter ≡ Some (v, length (head_line letter v))
unfolding head_at lead_of head_line
head-back s from letter v h b =
    let d = head-decimal v h in
    let f0 : at s from ≡ 46 = ap (at s) (sym (add-zero from)) ∙ b 0 (omega arith) in
    let f1 : at s (from + 1) ≡ letter = b 1 (omega arith) in
    let f2 : at s (from + 2) ≡ 32 = b 2 (omega arith) in
    let n : number_at s (from + 3) head_digits ≡ Some (v, length (decimal v) + 1) =
    number-back head_digits s (from + 3) (decimal v) d.0 (λ i k. ap (at s) (omega arith) ∙ b (suc (suc (suc i))) (omega arith))
    ∙ ap (λ (x : ℕ). Some (x, length (decimal v) + 1)) d.1 in
    rw (f0, f1, f2, n, eq-eqb letter letter refl) (ap (λ (w : ℕ). Some (v, w)) (omega (arith, length-append (decimal v) (10 ∷ []))))

head-stands : (s : List ℕ) (from letter v w : ℕ) → head_at s from letter ≡ Some (v, w)
    → (v < 10 ^ head_digits) × Stands s from (head_line letter v)
unfolding head_at lead_of head_line
head-stands s from letter v w e =
    go (eqb (at s from) 46) (eqb (at s (from + 1)) letter) (eqb (at s (from + 2)) 32) (number_at s (from + 3) head_digits) refl refl refl refl e
  where
    go : (t1 t2 t3 : Bool) (x : Option (ℕ × ℕ)) → eqb (at s from) 46 ≡ t1 → eqb (at s (from + 1)) letter ≡ t2 → eqb (at s (from + 2)) 32 ≡ t3
        → number_at s (from + 3) head_digits ≡ x → cond t1 (cond t2 (cond t3 (widened x) None) None) None ≡ Some (v, w)
        → (v < 10 ^ head_digits) × Stands s from (head_line letter v)
    go false t2 t3 x p1 p2 p3 q e = no_value e
    go true false t3 x p1 p2 p3 q e = no_value e
    go true true false x p1 p2 p3 q e = no_value e
    go true true true None p1 p2 p3 q e = no_value e
    go true true true (Some (u, z)) p1 p2 p3 q e =
        let f : u ≡ v = ap value_in e in
        let n = number-stands head_digits s (from + 3) v z (q ∙ ap (λ (i : ℕ). Some (i, z)) f) in
        let d = decimal-head n.0 n.1 in
        let same : n.0 ≡ decimal v = d.0 ∙ ap decimal n.2 in
        (rw n.2 at d.1, stand (rw same at n.3))
      where
        stand : Stands s (from + 3) (decimal v ++ (10 ∷ [])) → Stands s from (head_line letter v)
        stand n zero h = ap (at s) (add-zero from) ∙ eqb-true (at s from) 46 p1
        stand n (suc zero) h = eqb-true (at s (from + 1)) letter p2
        stand n (suc (suc zero)) h = eqb-true (at s (from + 2)) 32 p3
        stand n (suc (suc (suc i))) h = ap (at s) (omega arith) ∙ n i (omega arith)

-- a heading without its LF has none
pub heading-no_lf : (letter v : ℕ) → (letter ≡ 10 → ⊥) → v < 10 ^ head_digits → no_lf (46 ∷ letter ∷ 32 ∷ decimal v) ≡ true
unfolding every
heading-no_lf letter v l h = rw (ne_eqb letter 10 l) (numeral-no_lf head_digits (decimal v) (head-decimal v h).0)

-- the front of a text where a heading stands
heading-front : (letter v : ℕ) (s : List ℕ) → (letter ≡ 10 → ⊥) → v < 10 ^ head_digits → Stands s 0 (head_line letter v) → front s ≡ head_line letter v
unfolding head_line
heading-front letter v s l h b = stands-front (46 ∷ letter ∷ 32 ∷ decimal v) s (heading-no_lf letter v l h) b

-- the number that the reader finds is that of the line there, where it has the form of a heading
pub head-line : (letter : ℕ) (s : List ℕ) (from : ℕ) → (letter ≡ 10 → ⊥)
    → head_at s from letter
    ≡ cond (head_form letter (front (drop from s))) (Some (value_of (number_part (front (drop from s))), length (front (drop from s)))) None
head-line letter s from l = go (head_form letter line) refl (head_at s from letter) refl
  where
    line : List ℕ
    line = front (drop from s)

    go : (t : Bool) → head_form letter line ≡ t → (x : Option (ℕ × ℕ)) → head_at s from letter ≡ x
        → head_at s from letter ≡ cond t (Some (value_of (number_part line), length line)) None
    go true e x q =
        let f = form-written letter line e in
        let v : ℕ = value_of (number_part line) in
        let b : Stands s from line = stands-there s from line (front-stands (drop from s)) in
        head-back s from letter v f.1 (rw f.0 at b) ∙ ap (λ (t : List ℕ). Some (v, length t)) (sym f.0)
    go false e None q = q
    go false e (Some (v, w)) q =
        let b = head-stands s from letter v w q in
        not-both (head_form letter line)
        (ap (head_form letter) (heading-front letter v (drop from s) l b.0 (stands_here s from (head_line letter v) b.1))
        ∙ (written-form letter v b.0).0) e
