-- Numbers by place: the bytes from a place on give a number exactly where a numeral of it stands there before LF (`number-back`,
-- `number-stands`), for any most digits. Assumes nothing.
use Rattle.std.specs.Prelude.{◌≡◌, refl, Bool, true, false, not, cond, ◌||◌, List, [], ◌∷◌, ◌++◌, ℕ, ◌+◌, ◌≤◌, ◌<◌, eqb, length, Option, Some, None}
use Rattle.std.proofs.Common.{sym, ap, ◌∙◌, add-zero, arith, ne_eqb, eqb-true, length-append}
use Rattle.std.proofs.lemmas.Bool.{eqb-false, not-false}
use Rattle.std.proofs.Math.Seq.{get_or-append_seam}
use Rattle.slices.specs.Places.{at, first}
use Rattle.slices.specs.Least.{first-is, first-le, first_below}
use Rattle.slices.specs.Filled.{length-tab, tab-at, tab-cong, tab-list}
use Rattle.block.specs.Text.{is_digit, numeral, value_of}
use Rattle.read_laws.specs.ByPlace.{digits_at, bytes_at, ended_of, number_at}
use Rattle.read_laws.specs.Tests.{every-at, every-all}
use Rattle.read_laws.specs.Front.{Stands, stands-part, stands-last}
use Rattle.read_laws.specs.Numerals.{numeral-parts, parts-numeral}

ended-back : (w v lead : ℕ) → 1 ≤ w → eqb w 1 || not (eqb lead 48) ≡ true → ended_of w v lead 10 ≡ Some (v, w + 1)
unfolding ended_of
ended-back w v lead h f = rw (ne_eqb w 0 (omega arith)) (go (eqb w 1) (eqb lead 48) refl f)
  where
    go : (a b : Bool) → eqb w 1 ≡ a → a || not b ≡ true → cond {A = Option (ℕ × ℕ)} a (Some (v, 2)) (cond b None (Some (v, w + 1))) ≡ Some (v, w + 1)
    go true b p f = ap (λ (i : ℕ). Some (v, i + 1)) (sym (eqb-true w 1 p))
    go false true p f = let z : ◌≡◌ {A = ℕ} 0 1 = cc in absurd (omega arith)
    go false false p f = refl

-- the value of a number, 0 where there is none
abbrev pub value_in : Option (ℕ × ℕ) → ℕ
value_in None = 0
value_in (Some (v, size)) = v

pub no_value : {v w : ℕ} {A : Type 0} → ◌≡◌ {A = Option (ℕ × ℕ)} None (Some (v, w)) → A
no_value e = let z : ◌≡◌ {A = ℕ} 0 1 = cc in absurd (omega arith)

-- what a number that ended says
record EndedNumber (w v lead last x : ℕ) : Type 0 where
  pub end : last ≡ 10
  pub some : 1 ≤ w
  pub first-digit : eqb w 1 || not (eqb lead 48) ≡ true
  pub says : v ≡ x

ended-value : (w v lead last x u : ℕ) → ended_of w v lead last ≡ Some (x, u) → EndedNumber w v lead last x
unfolding ended_of
ended-value w v lead last x u e = go (eqb last 10) (eqb w 0) (eqb w 1) (eqb lead 48) refl refl refl refl e
  where
    go : (a b c d : Bool) → eqb last 10 ≡ a → eqb w 0 ≡ b → eqb w 1 ≡ c → eqb lead 48 ≡ d
        → cond {A = Option (ℕ × ℕ)} a (cond b None (cond c (Some (v, 2)) (cond d None (Some (v, w + 1))))) None ≡ Some (x, u)
        → EndedNumber w v lead last x
    go false b c d p q r t e = no_value e
    go true true c d p q r t e = no_value e
    go true false true d p q r t e =
        let o = eqb-true w 1 r in
        record { end = eqb-true last 10 p; some = omega arith; first-digit = rw r; says = ap value_in e }
    go true false false true p q r t e = no_value e
    go true false false false p q r t e =
        let o = eqb-false w 0 q in
        record { end = eqb-true last 10 p; some = omega arith; first-digit = rw (r, t); says = ap value_in e }

-- a numeral that stands there before LF is the number
pub number-back : (most : ℕ) (s : List ℕ) (from : ℕ) (ds : List ℕ) → numeral most ds ≡ true → Stands s from (ds ++ (10 ∷ []))
    → number_at s from most ≡ Some (value_of ds, length ds + 1)
unfolding number_at digits_at
number-back most s from ds e b =
    let p = numeral-parts most ds e in
    let h : Stands s from ds = stands-part s from ds (10 ∷ []) b in
    let last : at s (from + length ds) ≡ 10 =
    b (length ds) (omega (arith, length-append ds (10 ∷ []))) ∙ get_or-append_seam ds 10 [] 0 in
    let lead : at s from ≡ at ds 0 = ap (at s) (sym (add-zero from)) ∙ h 0 p.some in
    let w : first most (λ i. not (is_digit (at s (from + i)))) ≡ length ds =
    first-is most (λ i. not (is_digit (at s (from + i)))) (length ds) p.few
    (λ j l. ap (λ (x : ℕ). not (is_digit x)) (h j l) ∙ ap not (every-at is_digit ds p.all j l))
    (λ l. ap (λ (x : ℕ). not (is_digit x)) last) in
    let t : bytes_at s from (length ds) ≡ ds = tab-cong (length ds) (λ i. at s (from + i)) (at ds) h ∙ tab-list 0 ds in
    rw (w, t, last, lead) (ended-back (length ds) (value_of ds) (at ds 0) p.some p.lead)

-- where the reader finds a number, a numeral of it stands there before LF
pub number-stands : (most : ℕ) (s : List ℕ) (from v u : ℕ) → number_at s from most ≡ Some (v, u)
    → (ds : List ℕ) × (numeral most ds ≡ true) × (value_of ds ≡ v) × Stands s from (ds ++ (10 ∷ []))
unfolding number_at digits_at
number-stands most s from v u e =
    let w : ℕ = first most (λ i. not (is_digit (at s (from + i)))) in
    let ds : List ℕ = bytes_at s from w in
    let n : length ds ≡ w = length-tab w (λ i. at s (from + i)) in
    let x = ended-value w (value_of ds) (at s from) (at s (from + w)) v u e in
    let h : (i : ℕ) → i < w → at s (from + i) ≡ at ds i = λ i l. sym (tab-at w (λ i. at s (from + i)) 0 i l) in
    let lead : at ds 0 ≡ at s from = sym (h 0 x.some) ∙ ap (at s) (add-zero from) in (
      ds,
      parts-numeral most ds
          (record {
            some = omega (arith, x.some);
            few = omega (arith, first-le most (λ i. not (is_digit (at s (from + i)))));
            all =
                every-all is_digit ds
                (λ i l.
                let b : i < w = omega arith in
                ap is_digit (sym (h i b))
                ∙ not-false (is_digit (at s (from + i))) (first_below most (λ i. not (is_digit (at s (from + i)))) i b));
            lead = rw (n, lead) x.first-digit;
          }),
      x.says,
      stands-last s from ds 10 (λ i l. h i (omega arith)) (ap (λ (i : ℕ). at s (from + i)) n ∙ x.end),
    )
