-- Decimal numbers of at most so many digits, as they are written and as the form of a number has them: the two are the same bytes, by
-- induction over the digits. Assumes nothing.
use Rattle.std.specs.Prelude.{◌≡◌, refl, Bool, true, false, not, ◌&&◌, ◌||◌, List, [], ◌∷◌, ◌++◌, ℕ, zero, suc, ◌+◌, ◌-◌, ◌*◌, ◌/◌, ◌%◌, ◌^◌, ◌≤◌, ◌<◌, eqb, leb, length}
use Rattle.std.proofs.Common.{sym, ap, ◌∙◌, append_assoc, append-nil, add-zero, pow-suc, mul_assoc, mul-le-mul_right, arith, lt-ltb, le-ltb, le-leb, leb-true, eq-eqb, ne_eqb, length-append}
use Rattle.std.proofs.Math.Decide.{dec_lt}
use Rattle.std.proofs.Math.Nat.{pow-le-pow_right}
use Rattle.std.proofs.lemmas.Bool.{eqb-false, not-true}
use Rattle.std.proofs.Math.ListN.{get_or-append}
use Rattle.slices.specs.Places.{at}
use Rattle.slices.specs.Tests.{and_both}
use Rattle.block.specs.Text.{digits, decimal, every, is_digit, numeral, head_digits, spelled, value_of}
use Rattle.read_laws.specs.Tests.{every-at, every-all, every_append}
use Rattle.read_laws.specs.Spelled.{spelled-last}
use Rattle.read_laws.specs.Front.{no_lf}

-- ---- digits

pub digit-range : (b : ℕ) → is_digit b ≡ true → (48 ≤ b) × (b ≤ 57)
digit-range b e = let d = and_both (leb 48 b) (leb b 57) e in (leb-true 48 b d.0, leb-true b 57 d.1)

range-digit : (b : ℕ) → 48 ≤ b → b ≤ 57 → is_digit b ≡ true
range-digit b l h = rw (le-leb 48 b l, le-leb b 57 h)

-- ---- what is written, digit by digit

digits-one : (most v : ℕ) → v < 10 → digits (suc most) v ≡ (48 + v) ∷ []
unfolding digits
digits-one most v h = rw (lt-ltb v 10 h)

digits_more : (most v d : ℕ) → 0 < v → d < 10 → digits (suc most) (v * 10 + d) ≡ digits most v ++ ((48 + d) ∷ [])
unfolding digits
digits_more most v d p h =
    let e : (v * 10 + d) / 10 ≡ v = omega arith in
    let f : (v * 10 + d) % 10 ≡ d = omega arith in
    rw (le-ltb (v * 10 + d) 10 (omega arith), e, f)

-- digits behind those of a number that is not 0
digits-behind : (most v : ℕ) (l : List ℕ) → 0 < v → every is_digit l ≡ true
    → digits (most + length l) (spelled 10 (λ b. b - 48) v l) ≡ digits most v ++ l
unfolding spelled every
digits-behind most v [] p e = ap (λ (i : ℕ). digits i v) (add-zero most) ∙ sym (append-nil (digits most v))
digits-behind most v (x ∷ l) p e =
    let t = and_both (is_digit x) (every is_digit l) e in
    let d = digit-range x t.0 in
    let i : most + suc (length l) ≡ suc most + length l = omega arith in
    let b : 48 + (x - 48) ≡ x = omega arith in
    ap (λ (i : ℕ). digits i (spelled 10 (λ b. b - 48) (v * 10 + (x - 48)) l)) i
    ∙ digits-behind (suc most) (v * 10 + (x - 48)) l (omega arith) t.1
    ∙ ap (λ (k : List ℕ). k ++ l) (digits_more most v (x - 48) p (omega arith) ∙ ap (λ (i : ℕ). digits most v ++ (i ∷ [])) b)
    ∙ append_assoc (digits most v) (x ∷ []) l

-- ---- how large a number is

spelled-lt : (v : ℕ) (l : List ℕ) → every is_digit l ≡ true → spelled 10 (λ b. b - 48) v l < suc v * 10 ^ length l
unfolding spelled every
spelled-lt v [] e = omega arith
spelled-lt v (x ∷ l) e =
    let t = and_both (is_digit x) (every is_digit l) e in
    let d = digit-range x t.0 in
    let ih = spelled-lt (v * 10 + (x - 48)) l t.1 in
    let m : suc (v * 10 + (x - 48)) ≤ suc v * 10 = omega arith in
    let g = mul-le-mul_right (10 ^ length l) m in
    let h : suc v * 10 * 10 ^ length l ≡ suc v * 10 ^ suc (length l) = mul_assoc (suc v) 10 (10 ^ length l) ∙ ap (λ (i : ℕ). suc v * i) (omega (arith, pow-suc 10 (length l))) in
    omega arith

pub value-lt : (most : ℕ) (l : List ℕ) → length l ≤ most → every is_digit l ≡ true → value_of l < 10 ^ most
value-lt most l h e =
    let p : 10 ^ length l ≤ 10 ^ most = pow-le-pow_right (omega arith) h in
    omega (arith, spelled-lt 0 l e)

-- ---- what the form says

pub record NumeralParts (most : ℕ) (ds : List ℕ) : Type 0 where
  pub some : 1 ≤ length ds
  pub few : length ds ≤ most
  pub all : every is_digit ds ≡ true
  pub lead : eqb (length ds) 1 || not (eqb (at ds 0) 48) ≡ true

pub numeral-parts : (most : ℕ) (ds : List ℕ) → numeral most ds ≡ true → NumeralParts most ds
unfolding numeral
numeral-parts most ds e =
    let lead : Bool = eqb (length ds) 1 || not (eqb (at ds 0) 48) in
    let h = and_both (leb 1 (length ds) && leb (length ds) most) (every is_digit ds && lead) e in
    let l = and_both (leb 1 (length ds)) (leb (length ds) most) h.0 in
    let d = and_both (every is_digit ds) lead h.1 in
    record { some = leb-true 1 (length ds) l.0; few = leb-true (length ds) most l.1; all = d.0; lead = d.1 }

pub parts-numeral : (most : ℕ) (ds : List ℕ) → NumeralParts most ds → numeral most ds ≡ true
unfolding numeral
parts-numeral most ds p = rw (le-leb 1 (length ds) p.some, le-leb (length ds) most p.few, p.all, p.lead)

-- digits are no LF
pub numeral-no_lf : (most : ℕ) (ds : List ℕ) → numeral most ds ≡ true → no_lf ds ≡ true
numeral-no_lf most ds e =
    every-all (λ b. not (eqb b 10)) ds
    (λ i h. let d = digit-range (at ds i) (every-at is_digit ds (numeral-parts most ds e).all i h) in rw (ne_eqb (at ds i) 10 (omega arith)))

-- ---- a numeral is what is written for its number

pub numeral-written : (most room : ℕ) (ds : List ℕ) → most ≤ room → numeral most ds ≡ true
    → (ds ≡ digits room (value_of ds)) × (value_of ds < 10 ^ most)
unfolding spelled every
numeral-written most room ds h e = let p = numeral-parts most ds e in (written ds p, value-lt most ds p.few p.all)
  where
    single : (a : ℕ) → is_digit a ≡ true → (i : ℕ) → digits (suc i) (a - 48) ≡ a ∷ []
    single a d i =
        let r = digit-range a d in
        let b : 48 + (a - 48) ≡ a = omega arith in
        digits-one i (a - 48) (omega arith) ∙ ap (λ (j : ℕ). j ∷ []) b

    written : (ds : List ℕ) → NumeralParts most ds → ds ≡ digits room (value_of ds)
    written [] p = absurd (omega (arith, p.some))
    written (a ∷ l) p =
        let t = and_both (is_digit a) (every is_digit l) p.all in
        let v : 0 * 10 + (a - 48) ≡ a - 48 = omega arith in
        let i : room ≡ suc (room - suc (length l)) + length l = omega (arith, p.few) in
        sym (ap (λ (j : ℕ). digits room (spelled 10 (λ b. b - 48) j l)) v
        ∙ ap (λ (j : ℕ). digits j (spelled 10 (λ b. b - 48) (a - 48) l)) i ∙ go l t.0 t.1 p.lead (room - suc (length l)))
      where
        go : (l : List ℕ) → is_digit a ≡ true → every is_digit l ≡ true → eqb (suc (length l)) 1 || not (eqb a 48) ≡ true → (i : ℕ)
            → digits (suc i + length l) (spelled 10 (λ b. b - 48) (a - 48) l) ≡ a ∷ l
        go [] d e f i = ap (λ (j : ℕ). digits j (a - 48)) (add-zero (suc i)) ∙ single a d i
        go (x ∷ l) d e f i =
            let z = eqb-false a 48 (not-true (eqb a 48) (rw (ne_eqb (suc (suc (length l))) 1 (omega arith)) at f)) in
            let r = digit-range a d in
            digits-behind (suc i) (a - 48) (x ∷ l) (omega arith) e ∙ ap (λ (k : List ℕ). k ++ (x ∷ l)) (single a d i)

-- ---- and what is written for a number is a numeral of that number

-- what is written for v
record Written (most v : ℕ) (ds : List ℕ) : Type 0 where
  pub some : 1 ≤ length ds
  pub few : length ds ≤ most
  pub all : every is_digit ds ≡ true
  pub says : value_of ds ≡ v
  pub single : v < 10 → length ds ≡ 1
  pub lead : 0 < v → at ds 0 ≡ 48 → ⊥

written_one : (most room v : ℕ) → v < 10 → Written (suc most) v (digits (suc room) v)
unfolding spelled every
written_one most room v s =
    rw (digits-one room v s)
    (record {
      some = omega arith;
      few = omega arith;
      all = rw (range-digit (48 + v) (omega arith) (omega arith));
      says = omega arith;
      single = λ _. refl;
      lead = λ p e. omega arith;
    })

written-more : (most room v : ℕ) → 10 ≤ v → Written most (v / 10) (digits room (v / 10)) → Written (suc most) v (digits (suc room) v)
unfolding every
written-more most room v b w =
    let d : v / 10 * 10 + v % 10 ≡ v = omega arith in
    let ds : List ℕ = digits room (v / 10) in
    let e : digits (suc room) v ≡ ds ++ ((48 + v % 10) ∷ []) =
    ap (digits (suc room)) (sym d) ∙ digits_more room (v / 10) (v % 10) (omega arith) (omega arith) in
    let n = length-append ds ((48 + v % 10) ∷ []) in
    rw e
    (record {
      some = omega arith;
      few = omega (arith, w.few);
      all = every_append is_digit ds ((48 + v % 10) ∷ []) w.all (rw (range-digit (48 + v % 10) (omega arith) (omega arith)));
      says = spelled-last 10 (λ b. b - 48) 0 ds (48 + v % 10) ∙ omega (arith, w.says);
      single = λ s. absurd (omega arith);
      lead = λ p f. w.lead (omega arith) (sym (get_or-append ds ((48 + v % 10) ∷ []) 0 0 w.some) ∙ f);
    })

written-digits : (most room v : ℕ) → most ≤ room → v < 10 ^ suc most → Written (suc most) v (digits (suc room) v)
written-digits zero room v l h = written_one 0 room v (omega arith)
written-digits (suc most) zero v l h = absurd (omega arith)
written-digits (suc most) (suc room) v l h =
    go (dec_lt v 10) (written-digits most room (v / 10) (omega arith) (omega (arith, pow-suc 10 (suc most))))
  where
    go : Dec (v < 10) → Written (suc most) (v / 10) (digits (suc room) (v / 10)) → Written (suc (suc most)) v (digits (suc (suc room)) v)
    go (yes s) w = written_one (suc most) (suc room) v s
    go (no b) w = written-more (suc most) (suc room) v (omega arith) w

pub written-numeral : (most room v : ℕ) → 1 ≤ most → most ≤ room → v < 10 ^ most
    → (numeral most (digits room v) ≡ true) × (value_of (digits room v) ≡ v)
written-numeral zero room v g l h = absurd (omega arith)
written-numeral (suc most) zero v g l h = absurd (omega arith)
written-numeral (suc most) (suc room) v g l h =
    let ds : List ℕ = digits (suc room) v in
    let w = written-digits most room v (omega arith) h in
    (parts-numeral (suc most) ds (record { some = w.some; few = w.few; all = w.all; lead = lead ds w (dec_lt v 10) }), w.says)
  where
    lead : (ds : List ℕ) → Written (suc most) v ds → Dec (v < 10) → eqb (length ds) 1 || not (eqb (at ds 0) 48) ≡ true
    lead ds w (yes s) = rw (eq-eqb (length ds) 1 (w.single s))
    lead ds w (no b) = rw (ne_eqb (at ds 0) 48 (w.lead (omega arith))) (either (eqb (length ds) 1))
      where
        either : (b : Bool) → b || true ≡ true
        either true = refl
        either false = refl

-- ---- the number of a heading

pub head-decimal : (v : ℕ) → v < 10 ^ head_digits → (numeral head_digits (decimal v) ≡ true) × (value_of (decimal v) ≡ v)
head-decimal v h = written-numeral head_digits 20 v (omega arith) (omega arith) h

pub decimal-head : (ds : List ℕ) → numeral head_digits ds ≡ true → (ds ≡ decimal (value_of ds)) × (value_of ds < 10 ^ head_digits)
decimal-head ds e = numeral-written head_digits 20 ds (omega arith) e
