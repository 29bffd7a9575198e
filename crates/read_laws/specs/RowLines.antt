-- A row's line: what the reader spells by place is what the meaning spells of the line's bytes; a row from a place on is sound
-- exactly where the first line has row form (`row-line`). Assumes nothing.
use Rattle.std.specs.Prelude.{◌≡◌, refl, Bool, true, false, not, cond, ◌&&◌, ◌||◌, List, [], ◌∷◌, ◌++◌, ℕ, zero, suc, ◌+◌, ◌-◌, ◌*◌, ◌≤◌, ◌<◌, eqb, length, take, drop, Option, Some, None}
use Rattle.std.proofs.Common.{sym, ap, ap₂, ◌∙◌, add-zero, zero-add, arith, ne_eqb, eqb-true, length-append, length-drop, take-suc, length-take-le, get_or-drop, get_or-take, drop-drop}
use Rattle.std.proofs.Math.Decide.{dec_lt, dec_le}
use Rattle.std.proofs.lemmas.Bool.{eqb-false}
use Rattle.std.proofs.Math.ListN.{get_or-append, get_or-eq_default}
use Rattle.std.proofs.lemmas.List.{take-append-le, drop-append-le}
use Rattle.sums.specs.Sums.{one}
use Rattle.slices.specs.Places.{at}
use Rattle.slices.specs.Tests.{and_both}
use Rattle.block.specs.declared.Row.{Row}
use Rattle.block.specs.Words.{row}
use Rattle.block.specs.Text.{every, spelled, row_form, row_on}
use Rattle.read_laws.specs.ByPlace.{step_of, spelled_at, both_of, joined_of, row_from}
use Rattle.read_laws.specs.Tests.{every-at, every-all}
use Rattle.read_laws.specs.Spelled.{spelled-last, spelled-cong}
use Rattle.read_laws.specs.Front.{front, Stands, front_rest, front-le, stands-last, stands-front, no_lf}

-- ---- symbols

-- one byte more
every-last : (p : ℕ → Bool) (l : List ℕ) (x : ℕ) → every p (l ++ (x ∷ [])) ≡ every p l && p x
unfolding every
every-last p [] x = go (p x)
  where
    go : (b : Bool) → b && true ≡ b
    go true = refl
    go false = refl
every-last p (y ∷ l) x = go (p y) (every-last p l x)
  where
    go : (b : Bool) → every p (l ++ (x ∷ [])) ≡ every p l && p x → b && every p (l ++ (x ∷ [])) ≡ (b && every p l) && p x
    go true ih = ih
    go false ih = refl

-- a byte that the reader takes, where `free` is that of a free input
abbrev taken : ℕ → ℕ → Bool
taken free b = eqb b 48 || (eqb b 49 || eqb b free)

abbrev fixed : ℕ → ℕ
fixed b = one (eqb b 48 || eqb b 49)

abbrev value : ℕ → ℕ
value b = one (eqb b 49)

step_is : (m v b free : ℕ) → step_of (Some (m, v)) b free ≡ cond {A = Option (ℕ × ℕ)} (taken free b) (Some (m * 2 + fixed b, v * 2 + value b)) None
unfolding step_of
step_is m v b free = go (eqb b 48) (eqb b 49) (eqb b free) refl refl
  where
    go : (x y z : Bool) → eqb b 48 ≡ x → eqb b 49 ≡ y
        → cond {A = Option (ℕ × ℕ)} x (Some (m * 2 + 1, v * 2)) (cond y (Some (m * 2 + 1, v * 2 + 1)) (cond z (Some (m * 2, v * 2)) None))
        ≡ cond {A = Option (ℕ × ℕ)} (x || (y || z)) (Some (m * 2 + one (x || y), v * 2 + one y)) None
    go true true z p q =
        let a = eqb-true b 48 p in
        let c = eqb-true b 49 q in
        absurd (omega arith)
    go true false z p q = ap (λ (x : ℕ). Some (m * 2 + 1, x)) (sym (add-zero (v * 2)))
    go false true z p q = refl
    go false false true p q = ap₂ (λ (x y : ℕ). Some (x, y)) (sym (add-zero (m * 2))) (sym (add-zero (v * 2)))
    go false false false p q = refl

step-bad : (b free : ℕ) → step_of None b free ≡ None
unfolding step_of
step-bad b free = refl

-- what the reader spells of the first n bytes
spelled_is : (s : List ℕ) (free n : ℕ) → n ≤ length s
    → spelled_at s 0 free n ≡ cond (every (taken free) (take n s)) (Some (spelled 2 fixed 0 (take n s), spelled 2 value 0 (take n s))) None
unfolding spelled_at every spelled
spelled_is s free zero h = refl
spelled_is s free (suc n) h =
    rw (
      take-suc s n 0 (omega arith),
      every-last (taken free) (take n s) (at s n),
      spelled-last 2 fixed 0 (take n s) (at s n),
      spelled-last 2 value 0 (take n s) (at s n),
      spelled_is s free n (omega arith),
      zero-add n,
    )
    (go (every (taken free) (take n s)))
  where
    b : ℕ
    b = at s n

    m : ℕ
    m = spelled 2 fixed 0 (take n s)

    v : ℕ
    v = spelled 2 value 0 (take n s)

    go : (t : Bool) → step_of (cond {A = Option (ℕ × ℕ)} t (Some (m, v)) None) b free ≡ cond {A = Option (ℕ × ℕ)} (t && taken free b) (Some (m * 2 + fixed b, v * 2 + value b)) None
    go true = step_is m v b free
    go false = step-bad b free

-- it depends on its bytes alone
spelled-from : (s : List ℕ) (from free n : ℕ) → spelled_at s from free n ≡ spelled_at (drop from s) 0 free n
unfolding spelled_at
spelled-from s from free zero = refl
spelled-from s from free (suc n) =
    ap₂ (λ (x : Option (ℕ × ℕ)) (b : ℕ). step_of x b free) (spelled-from s from free n)
    (sym (get_or-drop from s n 0) ∙ ap (at (drop from s)) (sym (zero-add n)))

-- ---- a line

abbrev pub symbol_test : ℕ → Bool
symbol_test b = eqb b 48 || (eqb b 49 || eqb b 45)

abbrev pub bit_test : ℕ → Bool
bit_test b = eqb b 48 || eqb b 49

-- row form, but for the length
abbrev row_test : ℕ → ℕ → List ℕ → Bool
row_test n k l =
    every symbol_test (take n l)
    && (eqb (at l n) 32 && (every bit_test (take k (drop (n + 1) l)) && eqb (at l (n + 1 + k)) 10))

-- the parts of a line that passes it
pub record RowParts (n k : ℕ) (l : List ℕ) : Type 0 where
  pub symbols : every symbol_test (take n l) ≡ true
  pub gap : at l n ≡ 32
  pub bits : every bit_test (take k (drop (n + 1) l)) ≡ true
  pub last : at l (n + 1 + k) ≡ 10

test_parts : (n k : ℕ) (l : List ℕ) → row_test n k l ≡ true → RowParts n k l
test_parts n k l e =
    let outputs : Bool = every bit_test (take k (drop (n + 1) l)) in
    let end : Bool = eqb (at l (n + 1 + k)) 10 in
    let a = and_both (every symbol_test (take n l)) (eqb (at l n) 32 && (outputs && end)) e in
    let b = and_both (eqb (at l n) 32) (outputs && end) a.1 in
    let c = and_both outputs end b.1 in
    record { symbols = a.0; gap = eqb-true (at l n) 32 b.0; bits = c.0; last = eqb-true (at l (n + 1 + k)) 10 c.1 }

-- the mask by the reader's digit and by the meaning's
mask-same : (l : List ℕ) → every symbol_test l ≡ true → spelled 2 fixed 0 l ≡ spelled 2 (λ b. one (not (eqb b 45))) 0 l
mask-same l e = spelled-cong 2 fixed (λ b. one (not (eqb b 45))) 0 l (λ i h. digit (at l i) (every-at symbol_test l e i h))
  where
    digit : (b : ℕ) → symbol_test b ≡ true → fixed b ≡ one (not (eqb b 45))
    digit b e = go (eqb b 48) (eqb b 49) (eqb b 45) refl refl refl e
      where
        go : (x y z : Bool) → eqb b 48 ≡ x → eqb b 49 ≡ y → eqb b 45 ≡ z → x || (y || z) ≡ true → one (x || y) ≡ one (not z)
        go true y true p q r e =
            let a = eqb-true b 48 p in
            let c = eqb-true b 45 r in
            absurd (omega arith)
        go true y false p q r e = refl
        go false true true p q r e =
            let a = eqb-true b 49 q in
            let c = eqb-true b 45 r in
            absurd (omega arith)
        go false true false p q r e = refl
        go false false true p q r e = refl
        go false false false p q r e = let z : ◌≡◌ {A = ℕ} 0 1 = cc in absurd (omega arith)

-- of outputs, a free byte is none
bits-same : (l : List ℕ) → every (taken 48) l ≡ every bit_test l
unfolding every
bits-same [] = refl
bits-same (x ∷ l) = ap₂ ◌&&◌ (go (eqb x 48) (eqb x 49)) (bits-same l)
  where
    go : (a b : Bool) → a || (b || a) ≡ a || b
    go true b = refl
    go false true = refl
    go false false = refl

-- a row from the start of a text that is long enough
row-from : (s : List ℕ) (n k : ℕ) → n + 1 + k + 1 ≤ length s → row_from s n k 0 ≡ cond (row_test n k s) (Some (row_on n k s)) None
unfolding row_from joined_of row_on
row-from s n k h =
    let d = length-drop (n + 1) s in
    rw (
      spelled_is s 45 n (omega arith),
      spelled-from s (0 + n + 1) 48 k,
      zero-add n,
      spelled_is (drop (n + 1) s) 48 k (omega arith),
      bits-same (take k (drop (n + 1) s)),
    )
    (go (every symbol_test (take n s)) (eqb (at s n) 32) (every bit_test (take k (drop (n + 1) s))) (eqb (at s (n + 1 + k)) 10) refl)
  where
    x : List ℕ
    x = take n s

    y : List ℕ
    y = take k (drop (n + 1) s)

    go : (a b c d : Bool) → every symbol_test x ≡ a
        → cond b (cond d (both_of (cond a (Some (spelled 2 fixed 0 x, spelled 2 value 0 x)) None)
        (cond c (Some (spelled 2 fixed 0 y, spelled 2 value 0 y)) None)) None) None
        ≡ cond (a && (b && (c && d))) (Some (row (spelled 2 (λ b. one (not (eqb b 45))) 0 x) (spelled 2 value 0 x) (spelled 2 value 0 y))) None
    go true true true true e = ap (λ (m : ℕ). Some (row m (spelled 2 value 0 x) (spelled 2 value 0 y))) (mask-same x e)
    go true true true false e = refl
    go true true false true e = refl
    go true true false false e = refl
    go true false c d e = refl
    go false true c true e = refl
    go false true c false e = refl
    go false false c d e = refl

-- a row that is read from a text that is too short is broken
row-short : (s : List ℕ) (n k : ℕ) → length s < n + 1 + k + 1 → row_from s n k 0 ≡ None
unfolding row_from joined_of
row-short s n k h =
    rw (get_or-eq_default s 0 {n = 0 + n + 1 + k} (omega arith)) (go (eqb (at s (0 + n)) 32))
  where
    go : (a : Bool) → cond {A = Option Row} a None None ≡ None
    go true = refl
    go false = refl

-- the test looks at no more than the line
test-append : (a b : List ℕ) (n k : ℕ) → length a ≡ n + 1 + k + 1 → (row_test n k (a ++ b) ≡ row_test n k a) × (row_on n k (a ++ b) ≡ row_on n k a)
unfolding row_on
test-append a b n k e =
    let d = length-drop (n + 1) a in
    rw (
      take-append-le n a b (omega arith),
      get_or-append a b 0 n (omega arith),
      drop-append-le (n + 1) a b (omega arith),
      take-append-le k (drop (n + 1) a) b (omega arith),
      get_or-append a b 0 (n + 1 + k) (omega arith),
    )
    (refl, refl)

-- the bytes of a row's line before its LF are no LF
pub symbol-no_lf : (b : ℕ) → symbol_test b ≡ true → not (eqb b 10) ≡ true
symbol-no_lf b e = go (eqb b 48) (eqb b 49) (eqb b 45) (eqb b 10) refl refl refl refl e
  where
    go : (x y z t : Bool) → eqb b 48 ≡ x → eqb b 49 ≡ y → eqb b 45 ≡ z → eqb b 10 ≡ t → x || (y || z) ≡ true → not t ≡ true
    go x y z false p q r u e = refl
    go true y z true p q r u e = let a = eqb-true b 48 p in let c = eqb-true b 10 u in absurd (omega arith)
    go false true z true p q r u e = let a = eqb-true b 49 q in let c = eqb-true b 10 u in absurd (omega arith)
    go false false true true p q r u e = let a = eqb-true b 45 r in let c = eqb-true b 10 u in absurd (omega arith)
    go false false false true p q r u e = let z : ◌≡◌ {A = ℕ} 0 1 = cc in absurd (omega arith)

pub bit-symbol : (b : ℕ) → bit_test b ≡ true → symbol_test b ≡ true
bit-symbol b e = go (eqb b 48) (eqb b 49) (eqb b 45) e
  where
    go : (x y z : Bool) → x || y ≡ true → x || (y || z) ≡ true
    go true y z e = refl
    go false true z e = refl
    go false false z e = let z : ◌≡◌ {A = ℕ} 0 1 = cc in absurd (omega arith)

row-no_lf : (s : List ℕ) (n k : ℕ) → n + 1 + k + 1 ≤ length s → row_test n k s ≡ true → no_lf (take (n + 1 + k) s) ≡ true
row-no_lf s n k h e =
    let t = test_parts n k s e in
    let l = length-take-le (n + 1 + k) s (omega arith) in
    every-all (λ b. not (eqb b 10)) (take (n + 1 + k) s)
    (λ i p. ap (λ (b : ℕ). not (eqb b 10)) (get_or-take (n + 1 + k) s i 0 (omega arith)) ∙ go t.symbols t.gap t.bits i (omega arith) (dec_lt i n) (dec_lt n i))
  where
    go : every symbol_test (take n s) ≡ true → at s n ≡ 32 → every bit_test (take k (drop (n + 1) s)) ≡ true
        → (i : ℕ) → i < n + 1 + k → Dec (i < n) → Dec (n < i) → not (eqb (at s i) 10) ≡ true
    go a b c i p (yes q) r =
        let l = length-take-le n s (omega arith) in
        symbol-no_lf (at s i) (ap symbol_test (sym (get_or-take n s i 0 q)) ∙ every-at symbol_test (take n s) a i (omega arith))
    go a b c i p (no q) (no r) =
        let f : i ≡ n = omega arith in
        let g : at s i ≡ 32 = ap (at s) f ∙ b in
        rw g
    go a b c i p (no q) (yes r) =
        let j : ℕ = i - (n + 1) in
        let f : i ≡ n + 1 + j = omega arith in
        let d = length-drop (n + 1) s in
        let l = length-take-le k (drop (n + 1) s) (omega arith) in
        let g : at s i ≡ at (take k (drop (n + 1) s)) j =
        ap (at s) f ∙ sym (get_or-drop (n + 1) s j 0) ∙ sym (get_or-take k (drop (n + 1) s) j 0 (omega arith)) in
        rw g (symbol-no_lf (at (take k (drop (n + 1) s)) j) (bit-symbol (at (take k (drop (n + 1) s)) j) (every-at bit_test (take k (drop (n + 1) s)) c j (omega arith))))

-- so the line is the front
row-front : (s : List ℕ) (n k : ℕ) → n + 1 + k + 1 ≤ length s → row_test n k s ≡ true → length (front s) ≡ n + 1 + k + 1
row-front s n k h e =
    let t = test_parts n k s e in
    let l = length-take-le (n + 1 + k) s (omega arith) in
    ap length (stands-front (take (n + 1 + k) s) s (row-no_lf s n k h e) (stand t.last))
    ∙ length-append (take (n + 1 + k) s) (10 ∷ [])
    ∙ rw l
  where
    stand : at s (n + 1 + k) ≡ 10 → Stands s 0 (take (n + 1 + k) s ++ (10 ∷ []))
    stand f =
        let l = length-take-le (n + 1 + k) s (omega arith) in
        stands-last s 0 (take (n + 1 + k) s) 10
        (λ i p. ap (at s) (zero-add i) ∙ sym (get_or-take (n + 1 + k) s i 0 (omega arith)))
        (ap (at s) (zero-add (length (take (n + 1 + k) s)) ∙ l) ∙ f)

-- the row that the reader finds is that of the first line, where it has row form
pub row-line : (s : List ℕ) (n k : ℕ) → row_from s n k 0 ≡ cond (row_form n k (front s)) (Some (row_on n k (front s))) None
unfolding row_form
row-line s n k = go (dec_le (n + 1 + k + 1) (length s))
  where
    m : ℕ
    m = n + 1 + k + 1

    -- where the front is as long as a row's line, it has row form where the text passes the test
    front-test : length (front s) ≡ m → (row_test n k s ≡ row_test n k (front s)) × (row_on n k s ≡ row_on n k (front s))
    front-test l =
        let t = test-append (front s) (drop (length (front s)) s) n k l in
        (ap (row_test n k) (sym (front_rest s)) ∙ t.0, ap (row_on n k) (sym (front_rest s)) ∙ t.1)

    long : m ≤ length s → (t : Bool) → row_test n k s ≡ t → (u : Bool) → eqb (length (front s)) m ≡ u
        → cond t (Some (row_on n k s)) None ≡ cond (u && row_test n k (front s)) (Some (row_on n k (front s))) None
    long h t e true q =
        let f = front-test (eqb-true (length (front s)) m q) in
        rw (← f.0, e, f.1)
    long h true e false q = absurd (eqb-false (length (front s)) m q (row-front s n k h e))
    long h false e false q = refl

    go : Dec (m ≤ length s) → row_from s n k 0 ≡ cond (row_form n k (front s)) (Some (row_on n k (front s))) None
    go (yes h) = row-from s n k h ∙ long h (row_test n k s) refl (eqb (length (front s)) m) refl
    go (no h) = rw (ne_eqb (length (front s)) m (omega (arith, front-le s))) (row-short s n k (omega arith))

-- the same from a place on
pub row-at-place : (s : List ℕ) (n k from : ℕ) → row_from s n k from ≡ row_from (drop from s) n k 0
unfolding row_from
row-at-place s n k from =
    let j : from + n + 1 ≡ from + (0 + n + 1) = omega arith in
    same (spelled-from s from 45 n) (here (0 + n) (from + n) (omega arith))
    (spelled-from s (from + n + 1) 48 k
    ∙ ap (λ (l : List ℕ). spelled_at l 0 48 k) (ap (λ (i : ℕ). drop i s) j ∙ sym (drop-drop (0 + n + 1) from s))
    ∙ sym (spelled-from (drop from s) (0 + n + 1) 48 k))
    (here (0 + n + 1 + k) (from + n + 1 + k) (omega arith))
  where
    here : (i j : ℕ) → j ≡ from + i → at s j ≡ at (drop from s) i
    here i j e = ap (at s) e ∙ sym (get_or-drop from s i 0)

    same : {i i' o o' : Option (ℕ × ℕ)} {g g' e e' : ℕ} → i ≡ i' → g ≡ g' → o ≡ o' → e ≡ e' → joined_of i g o e ≡ joined_of i' g' o' e'
    same p q r t = rw (p, q, r, t)

-- a line of row form is as long as a row, and has its parts
pub row-length : (n k : ℕ) (l : List ℕ) → row_form n k l ≡ true → length l ≡ n + 1 + k + 1
unfolding row_form
row-length n k l e = eqb-true (length l) (n + 1 + k + 1) (and_both (eqb (length l) (n + 1 + k + 1)) (row_test n k l) e).0

pub row-parts : (n k : ℕ) (l : List ℕ) → row_form n k l ≡ true → RowParts n k l
unfolding row_form
row-parts n k l e = test_parts n k l (and_both (eqb (length l) (n + 1 + k + 1)) (row_test n k l) e).1
