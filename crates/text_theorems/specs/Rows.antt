-- A row's line, written and read: a line of row form is what is written for the row that it spells, which is not malformed
-- (`form-row`); what is written for a row that is not malformed has row form and spells that row (`row-form`). Assumes nothing.
use Rattle.std.specs.Prelude.{◌≡◌, refl, Bool, true, false, not, cond, ◌||◌, eqb, ltb, take, drop}
use Rattle.std.proofs.Common.{sym, ap₂, ◌∙◌, add-mul, mul_assoc, add-one, one-add, lt-ltb, eq-eqb, eqb-true, ltb-true, length-append, length-drop, take-append-drop, length-take-le, drop-cons, take_at, drop_at, get_or-drop, get_or-append-add}
use Rattle.std.proofs.Math.Path.{ap}
use mathlib.Core.List.{List, [], ◌∷◌, ◌++◌, append_assoc}
use Prim.Native.Nat.{ℕ, zero, suc, ◌+◌, ◌*◌, ◌%◌, ◌^◌, ◌≤◌, ◌<◌, min}
use Rattle.std.proofs.Math.Decide.{dec_lt}
use Rattle.std.proofs.Math.Nat.{mod-eq_of_lt}
use native.Mathlib.Omega.{arith}
use Rattle.std.specs.Int.Bits.{bit_and, and_lt}
use Rattle.std.proofs.Math.ListN.{length}
use Rattle.std.proofs.lemmas.Nat.{mod-pow-add}
use Rattle.std.proofs.lemmas.List.{get_or_at}
use Rattle.bits.specs.Digits.{bit}
use Rattle.bits.specs.Bit.{bit-lt, bit-ext, bit-and, bit-low, bit_high}
use Rattle.sums.specs.Sums.{one}
use Rattle.slices.specs.Places.{at}
use Rattle.slices.specs.Tests.{and_both}
use Rattle.block.specs.Refusals.{bad_row}
use Rattle.block.specs.Text.{symbols, bits, row_line, every, spelled, row_form, row_on}
use Rattle.block.specs.declared.Row.{Row}
use Rattle.put_bytes.specs.Digits.{length-bits, length_symbols}
use Rattle.put_bytes.specs.Length.{length-row}
use Rattle.read_laws.specs.Tests.{every-at, every-all, every_append}
use Rattle.read_laws.specs.Front.{no_lf}
use Rattle.read_laws.specs.HeadLines.{last_apart}
use Rattle.read_laws.specs.RowLines.{symbol_test, bit_test, symbol-no_lf, bit-symbol, row-length, row-parts}

-- ---- what bytes spell, in base 2

abbrev fixed : ℕ → ℕ
fixed b = one (not (eqb b 45))

abbrev value : ℕ → ℕ
value b = one (eqb b 49)

one-lt : (b : Bool) → one b < 2
one-lt true = omega arith
one-lt false = omega arith

shifted : (v d p q s : ℕ) → q ≡ 2 * p → (v * 2 + d) * p + s ≡ v * q + ((0 * 2 + d) * p + s)
shifted v d p q s e =
    let a : (v * 2 + d) * p ≡ v * 2 * p + d * p = add-mul (v * 2) d p in
    let b : v * 2 * p ≡ v * (2 * p) = mul_assoc v 2 p in
    let c : (0 * 2 + d) * p ≡ d * p = ap (λ (x : ℕ). x * p) (omega arith) in
    let g : v * q ≡ v * (2 * p) = ap (λ (x : ℕ). v * x) e in
    omega arith

module _ (f : ℕ → ℕ) where
  -- what was spelled before stands above the rest
  spelled-above : (v : ℕ) (l : List ℕ) → spelled 2 f v l ≡ v * 2 ^ length l + spelled 2 f 0 l
  unfolding spelled
  spelled-above v [] = omega arith
  spelled-above v (x ∷ l) =
      spelled-above (v * 2 + f x) l
      ∙ shifted v (f x) (2 ^ length l) (2 ^ suc (length l)) (spelled 2 f 0 l) (omega arith)
      ∙ ap (λ (d : ℕ). v * 2 ^ suc (length l) + d) (sym (spelled-above (0 * 2 + f x) l))

  spelled-cons : (x : ℕ) (l : List ℕ) → spelled 2 f 0 (x ∷ l) ≡ f x * 2 ^ length l + spelled 2 f 0 l
  unfolding spelled
  spelled-cons x l = spelled-above (0 * 2 + f x) l ∙ ap (λ (d : ℕ). d * 2 ^ length l + spelled 2 f 0 l) (omega arith)

  spelled-lt : ((b : ℕ) → f b < 2) → (l : List ℕ) → spelled 2 f 0 l < 2 ^ length l
  unfolding spelled
  spelled-lt h [] = omega arith
  spelled-lt h (x ∷ l) = go (f x) (h x) (spelled-cons x l) (spelled-lt h l)
    where
      go : (d : ℕ) → d < 2 → spelled 2 f 0 (x ∷ l) ≡ d * 2 ^ length l + spelled 2 f 0 l → spelled 2 f 0 l < 2 ^ length l
          → spelled 2 f 0 (x ∷ l) < 2 ^ suc (length l)
      go zero p e ih = omega arith
      go (suc zero) p e ih = omega arith
      go (suc (suc d)) p e ih = absurd (omega arith)

  -- the highest bit and the others
  spelled-high : ((b : ℕ) → f b < 2) → (x : ℕ) (l : List ℕ) → bit (spelled 2 f 0 (x ∷ l)) (length l) ≡ f x
  spelled-high h x l =
      ap (λ (v : ℕ). bit v (length l)) (spelled-cons x l)
      ∙ bit_high (length l) (f x) (spelled 2 f 0 l) (spelled-lt h l)
      ∙ mod-eq_of_lt (h x)

  spelled-low : (x : ℕ) (l : List ℕ) (i : ℕ) → i < length l → bit (spelled 2 f 0 (x ∷ l)) i ≡ bit (spelled 2 f 0 l) i
  spelled-low x l i p =
      ap (λ (v : ℕ). bit v i) (spelled-cons x l) ∙ bit-low (length l) i (f x) (spelled 2 f 0 l) p

-- ---- symbols and bits of what was spelled

symbols-cong : (n m m' v v' : ℕ) → ((i : ℕ) → i < n → bit m i ≡ bit m' i) → ((i : ℕ) → i < n → bit v i ≡ bit v' i)
    → symbols n m v ≡ symbols n m' v'
unfolding symbols
symbols-cong zero m m' v v' h g = refl
symbols-cong (suc n) m m' v v' h g =
    rw (h n (omega arith), g n (omega arith))
    (ap (λ (l : List ℕ). cond (eqb (bit m' n) 0) 45 (48 + bit v' n) ∷ l) (symbols-cong n m m' v v' (λ i p. h i (omega arith)) (λ i p. g i (omega arith))))

bits-cong : (n v v' : ℕ) → ((i : ℕ) → i < n → bit v i ≡ bit v' i) → bits n v ≡ bits n v'
unfolding bits
bits-cong zero v v' g = refl
bits-cong (suc n) v v' g =
    rw (g n (omega arith)) (ap (λ (l : List ℕ). (48 + bit v' n) ∷ l) (bits-cong n v v' (λ i p. g i (omega arith))))

-- a symbol from its two bits
symbol-back : (b : ℕ) → symbol_test b ≡ true → cond (eqb (fixed b) 0) 45 (48 + value b) ≡ b
symbol-back b e = go (eqb b 48) (eqb b 49) (eqb b 45) refl refl refl e
  where
    go : (x y z : Bool) → eqb b 48 ≡ x → eqb b 49 ≡ y → eqb b 45 ≡ z → x || (y || z) ≡ true
        → cond (eqb (one (not z)) 0) 45 (48 + one y) ≡ b
    go x y true p q r e = sym (eqb-true b 45 r)
    go x true false p q r e = sym (eqb-true b 49 q)
    go true false false p q r e = sym (eqb-true b 48 p)
    go false false false p q r e = let z : ◌≡◌ {A = ℕ} 0 1 = cc in absurd (omega arith)

bit-back : (b : ℕ) → bit_test b ≡ true → 48 + value b ≡ b
bit-back b e = go (eqb b 48) (eqb b 49) refl refl e
  where
    go : (x y : Bool) → eqb b 48 ≡ x → eqb b 49 ≡ y → x || y ≡ true → 48 + one y ≡ b
    go x true p q e = sym (eqb-true b 49 q)
    go true false p q e = sym (eqb-true b 48 p)
    go false false p q e = let z : ◌≡◌ {A = ℕ} 0 1 = cc in absurd (omega arith)

symbols-back : (l : List ℕ) → every symbol_test l ≡ true → symbols (length l) (spelled 2 fixed 0 l) (spelled 2 value 0 l) ≡ l
unfolding symbols every
symbols-back [] e = refl
symbols-back (x ∷ l) e =
    let t = and_both (symbol_test x) (every symbol_test l) e in
    rw (spelled-high fixed (λ b. one-lt (not (eqb b 45))) x l, spelled-high value (λ b. one-lt (eqb b 49)) x l, symbol-back x t.0)
    (ap (λ (k : List ℕ). x ∷ k)
    (symbols-cong (length l) _ _ _ _ (spelled-low fixed x l) (spelled-low value x l) ∙ symbols-back l t.1))

bits_back : (l : List ℕ) → every bit_test l ≡ true → bits (length l) (spelled 2 value 0 l) ≡ l
unfolding bits every
bits_back [] e = refl
bits_back (x ∷ l) e =
    let t = and_both (bit_test x) (every bit_test l) e in
    rw (spelled-high value (λ b. one-lt (eqb b 49)) x l, bit-back x t.0)
    (ap (λ (k : List ℕ). x ∷ k) (bits-cong (length l) _ _ (spelled-low value x l) ∙ bits_back l t.1))

-- a value stands under a mask bit
value-le : (b : ℕ) → value b ≤ fixed b
value-le b = go (eqb b 49) (eqb b 45) refl refl
  where
    go : (y z : Bool) → eqb b 49 ≡ y → eqb b 45 ≡ z → one y ≤ one (not z)
    go true true p q = let a = eqb-true b 49 p in let c = eqb-true b 45 q in absurd (omega arith)
    go true false p q = omega arith
    go false z p q = omega arith

values-le : (l : List ℕ) (i : ℕ) → i < length l → bit (spelled 2 value 0 l) i ≤ bit (spelled 2 fixed 0 l) i
values-le [] i h = absurd (omega arith)
values-le (x ∷ l) i h = go (values-le l) (dec_lt i (length l))
  where
    go : ((i : ℕ) → i < length l → bit (spelled 2 value 0 l) i ≤ bit (spelled 2 fixed 0 l) i) → Dec (i < length l)
        → bit (spelled 2 value 0 (x ∷ l)) i ≤ bit (spelled 2 fixed 0 (x ∷ l)) i
    go ih (yes p) = rw (spelled-low value x l i p, spelled-low fixed x l i p) (ih i p)
    go ih (no p) =
        let e : i ≡ length l = omega arith in
        rw (e, spelled-high value (λ b. one-lt (eqb b 49)) x l, spelled-high fixed (λ b. one-lt (not (eqb b 45))) x l) (value-le x)

-- values whose bits stand under those of the mask
inside : (n m v : ℕ) → m < 2 ^ n → v < 2 ^ n → ((i : ℕ) → i < n → bit v i ≤ bit m i) → bit_and m v ≡ v
inside n m v hm hv h =
    bit-ext n (bit_and m v) v (and_lt n m v hm hv) hv (λ i p. bit-and m v i ∙ least (bit m i) (bit v i) (h i p))
  where
    least : (a b : ℕ) → b ≤ a → min a b ≡ b
    least a b h = omega arith

-- ---- a line of row form is what is written for its row

pub form-row : (n k : ℕ) (l : List ℕ) → row_form n k l ≡ true → (l ≡ row_line n k (row_on n k l)) × (bad_row n k (row_on n k l) ≡ false)
unfolding row_form row_line row_on bad_row
form-row n k l e =
    let len = row-length n k l e in
    let d = length-drop (n + 1) l in
    let t = row-parts n k l e in
    let lx : length (take n l) ≡ n = length-take-le n l (omega arith) in
    let ly : length (take k (drop (n + 1) l)) ≡ k = length-take-le k (drop (n + 1) l) (omega arith) in
    let sx : symbols n (spelled 2 fixed 0 (take n l)) (spelled 2 value 0 (take n l)) ≡ take n l =
    ap (λ (i : ℕ). symbols i (spelled 2 fixed 0 (take n l)) (spelled 2 value 0 (take n l))) (sym lx) ∙ symbols-back (take n l) t.symbols in
    let sy : bits k (spelled 2 value 0 (take k (drop (n + 1) l))) ≡ take k (drop (n + 1) l) =
    ap (λ (i : ℕ). bits i (spelled 2 value 0 (take k (drop (n + 1) l)))) (sym ly) ∙ bits_back (take k (drop (n + 1) l)) t.bits in (
      whole len t.gap t.last
          ∙ ap₂ (λ (x y : List ℕ). x ++ (32 ∷ (y ++ (10 ∷ [])))) (sym sx) (sym sy)
          ∙ sym (append_assoc (symbols n (spelled 2 fixed 0 (take n l)) (spelled 2 value 0 (take n l))) (32 ∷ bits k (spelled 2 value 0 (take k (drop (n + 1) l)))) (10 ∷ [])),
      good lx ly,
    )
  where
    whole : length l ≡ n + 1 + k + 1 → at l n ≡ 32 → at l (n + 1 + k) ≡ 10 → l ≡ take n l ++ (32 ∷ (take k (drop (n + 1) l) ++ (10 ∷ [])))
    whole len g h =
        let d = length-drop (n + 1) l in
        sym (take-append-drop n l)
        ∙ ap (λ (t : List ℕ). take n l ++ t)
        (drop-cons l n 0 (omega arith)
        ∙ ap₂ ◌∷◌ g
        (ap (λ (i : ℕ). drop i l) (sym (add-one n))
        ∙ last_apart (drop (n + 1) l) k (omega arith)
        ∙ ap (λ (x : ℕ). take k (drop (n + 1) l) ++ (x ∷ [])) (get_or-drop (n + 1) l k 0 ∙ h)))

    good : length (take n l) ≡ n → length (take k (drop (n + 1) l)) ≡ k → bad_row n k (row_on n k l) ≡ false
    good lx ly =
        let hm : spelled 2 fixed 0 (take n l) < 2 ^ n = rw lx at (spelled-lt fixed (λ b. one-lt (not (eqb b 45))) (take n l)) in
        let hv : spelled 2 value 0 (take n l) < 2 ^ n = rw lx at (spelled-lt value (λ b. one-lt (eqb b 49)) (take n l)) in
        let hw : spelled 2 value 0 (take k (drop (n + 1) l)) < 2 ^ k =
        rw ly at (spelled-lt value (λ b. one-lt (eqb b 49)) (take k (drop (n + 1) l))) in
        let i = inside n (spelled 2 fixed 0 (take n l)) (spelled 2 value 0 (take n l)) hm hv (λ i h. values-le (take n l) i (rw lx h)) in
        rw (lt-ltb _ _ hm, lt-ltb _ _ hv, lt-ltb _ _ hw, eq-eqb _ _ i)

-- ---- what is written for a row has row form and spells it

-- a number by its highest bit and the others
bit-above : (v i : ℕ) → bit v i * 2 ^ i + v % 2 ^ i ≡ v % 2 ^ suc i
bit-above v i = sym (ap (λ (j : ℕ). v % 2 ^ j) (sym (one-add i)) ∙ mod-pow-add v 1 i)

-- the two bits of a written symbol
symbol-bits : (a b : ℕ) → a < 2 → b ≤ a → (fixed (cond (eqb a 0) 45 (48 + b)) ≡ a) × ((value (cond (eqb a 0) 45 (48 + b)) ≡ b) × (symbol_test (cond (eqb a 0) 45 (48 + b)) ≡ true))
symbol-bits zero zero h g = (refl, (refl, refl))
symbol-bits zero (suc b) h g = absurd (omega arith)
symbol-bits (suc zero) zero h g = (refl, (refl, refl))
symbol-bits (suc zero) (suc zero) h g = (refl, (refl, refl))
symbol-bits (suc zero) (suc (suc b)) h g = absurd (omega arith)
symbol-bits (suc (suc a)) b h g = absurd (omega arith)

bit-bits : (b : ℕ) → b < 2 → (value (48 + b) ≡ b) × (bit_test (48 + b) ≡ true)
bit-bits zero h = (refl, refl)
bit-bits (suc zero) h = (refl, refl)
bit-bits (suc (suc b)) h = absurd (omega arith)

spelled-symbols : (n m v : ℕ) → ((i : ℕ) → i < n → bit v i ≤ bit m i)
    → (spelled 2 fixed 0 (symbols n m v) ≡ m % 2 ^ n) × ((spelled 2 value 0 (symbols n m v) ≡ v % 2 ^ n) × (every symbol_test (symbols n m v) ≡ true))
unfolding symbols spelled every
spelled-symbols zero m v h = (omega arith, (omega arith, refl))
spelled-symbols (suc n) m v h =
    let c = symbol-bits (bit m n) (bit v n) (bit-lt m n) (h n (omega arith)) in
    let ih = spelled-symbols n m v (λ i p. h i (omega arith)) in
    let x : ℕ = cond (eqb (bit m n) 0) 45 (48 + bit v n) in (
      spelled-cons fixed x (symbols n m v) ∙ rw (c.0, ih.0, length_symbols n m v) (bit-above m n),
      (
        spelled-cons value x (symbols n m v) ∙ rw (c.1.0, ih.1.0, length_symbols n m v) (bit-above v n),
        rw c.1.1 ih.1.1,
      ),
    )

pub spelled-bits : (n v : ℕ) → (spelled 2 value 0 (bits n v) ≡ v % 2 ^ n) × (every bit_test (bits n v) ≡ true)
unfolding bits spelled every
spelled-bits zero v = (omega arith, refl)
spelled-bits (suc n) v =
    let c = bit-bits (bit v n) (bit-lt v n) in
    let ih = spelled-bits n v in
    (spelled-cons value (48 + bit v n) (bits n v) ∙ rw (c.0, ih.0, length-bits n v) (bit-above v n), rw c.1 ih.1)

-- what a row that is not malformed has
pub record Good (n k : ℕ) (r : Row) : Type 0 where
  pub mask_lt : r.mask < 2 ^ n
  pub values-lt : r.values < 2 ^ n
  pub word_lt : r.word < 2 ^ k
  pub within : bit_and r.mask r.values ≡ r.values

pub good-row : (n k : ℕ) (r : Row) → bad_row n k r ≡ false → Good n k r
unfolding bad_row
good-row n k r e =
    go (ltb r.mask (2 ^ n)) (ltb r.values (2 ^ n)) (ltb r.word (2 ^ k)) (eqb (bit_and r.mask r.values) r.values) refl refl refl refl e
  where
    go : (a b c d : Bool) → ltb r.mask (2 ^ n) ≡ a → ltb r.values (2 ^ n) ≡ b → ltb r.word (2 ^ k) ≡ c
        → eqb (bit_and r.mask r.values) r.values ≡ d → not a || (not b || (not c || not d)) ≡ false → Good n k r
    go true true true true p q s t e =
        record {
          mask_lt = ltb-true _ _ p;
          values-lt = ltb-true _ _ q;
          word_lt = ltb-true _ _ s;
          within = eqb-true _ _ t;
        }
    go true true true false p q s t e = let z : ◌≡◌ {A = ℕ} 0 1 = cc in absurd (omega arith)
    go true true false d p q s t e = let z : ◌≡◌ {A = ℕ} 0 1 = cc in absurd (omega arith)
    go true false c d p q s t e = let z : ◌≡◌ {A = ℕ} 0 1 = cc in absurd (omega arith)
    go false b c d p q s t e = let z : ◌≡◌ {A = ℕ} 0 1 = cc in absurd (omega arith)

-- values within a mask, by bits
under : (n m v : ℕ) → bit_and m v ≡ v → (i : ℕ) → i < n → bit v i ≤ bit m i
under n m v e i h = omega (arith, bit-and m v i, ap (λ (z : ℕ). bit z i) e)

-- where a row's line has its parts
module _ (n k : ℕ) (r : Row) where
  x : List ℕ
  x = symbols n r.mask r.values

  y : List ℕ
  y = bits k r.word

  line-parts : row_line n k r ≡ (x ++ (32 ∷ [])) ++ (y ++ (10 ∷ []))
  unfolding row_line x y
  line-parts = simp append_assoc

  length-x : length x ≡ n
  unfolding x
  length-x = length_symbols n r.mask r.values

  length-y : length y ≡ k
  unfolding y
  length-y = length-bits k r.word

  length_front : length (x ++ (32 ∷ [])) ≡ n + 1
  length_front = length-append x (32 ∷ []) ∙ ap (λ (i : ℕ). i + 1) length-x

  inputs-part : take n (row_line n k r) ≡ x
  inputs-part = rw (line-parts, append_assoc x (32 ∷ []) (y ++ (10 ∷ []))) (take_at x ((32 ∷ []) ++ (y ++ (10 ∷ []))) n length-x)

  gap-part : at (row_line n k r) n ≡ 32
  gap-part = rw (line-parts, append_assoc x (32 ∷ []) (y ++ (10 ∷ []))) (get_or_at x 32 (y ++ (10 ∷ [])) 0 n length-x)

  outputs-part : take k (drop (n + 1) (row_line n k r)) ≡ y
  outputs-part =
      rw (line-parts, drop_at (x ++ (32 ∷ [])) (y ++ (10 ∷ [])) (n + 1) length_front) (take_at y (10 ∷ []) k length-y)

  last-part : at (row_line n k r) (n + 1 + k) ≡ 10
  last-part =
      ap (λ (l : List ℕ). at l (n + 1 + k)) line-parts
      ∙ ap (λ (i : ℕ). at ((x ++ (32 ∷ [])) ++ (y ++ (10 ∷ []))) (i + k)) (sym length_front)
      ∙ get_or-append-add (x ++ (32 ∷ [])) (y ++ (10 ∷ [])) k 0
      ∙ get_or_at y 10 [] 0 k length-y

  pub row-form : bad_row n k r ≡ false → (row_form n k (row_line n k r) ≡ true) × (row_on n k (row_line n k r) ≡ r)
  unfolding row_form row_on x y
  row-form e =
      let g = good-row n k r e in
      let u = under n r.mask r.values g.within in
      let s = spelled-symbols n r.mask r.values u in
      let b = spelled-bits k r.word in
      let l : length (row_line n k r) ≡ n + 1 + k + 1 = length-row n k r ∙ omega arith in
      rw (eq-eqb _ _ l, inputs-part, gap-part, outputs-part, last-part) (
        rw (s.1.1, b.1),
        rw (s.0, s.1.0, b.0, mod-eq_of_lt g.mask_lt, mod-eq_of_lt g.values-lt, mod-eq_of_lt g.word_lt),
      )

-- bits have no LF, and a row's line none but its last byte

no_lf-symbols : (l : List ℕ) → every symbol_test l ≡ true → no_lf l ≡ true
no_lf-symbols l e = every-all (λ b. not (eqb b 10)) l (λ i h. symbol-no_lf (at l i) (every-at symbol_test l e i h))

pub bits-no_lf : (n v : ℕ) → no_lf (bits n v) ≡ true
bits-no_lf n v =
    no_lf-symbols (bits n v) (every-all symbol_test (bits n v) (λ i h. bit-symbol (at (bits n v) i) (every-at bit_test (bits n v) (spelled-bits n v).1 i h)))

pub row-no_lf : (n k : ℕ) (r : Row) → bad_row n k r ≡ false → no_lf (symbols n r.mask r.values ++ (32 ∷ bits k r.word)) ≡ true
unfolding every
row-no_lf n k r e =
    let g = good-row n k r e in
    every_append (λ b. not (eqb b 10)) (symbols n r.mask r.values) (32 ∷ bits k r.word)
    (no_lf-symbols (symbols n r.mask r.values) (spelled-symbols n r.mask r.values (under n r.mask r.values g.within)).1.1)
    (bits-no_lf k r.word)
