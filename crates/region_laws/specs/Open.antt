-- The undecided inputs of a region by masks: those fixed in some row that meets it and not in the region. It lies inside every row that
-- meets it exactly where there is none, and the cut is the highest. Assumes nothing.
use Rattle.std.specs.Prelude.{◌≡◌, refl, true, false, ◌&&◌, List, length}
use Rattle.std.proofs.Common.{sym, ap, ◌∙◌, arith, eq-eqb, ne_eqb, eqb-true, lt-ltb, ltb-true, pow_pos}
use Rattle.std.proofs.Math.Bool.{Bool, not, cond}
use Rattle.std.proofs.lemmas.Bool.{false≢true}
use Prim.Native.Nat.{ℕ, zero, suc, ◌+◌, ◌-◌, ◌%◌, ◌^◌, ◌<◌, min}
use Rattle.std.proofs.Math.Decide.{ℕ_discrete}
use Rattle.std.specs.Int.Bits.{bit_and, bit_xor, xor_zero_r, xor_lt, and_lt}
use Rattle.std.proofs.lemmas.Nat.{and_comm}
use Rattle.std.proofs.Math.Dec.{eqb}
use Rattle.bits.specs.Digits.{bit}
use Rattle.bits.specs.Xor.{and_xor, xor-cancel}
use Rattle.bits.specs.Parts.{and_assoc}
use Rattle.bits.specs.Bit.{bit-lt, bit-xor, bit-and, bit-ext, bit-none}
use Rattle.slices.specs.Places.{first}
use Rattle.slices.specs.Least.{first_found, first_passes}
use Rattle.slices.specs.Tests.{and_both}
use Rattle.sums.specs.Sums.{one, count}
use Rattle.sums.specs.Laws.{sum-none, count_none}
use Rattle.block.specs.Words.{under}
use Rattle.block.specs.Rows.{highest, half}
use Rattle.block.specs.Refusals.{some, row_at, share}
use Rattle.block.specs.declared.Row.{Row}
use Rattle.refusal_laws.specs.Verdicts.{none_passes}
use Rattle.pair_laws.specs.Cube.{Sound, sound-values}
use Rattle.pair_laws.specs.Closed.{demanded}
use Rattle.pair_laws.specs.Theorem.{Every}
use Rattle.pair_laws.specs.Share.{share-closed}
use Rattle.matrix_laws.specs.Steps.{highest-bit}
use Rattle.step_laws.specs.Shear.{under-half, sound-half}
use Rattle.block.specs.Overlaps.{ors, lies_inside, met, crossed, undecided, greatest, cut}
use Rattle.region_laws.specs.Ors.{ors-has, ors-finds, ors-lt}

-- the inputs that rows meeting the region fix
unfoldable pub met_fixed : ℕ → List Row → Row → ℕ
met_fixed n rs q = ors (λ i. cond (share n q (row_at rs i)) (row_at rs i).mask 0) (length rs)

-- the bits of f that m has not
abbrev pub beyond : ℕ → ℕ → ℕ
beyond f m = bit_xor f (bit_and f m)

-- the undecided inputs, as a mask
unfoldable pub open_inputs : ℕ → List Row → Row → ℕ
open_inputs n rs q = beyond (met_fixed n rs q) q.mask

-- ---- tests over a range

pub some_at : (m : ℕ) (p : ℕ → Bool) (i : ℕ) → i < m → p i ≡ true → some m p ≡ true
some_at m p i h e = lt-ltb _ _ (first_found m p i h e)

pub count-nothing : (p : ℕ → Bool) (m : ℕ) → ((i : ℕ) → i < m → p i ≡ false) → count p m ≡ 0
unfolding count
count-nothing p m h = sum-none (λ x. one (p x)) m (λ i l. ap one (h i l))

-- ---- bits of what is beyond

bit-beyond : (f m h : ℕ) → bit (beyond f m) h ≡ (bit f h + min (bit f h) (bit m h)) % 2
bit-beyond f m h = bit-xor f (bit_and f m) h ∙ ap (λ (x : ℕ). (bit f h + x) % 2) (bit-and f m h)

pub beyond-both : (f m h : ℕ) → bit (beyond f m) h ≡ 1 → (bit f h ≡ 1) × (bit m h ≡ 0)
beyond-both f m h e =
    (omega (arith, bit-beyond f m h, e, bit-lt f h, bit-lt m h), omega (arith, bit-beyond f m h, e, bit-lt f h, bit-lt m h))

beyond-has : (f m h : ℕ) → bit f h ≡ 1 → bit m h ≡ 0 → bit (beyond f m) h ≡ 1
beyond-has f m h a b = bit-beyond f m h ∙ rw (a, b)

-- ---- a region and a row

-- a region that fixes each input of a row that it meets lies inside the row
inside-if : (n : ℕ) (q r : Row) → Sound n q → Sound n r → share n q r ≡ true → bit_and r.mask q.mask ≡ r.mask → lies_inside n q r ≡ true
unfolding lies_inside
inside-if n q r a b met part = ap not (none_passes (2 ^ n) (λ x. under q x && not (under r x)) (λ x l. go x (ℕ_discrete (bit_and q.mask x) q.values)))
  where
    agree : bit_and r.mask q.values ≡ r.values
    agree =
        let z : demanded q r ≡ 0 = eqb-true (demanded q r) 0 (sym (share-closed n q r a b) ∙ met) in
        let y : bit_and r.mask (bit_xor q.values r.values) ≡ 0
        = ap (λ (m : ℕ). bit_and m (bit_xor q.values r.values)) (sym part ∙ and_comm r.mask q.mask) ∙ z in
        let x : bit_xor (bit_and r.mask q.values) r.values ≡ 0
        = ap (bit_xor (bit_and r.mask q.values)) (sym b.inside) ∙ sym (and_xor r.mask q.values r.values) ∙ y in
        same (bit_and r.mask q.values) r.values x
      where
        same : (s t : ℕ) → bit_xor s t ≡ 0 → s ≡ t
        same s t e = sym (sym (xor-cancel s t) ∙ ap (bit_xor s) e ∙ xor_zero_r s)

    go : (x : ℕ) → Dec (bit_and q.mask x ≡ q.values) → under q x && not (under r x) ≡ false
    go x (yes e) =
        rw (
          eq-eqb (bit_and q.mask x) q.values e,
          eq-eqb (bit_and r.mask x) r.values
              (ap (λ (m : ℕ). bit_and m x) (sym part) ∙ and_assoc r.mask q.mask x ∙ ap (bit_and r.mask) e ∙ agree),
        )
    go x (no e) = rw (ne_eqb (bit_and q.mask x) q.values e)

-- a region that is free where the row is fixed does not lie inside it: it has points with either value there
inside-not : (n : ℕ) (q r : Row) (h : ℕ) → Sound n q → h < n → bit q.mask h ≡ 0 → bit r.mask h ≡ 1 → lies_inside n q r ≡ false
unfolding lies_inside
inside-not n q r h a l free fixed = ap not (some_at (2 ^ n) (λ x. under q x && not (under r x)) x (sound-values n s sound) (rw (both.0, out)))
  where
    d : ℕ
    d = 1 - bit r.values h

    small : d < 2
    small = omega arith

    s : Row
    s = half h d q

    sound : Sound n s
    sound = sound-half n h d q l small a free

    x : ℕ
    x = s.values

    both : (under q x ≡ true) × (eqb (bit x h) d ≡ true)
    both = and_both (under q x) (eqb (bit x h) d) (sym (under-half n h d q x small a free) ∙ eq-eqb (bit_and s.mask x) s.values sound.inside)

    out : under r x ≡ false
    out =
        ne_eqb (bit_and r.mask x) r.values
        (λ e.
        omega (
          arith,
          bit-and r.mask x h,
          ap (λ (y : ℕ). bit y h) e,
          fixed,
          eqb-true (bit x h) d both.1,
          bit-lt r.values h,
        ))

-- ---- the highest number that passes

greatest-cong : (m : ℕ) (p q : ℕ → Bool) → ((i : ℕ) → i < m → p i ≡ q i) → greatest m p ≡ greatest m q
unfolding greatest
greatest-cong zero p q h = refl
greatest-cong (suc m) p q h = rw (h m (omega arith), greatest-cong m p q (λ i l. h i (omega arith)))

greatest-highest : (m y : ℕ) → greatest m (λ i. eqb (bit y i) 1) ≡ highest m y
unfolding greatest highest
greatest-highest zero y = refl
greatest-highest (suc m) y = rw (greatest-highest m y)

-- ---- a region and a list

bit-cond : (b : Bool) (m h : ℕ) → bit (cond b m 0) h ≡ 1 → (b ≡ true) × (bit m h ≡ 1)
bit-cond true m h e = (refl, e)
bit-cond false m h e = absurd (omega (arith, bit-none 0 h (pow_pos h), e))

module _ (n : ℕ) (rs : List Row) (q : Row) where
  -- an open input is fixed in a row that meets the region
  pub open_row : (h : ℕ) → bit (open_inputs n rs q) h ≡ 1
      → (i : ℕ) × (i < length rs) × (share n q (row_at rs i) ≡ true) × (bit (row_at rs i).mask h ≡ 1) × (bit q.mask h ≡ 0)
  unfolding open_inputs met_fixed
  open_row h e =
      let b = beyond-both (met_fixed n rs q) q.mask h e in
      let w = ors-finds (λ i. cond (share n q (row_at rs i)) (row_at rs i).mask 0) (length rs) h b.0 in
      let d = bit-cond (share n q (row_at rs w.0)) (row_at rs w.0).mask h w.2 in
      (w.0, w.1, d.0, d.1, b.1)

  -- and the other way round
  pub row_open : (h i : ℕ) → i < length rs → share n q (row_at rs i) ≡ true → bit (row_at rs i).mask h ≡ 1 → bit q.mask h ≡ 0
      → bit (open_inputs n rs q) h ≡ 1
  unfolding open_inputs met_fixed
  row_open h i l s f g =
      beyond-has (met_fixed n rs q) q.mask h
      (ors-has (λ i. cond (share n q (row_at rs i)) (row_at rs i).mask 0) (length rs) h i l (rw s f))
      g

  undecided-open : (h : ℕ) → undecided n rs q h ≡ eqb (bit (open_inputs n rs q) h) 1
  unfolding undecided
  undecided-open h = go (ℕ_discrete (bit (open_inputs n rs q) h) 1)
    where
      p : ℕ → Bool
      p i = share n q (row_at rs i) && eqb (bit (row_at rs i).mask h) 1

      all : (a b : Bool) → (a ≡ true → b ≡ true → ⊥) → a && b ≡ false
      all true true k = absurd (k refl refl)
      all true false k = refl
      all false b k = refl

      go : Dec (bit (open_inputs n rs q) h ≡ 1) → eqb (bit q.mask h) 0 && some (length rs) p ≡ eqb (bit (open_inputs n rs q) h) 1
      go (yes e) =
          let w = open_row h e in
          rw (
            eq-eqb (bit (open_inputs n rs q) h) 1 e,
            eq-eqb (bit q.mask h) 0 w.4,
            some_at (length rs) p w.0 w.1 (rw (w.2, eq-eqb (bit (row_at rs w.0).mask h) 1 w.3)),
          )
      go (no e) =
          rw (ne_eqb (bit (open_inputs n rs q) h) 1 e)
          (all (eqb (bit q.mask h) 0) (some (length rs) p)
          (λ a b.
          let l = ltb-true _ _ b in
          let d = and_both (share n q (row_at rs (first (length rs) p))) (eqb (bit (row_at rs (first (length rs) p)).mask h) 1) (first_passes (length rs) p l) in
          e (row_open h (first (length rs) p) l d.0 (eqb-true _ 1 d.1) (eqb-true _ 0 a))))

  -- the cut is the highest open input
  pub cut-highest : cut n rs q ≡ highest n (open_inputs n rs q)
  unfolding cut
  cut-highest =
      greatest-cong n (undecided n rs q) (λ i. eqb (bit (open_inputs n rs q) i) 1) (λ i l. undecided-open i) ∙ greatest-highest n (open_inputs n rs q)

module _ (n : ℕ) (rs : List Row) (sound : Every (Sound n) rs) (q : Row) (a : Sound n q) where
  fixed-lt : (b : Bool) (m : ℕ) → m < 2 ^ n → cond b m 0 < 2 ^ n
  fixed-lt true m h = h
  fixed-lt false m h = pow_pos n

  pub open-lt : open_inputs n rs q < 2 ^ n
  unfolding open_inputs met_fixed
  open-lt =
      let f : met_fixed n rs q < 2 ^ n
      = ors-lt (λ i. cond (share n q (row_at rs i)) (row_at rs i).mask 0) n (length rs)
      (λ i h. fixed-lt (share n q (row_at rs i)) (row_at rs i).mask (sound i h).fixed) in
      xor_lt n (met_fixed n rs q) (bit_and (met_fixed n rs q) q.mask) f (and_lt n (met_fixed n rs q) q.mask f a.fixed)

  -- where there is an open input, the cut is one
  pub cut-open : (open_inputs n rs q ≡ 0 → ⊥) → (cut n rs q < n) × (bit (open_inputs n rs q) (cut n rs q) ≡ 1)
  cut-open e = rw (cut-highest n rs q) ((highest-bit n 0 (open_inputs n rs q) (omega arith) open-lt).1, (highest-bit n 0 (open_inputs n rs q) (omega arith) open-lt).2)

  -- the cut is free in the region
  pub cut-free : (open_inputs n rs q ≡ 0 → ⊥) → bit q.mask (cut n rs q) ≡ 0
  cut-free e = (open_row n rs q (cut n rs q) (cut-open e).1).4

  -- where there is none, the region lies inside each row that meets it
  pub inside-all : open_inputs n rs q ≡ 0 → (i : ℕ) → i < length rs → share n q (row_at rs i) ≡ true → lies_inside n q (row_at rs i) ≡ true
  inside-all e i l s =
      inside-if n q (row_at rs i) a (sound i l) s
      (bit-ext n (bit_and (row_at rs i).mask q.mask) (row_at rs i).mask
      (and_lt n (row_at rs i).mask q.mask (sound i l).fixed a.fixed) (sound i l).fixed
      (λ h u. bit-and (row_at rs i).mask q.mask h ∙ go h (ℕ_discrete (bit (row_at rs i).mask h) 1) (ℕ_discrete (bit q.mask h) 0)))
    where
      go : (h : ℕ) → Dec (bit (row_at rs i).mask h ≡ 1) → Dec (bit q.mask h ≡ 0)
          → min (bit (row_at rs i).mask h) (bit q.mask h) ≡ bit (row_at rs i).mask h
      go h (yes f) (yes g) =
          absurd (omega (arith, row_open n rs q h i l s f g, ap (λ (y : ℕ). bit y h) e, bit-none 0 h (pow_pos h)))
      go h (yes f) (no g) = omega (arith, f, g, bit-lt q.mask h)
      go h (no f) g = omega (arith, f, bit-lt (row_at rs i).mask h)

  -- the region lies inside every row that meets it exactly where no input is open
  pub crossed-open : eqb (crossed n rs q) 0 ≡ eqb (open_inputs n rs q) 0
  unfolding crossed
  crossed-open = go (ℕ_discrete (open_inputs n rs q) 0)
    where
      p : ℕ → Bool
      p i = share n q (row_at rs i) && not (lies_inside n q (row_at rs i))

      none : open_inputs n rs q ≡ 0 → (i : ℕ) → i < length rs → (b : Bool) → share n q (row_at rs i) ≡ b → p i ≡ false
      none e i l true s = rw (s, inside-all e i l s)
      none e i l false s = rw s

      go : Dec (open_inputs n rs q ≡ 0) → eqb (count p (length rs)) 0 ≡ eqb (open_inputs n rs q) 0
      go (yes e) =
          rw (
            eq-eqb (open_inputs n rs q) 0 e,
            eq-eqb (count p (length rs)) 0 (count-nothing p (length rs) (λ i l. none e i l (share n q (row_at rs i)) refl)),
          )
      go (no e) =
          let w = open_row n rs q (cut n rs q) (cut-open e).1 in
          rw (
            ne_eqb (open_inputs n rs q) 0 e,
            ne_eqb (count p (length rs)) 0
                (λ z.
                false≢true
                (sym (count_none p (length rs) z w.0 w.1)
                ∙ rw (w.2, inside-not n q (row_at rs w.0) (cut n rs q) a (cut-open e).0 w.4 w.3))),
          )
