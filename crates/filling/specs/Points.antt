-- The points under a row, as a walk meets them: the row's values at its fixed inputs, beside each part of its free inputs, from the
-- greatest part down to 0. And the table of a list of rows, put from the last row to the first, so that where two rows share a point the
-- first one's word stays. Assumes nothing.
use Rattle.std.specs.Prelude.{◌≡◌, refl, List, ℕ, suc, ◌+◌, ◌-◌, ◌^◌, ◌≤◌, ◌<◌, length, drop, set}
use Rattle.std.proofs.Common.{sym, ap, ◌∙◌, subst, mod-eq_of_lt, arith, eq-eqb, ne_eqb, length-set, pow_pos, get_or-set_same, get_or-set_other, drop-cons}
use Rattle.std.proofs.Math.Decide.{ℕ_discrete, dec_lt}
use Rattle.std.specs.Int.Bits.{bit_and, bit_xor, and_self, xor_self}
use Rattle.std.proofs.lemmas.Nat.{and_comm, and_mask, and_le_l, xor_comm, xor_lt}
use Rattle.std.proofs.Math.Seq.{drop-length}
use Rattle.bits.specs.Xor.{and_again, and_xor, xor-cancel}
use Rattle.bits.specs.Parts.{and-apart, and-beside, part-below}
use Rattle.slices.specs.Places.{at, tab, over}
use Rattle.slices.specs.Filled.{over-at, over-beyond, over-is, over-over, length_over}
use Rattle.block.specs.Words.{of_rows, row, rows_of}
use Rattle.block.specs.Refusals.{row_at}
use Rattle.block.specs.Lists.{filled}
use Rattle.block.specs.declared.Row.{Row}
use Rattle.pair_laws.specs.Cube.{Sound, sound-values}
use Rattle.pair_laws.specs.Theorem.{Every}
use Rattle.flat_rows.specs.Listing.{Listed, rows-count, row-at}

-- the inputs of n that the row leaves free
abbrev pub free_of : ℕ → ℕ → ℕ
free_of n m = bit_xor (2 ^ n - 1) m

-- k is l with the row's word at each point under the row
pub record RowPut (n : ℕ) (r : Row) (l k : List ℕ) : Type 0 where
  pub size : length k ≡ length l
  pub put : (x : ℕ) → x < 2 ^ n → bit_and r.mask x ≡ r.values → at k x ≡ r.word
  pub kept : (x : ℕ) → (x < 2 ^ n → bit_and r.mask x ≡ r.values → ⊥) → at k x ≡ at l x

-- the same for the points whose part of the free inputs is at least `from`
pub record PartsPut (n : ℕ) (r : Row) (from : ℕ) (l k : List ℕ) : Type 0 where
  pub size : length k ≡ length l
  pub put : (x : ℕ) → x < 2 ^ n → bit_and r.mask x ≡ r.values → from ≤ bit_and (free_of n r.mask) x → at k x ≡ r.word
  pub kept : (x : ℕ) → (x < 2 ^ n → bit_and r.mask x ≡ r.values → ⊥) → at k x ≡ at l x

module _ (n : ℕ) (r : Row) (s : Sound n r) where
  -- the row's free inputs
  abbrev free : ℕ
  free = free_of n r.mask

  apart : bit_and r.mask free ≡ 0
  apart =
      and_xor r.mask (2 ^ n - 1) r.mask
      ∙ rw (and_mask r.mask n, mod-eq_of_lt s.fixed, and_self r.mask) (xor_self r.mask)

  pub free-lt : free < 2 ^ n
  free-lt = xor_lt n (2 ^ n - 1) r.mask (omega (arith, pow_pos n)) s.fixed

  -- a point under the row, from its part of the free inputs
  point : (x : ℕ) → x < 2 ^ n → bit_and r.mask x ≡ r.values → x ≡ bit_xor r.values (bit_and free x)
  point x h e =
      sym (mod-eq_of_lt h)
      ∙ sym (and_mask x n)
      ∙ ap (bit_and x) (sym (xor-cancel r.mask (2 ^ n - 1)) ∙ ap (bit_xor r.mask) (xor_comm r.mask (2 ^ n - 1)))
      ∙ and_xor x r.mask free
      ∙ rw (and_comm x r.mask, e, and_comm x free)

  module _ (part : ℕ) (p : bit_and free part ≡ part) where
    -- the point of a part lies under the row, and has that part
    over-point : bit_and r.mask (bit_xor r.values part) ≡ r.values
    over-point = and-beside r.mask r.values part s.inside (and-apart r.mask free part apart p)

    pub point-lt : bit_xor r.values part < 2 ^ n
    point-lt =
        xor_lt n r.values part (sound-values n r s) (omega (arith, p, and_le_l free part, free-lt))

    -- one part more
    parts_more : (l k : List ℕ) → 2 ^ n ≤ length l → PartsPut n r (part + 1) l k
        → PartsPut n r part l (set k (bit_xor r.values part) r.word)
    parts_more l k h q =
        record {
          size = length-set k (bit_xor r.values part) r.word ∙ q.size;
          put = λ x b e g. go x b e g (ℕ_discrete x (bit_xor r.values part));
          kept =
              λ x c.
              get_or-set_other k (bit_xor r.values part) x r.word 0
              (λ d. c (rw d point-lt) (rw d over-point))
              ∙ q.kept x c;
        }
      where
        go : (x : ℕ) → x < 2 ^ n → bit_and r.mask x ≡ r.values → part ≤ bit_and free x → Dec (x ≡ bit_xor r.values part)
            → at (set k (bit_xor r.values part) r.word) x ≡ r.word
        go x b e g (yes d) =
            rw d (get_or-set_same k (bit_xor r.values part) r.word 0 (omega (arith, q.size, point-lt)))
        go x b e g (no d) =
            get_or-set_other k (bit_xor r.values part) x r.word 0 d
            ∙ q.put x b e (beyond (λ f. d (point x b e ∙ ap (bit_xor r.values) f)))
          where
            beyond : (bit_and free x ≡ part → ⊥) → part + 1 ≤ bit_and free x
            beyond f = omega arith

    -- no part stands between this one and the next
    parts_next : (l k : List ℕ) → PartsPut n r part l k → PartsPut n r (bit_and free (part - 1) + 1) l k
    parts_next l k q = record { size = q.size; put = λ x b e g. q.put x b e (go x g (dec_lt (bit_and free x) part)); kept = q.kept }
      where
        go : (x : ℕ) → bit_and free (part - 1) + 1 ≤ bit_and free x → Dec (bit_and free x < part) → part ≤ bit_and free x
        go x g (yes b) = absurd (omega (arith, part-below free part (bit_and free x) p (and_again free x) b))
        go x g (no b) = omega arith

    -- the same, as the loop has it
    pub parts-step : (f : ℕ) → f ≡ free → (l k : List ℕ) → 2 ^ n ≤ length l → PartsPut n r (part + 1) l k
        → PartsPut n r (bit_and f (part - 1) + 1) l (set k (bit_xor r.values part) r.word)
    parts-step f e l k h q = rw e (parts_next l (set k (bit_xor r.values part) r.word) (parts_more l k h q))

  -- what AND takes from the free inputs is a part of them
  pub part-again : (f : ℕ) → f ≡ free → (y : ℕ) → bit_and free (bit_and f y) ≡ bit_and f y
  part-again f e y = rw e (and_again free y)

  -- nothing put yet
  pub parts_none : (f : ℕ) → f ≡ free → (l : List ℕ) → PartsPut n r (f + 1) l l
  parts_none f d l = record { size = refl; put = λ x b e g. absurd (omega (arith, and_le_l free x)); kept = λ x c. refl }

  -- with part 0 all are put
  pub parts_all : (part : ℕ) → part ≡ 0 → bit_and free part ≡ part → (l k : List ℕ) → 2 ^ n ≤ length l → PartsPut n r (part + 1) l k
      → RowPut n r l (set k (bit_xor r.values part) r.word)
  parts_all part z p l k h q =
      let t = parts_more part p l k h q in
      record { size = t.size; put = λ x b e. t.put x b e (omega arith); kept = t.kept }

-- ---- the rows of a list, from the last to the first

-- the table of the rows from i on, with the word of a missing point elsewhere
abbrev pub TableFrom : ℕ → ℕ → List Row → ℕ → List ℕ → List ℕ → Type 0
TableFrom missing n rs i l k = k ≡ over (tab (2 ^ n) (of_rows missing (drop i rs))) l

-- none of them put yet, on a cleared table
pub table_none : (missing n m : ℕ) (rs : List Row) (i : ℕ) (l k : List ℕ) → m ≡ 2 ^ n → i ≡ length rs → k ≡ over (tab m (λ _. missing)) l
    → TableFrom missing n rs i k k
unfolding of_rows
table_none missing n m rs i l k z e d =
    let c : k ≡ over (tab (2 ^ n) (λ _. missing)) l = rw z at d in
    rw (e, drop-length rs) (c ∙ sym (ap (over (tab (2 ^ n) (λ _. missing))) c ∙ over-over (2 ^ n) (λ _. missing) (λ _. missing) l))

-- one row more
table_more : (missing n : ℕ) (rs : List Row) (i : ℕ) (l k m : List ℕ) → i < length rs → 2 ^ n ≤ length l → TableFrom missing n rs (suc i) l k
    → RowPut n (row_at rs i) k m → TableFrom missing n rs i l m
unfolding of_rows
table_more missing n rs i l k m h b q p =
    over-is (2 ^ n) (of_rows missing (drop i rs)) l m 0 b (p.size ∙ ap length q ∙ length_over (2 ^ n) (of_rows missing (drop (suc i) rs)) l b)
    (λ x c. go x c (ℕ_discrete (bit_and (row_at rs i).mask x) (row_at rs i).values))
    (λ x c. p.kept x (λ d e. absurd (omega arith)) ∙ ap (λ (s : List ℕ). at s x) q ∙ over-beyond (2 ^ n) _ l 0 x c)
  where
    go : (x : ℕ) → x < 2 ^ n → Dec (bit_and (row_at rs i).mask x ≡ (row_at rs i).values) → at m x ≡ of_rows missing (drop i rs) x
    go x c (yes e) = p.put x c e ∙ sym (rw (drop-cons rs i (row 0 0 0) h, eq-eqb _ _ e))
    go x c (no d) =
        p.kept x (λ y e. d e)
        ∙ ap (λ (s : List ℕ). at s x) q
        ∙ over-at (2 ^ n) (of_rows missing (drop (suc i) rs)) l 0 x c
        ∙ sym (rw (drop-cons rs i (row 0 0 0) h, ne_eqb _ _ d))

-- all rows put
pub table-all : (missing n m : ℕ) (rs : List Row) (i : ℕ) (l k z : List ℕ) → m ≡ 2 ^ n → i ≡ 0 → k ≡ over (tab m (λ _. missing)) l
    → TableFrom missing n rs i k z → z ≡ over (filled missing n rs) l
unfolding filled
table-all missing n m rs i l k z s e d q =
    let c : k ≡ over (tab (2 ^ n) (λ _. missing)) l = rw s at d in
    (rw e at q) ∙ ap (over (tab (2 ^ n) (of_rows missing rs))) c ∙ over-over (2 ^ n) (λ _. missing) (of_rows missing rs) l

-- the same with the rows in three flat slices
module _ (n most : ℕ) (masks values words : List ℕ) (l : Listed most masks values words) (i : ℕ) (h : i < length masks) where
  row_of : row_at (rows_of masks values words) i ≡ row (at masks i) (at values i) (at words i)
  row_of = row-at masks values words l.values-too l.words-too i h

  short : i < length (rows_of masks values words)
  short = omega (arith, rows-count masks values words l.values-too l.words-too)

  pub sound-row : Every (Sound n) (rows_of masks values words) → Sound n (row (at masks i) (at values i) (at words i))
  sound-row s = subst (Sound n) row_of (s i short)

  pub table-row : (missing j : ℕ) (t k m : List ℕ) → j ≡ suc i → 2 ^ n ≤ length t → TableFrom missing n (rows_of masks values words) j t k
      → RowPut n (row (at masks i) (at values i) (at words i)) k m → TableFrom missing n (rows_of masks values words) i t m
  table-row missing j t k m e b q p =
      table_more missing n (rows_of masks values words) i t k m short b (rw e at q) (subst (λ (r : Row). RowPut n r k m) (sym row_of) p)
