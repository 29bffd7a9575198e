-- T laid out over a list by the Gray columns, value by value, and then the smaller table in its place. Values of any function laid over a list. Assumes
-- nothing.
use Rattle.std.specs.Prelude.{◌≡◌, refl, List, ℕ, ◌+◌, ◌^◌, ◌≤◌, ◌<◌, length, get_or, set}
use Rattle.std.proofs.Common.{sym, ap, ap₂, ◌∙◌, arith}
use Rattle.std.specs.Int.Bits.{bit_xor}
use Rattle.slices.specs.Places.{at, tab, over}
use Rattle.slices.specs.Filled.{tab-at, over_none, over-more, length_over, over-at, over-beyond, over-is, get_d_any}
use Rattle.block.specs.Limits.{table_inputs}
use Rattle.block.specs.Words.{none, of_table}
use Rattle.block.specs.Basis.{columns, smaller}
use Rattle.block.specs.Symmetric.{gray_column}
use Rattle.matrix_laws.specs.Linear.{columns-lt}
use Rattle.matrix_laws.specs.Images.{Images, columns-zero, image-next}
use Rattle.symmetric_laws.specs.Columns.{gray-independent}

-- ---- T laid over a list, value by value

-- the values below m are there
pub laid-images : (n m : ℕ) (l k : List ℕ) → k ≡ over (tab m (columns gray_column n)) l → Images gray_column n m k
laid-images n m l k e = record { each = λ z h. ap (λ (k : List ℕ). at k z) e ∙ over-at m (columns gray_column n) l 0 z h }

-- laid over a list that has them they change nothing
pub laid-held : (n m : ℕ) (l : List ℕ) → m ≤ length l → Images gray_column n m l → l ≡ over (tab m (columns gray_column n)) l
laid-held n m l h i = over-is m (columns gray_column n) l l 0 h refl i.each (λ z b. refl)

-- more of the values of f laid over some are more of them
pub laid-again : (f : ℕ → ℕ) (m i : ℕ) (l k k' : List ℕ) → m ≤ i → i ≤ length l → k ≡ over (tab m f) l → k' ≡ over (tab i f) k → k' ≡ over (tab i f) l
laid-again f m i l k k' h b e d =
    let len : length k ≡ length l = ap length e ∙ length_over m f l (omega arith) in
    over-is i f l k' 0 b (ap length d ∙ length_over i f k (omega arith) ∙ len)
    (λ z c. ap (λ (k : List ℕ). at k z) d ∙ over-at i f k 0 z c)
    (λ z c.
    ap (λ (k : List ℕ). at k z) d ∙ over-beyond i f k 0 z c ∙ ap (λ (k : List ℕ). at k z) e ∙ over-beyond m f l 0 z (omega arith))

-- and one alone
pub laid_one : (f : ℕ → ℕ) (x : ℕ) (l : List ℕ) → 0 < length l → x ≡ f 0 → set l 0 x ≡ over (tab 1 f) l
laid_one f x l h e = over-more 0 f l l x (over_none f l) e h

-- the first value, and one more: that at 2^i + z from that at z and column i
pub laid-first : (n x : ℕ) (l : List ℕ) → 0 < length l → x ≡ 0 → set l 0 x ≡ over (tab 1 (columns gray_column n)) l
laid-first n x l h e = laid_one (columns gray_column n) x l h (e ∙ sym (columns-zero gray_column n))

pub next-value : (n i z x c : ℕ) → i < n → z < 2 ^ i → x ≡ columns gray_column n z → c ≡ gray_column i → bit_xor x c ≡ columns gray_column n (2 ^ i + z)
next-value n i z x c h b e d = ap₂ bit_xor e d ∙ sym (image-next gray_column n i z h b)

-- column i of the table
pub column-of : (l : List ℕ) (i : ℕ) → l ≡ tab table_inputs gray_column → i < table_inputs → get_or l i 0 ≡ gray_column i
column-of l i e h = ap (λ (k : List ℕ). get_or k i 0) e ∙ tab-at table_inputs gray_column 0 i h

-- ---- then the entries in their place

-- the entries from z on are still those of T, and points of the table
pub still : (f : ℕ → ℕ) (n m z y : ℕ) (p k : List ℕ) → Images gray_column n m p → k ≡ over (tab z f) p → z ≤ y → y < m
    → at k y ≡ columns gray_column n y
still f n m z y p k i d h b = ap (λ (k : List ℕ). at k y) d ∙ over-beyond z f p 0 y h ∙ i.each y b

pub point-lt : (n z x : ℕ) → x ≡ columns gray_column n z → x < 2 ^ n
point-lt n z x e = rw e (columns-lt gray_column n n z (gray-independent n).below)

pub entry_at : (table : List ℕ) (n z x : ℕ) → length table ≡ 2 ^ n → x ≡ columns gray_column n z → get_or table x 0 ≡ smaller (of_table table) gray_column n z
entry_at table n z x l e =
    let b : x < length table = rw l (point-lt n z x e) in
    get_d_any table 0 none x b ∙ ap (of_table table) e
