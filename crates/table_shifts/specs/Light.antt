-- R at the numbers of at most w one-bits, as it is stored: for each low part every high part, where t is high * 64 + low. A low part of
-- more than w one-bits has no such number. Assumes nothing.
use Rattle.std.specs.Prelude.{◌≡◌, refl, false, List, ℕ, ◌+◌, ◌*◌, ◌/◌, ◌%◌, ◌≤◌, ◌<◌, leb, length, set}
use Rattle.std.proofs.Common.{ap, ◌∙◌, arith, leb-false, length-set, get_or-set_same, get_or-set_other}
use Rattle.std.proofs.Math.Decide.{ℕ_discrete}
use Rattle.std.specs.Int.Count.{ones}
use Rattle.std.proofs.lemmas.Nat.{ones_cat}
use Rattle.slices.specs.Places.{at, tab, over}
use Rattle.slices.specs.Filled.{over-at}

-- k holds f at each t below m that has at most w one-bits
pub record LightValues (f : ℕ → ℕ) (m w : ℕ) (k : List ℕ) : Type 0 where
  pub each : (t : ℕ) → t < m → ones t ≤ w → at k t ≡ f t

-- where it holds f at each t it does at these
pub light-each : (f : ℕ → ℕ) (m w : ℕ) (l k : List ℕ) → k ≡ over (tab m f) l → LightValues f m w k
light-each f m w l k e = record { each = λ t b h. ap (λ (x : List ℕ). at x t) e ∙ over-at m f l 0 t b }

-- ---- those with one low part

-- k is l with f stored at these t below m
pub record LowPut (f : ℕ → ℕ) (w low m : ℕ) (l k : List ℕ) : Type 0 where
  pub size : length k ≡ length l
  pub put : (t : ℕ) → t < m → t % 64 ≡ low → ones t ≤ w → at k t ≡ f t
  pub kept : (t : ℕ) → (t % 64 ≡ low → ⊥) → at k t ≡ at l t

pub low-none : (f : ℕ → ℕ) (w low : ℕ) (l : List ℕ) → LowPut f w low 0 l l
low-none f w low l = record { size = refl; put = λ t b e h. absurd (omega arith); kept = λ t n. refl }

module _ (f : ℕ → ℕ) (w low high : ℕ) (l k k' : List ℕ) (h : low < 64) (s : LowPut f w low (high * 64) l k) where
  -- one value more
  pub low-more : (x : ℕ) → high * 64 + low < length l → x ≡ f (high * 64 + low) → k' ≡ set k (high * 64 + low) x
      → LowPut f w low ((high + 1) * 64) l k'
  low-more x b e d =
      rw d
      (record {
        size = length-set k (high * 64 + low) x ∙ s.size;
        put = λ t c g o. go t c g o (ℕ_discrete t (high * 64 + low));
        kept = λ t n. get_or-set_other k (high * 64 + low) t x 0 (λ g. n (omega arith)) ∙ s.kept t n;
      })
    where
      go : (t : ℕ) → t < (high + 1) * 64 → t % 64 ≡ low → ones t ≤ w → Dec (t ≡ high * 64 + low)
          → at (set k (high * 64 + low) x) t ≡ f t
      go t c g o (yes y) = rw y (get_or-set_same k (high * 64 + low) x 0 (omega (arith, s.size)) ∙ e)
      go t c g o (no n) = get_or-set_other k (high * 64 + low) t x 0 n ∙ s.put t (omega arith) g o

  -- the next number has more than w one-bits
  pub low-skip : leb (ones (high * 64 + low)) w ≡ false → k' ≡ k → LowPut f w low ((high + 1) * 64) l k'
  low-skip e d =
      rw d (record { size = s.size; put = λ t c g o. go t c g o (ℕ_discrete t (high * 64 + low)); kept = s.kept })
    where
      go : (t : ℕ) → t < (high + 1) * 64 → t % 64 ≡ low → ones t ≤ w → Dec (t ≡ high * 64 + low) → at k t ≡ f t
      go t c g o (yes y) = absurd (omega (arith, leb-false (ones (high * 64 + low)) w e, ap ones y))
      go t c g o (no n) = s.put t (omega arith) g o

-- ---- those whose low part is below `low`

abbrev pub BelowLow : (ℕ → ℕ) → ℕ → ℕ → ℕ → List ℕ → Type 0
BelowLow f w low m k = (t : ℕ) → t < m → t % 64 < low → ones t ≤ w → at k t ≡ f t

-- the low part of a number has no more one-bits than the number
low_ones : (t : ℕ) → ones (t % 64) ≤ ones t
low_ones t =
    let e : t / 64 * 64 + t % 64 ≡ t = omega arith in
    omega (arith, ones_cat 6 (t / 64) (t % 64) (omega arith), ap ones e)

module _ (f : ℕ → ℕ) (w low m : ℕ) (l k : List ℕ) (s : BelowLow f w low m l) where
  -- one low part more
  pub below_more : LowPut f w low m l k → BelowLow f w (low + 1) m k
  below_more p t b c o = go (ℕ_discrete (t % 64) low)
    where
      go : Dec (t % 64 ≡ low) → at k t ≡ f t
      go (yes e) = p.put t b e o
      go (no n) = p.kept t n ∙ s t b (omega arith) o

  -- the next low part has more than w one-bits
  pub below-skip : leb (ones low) w ≡ false → k ≡ l → BelowLow f w (low + 1) m k
  below-skip e d t b c o = ap (λ (x : List ℕ). at x t) d ∙ go (ℕ_discrete (t % 64) low)
    where
      go : Dec (t % 64 ≡ low) → at l t ≡ f t
      go (yes g) = absurd (omega (arith, leb-false (ones low) w e, ap ones g, low_ones t))
      go (no n) = s t b (omega arith) o

-- all of them
pub below_all : (f : ℕ → ℕ) (w low m : ℕ) (k : List ℕ) → low ≡ 64 → BelowLow f w low m k → LightValues f m w k
below_all f w low m k e s = record { each = λ t b o. s t b (omega arith) o }
