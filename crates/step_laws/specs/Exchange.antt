-- The exchange of two positions in a row: where each bit comes from, and that a row and a point exchanged alike meet as before. Not
-- here: the exchange of a number's bits (crate matrix_laws, `Steps`), lists of rows (`Step`). Assumes nothing.
use Rattle.std.specs.Prelude.{◌≡◌, cond, ℕ, ◌^◌, ◌<◌, min, eqb}
use Rattle.std.proofs.Common.{sym, ap, ap₂, ◌∙◌, eq-eqb, ne_eqb}
use Rattle.std.proofs.Math.Decide.{ℕ_discrete}
use Rattle.std.specs.Int.Bits.{bit_and, and_lt}
use Rattle.bits.specs.Digits.{bit}
use Rattle.bits.specs.Xor.{eqb-inj}
use Rattle.bits.specs.Bit.{bit-ext, bit-and}
use Rattle.block.specs.Words.{under}
use Rattle.block.specs.Rows.{exchange, exchange_row}
use Rattle.block.specs.declared.Row.{Row}
use Rattle.pair_laws.specs.Cube.{Sound, sound-values}
use Rattle.matrix_laws.specs.Steps.{exchange-left, exchange-right, exchange-other, exchange-twice, exchange-lt}

-- the position that comes to j
abbrev pub swapped : ℕ → ℕ → ℕ → ℕ
swapped k h j = cond (eqb j k) h (cond (eqb j h) k j)

-- each position has the bit of the one that came to it
pub exchange-bit : (k h y j : ℕ) → bit (exchange k h y) j ≡ bit y (swapped k h j)
exchange-bit k h y j = go (ℕ_discrete j k) (ℕ_discrete j h)
  where
    go : Dec (j ≡ k) → Dec (j ≡ h) → bit (exchange k h y) j ≡ bit y (swapped k h j)
    go (yes a) d = rw (eq-eqb j k a, a) (exchange-left k h y)
    go (no a) (yes b) = rw (ne_eqb j k a, eq-eqb j h b, b) (exchange-right k h y)
    go (no a) (no b) = rw (ne_eqb j k a, ne_eqb j h b) (exchange-other k h y j a b)

-- it may be done before or after an AND
pub exchange-and : (n k h m x : ℕ) → k < n → h < n → m < 2 ^ n → x < 2 ^ n
    → bit_and (exchange k h m) (exchange k h x) ≡ exchange k h (bit_and m x)
exchange-and n k h m x hk hh hm hx =
    bit-ext n _ _ (and_lt n _ _ (exchange-lt n k h m hk hh hm) (exchange-lt n k h x hk hh hx))
    (exchange-lt n k h (bit_and m x) hk hh (and_lt n m x hm hx))
    (λ j hj.
    bit-and (exchange k h m) (exchange k h x) j
    ∙ ap₂ min (exchange-bit k h m j) (exchange-bit k h x j)
    ∙ sym (exchange-bit k h (bit_and m x) j ∙ bit-and m x (swapped k h j)))

-- the exchanged point lies under the exchanged row exactly where the point lies under the row
pub under-exchange : (n k h : ℕ) (r : Row) (x : ℕ) → k < n → h < n → Sound n r → x < 2 ^ n
    → under (exchange_row k h r) (exchange k h x) ≡ under r x
under-exchange n k h r x hk hh s hx =
    ap (λ (y : ℕ). eqb y (exchange k h r.values)) (exchange-and n k h r.mask x hk hh s.fixed hx)
    ∙ eqb-inj (exchange k h) (bit_and r.mask x) r.values
    (λ e. sym (exchange-twice k h (bit_and r.mask x)) ∙ ap (exchange k h) e ∙ exchange-twice k h r.values)

-- an exchanged row stays well formed
pub sound-exchange : (n k h : ℕ) (r : Row) → k < n → h < n → Sound n r → Sound n (exchange_row k h r)
sound-exchange n k h r hk hh s =
    record {
      fixed = exchange-lt n k h r.mask hk hh s.fixed;
      inside = exchange-and n k h r.mask r.values hk hh s.fixed (sound-values n r s) ∙ ap (exchange k h) s.inside;
    }
