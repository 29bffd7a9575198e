-- What one point of a full table adds to R(t), by what its entries hold. Assumes nothing.
use Rattle.std.specs.Prelude.{◌≡◌, refl, List, ℕ, ◌<◌, length}
use Rattle.std.proofs.Common.{sym}
use Rattle.std.proofs.Math.Bool.{and-false}
use borrow.Author.Tests.{eq-eqb, ne_eqb}
use Rattle.std.specs.Int.Bits.{bit_xor}
use Rattle.slices.specs.Places.{at}
use Rattle.slices.specs.Filled.{get_d_any}
use Rattle.sums.specs.Sums.{one}
use Rattle.block.specs.Words.{none, of_table}
use Rattle.block.specs.Measure.{same}

module _ (table : List ℕ) (t x : ℕ) (hx : x < length table) where
  -- no output at x
  pub same-hole : at table x ≡ none → one (same (of_table table) t x) ≡ 0
  unfolding same
  same-hole h = rw (get_d_any table none 0 x hx, h)

  module _ (hy : bit_xor x t < length table) where
    -- two different words
    pub same-miss : (at table (bit_xor x t) ≡ at table x → ⊥) → one (same (of_table table) t x) ≡ 0
    unfolding same
    same-miss h =
        rw (get_d_any table none 0 x hx, get_d_any table none 0 (bit_xor x t) hy, ne_eqb (at table x) (at table (bit_xor x t)) (λ e. h (sym e)))
        (simp and-false)

    -- one word at both
    pub same-hit : (at table x ≡ none → ⊥) → at table (bit_xor x t) ≡ at table x → one (same (of_table table) t x) ≡ 1
    unfolding same
    same-hit h e =
        rw (get_d_any table none 0 x hx, get_d_any table none 0 (bit_xor x t) hy, e, ne_eqb (at table x) none h, eq-eqb (at table x) (at table x) refl)
