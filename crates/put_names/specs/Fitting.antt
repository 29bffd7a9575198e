-- The contract of every function that puts a piece of a model, and its laws: two pieces, one after the other, are one; nothing; a piece
-- that is put; a piece that does not fit. Assumes nothing.
use Rattle.std.specs.Prelude.{◌≡◌, List, [], ◌++◌, ℕ, ◌+◌, ◌≤◌, ◌<◌, length}
use Rattle.std.proofs.Common.{ap, sym, ◌∙◌, add-zero, arith, length-append}
use Rattle.std.proofs.Math.Seq.{length-sets}
use Rattle.put_bytes.specs.Puts.{Put, then, none-put}

-- every place that a writer of models is asked for lies within: so no place wraps, and no model is so long
abbrev pub reach : ℕ
reach = 16777216

-- r is the place after the text t, put into l₀ at a place; where that lies within l₀, it was put, which left l
pub record Fitted (l₀ : List ℕ) (at : ℕ) (t l : List ℕ) (r : ℕ) : Type 0 where
  pub place : r ≡ at + length t
  pub put : r ≤ length l₀ → Put l₀ at t l r

pub next : {l₀ a l₁ b l₂ : List ℕ} {at r₁ r₂ : ℕ} → Fitted l₀ at a l₁ r₁ → Fitted l₁ r₁ b l₂ r₂ → Fitted l₀ at (a ++ b) l₂ r₂
next {l₀} {a} {l₁} {b} {l₂} {at} {r₁} {r₂} p q =
    record {
      place = omega (arith, p.place, q.place, length-append a b);
      put = λ h.
          let first : Put l₀ at a l₁ r₁ = p.put (omega (arith, q.place)) in
          then first (q.put (omega (arith, ap length first.stored ∙ length-sets l₀ at a)));
    }

pub none-fitted : (l : List ℕ) (at : ℕ) → Fitted l at [] l at
none-fitted l at = record { place = sym (add-zero at); put = λ h. none-put l at }

pub put-fitted : {l₀ t l : List ℕ} {at r : ℕ} → Put l₀ at t l r → Fitted l₀ at t l r
put-fitted p = record { place = p.place; put = λ h. p }

pub past_end : {l t : List ℕ} {at r : ℕ} → r ≡ at + length t → length l < r → Fitted l at t l r
past_end e h = record { place = e; put = λ k. absurd (omega arith) }
