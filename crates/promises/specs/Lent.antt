-- Lent room for rows: how many rows it takes, and what it is to hold at the end. Rows are stored as records, or in three flat slices.
-- Assumes nothing.
use Rattle.std.specs.Prelude.{◌≡◌, List, map, ℕ, min, length}
use Rattle.block.specs.Refusals.{stored}
use Rattle.block.specs.declared.Row.{Row}
use Rattle.block.specs.declared.Answer.{Answer}

-- `holds v s`: after an answer with the number of v and the rows s, the room holds at the end what it is to hold
pub record Lent : Type 1 where
  pub room : ℕ
  pub holds : Answer → List Row → Type 0

-- a slice of records
abbrev pub lent_records : List Row → List Row → Lent
lent_records rows₀ rows₁ = record { room = length rows₀; holds = λ v s. rows₁ ≡ stored v s rows₀ }

-- three flat slices: each holds its part of the rows
pub record FlatHolds (masks₀ values₀ words₀ masks₁ values₁ words₁ : List ℕ) (v : Answer) (s : List Row) : Type 0 where
  pub masks : masks₁ ≡ stored v (map (λ (r : Row). r.mask) s) masks₀
  pub values : values₁ ≡ stored v (map (λ (r : Row). r.values) s) values₀
  pub words : words₁ ≡ stored v (map (λ (r : Row). r.word) s) words₀

-- the shortest of three lists
abbrev pub shortest : List ℕ → List ℕ → List ℕ → ℕ
shortest masks values words = min (length masks) (min (length values) (length words))

-- .. and the shortest is the room
abbrev pub lent_flat : List ℕ → List ℕ → List ℕ → List ℕ → List ℕ → List ℕ → Lent
lent_flat masks₀ values₀ words₀ masks₁ values₁ words₁ =
    record { room = shortest masks₀ values₀ words₀; holds = FlatHolds masks₀ values₀ words₀ masks₁ values₁ words₁ }
