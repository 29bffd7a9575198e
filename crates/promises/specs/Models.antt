-- The promises of models in BLIF (02, Ticket 4): written, read, evaluated at a point, and printed by the program. Assumes nothing.
use Rattle.std.specs.Prelude.{◌≡◌, List, map, ℕ, min, length}
use Rattle.slices.specs.Places.{over}
use Rattle.block.specs.Words.{missing}
use Rattle.block.specs.Refusals.{stored}
use Rattle.block.specs.Model.{model_text, model_verdict, write_model, printed_model}
use Rattle.block.specs.ModelRead.{read_model_verdict, read_model, matrix_in, counts_in, patterns_in, model_value}
use Rattle.block.specs.declared.Row.{Row}
use Rattle.block.specs.declared.Pattern.{Pattern}
use Rattle.block.specs.declared.Answer.{Answer}
use Rattle.block.specs.declared.TextAnswer.{TextAnswer}
use Rattle.block.specs.declared.ModelAnswer.{ModelAnswer}
use Rattle.block.specs.declared.ValueAnswer.{ValueAnswer}

-- writing the model of the rows rs, of type y
pub record WriteModelPromise (n k y w : ℕ) (rs : List Row) (out₀ : List ℕ) (r : TextAnswer) (out₁ : List ℕ) : Type 0 where
  pub answer : r ≡ write_model n k y w rs (length out₀)
  pub text : out₁ ≡ stored (model_verdict n k y w rs (length out₀)) (model_text (missing y) n k w rs) out₀

-- reading a model, its patterns to two flat slices, of which the shorter is the room
module _ (text matrix₀ counts₀ masks₀ values₀ : List ℕ) where
  abbrev room : ℕ
  room = min (length masks₀) (length values₀)

  abbrev verdict_of : Answer
  verdict_of = read_model_verdict text (length matrix₀) (length counts₀) room

  pub record ReadModelPromise (r : ModelAnswer) (matrix₁ counts₁ masks₁ values₁ : List ℕ) : Type 0 where
    pub answer : r ≡ read_model text (length matrix₀) (length counts₀) room
    pub matrix : matrix₁ ≡ stored verdict_of (matrix_in text) matrix₀
    pub counts : counts₁ ≡ stored verdict_of (counts_in text) counts₀
    pub masks : masks₁ ≡ stored verdict_of (map (λ (p : Pattern). p.mask) (patterns_in text)) masks₀
    pub values : values₁ ≡ stored verdict_of (map (λ (p : Pattern). p.values) (patterns_in text)) values₀

-- evaluating a model that was read, at x
pub record ModelValuePromise (n k x : ℕ) (sigma counts : List ℕ) (ps : List Pattern) (r : ValueAnswer) : Type 0 where
  pub answer : r ≡ model_value n k x sigma counts ps

-- printing the model of a text: the bytes that are printed, and how many
pub record PrintModelPromise (input out₀ : List ℕ) (count : ℕ) (out₁ : List ℕ) : Type 0 where
  pub text : out₁ ≡ over (printed_model input) out₀
  pub bytes : count ≡ length (printed_model input)
