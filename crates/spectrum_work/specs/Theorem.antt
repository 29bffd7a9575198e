-- R of a block by the Wiener-Khinchin theorem (02, Ticket 5): "for each output word a signed Walsh transform, squares, transform again, divide
-- by 2^n", and that each division leaves nothing over. For any block and any number of inputs. Assumes nothing.
use Rattle.std.specs.Prelude.{◌≡◌, ℕ, ◌/◌, ◌%◌, ◌≤◌, ◌<◌, ◌^◌, nat_abs}
use Rattle.std.proofs.Common.{sym, ap, ◌∙◌, mul-div_cancel, pow_pos}
use Rattle.std.proofs.Math.Nat.{mul-mod_left}
use Rattle.sums.specs.Sums.{sum}
use Rattle.sums.specs.Laws.{sum-cong}
use Rattle.block.specs.Words.{none}
use Rattle.block.specs.Measure.{shift}
use Rattle.walsh_laws.specs.Walsh.{spectrum, power, auto}
use Rattle.walsh_laws.specs.Theorems.{wiener-khinchin}
use Rattle.spectrum_words.specs.Words.{marks}
use Rattle.spectrum_work.specs.Words.{below-words, shift-below}

-- the points of the word u: their spectrum, its squares, and these transformed again, at t
unfoldable pub again : (ℕ → ℕ) → ℕ → ℕ → ℕ → ℕ
again f n u t = nat_abs (spectrum (power (marks f u) n) n t)

-- 2^n divides what each word has there
pub again-divides : (f : ℕ → ℕ) (n u t : ℕ) → t < 2 ^ n → again f n u t % 2 ^ n ≡ 0
unfolding again
again-divides f n u t h = ap (λ z. nat_abs z % 2 ^ n) (wiener-khinchin (marks f u) n t h) ∙ mul-mod_left (auto (marks f u) n t) (2 ^ n)

-- R is the sum of the quotients over all words
pub shift-spectra : (f : ℕ → ℕ) (n t : ℕ) → t < 2 ^ n → ((x : ℕ) → x < 2 ^ n → f x ≤ none)
    → shift f n t ≡ sum (λ u. again f n u t / 2 ^ n) none
unfolding again
shift-spectra f n t h small =
    sym (shift-below f n t h small) ∙ below-words f n none t
    ∙ sum-cong _ _ none
    (λ u b.
    sym
    (ap (λ z. nat_abs z / 2 ^ n) (wiener-khinchin (marks f u) n t h) ∙ mul-div_cancel (auto (marks f u) n t) (pow_pos n)))
