-- The work on one output word, list by list: its points, their spectrum, the squares, the squares' spectrum. Assumes nothing.
use Rattle.std.specs.Prelude.{◌≡◌, refl, List, ℕ, ◌*◌, ◌/◌, ◌%◌, ◌≤◌, ◌<◌, ◌^◌, ℤ, pos, nat_abs, length}
use Rattle.std.proofs.Common.{sym, ap, ◌∙◌, subst, mul-div_cancel, arith, pow_pos}
use Rattle.std.proofs.Math.Nat.{mul-mod_left}
use Rattle.slices.specs.Places.{tab}
use Rattle.slices.specs.Filled.{length-tab, tab-at, tab-cong}
use Rattle.sums.specs.Sums.{sum}
use Rattle.sums.specs.Laws.{sum-cong}
use Rattle.walsh_laws.specs.Walsh.{walsh, spectrum, power, auto, most_points, most_number}
use Rattle.walsh_laws.specs.Sums.{walsh-cong}
use Rattle.walsh_laws.specs.Theorems.{wiener-khinchin}
use Rattle.walsh_laws.specs.Bounds.{points, spectrum-fits, powers, auto-fits}
use Rattle.walsh_laws.specs.Passes.{val}
use Rattle.walsh.specs.Numbers.{Ready}
use Rattle.spectrum_words.specs.Words.{Exact}

-- a list of numbers that are not negative
abbrev pub naturals : ℕ → (ℕ → ℕ) → List ℤ
naturals n g = tab (2 ^ n) (λ x. pos (g x))

naturals-at : (n : ℕ) (g : ℕ → ℕ) (x : ℕ) → x < 2 ^ n → val (naturals n g) x ≡ pos (g x)
naturals-at n g x h = tab-at (2 ^ n) (λ x. pos (g x)) (pos 0) x h

-- the transform of such a list is its spectrum
pub transformed : (n : ℕ) (g : ℕ → ℕ) → tab (2 ^ n) (walsh (val (naturals n g)) n) ≡ tab (2 ^ n) (spectrum g n)
transformed n g = tab-cong (2 ^ n) _ _ (λ w h. walsh-cong _ (λ x. pos (g x)) n w (λ x b. naturals-at n g x b))

ready : (n : ℕ) (g : ℕ → ℕ) → n ≤ 12 → sum g (2 ^ n) ≤ most_number → Ready (naturals n g) n
ready n g h b =
    record {
      long = length-tab (2 ^ n) (λ x. pos (g x));
      few = h;
      whole = λ x c. subst (λ z. z ≡ pos (nat_abs z)) (sym (naturals-at n g x c)) refl;
      within = rw (sum-cong (λ x. nat_abs (val (naturals n g) x)) g (2 ^ n) (λ x c. ap nat_abs (naturals-at n g x c))) b;
    }

-- ---- one word: f is 0 or 1 at each point

module _ (f : ℕ → ℕ) (n : ℕ) (few : n ≤ 12) (bits : (x : ℕ) → f x ≤ 1) where
  pub ready-marks : Ready (naturals n f) n
  ready-marks = ready n f few (omega (arith, points f n few bits))

  pub ready-power : Ready (naturals n (power f n)) n
  ready-power = ready n (power f n) few (powers f n few bits)

  pub correlated : tab (2 ^ n) (spectrum (power f n) n) ≡ naturals n (λ t. auto f n t * 2 ^ n)
  correlated = tab-cong (2 ^ n) _ _ (λ t h. wiener-khinchin f n t h)

  pub exact : Exact (naturals n (λ t. auto f n t * 2 ^ n)) (2 ^ n)
  exact =
      record {
        whole = λ t h. subst (λ z. z ≡ pos (nat_abs z)) (sym (naturals-at n _ t h)) refl;
        divides = λ t h. ap (λ z. nat_abs z % 2 ^ n) (naturals-at n _ t h) ∙ mul-mod_left (auto f n t) (2 ^ n);
        small = λ t h. subst (λ z. nat_abs z ≤ most_number) (sym (naturals-at n _ t h)) (auto-fits f n few bits t);
      }

  pub quotient : (t : ℕ) → t < 2 ^ n → nat_abs (val (naturals n (λ t. auto f n t * 2 ^ n)) t) / 2 ^ n ≡ auto f n t
  quotient t h = ap (λ z. nat_abs z / 2 ^ n) (naturals-at n _ t h) ∙ mul-div_cancel (auto f n t) (pow_pos n)

-- the squares of the spectrum, as the code has them
pub squared : (f : ℕ → ℕ) (n : ℕ) (l : List ℤ) → l ≡ tab (2 ^ n) (spectrum f n)
    → tab (length l) (λ x. pos (nat_abs (val l x) * nat_abs (val l x))) ≡ naturals n (power f n)
squared f n l e =
    ap (λ (m : ℕ). tab m (λ x. pos (nat_abs (val l x) * nat_abs (val l x)))) (ap length e ∙ length-tab (2 ^ n) (spectrum f n))
    ∙ tab-cong (2 ^ n) _ _ (λ x h. ap (λ z. pos (nat_abs z * nat_abs z)) (ap (λ k. val k x) e ∙ tab-at (2 ^ n) (spectrum f n) (pos 0) x h))

pub squarable : (f : ℕ → ℕ) (n : ℕ) (l : List ℤ) → n ≤ 12 → ((x : ℕ) → f x ≤ 1) → l ≡ tab (2 ^ n) (spectrum f n)
    → (x : ℕ) → x < length l → nat_abs (val l x) ≤ most_points
squarable f n l few bits e x h =
    subst (λ z. nat_abs z ≤ most_points)
    (sym (ap (λ k. val k x) e ∙ tab-at (2 ^ n) (spectrum f n) (pos 0) x (omega (arith, ap length e ∙ length-tab (2 ^ n) (spectrum f n)))))
    (spectrum-fits f n few bits x)
