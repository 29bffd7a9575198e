-- What the printed list is (02, Ticket 3): the rule, and a test of it that the check computes over a whole list. Both are over the number of
-- inputs n and the limit w, so that a longer list, for more inputs, is another list alone. Not here: that a list that passes the test
-- follows the rule (`Rule`). Assumes nothing.
use Rattle.std.specs.Prelude.{◌≡◌, Bool, true, ◌&&◌, List, [], ◌∷◌, ℕ, ◌+◌, ◌^◌, ◌≤◌, ◌<◌, eqb, ltb, leb, length}
use Rattle.std.specs.Int.Count.{ones, ones_in}
use Rattle.slices.specs.Places.{at}
use Rattle.light_laws.specs.Counted.{choices}

-- the most one-bits of a number in the printed list: for weight limits up to it the list is walked
abbrev pub printed_limit : ℕ
printed_limit = 3

-- how many numbers it has
abbrev pub printed_numbers : ℕ
printed_numbers = 696

-- ---- the rule: "ascending, complete and sound" (01, List of forms by place)

-- l is the list of the numbers below 2^n that have 1 to w one-bits
pub record PrintedList (n w : ℕ) (l : List ℕ) : Type 0 where
  pub ascending : (i j : ℕ) → i < j → j < length l → at l i < at l j
  pub below : (i : ℕ) → i < length l → at l i < 2 ^ n
  pub some : (i : ℕ) → i < length l → 1 ≤ ones (at l i)
  pub few : (i : ℕ) → i < length l → ones (at l i) ≤ w
  pub complete : (t : ℕ) → t < 2 ^ n → 1 ≤ ones t → ones t ≤ w → (i : ℕ) × (i < length l) × (at l i ≡ t)

-- ---- the test

-- each number is greater than the one before it, and the first greater than a
unfoldable pub ascends : ℕ → List ℕ → Bool
ascends a [] = true
ascends a (x ∷ xs) = ltb a x && ascends x xs

-- each number is below 2^n, and of its n digits at most w are 1
unfoldable pub sound : ℕ → ℕ → List ℕ → Bool
sound n w [] = true
sound n w (x ∷ xs) = (ltb x (2 ^ n) && leb (ones_in n x) w) && sound n w xs

-- they ascend from above 0 and are sound, and with 0 they are as many as there are choices of at most w among n digits
unfoldable pub is_printed : ℕ → ℕ → List ℕ → Bool
is_printed n w l = ascends 0 l && (sound n w l && eqb (length l + 1) (choices w n))
