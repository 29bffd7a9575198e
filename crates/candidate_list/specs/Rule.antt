-- A list that passes the test follows the rule. That it is complete is seen by counting: from a on, an ascending list has no more numbers than
-- there are, and one that has as many leaves none out. Assumes nothing.
use Rattle.std.specs.Prelude.{◌≡◌, Bool, true, ◌&&◌, ℕ, zero, suc, ◌+◌, ◌^◌, ◌≤◌, ◌<◌, eqb, ltb, leb, length}
use Rattle.std.proofs.Common.{sym, add-one, le-leb, ltb→lt, leb→le, eqb→eq}
use mathlib.Core.List.{List, [], ◌∷◌}
use Rattle.std.proofs.Math.Decide.{dec_lt, ℕ_discrete}
use native.Mathlib.Omega.{arith}
use Rattle.std.specs.Int.Count.{ones, ones_in}
use Rattle.std.proofs.Math.Dec.{T}
use Rattle.bits.specs.Ones.{ones-in, ones-zero, ones-some, ones_above}
use Rattle.slices.specs.Places.{at}
use Rattle.slices.specs.Tests.{and_left, and_right}
use Rattle.sums.specs.Sums.{count}
use Rattle.sums.specs.Laws.{count-zero, count-more, count-mono}
use Rattle.light_laws.specs.Counted.{choices}
use Rattle.light_laws.specs.Numbers.{within, light-count}
use Rattle.candidate_list.specs.Printed.{PrintedList, ascends, sound, is_printed}

-- ---- the parts of the test, by place

ascends-above : (a : ℕ) (l : List ℕ) → T (ascends a l) → (i : ℕ) → i < length l → a < at l i
unfolding ascends
ascends-above a [] h i b = absurd (omega arith)
ascends-above a (x ∷ xs) h zero b = ltb→lt a x (and_left (ltb a x) (ascends x xs) h)
ascends-above a (x ∷ xs) h (suc i) b =
    omega (
      arith,
      ltb→lt a x (and_left (ltb a x) (ascends x xs) h),
      ascends-above x xs (and_right (ltb a x) (ascends x xs) h) i (omega arith),
    )

ascends-order : (a : ℕ) (l : List ℕ) → T (ascends a l) → (i j : ℕ) → i < j → j < length l → at l i < at l j
unfolding ascends
ascends-order a [] h i j l b = absurd (omega arith)
ascends-order a (x ∷ xs) h i zero l b = absurd (omega arith)
ascends-order a (x ∷ xs) h zero (suc j) l b = ascends-above x xs (and_right (ltb a x) (ascends x xs) h) j (omega arith)
ascends-order a (x ∷ xs) h (suc i) (suc j) l b =
    ascends-order x xs (and_right (ltb a x) (ascends x xs) h) i j (omega arith) (omega arith)

sound-at : (n w : ℕ) (l : List ℕ) → T (sound n w l) → (i : ℕ) → i < length l → (at l i < 2 ^ n) × (ones (at l i) ≤ w)
unfolding sound
sound-at n w [] h i b = absurd (omega arith)
sound-at n w (x ∷ xs) h zero b = (low, omega (arith, ones-in n x low, leb→le (ones_in n x) w (and_right (ltb x (2 ^ n)) _ here)))
  where
    here : T (ltb x (2 ^ n) && leb (ones_in n x) w)
    here = and_left (ltb x (2 ^ n) && leb (ones_in n x) w) (sound n w xs) h

    low : x < 2 ^ n
    low = ltb→lt x (2 ^ n) (and_left (ltb x (2 ^ n)) (leb (ones_in n x) w) here)
sound-at n w (x ∷ xs) h (suc i) b =
    sound-at n w xs (and_right (ltb x (2 ^ n) && leb (ones_in n x) w) (sound n w xs) h) i (omega arith)

-- ---- counting

-- a number that passes is counted
count-here : (p : ℕ → Bool) (x : ℕ) → p x ≡ true → count p (suc x) ≡ count p x + 1
count-here p x e = rw (← add-one x, count-more p x, e)

module _ (p : ℕ → Bool) (m : ℕ) where
  -- each number of an ascending list above a is counted once
  climb-le : (a : ℕ) (l : List ℕ) → a < m → T (ascends a l) → ((i : ℕ) → i < length l → (at l i < m) × (p (at l i) ≡ true))
      → count p (suc a) + length l ≤ count p m
  unfolding ascends
  climb-le a [] b h s = omega (arith, count-mono p (suc a) m b)
  climb-le a (x ∷ xs) b h s =
      omega (
        arith,
        count-mono p (suc a) x (ltb→lt a x (and_left (ltb a x) (ascends x xs) h)),
        count-here p x (s 0 (omega arith)).1,
        climb-le x xs (s 0 (omega arith)).0 (and_right (ltb a x) (ascends x xs) h) (λ i k. s (suc i) (omega arith)),
      )

  -- where these are all, none is left out
  climb-all : (a : ℕ) (l : List ℕ) → T (ascends a l) → ((i : ℕ) → i < length l → (at l i < m) × (p (at l i) ≡ true))
      → count p m ≤ count p (suc a) + length l
      → (t : ℕ) → a < t → t < m → p t ≡ true → (i : ℕ) × (i < length l) × (at l i ≡ t)
  unfolding ascends
  climb-all a [] h s e t low high q =
      absurd (omega (arith, count-mono p (suc a) t low, count-here p t q, count-mono p (suc t) m high))
  climb-all a (x ∷ xs) h s e t low high q =
      go (λ b. climb-all x xs rest after (omega (arith, passes, from)) t b high q) (dec_lt t x) (ℕ_discrete t x)
    where
      rest : T (ascends x xs)
      rest = and_right (ltb a x) (ascends x xs) h

      after : (i : ℕ) → i < length xs → (at xs i < m) × (p (at xs i) ≡ true)
      after i k = s (suc i) (omega arith)

      passes : count p (suc x) ≡ count p x + 1
      passes = count-here p x (s 0 (omega arith)).1

      from : count p (suc a) ≤ count p x
      from = count-mono p (suc a) x (ltb→lt a x (and_left (ltb a x) (ascends x xs) h))

      some : count p (suc x) + length xs ≤ count p m
      some = climb-le x xs (s 0 (omega arith)).0 rest after

      go : (x < t → (i : ℕ) × (i < length xs) × (at xs i ≡ t)) → Dec (t < x) → Dec (t ≡ x)
          → (i : ℕ) × (i < suc (length xs)) × (at (x ∷ xs) i ≡ t)
      go ih (yes l) d = absurd (omega (arith, count-mono p (suc a) t low, count-here p t q, count-mono p (suc t) x l, passes, from, some))
      go ih (no f) (yes e) = (0, omega arith, sym e)
      go ih (no f) (no g) = let found = ih (omega arith) in (suc found.0, omega (arith, found.1), found.2)

-- ---- the whole

pub printed-rule : (n w : ℕ) (l : List ℕ) → T (is_printed n w l) → PrintedList n w l
unfolding is_printed
printed-rule n w l h =
    record {
      ascending = ascends-order 0 l up;
      below = λ i b. (sound-at n w l well i b).0;
      some = λ i b. ones-some (at l i) (ascends-above 0 l up i b);
      few = λ i b. (sound-at n w l well i b).1;
      complete = λ t b low high.
          climb-all (within w) (2 ^ n) 0 l up (λ i k. ((sound-at n w l well i k).0, le-leb _ w (sound-at n w l well i k).1))
          (omega (arith, light-count n w, many, zero-counted)) t (ones_above t low) b (le-leb (ones t) w high);
    }
  where
    up : T (ascends 0 l)
    up = and_left (ascends 0 l) _ h

    rest : T (sound n w l && eqb (length l + 1) (choices w n))
    rest = and_right (ascends 0 l) _ h

    well : T (sound n w l)
    well = and_left (sound n w l) _ rest

    many : length l + 1 ≡ choices w n
    many = eqb→eq (length l + 1) (choices w n) (and_right (sound n w l) _ rest)

    zero-counted : count (within w) 1 ≡ 1
    zero-counted = omega (arith, count-here (within w) 0 (le-leb (ones 0) w (omega (arith, ones-zero))), count-zero (within w))
