-- Signed numbers of 32 bits: what an operation of the code gives, where its operands are small enough. The machine reads each number back
-- from its bits, `to_z w32 (of_z w32 z)`, which is z where z fits. Assumes nothing.
use Rattle.std.specs.Prelude.{◌≡◌, ℕ, ◌+◌, ◌*◌, ◌/◌, ◌%◌, ◌≤◌, ◌<◌, ℤ, pos, nat_abs, ◌+ℤ◌, ◌-ℤ◌, ◌*ℤ◌, T}
use Rattle.std.proofs.Common.{sym, ap, ap₂, ◌∙◌, mul-le-mul, div-le_self, div-add-mod', mul-div_cancel, arith, SFits, to_z, of_z}
use Rattle.std.specs.Int.Signed.{quot_z, non_neg}
use Rattle.std.specs.Int.{w32}
use Rattle.std.proofs.lemmas.Int.{to_z-of_z}
use Rattle.walsh_laws.specs.Walsh.{most_points, most_number}
use Rattle.walsh_laws.specs.Differences.{mag-abs, abs-add, abs-sub, square-pos}

pub fits : (z : ℤ) → nat_abs z ≤ 4 * most_number → SFits w32 z
fits z h = record { sfits = omega (arith, mag-abs z) }

pub back : (z : ℤ) → nat_abs z ≤ 4 * most_number → to_z w32 (of_z w32 z) ≡ z
back z h = to_z-of_z w32 z (fits z h)

-- ---- a sum and a difference of x, which is a, and y, which is b

module _ {x y a b : ℤ} (ex : x ≡ a) (ey : y ≡ b) (h : nat_abs a + nat_abs b ≤ 4 * most_number) where
  pub sum_fits : SFits w32 (x +ℤ y)
  sum_fits = rw (ex, ey) (fits (a +ℤ b) (omega (arith, abs-add a b)))

  pub sum_back : to_z w32 (of_z w32 (x +ℤ y)) ≡ a +ℤ b
  sum_back = rw (ex, ey) (back (a +ℤ b) (omega (arith, abs-add a b)))

  pub difference-fits : SFits w32 (x -ℤ y)
  difference-fits = rw (ex, ey) (fits (a -ℤ b) (omega (arith, abs-sub a b)))

  pub difference-back : to_z w32 (of_z w32 (x -ℤ y)) ≡ a -ℤ b
  difference-back = rw (ex, ey) (back (a -ℤ b) (omega (arith, abs-sub a b)))

-- ---- the butterflies of two stages on four numbers

module _ {x y z w a b c d : ℤ} (ex : x ≡ a) (ey : y ≡ b) (ez : z ≡ c) (ew : w ≡ d)
    (h : nat_abs a + nat_abs b + (nat_abs c + nat_abs d) ≤ 4 * most_number) where
  left-sum : to_z w32 (of_z w32 (x +ℤ y)) ≡ a +ℤ b
  left-sum = sum_back ex ey (omega arith)

  left-difference : to_z w32 (of_z w32 (x -ℤ y)) ≡ a -ℤ b
  left-difference = difference-back ex ey (omega arith)

  right-sum : to_z w32 (of_z w32 (z +ℤ w)) ≡ c +ℤ d
  right-sum = sum_back ez ew (omega arith)

  right-difference : to_z w32 (of_z w32 (z -ℤ w)) ≡ c -ℤ d
  right-difference = difference-back ez ew (omega arith)

  sums : nat_abs (a +ℤ b) + nat_abs (c +ℤ d) ≤ 4 * most_number
  sums = omega (arith, abs-add a b, abs-add c d)

  differences : nat_abs (a -ℤ b) + nat_abs (c -ℤ d) ≤ 4 * most_number
  differences = omega (arith, abs-sub a b, abs-sub c d)

  pub first_fits : SFits w32 (to_z w32 (of_z w32 (x +ℤ y)) +ℤ to_z w32 (of_z w32 (z +ℤ w)))
  first_fits = sum_fits left-sum right-sum sums

  pub first_back : to_z w32 (of_z w32 (to_z w32 (of_z w32 (x +ℤ y)) +ℤ to_z w32 (of_z w32 (z +ℤ w)))) ≡ (a +ℤ b) +ℤ (c +ℤ d)
  first_back = sum_back left-sum right-sum sums

  pub second_fits : SFits w32 (to_z w32 (of_z w32 (x -ℤ y)) +ℤ to_z w32 (of_z w32 (z -ℤ w)))
  second_fits = sum_fits left-difference right-difference differences

  pub second_back : to_z w32 (of_z w32 (to_z w32 (of_z w32 (x -ℤ y)) +ℤ to_z w32 (of_z w32 (z -ℤ w)))) ≡ (a -ℤ b) +ℤ (c -ℤ d)
  second_back = sum_back left-difference right-difference differences

  pub third-fits : SFits w32 (to_z w32 (of_z w32 (x +ℤ y)) -ℤ to_z w32 (of_z w32 (z +ℤ w)))
  third-fits = difference-fits left-sum right-sum sums

  pub third_back : to_z w32 (of_z w32 (to_z w32 (of_z w32 (x +ℤ y)) -ℤ to_z w32 (of_z w32 (z +ℤ w)))) ≡ (a +ℤ b) -ℤ (c +ℤ d)
  third_back = difference-back left-sum right-sum sums

  pub fourth-fits : SFits w32 (to_z w32 (of_z w32 (x -ℤ y)) -ℤ to_z w32 (of_z w32 (z -ℤ w)))
  fourth-fits = difference-fits left-difference right-difference differences

  pub fourth-back : to_z w32 (of_z w32 (to_z w32 (of_z w32 (x -ℤ y)) -ℤ to_z w32 (of_z w32 (z -ℤ w)))) ≡ (a -ℤ b) -ℤ (c -ℤ d)
  fourth-back = difference-back left-difference right-difference differences

-- ---- a square

square-small : (z : ℤ) → nat_abs z ≤ most_points → nat_abs (z *ℤ z) ≤ 4 * most_number
square-small z h = rw (square-pos z) (omega (arith, mul-le-mul h h))

pub square-fits : (a : ℤ) → nat_abs a ≤ most_points → SFits w32 (to_z w32 (of_z w32 a) *ℤ to_z w32 (of_z w32 a))
square-fits a h = rw (back a (omega arith)) (fits (a *ℤ a) (square-small a h))

pub square-back : (a : ℤ) → nat_abs a ≤ most_points
    → to_z w32 (of_z w32 (to_z w32 (of_z w32 a) *ℤ to_z w32 (of_z w32 a))) ≡ pos (nat_abs a * nat_abs a)
square-back a h =
    ap (λ x. to_z w32 (of_z w32 (x *ℤ x))) (back a (omega arith)) ∙ back (a *ℤ a) (square-small a h) ∙ square-pos a

-- ---- a quotient of two numbers that are not negative

module _ (a d : ℤ) (fa : SFits w32 a) (fd : SFits w32 d) (ea : a ≡ pos (nat_abs a)) (ed : d ≡ pos (nat_abs d)) where
  quotient_is : quot_z (to_z w32 (of_z w32 a)) (to_z w32 (of_z w32 d)) ≡ pos (nat_abs a / nat_abs d)
  quotient_is = ap₂ quot_z (to_z-of_z w32 a fa) (to_z-of_z w32 d fd) ∙ ap₂ quot_z ea ed

  small : SFits w32 (pos (nat_abs a / nat_abs d))
  small =
      let f : SFits w32 (pos (nat_abs a)) = rw ea at fa in
      record { sfits = omega (arith, f.sfits, div-le_self (nat_abs a) (nat_abs d)) }

  pub divisor-some : 0 < nat_abs d → 0 < of_z w32 d
  divisor-some h = rw ed h

  pub quotient_fits : SFits w32 (quot_z (to_z w32 (of_z w32 a)) (to_z w32 (of_z w32 d)))
  quotient_fits = rw quotient_is small

  pub quotient-back : to_z w32 (of_z w32 (quot_z (to_z w32 (of_z w32 a)) (to_z w32 (of_z w32 d)))) ≡ pos (nat_abs a / nat_abs d)
  quotient-back = ap (λ z. to_z w32 (of_z w32 z)) quotient_is ∙ to_z-of_z w32 (pos (nat_abs a / nat_abs d)) small

  pub quotient-natural : T (non_neg (to_z w32 (of_z w32 (quot_z (to_z w32 (of_z w32 a)) (to_z w32 (of_z w32 d))))))
  quotient-natural = rw quotient-back tt

  pub quotient-below : nat_abs (to_z w32 (of_z w32 (quot_z (to_z w32 (of_z w32 a)) (to_z w32 (of_z w32 d))))) < 4294967296
  quotient-below = rw quotient-back (omega (arith, small.sfits))

  -- the quotient of a number that d divides gives that number back
  pub quotient-exact : nat_abs a % nat_abs d ≡ 0
      → nat_abs (to_z w32 (of_z w32 (quot_z (to_z w32 (of_z w32 a)) (to_z w32 (of_z w32 d))))) * nat_abs d ≡ nat_abs a
  quotient-exact e = rw quotient-back (omega (arith, div-add-mod' (nat_abs a) (nat_abs d)))

-- what the quotient of a number read by d, which is m, asks, and what its answer is
module _ (a d : ℤ) (m : ℕ) (sa : nat_abs a ≤ most_number) (ed : d ≡ pos m) (some : 0 < m) where
  read : to_z w32 (of_z w32 a) ≡ a
  read = back a (omega arith)

  pub quotient-asks : a ≡ pos (nat_abs a) → nat_abs a % m ≡ 0
      → (to_z w32 (of_z w32 a) ≡ pos (nat_abs (to_z w32 (of_z w32 a)))) × (d ≡ pos (nat_abs d)) × (0 < nat_abs d)
      × (nat_abs (to_z w32 (of_z w32 a)) % nat_abs d ≡ 0)
  quotient-asks e h = (
    read ∙ e ∙ ap (λ z. pos (nat_abs z)) (sym read),
    ed ∙ ap (λ z. pos (nat_abs z)) (sym ed),
    rw ed some,
    rw (read, ed) h,
  )

  pub quotient-gives : (r : ℕ) → r * nat_abs d ≡ nat_abs (to_z w32 (of_z w32 a)) → r ≡ nat_abs a / m
  quotient-gives r e =
      let g : r * m ≡ nat_abs a = rw (read, ed) at e in
      sym (mul-div_cancel r some) ∙ ap (λ (x : ℕ). x / m) g
