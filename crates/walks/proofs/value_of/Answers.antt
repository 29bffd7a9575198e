-- `walks::value_of` meets its contract: the number stands at the place of the first that is not below it, or nowhere. Assumes nothing.
use mathlib.Core.Path.{◌≡◌, sym, ◌∙◌}
use mathlib.Core.List.{List}
use Prim.Native.Nat.{ℕ, ◌≤◌, ◌<◌}
use native.Mathlib.Omega.{arith}
use Rattle.std.proofs.Common.{length, take, length-take}
use Rattle.std.proofs.lemmas.List.{get_or-take}
use Rattle.std.proofs.lemmas.List.Sorted.{searched}
use Rattle.slices.specs.Places.{at}
use Rattle.walks.specs.Walk.{value_at}
use Rattle.walks.specs.Ascending.{Ascending, ascending-le, none_below, place_is, value_found, value-missing}
use Rattle.walks.proofs.value_of.Goals as goal

-- the search by halves finds the number, or the place of the first that is not below it
module _ (l : List ℕ) (count t : ℕ) (long : count ≤ length l) (s : Ascending l count) where
  rising : (i j : ℕ) → i ≤ j → j < length (take count l) → at (take count l) i ≤ at (take count l) j
  rising i j h b =
      let in-front : j < count = omega (arith, length-take count l) in
      omega (arith, get_or-take count l i 0 (omega arith), get_or-take count l j 0 in-front, ascending-le l count s i j h in-front)

  found : (values : List ℕ) (r : ℕ) → r < length (take count l) → at (take count l) r ≡ t → at values r ≡ value_at l values count t
  found values r b e =
      let in-front : r < count = omega (arith, length-take count l) in
      let here : at l r ≡ t = sym (get_or-take count l r 0 in-front) ∙ e in
      value_found l count s values t r
      (place_is l count s t r (omega arith) (λ j k. omega (arith, s j r k in-front)) (none_below l count s t r (omega (arith, here))))
      in-front here

  missing : (values : List ℕ) (r : ℕ) → r ≤ length (take count l) → ((j : ℕ) → j < r → at (take count l) j < t)
      → ((j : ℕ) → r ≤ j → j < length (take count l) → t < at (take count l) j) → at values count ≡ value_at l values count t
  missing values r b low high =
      let long-front : length (take count l) ≡ count = omega (arith, length-take count l) in
      let later : (j : ℕ) → r ≤ j → j < count → t < at l j
      = λ j k d. omega (arith, get_or-take count l j 0 d, high j k (omega arith)) in
      value-missing l count s values t r
      (place_is l count s t r (omega arith) (λ j k. omega (arith, get_or-take count l j 0 (omega arith), low j k)) (λ j k d. omega (arith, later j k d)))
      (λ d e. omega (arith, later r (omega arith) d))

pub returns-in-Ok : goal.returns-in-Ok
returns-in-Ok c =
    let a = c.args in
    let all = searched (take a.count a.walk.now) a.t _ c.binary_search.ensures.position (rising a.walk.now a.count a.t c.requires.0 c.requires.2) in
    let here = rw c.in-Ok.is at all in
    found a.walk.now a.count a.t c.requires.0 c.requires.2 a.values.now _ here.0 here.1

pub returns-in-Err : goal.returns-in-Err
returns-in-Err c =
    let a = c.args in
    let all = searched (take a.count a.walk.now) a.t _ c.binary_search.ensures.position (rising a.walk.now a.count a.t c.requires.0 c.requires.2) in
    let here = rw c.in-Err.is at all in
    missing a.walk.now a.count a.t c.requires.0 c.requires.2 a.values.now _ here.0 here.1 here.2
