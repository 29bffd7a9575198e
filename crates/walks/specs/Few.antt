-- How long the walk is where the printed list is walked: no longer than the list. Assumes nothing.
use Rattle.std.specs.Prelude.{Bool, true, false, cond, ◌&&◌, [], ◌∷◌, ◌++◌, ℕ, zero, suc, ◌+◌, ◌^◌, ◌≤◌, ◌<◌, leb, length}
use Rattle.std.proofs.Common.{add-one, arith, le-leb, length-append, pow_pos}
use Rattle.std.specs.Int.Count.{ones}
use Rattle.sums.specs.Sums.{one, count}
use Rattle.sums.specs.Laws.{count-zero, count-more}
use Rattle.block.specs.Limits.{list_inputs}
use Rattle.light_laws.specs.Counted.{choices, choices-mono, choices-more}
use Rattle.light_laws.specs.Numbers.{within, light-count}
use Rattle.candidate_list.specs.Printed.{printed_limit, printed_numbers}
use Rattle.candidates.specs.Light.{light}
use Rattle.walks.specs.Walk.{walk_to, walk}

-- of the numbers below m with at most w one-bits the walk has all but 0
walk-length : (w m : ℕ) → 0 < m → length (walk_to w m) + 1 ≤ count (within w) m
unfolding walk_to light ones
walk-length w zero h = absurd (omega arith)
walk-length w (suc zero) h = rw (← add-one 0, count-more (within w) 0, count-zero (within w), le-leb 0 w (omega arith)) (omega arith)
walk-length w (suc (suc m)) h =
    rw (← add-one (suc m), count-more (within w) (suc m)) (go (leb 1 (ones (suc m))) (within w (suc m)) (walk-length w (suc m) (omega arith)))
  where
    go : (a b : Bool) → length (walk_to w (suc m)) + 1 ≤ count (within w) (suc m)
        → length (cond (a && b) (walk_to w (suc m) ++ (suc m ∷ [])) (walk_to w (suc m))) + 1 ≤ count (within w) (suc m) + one b
    go true true k = rw (length-append (walk_to w (suc m)) (suc m ∷ [])) (omega arith)
    go true false k = omega arith
    go false b k = omega arith

-- with at most so many inputs and a weight limit of at most so much
walk-at-most : (inputs limit n w : ℕ) → n ≤ inputs → w ≤ limit → length (walk n w) + 1 ≤ choices limit inputs
unfolding walk
walk-at-most inputs limit n w h l =
    omega (
      arith,
      walk-length w (2 ^ n) (pow_pos n),
      light-count n w,
      choices-mono w n inputs h,
      choices-more w limit inputs l,
    )

-- with the inputs of a list, where the printed list is walked
pub walk-few : (n w : ℕ) → n ≤ list_inputs → w ≤ printed_limit → length (walk n w) ≤ printed_numbers
unfolding choices
walk-few n w h l = omega (arith, walk-at-most list_inputs printed_limit n w h l)
