-- A row of sigma as the loop over its digits puts it, and all rows. Assumes nothing.
use Rattle.std.specs.Prelude.{◌≡◌, refl, List, [], ◌++◌, ℕ, suc, ◌+◌, ◌-◌, ◌/◌, ◌%◌, ◌^◌, ◌≤◌, ◌<◌, get_or}
use Rattle.std.proofs.Common.{sym, ap, ◌∙◌, append_assoc, append-nil, pow-suc, add-one, arith}
use Rattle.block.specs.Covers.{Cover}
use Rattle.block.specs.Model.{row_covers, inputs_of, front_covers, cover_lines, joined}
use Rattle.put_names.specs.Fitting.{Fitted, next, none-fitted}
use Rattle.put_chains.specs.Texts.{cover_text, text-append, no_text}
use Rattle.put_chains.specs.Links.{lowest, digit_covers, remaining, upwards, digit-more, nothing_left, inputs-upwards}

-- each of the first n numbers is below 2^n
abbrev pub Below : ℕ → List ℕ → Type 0
Below n l = (j : ℕ) → j < n → get_or l j 0 < 2 ^ n

-- ---- one row

-- what is put so far, and what the highest `left` of the n digits will bring, are the row's covers
pub record RowPut (l₀ : List ℕ) (from : ℕ) (i n v a q left r : ℕ) (l : List ℕ) (to : ℕ) : Type 0 where
  pub done : List ℕ
  pub put : Fitted l₀ from done l to
  pub whole : done ++ cover_text (remaining i a q (upwards left (n - left) r)) ≡ cover_text (row_covers i (inputs_of n v))

pub row-none : (l : List ℕ) (from i n v : ℕ) → RowPut l from i n v 0 0 n v l from
row-none l from i n v =
    let e : n - n ≡ 0 = omega arith in
    record {
      done = [];
      put = none-fitted l from;
      whole =
          ap (λ (b : ℕ). cover_text (row_covers i (upwards n b v))) e
          ∙ ap (λ (us : List ℕ). cover_text (row_covers i us)) (inputs-upwards n v);
    }

pub row_more : (l₀ : List ℕ) (from i n v a q left r : ℕ) (l : List ℕ) (to : ℕ) (l' : List ℕ) (to' : ℕ)
    → RowPut l₀ from i n v a q left r l to → 0 < left → left ≤ n → r < 2 ^ left
    → Fitted l to (cover_text (digit_covers i a (n - left) q r)) l' to'
    → RowPut l₀ from i n v (lowest a (n - left) q) (q + r % 2) (left - 1) (r / 2) l' to'
row_more l₀ from i n v a q left r l to l' to' w p h lt put =
    let e : left ≡ suc (left - 1) = omega arith in
    let d : suc (n - left) ≡ n - (left - 1) = omega arith in
    record {
      done = w.done ++ cover_text now;
      put = next w.put put;
      whole =
          append_assoc w.done (cover_text now) (cover_text (then (n - (left - 1))))
          ∙ ap (λ (t : List ℕ). w.done ++ t)
          (sym (text-append now (then (n - (left - 1))))
          ∙ ap (λ (c : ℕ). cover_text (now ++ then c)) (sym d)
          ∙ ap cover_text (sym (digit-more i a q (left - 1) (n - left) r (rw e at lt)))
          ∙ ap (λ (f : ℕ). cover_text (remaining i a q (upwards f (n - left) r))) (sym e))
          ∙ w.whole;
    }
  where
    now : List Cover
    now = digit_covers i a (n - left) q r

    then : ℕ → List Cover
    then c = remaining i (lowest a (n - left) q) (q + r % 2) (upwards (left - 1) c (r / 2))

pub row_done : (l₀ : List ℕ) (from i n v a q left r : ℕ) (l : List ℕ) (to : ℕ) → RowPut l₀ from i n v a q left r l to → left ≡ 0
    → Fitted l₀ from (cover_text (row_covers i (inputs_of n v))) l to
unfolding upwards
row_done l₀ from i n v a q left r l to w e =
    let nothing : cover_text (remaining i a q (upwards left (n - left) r)) ≡ [] =
    ap (λ (f : ℕ). cover_text (remaining i a q (upwards f (n - left) r))) e ∙ ap cover_text (nothing_left i a q) ∙ no_text in
    rw (sym w.whole ∙ ap (λ (t : List ℕ). w.done ++ t) nothing ∙ append-nil w.done) w.put

-- half of what is left is below half the bound
pub half_lt : (left r : ℕ) → 0 < left → r < 2 ^ left → r / 2 < 2 ^ (left - 1)
half_lt left r p l =
    let e : left ≡ suc (left - 1) = omega arith in
    let k : r < 2 ^ suc (left - 1) = rw e at l in
    omega (arith, k, pow-suc 2 (left - 1))

-- ---- all rows

pub front-none : (n : ℕ) (s : ℕ → ℕ) → cover_text (front_covers n s 0) ≡ []
unfolding front_covers cover_lines joined
front-none n s = refl

pub front-more : (n : ℕ) (s : ℕ → ℕ) (i : ℕ)
    → cover_text (front_covers n s (i + 1)) ≡ cover_text (front_covers n s i) ++ cover_text (row_covers i (inputs_of n (s i)))
unfolding front_covers
front-more n s i = rw (add-one i) (text-append (front_covers n s i) (row_covers i (inputs_of n (s i))))
