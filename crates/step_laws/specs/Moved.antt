-- Any number of steps (01, How rows are transformed): the rows after them, at the coordinates reached, are the rows at the point;
-- rows stay well formed and apart, keep their words, and never grow fewer. Independent numbers make such steps. Not here: the
-- numbers that the rule takes (`Smaller`). Assumes nothing.
use Rattle.std.specs.Prelude.{◌≡◌, false, List, length}
use Rattle.std.proofs.Math.Path.{refl}
use Rattle.std.proofs.Common.{◌∙◌, arith}
use Prim.Native.Nat.{ℕ, zero, suc, ◌^◌, ◌≤◌, ◌<◌}
use Rattle.std.proofs.Math.Decide.{ℕ_discrete}
use Rattle.std.proofs.Math.Arith.{lt-one}
use Rattle.block.specs.Words.{of_rows}
use Rattle.block.specs.Rows.{partner, rest, reached, moved}
use Rattle.block.specs.Refusals.{bad_row}
use Rattle.block.specs.declared.Row.{Row}
use Rattle.pair_laws.specs.Cube.{Sound}
use Rattle.pair_laws.specs.Theorem.{Every, Apart, Disjoint}
use Rattle.matrix_laws.specs.Steps.{partner-bit, rest_lt, rest-own}
use Rattle.matrix_laws.specs.Reached.{Independent, independent-fewer, reaches, reached-next, reached-cong}
use Rattle.step_laws.specs.Step.{Ready, step_rows, step-lt, step-word, step-sound, step_words, step-good, step-apart, step-disjoint, step-length}

-- ---- the step of one chosen number

-- a number from 2^k on makes a step
pub ready : (n k y : ℕ) → k < n → 2 ^ k ≤ y → y < 2 ^ n → Ready n k (partner n k y) (rest n k y)
ready n k y hk l h =
    record { place = hk; other = (partner-bit n k y hk l h).1; below = rest_lt n k y hk l h; clear = rest-own n k y hk l h }

-- ---- k steps, in which c 0 .. c (k - 1) are chosen

-- each of them is a step
abbrev pub Steps : ℕ → (ℕ → ℕ) → ℕ → Type 0
Steps n c k = (j : ℕ) → j < k → Ready n j (partner n j (reached n c j (c j))) (rest n j (reached n c j (c j)))

-- no step leaves the rows
pub moved_none : (n : ℕ) (c : ℕ → ℕ) (rs : List Row) → moved n c 0 rs ≡ rs
unfolding moved
moved_none n c rs = refl

-- one step more for the rows
pub moved-suc : (n : ℕ) (c : ℕ → ℕ) (k : ℕ) (rs : List Row)
    → moved n c (suc k) rs ≡ step_rows k (partner n k (reached n c k (c k))) (rest n k (reached n c k (c k))) (moved n c k rs)
unfolding moved
moved-suc n c k rs = refl

-- they depend on the first k numbers alone
pub moved-cong : (n : ℕ) (c d : ℕ → ℕ) (k : ℕ) (rs : List Row) → ((j : ℕ) → j < k → c j ≡ d j) → moved n c k rs ≡ moved n d k rs
unfolding moved
moved-cong n c d zero rs h = refl
moved-cong n c d (suc k) rs h =
    let less : (j : ℕ) → j < k → c j ≡ d j = λ j l. h j (omega arith) in
    rw (h k (omega arith), reached-cong n c d k less (d k), moved-cong n c d k rs less)

-- one step never lessens the number of rows
moved-length-suc : (n : ℕ) (c : ℕ → ℕ) (k : ℕ) (rs : List Row) → length (moved n c k rs) ≤ length (moved n c (suc k) rs)
unfolding moved
moved-length-suc n c k rs = step-length k (partner n k (reached n c k (c k))) (rest n k (reached n c k (c k))) (moved n c k rs)

-- more steps never lessen the number of rows
pub moved_length : (n : ℕ) (c : ℕ → ℕ) (j k : ℕ) (rs : List Row) → j ≤ k → length (moved n c j rs) ≤ length (moved n c k rs)
moved_length n c j zero rs h = rw (lt-one {n = j} (omega arith)) (omega arith)
moved_length n c j (suc k) rs h = go (ℕ_discrete j (suc k)) (λ l. moved_length n c j k rs l)
  where
    go : Dec (j ≡ suc k) → (j ≤ k → length (moved n c j rs) ≤ length (moved n c k rs))
        → length (moved n c j rs) ≤ length (moved n c (suc k) rs)
    go (yes e) ih = rw e (omega arith)
    go (no m) ih = omega (arith, ih (omega arith), moved-length-suc n c k rs)

module _ (n : ℕ) (c : ℕ → ℕ) where
  fewer : (k : ℕ) → Steps n c (suc k) → Steps n c k
  fewer k s j h = s j (omega arith)

  -- the coordinates reached are within the width
  pub reached-lt : (k : ℕ) → Steps n c k → (x : ℕ) → x < 2 ^ n → reached n c k x < 2 ^ n
  unfolding reached
  reached-lt zero s x h = h
  reached-lt (suc k) s x h = step-lt n k _ _ (s k (omega arith)) (reached n c k x) (reached-lt k (fewer k s) x h)

  -- independent numbers make steps
  pub steps : (k : ℕ) → k ≤ n → Independent c n k → Steps n c k
  steps k h i j l =
      ready n j (reached n c j (c j)) (omega arith) (reached-next n c j (omega arith) (independent-fewer c n (suc j) k (omega arith) i))
      ((reaches n c j (omega arith) (independent-fewer c n j k (omega arith) i)).keeps (c j) (i.below j l))

  -- rows stay well formed
  pub moved-sound : (k : ℕ) → Steps n c k → (rs : List Row) → Every (Sound n) rs → Every (Sound n) (moved n c k rs)
  unfolding moved
  moved-sound zero s rs h = h
  moved-sound (suc k) s rs h = step-sound n k _ _ (s k (omega arith)) (moved n c k rs) (moved-sound k (fewer k s) rs h)

  -- the rows after the steps, at the coordinates reached, are the rows at the point
  pub moved_word : (k : ℕ) → Steps n c k → (missing : ℕ) (rs : List Row) (x : ℕ) → Every (Sound n) rs → x < 2 ^ n
      → of_rows missing (moved n c k rs) (reached n c k x) ≡ of_rows missing rs x
  unfolding moved reached
  moved_word zero s missing rs x h l = refl
  moved_word (suc k) s missing rs x h l =
      step-word n k _ _ (s k (omega arith)) missing (moved n c k rs) (reached n c k x) (moved-sound k (fewer k s) rs h)
      (reached-lt k (fewer k s) x l)
      ∙ moved_word k (fewer k s) missing rs x h l

  -- what all words have, the new words have: they are words of the old rows
  pub moved-words : (k : ℕ) → Steps n c k → (P : ℕ → Type 0) (rs : List Row) → Every (Sound n) rs → Every (λ r. P r.word) rs
      → Every (λ r. P r.word) (moved n c k rs)
  unfolding moved
  moved-words zero s P rs h p = p
  moved-words (suc k) s P rs h p =
      step_words n k _ _ (s k (omega arith)) P (moved n c k rs) (moved-sound k (fewer k s) rs h) (moved-words k (fewer k s) P rs h p)

  -- no row becomes malformed
  pub moved-good : (k : ℕ) → Steps n c k → (outs : ℕ) (rs : List Row) → Every (λ r. bad_row n outs r ≡ false) rs
      → Every (λ r. bad_row n outs r ≡ false) (moved n c k rs)
  unfolding moved
  moved-good zero s outs rs g = g
  moved-good (suc k) s outs rs g = step-good n k _ _ (s k (omega arith)) outs (moved n c k rs) (moved-good k (fewer k s) outs rs g)

  -- rows stay apart
  pub moved_apart : (k : ℕ) → Steps n c k → (rs : List Row) → Every (Sound n) rs → Apart n rs → Apart n (moved n c k rs)
  unfolding moved
  moved_apart zero s rs h a = a
  moved_apart (suc k) s rs h a =
      step-apart n k _ _ (s k (omega arith)) (moved n c k rs) (moved-sound k (fewer k s) rs h) (moved_apart k (fewer k s) rs h a)

  -- so a list of disjoint rows becomes one
  pub moved-disjoint : (k : ℕ) → Steps n c k → (rs : List Row) → Disjoint n rs → Disjoint n (moved n c k rs)
  unfolding moved
  moved-disjoint zero s rs g = g
  moved-disjoint (suc k) s rs g = step-disjoint n k _ _ (s k (omega arith)) (moved n c k rs) (moved-disjoint k (fewer k s) rs g)
