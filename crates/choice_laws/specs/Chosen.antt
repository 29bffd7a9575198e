-- The numbers chosen step by step, as a function of the step: that the lists of 01 list it, that each is the search's result among
-- the candidates left by those before it, and what it depends on. Not here: that each step has a candidate (crate matrix_laws,
-- `Candidate`). Assumes nothing.
use Rattle.std.specs.Prelude.{◌≡◌, Bool, true, false, not, ◌&&◌, ◌||◌, List, [], ◌∷◌, ◌++◌, leb, length}
use Rattle.std.proofs.Math.Path.{refl}
use Rattle.std.proofs.Common.{sym, ap, ap₂, ◌∙◌, arith, leb-true, pow_pos}
use Rattle.std.proofs.lemmas.Bool.{false≢true}
use Prim.Native.Nat.{ℕ, zero, suc, ◌^◌, ◌≤◌, ◌<◌}
use Rattle.std.specs.Int.Bits.{bit_xor}
use Rattle.std.specs.Int.Count.{ones}
use Rattle.slices.specs.Places.{at, tab}
use Rattle.slices.specs.Filled.{length-tab, tab-zero, tab-suc, tab-at}
use Rattle.block.specs.Measure.{shift}
use Rattle.block.specs.Basis.{span, candidate, before, best, next, chosen, basis_of}
use Rattle.choice_laws.specs.Choice.{best-lt, best-cong, best-agree}

-- the number chosen at step j + 1
unfoldable pub pick : (ℕ → ℕ) → ℕ → ℕ → ℕ → ℕ
pick r n w j = next r n w j (chosen r n w j)

-- the numbers of the first k steps are listed in order
pub chosen-tab : (r : ℕ → ℕ) (n w k : ℕ) → chosen r n w k ≡ tab k (pick r n w)
unfolding chosen pick
chosen-tab r n w zero = sym (tab-zero (pick r n w))
chosen-tab r n w (suc k) = ap (λ l. l ++ (pick r n w k ∷ [])) (chosen-tab r n w k) ∙ sym (tab-suc k (pick r n w))

-- there are k of them
pub length-chosen : (r : ℕ → ℕ) (n w k : ℕ) → length (chosen r n w k) ≡ k
length-chosen r n w k = ap length (chosen-tab r n w k) ∙ length-tab k (pick r n w)

-- the one at place j is that of step j + 1
pub chosen_at : (r : ℕ → ℕ) (n w k j : ℕ) → j < k → at (chosen r n w k) j ≡ pick r n w j
chosen_at r n w k j h = ap (λ l. at l j) (chosen-tab r n w k) ∙ tab-at k (pick r n w) 0 j h

-- T by columns lists them all
pub basis-tab : (f : ℕ → ℕ) (n w : ℕ) → basis_of f n w ≡ tab n (pick (shift f n) n w)
unfolding basis_of
basis-tab f n w = chosen-tab (shift f n) n w n

-- column j is the number of step j + 1
pub basis-at : (f : ℕ → ℕ) (n w j : ℕ) → j < n → at (basis_of f n w) j ≡ pick (shift f n) n w j
unfolding basis_of
basis-at f n w j h = chosen_at (shift f n) n w n j h

-- ---- what the candidates depend on

-- the XORs of k numbers depend on those k alone
pub span-cong : (c d : ℕ → ℕ) (k : ℕ) → ((j : ℕ) → j < k → c j ≡ d j) → (t : ℕ) → span c k t ≡ span d k t
unfolding span
span-cong c d zero h t = refl
span-cong c d (suc k) h t =
    ap₂ ◌||◌ (span-cong c d k (λ j l. h j (omega arith)) t)
    (ap (λ (x : ℕ). span c k (bit_xor t x)) (h k (omega arith)) ∙ span-cong c d k (λ j l. h j (omega arith)) (bit_xor t (d k)))

-- and so do the candidates after them
pub candidate-cong : (w : ℕ) (c d : ℕ → ℕ) (k : ℕ) → ((j : ℕ) → j < k → c j ≡ d j) → (t : ℕ) → candidate w c k t ≡ candidate w d k t
unfolding candidate
candidate-cong w c d k h t = ap (λ (b : Bool). leb 1 (ones t) && (leb (ones t) w && not b)) (span-cong c d k h t)

-- a candidate has 1 to w one-bits
pub candidate-ones : (w : ℕ) (c : ℕ → ℕ) (k t : ℕ) → candidate w c k t ≡ true → (1 ≤ ones t) × (ones t ≤ w)
unfolding candidate
candidate-ones w c k t h = go (leb 1 (ones t)) (leb (ones t) w) refl refl h
  where
    go : (a b : Bool) → leb 1 (ones t) ≡ a → leb (ones t) w ≡ b → a && (b && not (span c k t)) ≡ true → (1 ≤ ones t) × (ones t ≤ w)
    go true true d e p = (leb-true 1 (ones t) d, leb-true (ones t) w e)
    go true false d e p = absurd (false≢true p)
    go false b d e p = absurd (false≢true p)

-- ---- one step

-- each number is the search's result among the candidates that those before it leave
pub pick-best : (r : ℕ → ℕ) (n w k : ℕ) → pick r n w k ≡ best (before r) (candidate w (pick r n w) k) (2 ^ n)
unfolding pick next
pick-best r n w k =
    best-cong (before r) (candidate w (at (chosen r n w k)) k) (candidate w (pick r n w) k) (2 ^ n)
    (λ t l. candidate-cong w (at (chosen r n w k)) (pick r n w) k (chosen_at r n w k) t)

-- it is a number of n bits
pub pick-lt : (r : ℕ → ℕ) (n w k : ℕ) → pick r n w k < 2 ^ n
pick-lt r n w k = rw (pick-best r n w k) (best-lt (before r) (candidate w (pick r n w) k) (2 ^ n) (2 ^ n) (omega arith) (pow_pos n))

-- ---- what the numbers depend on

-- the order of two numbers depends on their R alone
pub before-cong : (r q : ℕ → ℕ) (a b : ℕ) → r a ≡ q a → r b ≡ q b → before r a b ≡ before q a b
unfolding before
before-cong r q a b h k = rw (h, k)

-- r and q agree where the rule asks for R: on the numbers below 2^n with 1 to w one-bits
abbrev pub Agree : (ℕ → ℕ) → (ℕ → ℕ) → ℕ → ℕ → Type 0
Agree r q n w = (t : ℕ) → t < 2 ^ n → 1 ≤ ones t → ones t ≤ w → r t ≡ q t

module _ (r q : ℕ → ℕ) (n w : ℕ) (h : Agree r q n w) where
  next-cong : (k : ℕ) (cs : List ℕ) → next r n w k cs ≡ next q n w k cs
  unfolding next
  next-cong k cs =
      best-agree (before r) (before q) (candidate w (at cs) k) (2 ^ n)
      (λ a b l m p s. before-cong r q a b (of a l (candidate-ones w (at cs) k a p)) (of b m (candidate-ones w (at cs) k b s)))
    where
      of : (t : ℕ) → t < 2 ^ n → (1 ≤ ones t) × (ones t ≤ w) → r t ≡ q t
      of t l p = h t l p.0 p.1

  -- so the lists depend on R there alone
  pub chosen-cong : (k : ℕ) → chosen r n w k ≡ chosen q n w k
  unfolding chosen
  chosen-cong zero = refl
  chosen-cong (suc k) = rw (chosen-cong k, next-cong k (chosen q n w k))

  -- and so does each number
  pub pick-cong : (k : ℕ) → pick r n w k ≡ pick q n w k
  unfolding pick
  pick-cong k = rw (chosen-cong k, next-cong k (chosen q n w k))
