-- What any lines that are not bad lead to can end in a whole model (`state-ends`): a chain goes on with the last input, rows that are left
-- are copies of input 0, and outputs that are left have no pattern. The good lines of a text are not bad, and with the next they are.
-- Assumes nothing.
use Rattle.std.specs.Prelude.{◌≡◌, refl, Bool, true, false, cond, List, [], ◌∷◌, ◌++◌, ℕ, zero, suc, ◌+◌, ◌-◌, ◌^◌, ◌≤◌, ◌<◌, length, take}
use Rattle.std.proofs.Common.{ap, ◌∙◌, arith, eq-eqb, ne_eqb, length-append}
use Rattle.std.proofs.Math.Pow.{pow-lt}
use Rattle.slices.specs.Places.{tab}
use Rattle.slices.specs.Filled.{length-tab}
use Rattle.block.specs.Limits.{list_inputs}
use Rattle.block.specs.Model.{part_name, chain, row_covers, inputs_of, back_covers, cover_lines, inputs_line, outputs_line, last_line}
use Rattle.block.specs.ModelRead.{State, Due, InputsDue, OutputsDue, RowDue, LinkDue, OutputDue, PatternDue, Outcome, More, Whole, Bad, next_row, onward, after, is_bad, good_lines, is_whole}
use Rattle.block.specs.declared.Pattern.{Pattern}
use Rattle.model_laws.specs.Inputs.{summed, Ascends}
use Rattle.model_laws.specs.Patterns.{Sounds, AllSound, all_more}
use Rattle.model_laws.specs.Accepted.{Sized, Led, LedTo}
use Rattle.model_laws.specs.Written.{due-same, chain-read, row-whole, outputs-read, inputs-step, outputs-step, head_read}

-- some lines more, and the model is whole
abbrev pub Ends : Outcome → Type 0
Ends o = (more : List (List ℕ)) × (is_whole (after o more) ≡ true)

pub after-append : (ls ms : List (List ℕ)) (o : Outcome) → after o (ls ++ ms) ≡ after (after o ls) ms
unfolding after
after-append [] ms o = refl
after-append (l ∷ ls) ms o = after-append ls ms (onward o l)

-- lines that lead on to what can end
ends-from : (o q : Outcome) (ls : List (List ℕ)) → ((rest : List (List ℕ)) → after o (ls ++ rest) ≡ after q rest) → Ends q → Ends o
ends-from o q ls h e = (ls ++ e.0, ap is_whole (h e.0) ∙ e.1)

-- ---- the outputs

-- outputs without a pattern
abbrev bare : ℕ → List Pattern
bare j = []

abbrev empties : ℕ → List (List Pattern)
empties k = tab k bare

empties-sound : (n k : ℕ) → AllSound n (empties k)
unfolding Sounds AllSound tab
empties-sound n zero = tt
empties-sound n (suc k) = all_more n (empties k) [] (empties-sound n k) tt

pattern-ends : (n k : ℕ) (sigma : List ℕ) (qs : List (List Pattern)) (ps : List Pattern) → 1 ≤ n → length qs < k
    → Ends (More (PatternDue n k sigma qs ps))
pattern-ends n k sigma qs ps pos h =
    let d : ℕ = k - suc (length qs) in (
      cover_lines (back_covers n (suc (length qs)) (empties d)) ++ (last_line ∷ []),
      ap is_whole (outputs-read n k sigma pos (empties d) qs ps (omega (arith, length-tab d bare)) (empties-sound n d)),
    )

output-ends : (n k : ℕ) (sigma : List ℕ) → 1 ≤ n → 1 ≤ k → Ends (More (OutputDue n k sigma))
output-ends n k sigma pos h = (
  cover_lines (back_covers n 0 (empties k)) ++ (last_line ∷ []),
  ap is_whole (head_read n k sigma (empties k) pos h (length-tab k bare) (empties-sound n k)),
)

-- ---- the rows

row_ends : (n k : ℕ) → Sized n k → (d : ℕ) (rs : List ℕ) → length rs + d ≡ n → Ends (More (next_row n k rs))
row_ends n k s zero rs e =
    rw (eq-eqb (length rs) n (omega arith)) (output-ends n k rs s.inputs.0 s.outs.0)
row_ends n k s (suc d) rs e =
    rw (ne_eqb (length rs) n (λ q. omega arith))
    (ends-from (More (RowDue n k rs)) (More (next_row n k (rs ++ (1 ∷ [])))) (cover_lines (row_covers (length rs) (inputs_of n 1)))
    (λ rest. row-whole n k rs (omega (arith, s.inputs.1)) 1 rest (omega arith) (pow-lt {i = 0} {j = n} s.inputs.0))
    (row_ends n k s d (rs ++ (1 ∷ [])) (omega (arith, length-append rs (1 ∷ [])))))

due-ends : (n k : ℕ) (rs : List ℕ) → Sized n k → length rs < n → Ends (More (RowDue n k rs))
due-ends n k rs s h =
    let e = row_ends n k s (n - length rs) rs (omega arith) in
    rw (ne_eqb (length rs) n (λ q. omega arith)) at e

-- a chain whose inputs so far are below the last one goes on with it
link-ends : (n k : ℕ) (rs : List ℕ) (m p : ℕ) → Sized n k → length rs < n → m < 2 ^ (n - 1) → Ends (More (LinkDue n k rs m p))
unfolding Ascends
link-ends n k rs m p s h l =
    ends-from (More (LinkDue n k rs m p)) (More (next_row n k (rs ++ (summed m (b ∷ []) ∷ []))))
    (cover_lines (chain (length rs) (part_name (length rs) p) (suc p) (b ∷ [])))
    (λ rest. chain-read n k rs (omega (arith, s.inputs.1)) b [] m p rest (l, omega arith, tt))
    (row_ends n k s (n - suc (length rs)) (rs ++ (summed m (b ∷ []) ∷ [])) (omega (arith, length-append rs (summed m (b ∷ []) ∷ []))))
  where
    b : ℕ
    b = n - 1

-- ---- any state

outputs-end : (n : ℕ) → 1 ≤ n → n ≤ list_inputs → Ends (More (OutputsDue n))
unfolding after
outputs-end n l h =
    ends-from (More (OutputsDue n)) (More (RowDue n 1 [])) (outputs_line 1 ∷ [])
    (λ rest. ap (λ (o : Outcome). after o rest) (outputs-step n 1 (omega arith) (omega arith)))
    (due-ends n 1 [] (record { inputs = (l, h); outs = (omega arith, omega arith) }) (omega arith))

pub state-ends : (pre : List (List ℕ)) (s : State) → Led pre s → Ends (More s)
unfolding Led after
state-ends pre (Due l s) h = ends-from (More (Due l s)) (More s) (l ∷ []) (λ rest. due-same l s rest) (state-ends (pre ++ (l ∷ [])) s h)
state-ends pre InputsDue h =
    ends-from (More InputsDue) (More (OutputsDue 1)) (inputs_line 1 ∷ [])
    (λ rest. ap (λ (o : Outcome). after o rest) (inputs-step 1 (omega arith) (omega arith))) (outputs-end 1 (omega arith) (omega arith))
state-ends pre (OutputsDue n) h = outputs-end n h.1 h.2
state-ends pre (RowDue n k rs) h = due-ends n k rs h.0.sized h.0.few
state-ends pre (LinkDue n k rs m p) h = link-ends n k rs m p h.0.sized h.0.few h.2
state-ends pre (OutputDue n k sigma) h = output-ends n k sigma h.0.sized.inputs.0 h.0.sized.outs.0
state-ends pre (PatternDue n k sigma qs ps) h = pattern-ends n k sigma qs ps h.0.sized.inputs.0 h.1

pub outcome-ends : (pre : List (List ℕ)) (o : Outcome) → LedTo pre o → is_bad o ≡ false → Ends o
unfolding LedTo after
outcome-ends pre (More s) h e = state-ends pre s h
outcome-ends pre (Whole n k sigma qs) h e = ([], refl)
outcome-ends pre Bad h e = let z : ◌≡◌ {A = ℕ} 0 1 = cc in absurd (omega arith)

-- ---- the good lines

pub good-lines : (ls : List (List ℕ)) (o : Outcome) → is_bad o ≡ false → is_bad (after o (take (good_lines o ls) ls)) ≡ false
unfolding good_lines after
good-lines [] o h = h
good-lines (l ∷ ls) o h = go (is_bad (onward o l)) refl (good-lines ls (onward o l))
  where
    go : (b : Bool) → is_bad (onward o l) ≡ b
        → (is_bad (onward o l) ≡ false → is_bad (after (onward o l) (take (good_lines (onward o l) ls) ls)) ≡ false)
        → is_bad (after o (take (cond b 0 (suc (good_lines (onward o l) ls))) (l ∷ ls))) ≡ false
    go true e ih = h
    go false e ih = ih e

pub next-bad : (ls : List (List ℕ)) (o : Outcome) → good_lines o ls < length ls → is_bad (after o (take (suc (good_lines o ls)) ls)) ≡ true
unfolding good_lines after
next-bad [] o h = absurd (omega arith)
next-bad (l ∷ ls) o h = go (is_bad (onward o l)) refl (next-bad ls (onward o l)) h
  where
    go : (b : Bool) → is_bad (onward o l) ≡ b
        → (good_lines (onward o l) ls < length ls → is_bad (after (onward o l) (take (suc (good_lines (onward o l) ls)) ls)) ≡ true)
        → cond b 0 (suc (good_lines (onward o l) ls)) < length (l ∷ ls)
        → is_bad (after o (take (suc (cond b 0 (suc (good_lines (onward o l) ls)))) (l ∷ ls))) ≡ true
    go true e ih k = e
    go false e ih k = ih (omega arith)

after-bad : (ls : List (List ℕ)) → after Bad ls ≡ Bad
unfolding after
after-bad [] = refl
after-bad (l ∷ ls) = after-bad ls

-- nothing whole comes after a bad line
pub bad-stays : (o : Outcome) (ls : List (List ℕ)) → is_bad o ≡ true → is_whole (after o ls) ≡ false
bad-stays (More s) ls e = let z : ◌≡◌ {A = ℕ} 0 1 = cc in absurd (omega arith)
bad-stays (Whole n k sigma qs) ls e = let z : ◌≡◌ {A = ℕ} 0 1 = cc in absurd (omega arith)
bad-stays Bad ls e = ap is_whole (after-bad ls)

-- there are no more good lines than lines
pub good-within : (ls : List (List ℕ)) (o : Outcome) → good_lines o ls ≤ length ls
unfolding good_lines
good-within [] o = omega arith
good-within (l ∷ ls) o = go (is_bad (onward o l)) (good-within ls (onward o l))
  where
    go : (b : Bool) → good_lines (onward o l) ls ≤ length ls → cond b 0 (suc (good_lines (onward o l) ls)) ≤ suc (length ls)
    go true h = omega arith
    go false h = omega arith
