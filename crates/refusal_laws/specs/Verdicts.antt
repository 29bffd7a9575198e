-- The verdict of a list of checks is the first that holds: one check; what an answer of 0 says, of all and check by check; a list in two
-- parts, and lists asked one after the other; what goes with an answer and with a refusal. Assumes nothing.
use Rattle.std.specs.Prelude.{◌≡◌, refl, Bool, true, false, cond, List, [], ◌∷◌, ◌++◌, ℕ, zero, suc, ◌<◌, eqb, length, get_or}
use Rattle.std.proofs.Common.{sym, ap, ◌∙◌, arith, eqb-true, eq-eqb, ne_eqb, le-ltb, ltb-false}
use Rattle.std.proofs.lemmas.Bool.{false≢true}
use Rattle.std.proofs.Math.Decide.{ℕ_discrete}
use Rattle.slices.specs.Places.{first, over}
use Rattle.slices.specs.Least.{first-is, first_below}
use Rattle.block.specs.Refusals.{Check, check, answer, verdict, answered, and_then, carried, stored, some}
use Rattle.block.specs.Tables.{with_value, with_measures}
use Rattle.block.specs.Lists.{with_rows}
use Rattle.block.specs.Text.{with_bytes}
use Rattle.block.specs.declared.Answer.{Answer}
use Rattle.block.specs.declared.TextAnswer.{TextAnswer}

-- ---- one check

pub verdict-hit : (c : Check) (cs : List Check) → c.holds ≡ true → verdict (c ∷ cs) ≡ answer c.number c.a c.b
unfolding verdict
verdict-hit c cs h = rw h

pub verdict-miss : (c : Check) (cs : List Check) → c.holds ≡ false → verdict (c ∷ cs) ≡ verdict cs
unfolding verdict
verdict-miss c cs h = rw h

pub verdict-none : verdict [] ≡ answer 0 0 0
unfolding verdict
verdict-none = refl

-- a check that looks for some number does not hold exactly where none passes
pub none_passes : (m : ℕ) (p : ℕ → Bool) → ((i : ℕ) → i < m → p i ≡ false) → some m p ≡ false
none_passes m p h = le-ltb _ m (rw (first-is m p m (omega arith) h (λ b. absurd (omega arith))) (omega arith))

pub passes_none : (m : ℕ) (p : ℕ → Bool) → some m p ≡ false → (i : ℕ) → i < m → p i ≡ false
passes_none m p h i l = first_below m p i (omega (arith, ltb-false (first m p) m h))

-- ---- what an answer of 0 says

-- a check that never holds, past the end of a list
abbrev never : Check
never = check false 0 0 0

-- check i of a list
abbrev pub check_at : List Check → ℕ → Check
check_at cs i = get_or cs i never

-- every check of a list has a number of its own, not 0
abbrev pub Numbered : List Check → Type 0
Numbered [] = Unit {0}
Numbered (c ∷ cs) = (eqb c.number 0 ≡ false) × Numbered cs

-- an answer of 0 says that no check holds
pub answered-clear : (cs : List Check) → Numbered cs → answered (verdict cs) ≡ true
    → (j : ℕ) → j < length cs → (check_at cs j).holds ≡ false
answered-clear [] nn e j h = absurd (omega arith)
answered-clear (c ∷ cs) nn e j h = go (answered-clear cs nn.1) c.holds refl j h
  where
    go : (answered (verdict cs) ≡ true → (j : ℕ) → j < length cs → (check_at cs j).holds ≡ false)
        → (b : Bool) → c.holds ≡ b → (j : ℕ) → j < suc (length cs) → (check_at (c ∷ cs) j).holds ≡ false
    go ih true d j h = absurd (false≢true (sym nn.0 ∙ sym (ap answered (verdict-hit c cs d)) ∙ e))
    go ih false d zero h = d
    go ih false d (suc j) h = ih (sym (ap answered (verdict-miss c cs d)) ∙ e) j (omega arith)

-- an answer of 0 that is some verdict
pub zero-too : {v u : Answer} → v ≡ u → v.number ≡ 0 → u.number ≡ 0
zero-too e h = sym (ap (λ (v : Answer). v.number) e) ∙ h

-- where the verdict has the number m, a check with another number does not hold, and the rest have the number m
pub passed_over : (m : ℕ) (c : Check) (cs : List Check) → eqb c.number m ≡ false → (verdict (c ∷ cs)).number ≡ m
    → (c.holds ≡ false) × ((verdict cs).number ≡ m)
passed_over m c cs n e = go c.holds refl
  where
    number_of : {v : Answer} → verdict (c ∷ cs) ≡ v → v.number ≡ m
    number_of d = sym (ap (λ (v : Answer). v.number) d) ∙ e

    go : (b : Bool) → c.holds ≡ b → (c.holds ≡ false) × ((verdict cs).number ≡ m)
    go true d = absurd (false≢true (sym n ∙ eq-eqb c.number m (number_of (verdict-hit c cs d))))
    go false d = (d, number_of (verdict-miss c cs d))

-- an answer of 0 check by check: the first does not hold, and the rest answer 0
pub passes : (c : Check) (cs : List Check) → eqb c.number 0 ≡ false → (verdict (c ∷ cs)).number ≡ 0
    → (c.holds ≡ false) × ((verdict cs).number ≡ 0)
passes = passed_over 0

-- ---- a list in two parts: the second counts where the first answers 0

pub verdict-then : (cs ds : List Check) → answered (verdict cs) ≡ true → Numbered cs → verdict (cs ++ ds) ≡ verdict ds
verdict-then [] ds e nn = refl
verdict-then (c ∷ cs) ds e nn = go (λ h. verdict-then cs ds h nn.1) c.holds refl
  where
    go : (answered (verdict cs) ≡ true → verdict (cs ++ ds) ≡ verdict ds) → (b : Bool) → c.holds ≡ b
        → verdict (c ∷ (cs ++ ds)) ≡ verdict ds
    go ih true d = absurd (false≢true (sym nn.0 ∙ sym (ap answered (verdict-hit c cs d)) ∙ e))
    go ih false d = verdict-miss c (cs ++ ds) d ∙ ih (sym (ap answered (verdict-miss c cs d)) ∙ e)

pub verdict-stop : (cs ds : List Check) → answered (verdict cs) ≡ false → verdict (cs ++ ds) ≡ verdict cs
verdict-stop [] ds e = absurd (false≢true (sym e ∙ ap answered verdict-none))
verdict-stop (c ∷ cs) ds e = go (λ h. verdict-stop cs ds h) c.holds refl
  where
    go : (answered (verdict cs) ≡ false → verdict (cs ++ ds) ≡ verdict cs) → (b : Bool) → c.holds ≡ b
        → verdict (c ∷ (cs ++ ds)) ≡ verdict (c ∷ cs)
    go ih true d = verdict-hit c (cs ++ ds) d ∙ sym (verdict-hit c cs d)
    go ih false d =
        verdict-miss c (cs ++ ds) d ∙ ih (sym (ap answered (verdict-miss c cs d)) ∙ e) ∙ sym (verdict-miss c cs d)

pub verdict-parts : (cs ds : List Check) → Numbered cs → verdict (cs ++ ds) ≡ and_then (verdict cs) (verdict ds)
verdict-parts cs ds nn = go (answered (verdict cs)) refl
  where
    go : (b : Bool) → answered (verdict cs) ≡ b → verdict (cs ++ ds) ≡ cond b (verdict ds) (verdict cs)
    go true e = verdict-then cs ds e nn
    go false e = verdict-stop cs ds e

-- ---- lists asked one after the other, as a function has it whose steps hand an earlier refusal on

-- such a step: the earlier refusal, or its own answer
pub then-refused : (v u : Answer) → (v.number ≡ 0 → ⊥) → v ≡ and_then v u
then-refused v u h = rw (ne_eqb v.number 0 h)

pub then-answered : (v u : Answer) → v.number ≡ 0 → u ≡ and_then v u
then-answered v u h = rw (eq-eqb v.number 0 h)

-- where the later answer is 0, so was the earlier
pub then-zero : (v u : Answer) → (and_then v u).number ≡ 0 → v.number ≡ 0
then-zero v u h = go (ℕ_discrete v.number 0)
  where
    go : Dec (v.number ≡ 0) → v.number ≡ 0
    go (yes z) = z
    go (no z) = zero-too (sym (then-refused v u z)) h

-- v is the verdict of the checks so far
pub record Asked (cs : List Check) (v : Answer) : Type 0 where
  pub numbered : Numbered cs
  pub told : v ≡ verdict cs

numbered-both : (cs ds : List Check) → Numbered cs → Numbered ds → Numbered (cs ++ ds)
numbered-both [] ds p q = q
numbered-both (c ∷ cs) ds p q = (p.0, numbered-both cs ds p.1 q)

-- a step that asks the checks ds
pub asked-then : {cs : List Check} {u : Answer} (ds : List Check) (v : Answer) → Asked cs u → Numbered ds → v ≡ and_then u (verdict ds)
    → Asked (cs ++ ds) v
asked-then {cs} {u} ds v p q e =
    record {
      numbered = numbered-both cs ds p.numbered q;
      told = e ∙ ap (λ (x : Answer). and_then x (verdict ds)) p.told ∙ sym (verdict-parts cs ds p.numbered);
    }

-- a step of one check, whose test is q where it is asked
pub asked-where : {cs : List Check} {u : Answer} (p q : Bool) (m a b : ℕ) (v : Answer) → Asked cs u → eqb m 0 ≡ false
    → v ≡ and_then u (verdict (check p m a b ∷ [])) → ((verdict cs).number ≡ 0 → p ≡ q) → Asked (cs ++ (check q m a b ∷ [])) v
asked-where {cs} {u} p q m a b v k n e same =
    asked-then (check q m a b ∷ []) v k (n, tt) (e ∙ go (answered u) refl)
  where
    go : (x : Bool) → answered u ≡ x → cond x (verdict (check p m a b ∷ [])) u ≡ cond x (verdict (check q m a b ∷ [])) u
    go true d =
        ap (λ (t : Bool). verdict (check t m a b ∷ [])) (same (zero-too k.told (eqb-true u.number 0 d)))
    go false d = refl

-- ---- what goes with an answer

pub carried-yes : (v : Answer) (x : ℕ) → v.number ≡ 0 → carried v x ≡ x
carried-yes v x h = rw (eq-eqb v.number 0 h)

pub stored-yes {ℓ} : {A : Type ℓ} (v : Answer) (s l : List A) → v.number ≡ 0 → stored v s l ≡ over s l
stored-yes v s l h = rw (eq-eqb v.number 0 h)

pub stored_no {ℓ} : {A : Type ℓ} (v : Answer) (s l : List A) → (v.number ≡ 0 → ⊥) → stored v s l ≡ l
stored_no v s l h = rw (ne_eqb v.number 0 h)

-- ---- the same, as a function has it that goes through its checks in parts

-- a part that refuses is the whole verdict
pub part-refuses : (v : Answer) (cs ds : List Check) → v ≡ verdict cs → (v.number ≡ 0 → ⊥) → v ≡ verdict (cs ++ ds)
part-refuses v cs ds e h = e ∙ sym (verdict-stop cs ds (sym (ap answered e) ∙ ne_eqb v.number 0 h))

-- a part that answers 0 leaves the verdict to the next
pub part-passes : (v : Answer) (cs ds : List Check) → v ≡ verdict cs → Numbered cs → v.number ≡ 0 → verdict ds ≡ verdict (cs ++ ds)
part-passes v cs ds e nn h = sym (verdict-then cs ds (sym (ap answered e) ∙ eq-eqb v.number 0 h) nn)

-- an answer's fields beside a value: the value itself on 0, and 0 with a refusal
pub value-refused : (v : Answer) (x : ℕ) → (v.number ≡ 0 → ⊥)
    → record { number = v.number; a = v.a; b = v.b; value = 0 } ≡ with_value v x
value-refused v x h = rw (ne_eqb v.number 0 h)

pub value-answered : (v : Answer) (x : ℕ) → v.number ≡ 0
    → record { number = v.number; a = v.a; b = v.b; value = x } ≡ with_value v x
value-answered v x h = rw (eq-eqb v.number 0 h)

-- likewise beside two measures
pub measures-refused : (v : Answer) (x y : ℕ) → (v.number ≡ 0 → ⊥)
    → record { number = v.number; a = v.a; b = v.b; before = 0; after = 0 } ≡ with_measures v x y
measures-refused v x y h = rw (ne_eqb v.number 0 h)

pub measures-answered : (v : Answer) (x y : ℕ) → v.number ≡ 0
    → record { number = v.number; a = v.a; b = v.b; before = x; after = y } ≡ with_measures v x y
measures-answered v x y h = rw (eq-eqb v.number 0 h)

-- likewise beside two measures and a number of rows
pub rows-refused : (v : Answer) (x y c : ℕ) → (v.number ≡ 0 → ⊥)
    → record { number = v.number; a = v.a; b = v.b; before = 0; after = 0; count = 0 } ≡ with_rows v x y c
rows-refused v x y c h = rw (ne_eqb v.number 0 h)

-- lent storage, where the verdict v is that of 01: kept with a refusal, with the result at its front on 0
pub kept {ℓ} : {A : Type ℓ} (v u : Answer) (s l : List A) → v ≡ u → (v.number ≡ 0 → ⊥) → l ≡ stored u s l
kept v u s l e h = sym (stored_no v s l h) ∙ ap (λ (v : Answer). stored v s l) e

pub given {ℓ} : {A : Type ℓ} (v u : Answer) (s l : List A) → v ≡ u → v.number ≡ 0 → over s l ≡ stored u s l
given v u s l e h = sym (stored-yes v s l h) ∙ ap (λ (v : Answer). stored v s l) e

-- an answer with a text's bytes, and the slice that it is written to, by a verdict
abbrev pub Written : Answer → List ℕ → List ℕ → TextAnswer → List ℕ → Type 0
Written v t l r l' = (r ≡ with_bytes v t) × (l' ≡ stored v t l)

-- a refusal has no bytes and leaves the slice alone
pub not_written : (u v : Answer) (t l : List ℕ) → u ≡ v → (u.number ≡ 0 → ⊥)
    → Written v t l (record { number = u.number; a = u.a; b = u.b; count = 0 }) l
not_written u v t l e h = rw (← e, ne_eqb u.number 0 h) (refl, refl)
