-- A reason is a line of 01's table: a number, and a condition on what the caller gave and on the two places. `Exactly` says that an answer
-- is given by a list of reasons: a refusal exactly when its reason holds at its places and no earlier reason holds, 0 exactly when none
-- does. The verdict of a list of checks is so given where each check decides its reason (`decided-exactly`). Assumes nothing.
use Rattle.std.specs.Prelude.{◌≡◌, refl, Bool, true, false, List, [], ◌∷◌, ◌↔◌, ℕ, zero, suc, ◌<◌}
use Rattle.std.proofs.Common.{sym, ap, ◌∙◌, arith}
use Rattle.std.proofs.lemmas.Bool.{false≢true}
use Rattle.block.specs.Refusals.{Check, answer, verdict}
use Rattle.block.specs.declared.Answer.{Answer}
use Rattle.refusal_laws.specs.Verdicts.{verdict-hit, verdict-miss, verdict-none}

-- ---- what is said

-- a line of 01's table: the number, and when it is given with the places A and B
pub record Reason : Type 1 where
  pub number : ℕ
  pub when : ℕ → ℕ → Type 0

-- a line that names places
abbrev pub placed : ℕ → (ℕ → ℕ → Type 0) → Reason
placed number when = record { number = number; when = when }

-- a line that names no place
abbrev pub plain : ℕ → Type 0 → Reason
plain number P = placed number (λ a b. P × (a ≡ 0) × (b ≡ 0))

-- the reason holds at no places
abbrev pub Never : Reason → Type 0
Never r = (a b : ℕ) → r.when a b → ⊥

-- reason i of a list; past its end, one that never holds
abbrev pub reason_at : List Reason → ℕ → Reason
reason_at [] i = placed 0 (λ a b. ⊥)
reason_at (r ∷ rs) zero = r
reason_at (r ∷ rs) (suc i) = reason_at rs i

-- reason i has the number m and holds at a and b, and no earlier one holds
pub record Earliest (rs : List Reason) (i m a b : ℕ) : Type 0 where
  pub number : (reason_at rs i).number ≡ m
  pub holds : (reason_at rs i).when a b
  pub earlier : (j : ℕ) → j < i → Never (reason_at rs j)

-- the answer v is given as the lines say
pub record Exactly (rs : List Reason) (v : Answer) : Type 0 where
  -- a refusal m with the places a and b
  pub refused : (m a b : ℕ) → (m ≡ 0 → ⊥) → (v ≡ answer m a b) ↔ ((i : ℕ) × Earliest rs i m a b)
  -- 0
  pub answered : (v.number ≡ 0) ↔ ((i : ℕ) → Never (reason_at rs i))
  -- which names no place
  pub unplaced : v.number ≡ 0 → v ≡ answer 0 0 0

-- ---- where it follows

-- the check holds exactly where the reason does, and its places are the only ones
pub record Decides (c : Check) (r : Reason) : Type 0 where
  pub same : c.number ≡ r.number
  pub refuses : c.number ≡ 0 → ⊥
  pub sound : c.holds ≡ true → r.when c.a c.b
  pub only : (a b : ℕ) → r.when a b → (c.holds ≡ true) × (c.a ≡ a) × (c.b ≡ b)

-- likewise check by check
infixr 5 ◌also◌
pub data Decided : List Check → List Reason → Type 1 where
  done : Decided [] []
  ◌also◌ : {c : Check} {r : Reason} {cs : List Check} {rs : List Reason} → Decides c r → Decided cs rs → Decided (c ∷ cs) (r ∷ rs)

-- a check that does not hold
missed : {c : Check} {r : Reason} → Decides c r → c.holds ≡ false → Never r
missed d e a b w = false≢true (sym e ∙ (d.only a b w).0)

passed : (c : Check) (r : Reason) → Decides c r → Never r → c.holds ≡ false
passed c r d w = go c.holds refl
  where
    go : (p : Bool) → c.holds ≡ p → c.holds ≡ false
    go true e = absurd (w c.a c.b (d.sound e))
    go false e = e

number_of : {u v : Answer} → u ≡ v → u.number ≡ v.number
number_of e = ap (λ (a : Answer). a.number) e

pub refused-only : (cs : List Check) (rs : List Reason) → Decided cs rs → (m a b : ℕ) → (m ≡ 0 → ⊥) → verdict cs ≡ answer m a b
    → (i : ℕ) × Earliest rs i m a b
refused-only [] [] done m a b h e = absurd (h (sym (number_of e) ∙ number_of verdict-none))
refused-only [] (r ∷ rs) x m a b h e = elim x [ ]
refused-only (c ∷ cs) [] x m a b h e = elim x [ ]
refused-only (c ∷ cs) (r ∷ rs) (d also ds) m a b h e = go (λ f. refused-only cs rs ds m a b h f) c.holds refl
  where
    here : answer c.number c.a c.b ≡ answer m a b → r.when c.a c.b → Earliest (r ∷ rs) 0 m a b
    here q w =
        let x : c.a ≡ a = ap (λ (v : Answer). v.a) q in
        let y : c.b ≡ b = ap (λ (v : Answer). v.b) q in
        record { number = sym d.same ∙ number_of q; holds = rw (x, y) at w; earlier = λ j l. absurd (omega arith) }

    after : Never r → (i : ℕ) × Earliest rs i m a b → (i : ℕ) × Earliest (r ∷ rs) i m a b
    after w (i, f) = (suc i, record { number = f.number; holds = f.holds; earlier = back })
      where
        back : (j : ℕ) → j < suc i → Never (reason_at (r ∷ rs) j)
        back zero l = w
        back (suc j) l = f.earlier j (omega arith)

    go : (verdict cs ≡ answer m a b → (i : ℕ) × Earliest rs i m a b) → (p : Bool) → c.holds ≡ p → (i : ℕ) × Earliest (r ∷ rs) i m a b
    go ih true q = (0, here (sym (verdict-hit c cs q) ∙ e) (d.sound q))
    go ih false q = after (missed d q) (ih (sym (verdict-miss c cs q) ∙ e))

pub refused-when : (cs : List Check) (rs : List Reason) → Decided cs rs → (i m a b : ℕ) → Earliest rs i m a b → verdict cs ≡ answer m a b
refused-when [] [] done i m a b f = absurd f.holds
refused-when [] (r ∷ rs) x i m a b f = elim x [ ]
refused-when (c ∷ cs) [] x i m a b f = elim x [ ]
refused-when (c ∷ cs) (r ∷ rs) (d also ds) zero m a b f =
    let w = d.only a b f.holds in
    verdict-hit c cs w.0 ∙ rw (d.same, f.number, w.1, w.2)
refused-when (c ∷ cs) (r ∷ rs) (d also ds) (suc i) m a b f =
    verdict-miss c cs (passed c r d (f.earlier 0 (omega arith)))
    ∙ refused-when cs rs ds i m a b (record { number = f.number; holds = f.holds; earlier = λ j l. f.earlier (suc j) (omega arith) })

pub answered-only : (cs : List Check) (rs : List Reason) → Decided cs rs → (verdict cs).number ≡ 0 → (i : ℕ) → Never (reason_at rs i)
answered-only [] [] done e i = λ a b w. w
answered-only [] (r ∷ rs) x e i = elim x [ ]
answered-only (c ∷ cs) [] x e i = elim x [ ]
answered-only (c ∷ cs) (r ∷ rs) (d also ds) e i = go (answered-only cs rs ds) c.holds refl i
  where
    go : ((verdict cs).number ≡ 0 → (i : ℕ) → Never (reason_at rs i)) → (p : Bool) → c.holds ≡ p → (i : ℕ) → Never (reason_at (r ∷ rs) i)
    go ih true q i = absurd (d.refuses (sym (number_of (verdict-hit c cs q)) ∙ e))
    go ih false q zero = missed d q
    go ih false q (suc i) = ih (sym (number_of (verdict-miss c cs q)) ∙ e) i

pub answered-when : (cs : List Check) (rs : List Reason) → Decided cs rs → ((i : ℕ) → Never (reason_at rs i)) → verdict cs ≡ answer 0 0 0
answered-when [] [] done w = verdict-none
answered-when [] (r ∷ rs) x w = elim x [ ]
answered-when (c ∷ cs) [] x w = elim x [ ]
answered-when (c ∷ cs) (r ∷ rs) (d also ds) w = verdict-miss c cs (passed c r d (w 0)) ∙ answered-when cs rs ds (λ i. w (suc i))

pub decided-exactly : (cs : List Check) (rs : List Reason) → Decided cs rs → Exactly rs (verdict cs)
decided-exactly cs rs d =
    record {
      refused = λ m a b h. (refused-only cs rs d m a b h, λ (i, f). refused-when cs rs d i m a b f);
      answered = (answered-only cs rs d, λ w. number_of (answered-when cs rs d w));
      unplaced = λ e. answered-when cs rs d (answered-only cs rs d e);
    }

-- a number other than 0 is given exactly when one of its reasons is the earliest that holds
pub number-exactly : {rs : List Reason} {v : Answer} → Exactly rs v → (m : ℕ) → (m ≡ 0 → ⊥)
    → (v.number ≡ m) ↔ ((i : ℕ) × (a : ℕ) × (b : ℕ) × Earliest rs i m a b)
number-exactly {rs} {v} x m h = (
  λ e. let w = (x.refused m v.a v.b h).0 (ap (λ (z : ℕ). answer z v.a v.b) e) in (w.0, v.a, v.b, w.1),
  λ (i, a, b, f). number_of ((x.refused m a b h).1 (i, f)),
)
