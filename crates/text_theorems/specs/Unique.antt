-- The reader's answer is known from its numbers: no second answer has the same (`numbers-one`). Assumes nothing.
use Rattle.std.specs.Prelude.{◌≡◌, refl, cond, ℕ, eqb, Result, Ok, Err}
use Rattle.std.proofs.Common.{sym, ap, ◌∙◌, arith}
use Rattle.block.specs.Text.{kind_number, numbers}
use Rattle.block.specs.declared.ReadAnswer.{ReadAnswer}
use Rattle.block.specs.declared.Kind.{Kind}
use Rattle.block.specs.declared.Headings.{Headings}
use Rattle.block.specs.declared.Refusal.{Refusal}
use Rattle.block.specs.declared.Kind.TheVariants.{Inputs, Outputs, Count, Room, Form}

-- the kind with a number
kind_of : ℕ → Kind
kind_of n = cond (eqb n 1) Inputs (cond (eqb n 2) Outputs (cond (eqb n 4) Count (cond (eqb n 5) Room Form)))

kind-back : (kind : Kind) → kind_of (kind_number kind) ≡ kind
unfolding kind_of
kind-back Inputs = refl
kind-back Outputs = refl
kind-back Count = refl
kind-back Room = refl
kind-back Form = refl

kind-one : (kind other : Kind) → kind_number kind ≡ kind_number other → kind ≡ other
kind-one kind other e = sym (kind-back kind) ∙ ap kind_of e ∙ kind-back other

no_kind : {A : Type 0} (kind : Kind) → kind_number kind ≡ 0 → A
no_kind Inputs e = absurd (omega arith)
no_kind Outputs e = absurd (omega arith)
no_kind Count e = absurd (omega arith)
no_kind Room e = absurd (omega arith)
no_kind Form e = absurd (omega arith)

pub numbers-one : (r s : Result Headings Refusal) → numbers r ≡ numbers s → r ≡ s
numbers-one (Ok h) (Ok g) e =
    ap (λ (a : ReadAnswer). Ok (record { n = a.n; k = a.k; block_type = a.block_type; type_line = a.type_line; count = a.count })) e
numbers-one (Ok h) (Err s) e = no_kind s.kind (sym (ap (λ (a : ReadAnswer). a.number) e))
numbers-one (Err r) (Ok g) e = no_kind r.kind (ap (λ (a : ReadAnswer). a.number) e)
numbers-one (Err r) (Err s) e = same (kind-one r.kind s.kind (ap (λ (a : ReadAnswer). a.number) e))
    (ap (λ (a : ReadAnswer). a.a) e) (ap (λ (a : ReadAnswer). a.b) e)
  where
    same : {k k' : Kind} {a a' b b' : ℕ} → k ≡ k' → a ≡ a' → b ≡ b'
        → ◌≡◌ {A = Result Headings Refusal} (Err (record { kind = k; a = a; b = b })) (Err (record { kind = k'; a = a'; b = b' }))
    same p q t = rw (p, q, t)
