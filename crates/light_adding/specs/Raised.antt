-- An array raised by w times g t at each t: once, in two goes, and how far; then by `ways`, as nested loops raise it. Assumes nothing.
use Rattle.std.specs.Prelude.{◌≡◌, List, ℕ, suc, ◌+◌, ◌*◌, ◌^◌, ◌≤◌, ◌<◌, eqb, length, set}
use Rattle.std.proofs.Common.{sym, ap, ◌∙◌, add-zero, mul-le-mul, mul-add, mul-zero, mul-one, arith, eq-eqb, ne_eqb, length-set, get_or-set_same, get_or-set_other}
use Rattle.std.proofs.Math.Decide.{ℕ_discrete}
use Rattle.std.specs.Int.Bits.{bit_xor}
use Rattle.slices.specs.Places.{at}
use Rattle.sums.specs.Sums.{one}
use Rattle.light_laws.specs.Ways.{ways}
use Rattle.light_laws.specs.Counted.{ways-flat, ways-none, ways-more}

-- no weight passes it, so that every sum on the way stays within 32 bits
abbrev pub most_weight : ℕ
most_weight = 2 ^ 18

-- the list m is l with w times g t added at each t
pub record Raised (w : ℕ) (g : ℕ → ℕ) (l m : List ℕ) : Type 0 where
  pub long : length m ≡ length l
  pub each : (t : ℕ) → t < length l → at m t ≡ at l t + w * g t

-- once at b
abbrev pub here : ℕ → ℕ → ℕ
here b t = one (eqb t b)

-- a loop has made m of l: whatever l is raised from by f, m is raised from it by g
abbrev pub Since : ℕ → (ℕ → ℕ) → (ℕ → ℕ) → List ℕ → List ℕ → Type 0
Since w f g l m = (s : List ℕ) → Raised w f s l → Raised w g s m

-- every entry is at most e
abbrev pub Below : ℕ → List ℕ → Type 0
Below e l = (t : ℕ) → t < length l → at l t ≤ e

-- an XOR of one of the first numbers of ps stays below the end
abbrev pub Inside : ℕ → List ℕ → ℕ → Type 0
Inside end ps top = (b k : ℕ) → b < end → k < top → bit_xor b (at ps k) < end

-- one entry raised once
pub raised-here : (w b x : ℕ) (l : List ℕ) → b < length l → x ≡ at l b + w → Raised w (here b) l (set l b x)
raised-here w b x l h e = record { long = length-set l b x; each = λ t i. go t (ℕ_discrete t b) }
  where
    go : (t : ℕ) → Dec (t ≡ b) → at (set l b x) t ≡ at l t + w * here b t
    go t (yes d) = rw (eq-eqb t b d, mul-one, d) (get_or-set_same l b x 0 h ∙ e)
    go t (no d) = rw (ne_eqb t b d, mul-zero, add-zero) (get_or-set_other l b t x 0 d)

-- raised in two goes
pub raised-then : (w : ℕ) (f g h : ℕ → ℕ) (l m k : List ℕ) → Raised w f l m → Raised w g m k → ((t : ℕ) → h t ≡ f t + g t) → Raised w h l k
raised-then w f g h l m k p q e =
    record {
      long = q.long ∙ p.long;
      each =
          λ t i.
          omega (
            arith,
            q.each t (omega (arith, p.long)),
            p.each t i,
            ap (λ (x : ℕ). w * x) (e t) ∙ mul-add w (f t) (g t),
          );
    }

-- as often, by another count
pub raised-as : (w : ℕ) (f h : ℕ → ℕ) (l m : List ℕ) → Raised w f l m → ((t : ℕ) → h t ≡ f t) → Raised w h l m
raised-as w f h l m p e =
    record { long = p.long; each = λ t i. p.each t i ∙ ap (λ (x : ℕ). at l t + w * x) (sym (e t)) }

-- how high the entries are then
pub raised-room : (w c e : ℕ) (g : ℕ → ℕ) (l m : List ℕ) → Raised w g l m → w ≤ most_weight → ((t : ℕ) → g t ≤ c) → Below e l → Below (e + most_weight * c) m
raised-room w c e g l m p h k b t i =
    let i' : t < length l = omega (arith, p.long) in
    omega (arith, p.each t i', b t i', mul-le-mul h (k t))

-- a loop over what is flipped begins
pub since_none : (w d : ℕ) (ps : List ℕ) (b : ℕ) (l : List ℕ) → Since w (here b) (ways d ps 0 b) l l
since_none w d ps b l s r = raised-as w (here b) (ways d ps 0 b) s l r (ways-none d ps b)

-- it goes on
pub since-more : (w d : ℕ) (ps : List ℕ) (k b : ℕ) (l m m' : List ℕ) → Since w (here b) (ways (suc d) ps k b) l m
    → Raised w (ways d ps k (bit_xor b (at ps k))) m m' → Since w (here b) (ways (suc d) ps (k + 1) b) l m'
since-more w d ps k b l m m' p q s r =
    raised-then w (ways (suc d) ps k b) (ways d ps k (bit_xor b (at ps k))) (ways (suc d) ps (k + 1) b) s m m' (p s r) q (ways-more d ps k b)

-- raised once, as where nothing is flipped
pub raised-flat : (w : ℕ) (ps : List ℕ) (k b : ℕ) (l m : List ℕ) → Raised w (here b) l m → Raised w (ways 0 ps k b) l m
raised-flat w ps k b l m p = raised-as w (here b) (ways 0 ps k b) l m p (ways-flat ps k b)

-- the loop ends
pub raised-whole : (w d : ℕ) (ps : List ℕ) (k top b : ℕ) (l m : List ℕ) → k ≡ top → Raised w (ways d ps k b) l m → Raised w (ways d ps top b) l m
raised-whole w d ps k top b l m e p = rw e at p

-- where so many may be flipped
pub raised-few : (w d e : ℕ) (ps : List ℕ) (top b : ℕ) (l m : List ℕ) → d ≡ e → Raised w (ways e ps top b) l m → Raised w (ways d ps top b) l m
raised-few w d e ps top b l m h p = rw h p
