-- `model_reading::lines_before` meets its contract: as many lines end as bytes are LF. Assumes nothing.
use Rattle.std.proofs.Common.{◌≡◌, refl, Bool, true, false, cond, List, ℕ, ◌+◌, eqb, take, arith}
use Rattle.std.specs.List.{count_by}
use Rattle.std.proofs.lemmas.Grind.{common_steps}
use borrow.Author.Rules.{rules}
use Rattle.std.proofs.lemmas.List.Recursion.{is_count_by}
use Rattle.sums.specs.Sums.{one}
use Rattle.read_names.specs.Fate.{ends}
use Rattle.model_reading.proofs.lines_before.Goals as goal

-- the lines that end are counted by their last bytes
line_count : (l : List ℕ) → ends l ≡ count_by (λ b. eqb b 10) l
unfolding ends
line_count = is_count_by ends (λ b. eqb b 10) refl (λ b l. go (eqb b 10) (ends l))
  where
    go : (q : Bool) (n : ℕ) → one q + n ≡ cond q (1 + n) n
    go true n = refl
    go false n = omega arith

pub returns-clause-value : goal.returns-clause-value
returns-clause-value c =
    let a = c.args in
    let m = c.min.ensures in
    let s : take c.min.result a.text.now ≡ take a.at a.text.now = grind (arith, common_steps) in
    let e : c.count.result ≡ count_by (λ b. eqb b 10) (take c.min.result a.text.now) = search rules in
    rw (line_count (take a.at a.text.now), ← s) e
