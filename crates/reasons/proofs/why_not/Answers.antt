-- `reasons::why_not` meets its contract. On 0 every check passed, so that the rows are disjoint, and the reason is found. Assumes nothing.
use native.Mathlib.Omega.{arith}
use borrow.Author.Tests.{eq-eqb, ne_eqb}
use lib.Pow.{pow_mono}
use Rattle.block.specs.Limits.{given_rows}
use Rattle.block.specs.Words.{rows_of}
use Rattle.block.specs.Reasons.{why_not}
use Rattle.refusal_laws.specs.Verdicts.{zero-too}
use Rattle.flat_rows.specs.Listing.{listed-rows}
use Rattle.answered_laws.specs.Passed.{WhyPassed, why-passed}
use Rattle.reasons.proofs.why_not.Goals as goal
use Rattle.reasons.proofs.why_not.Goals.{Else-v-ne0}

pub returns-then-v-ne0 : goal.returns-then-v-ne0
unfolding why_not
returns-then-v-ne0 c =
    record {
      answer = rw (← c.why_verdict-v.ensures, ne_eqb _ _ c.if-v-ne0.true);
      taken = rw (← c.why_verdict-v.ensures, ne_eqb _ _ c.if-v-ne0.true);
    }

-- what the checks say there
passed : (c : goal.Else-v-ne0) → WhyPassed c.args.n c.args.k c.args.block_type c.args.w c.args.t
    (rows_of c.args.masks.now c.args.values.now c.args.words.now)
passed c =
    let a = c.args in
    why-passed a.n a.k a.block_type a.w a.t (rows_of a.masks.now a.values.now a.words.now)
    (zero-too c.why_verdict-v.ensures c.if-v-ne0.false)

pub overflow_cast-t : goal.overflow_cast-t
overflow_cast-t c =
    let p = passed (goal.at.overflow_cast-t c).Else-v-ne0 in
    omega (arith, p.number, pow_mono p.list.range.size.1)

pub find_reason-reason-requires : goal.find_reason-reason-requires
find_reason-reason-requires c =
    let p = passed (goal.at.find_reason-reason-requires c).Else-v-ne0 in
    let range = p.list.range in
    let a = c.args in record {
      n_le_list_inputs = (range.size.1, p.weight.0, p.weight.1, omega (arith, range.size.1), p.number);
      listed = listed-rows given_rows a.masks.now a.values.now a.words.now range.count;
      disjoint = p.list.disjoint;
    }

pub returns : goal.returns
unfolding why_not
returns c =
    let found = c.find_reason-reason.ensures in
    record {
      answer = rw (← c.why_verdict-v.ensures, eq-eqb _ _ c.if-v-ne0.false, ← c.missing_word-missing.ensures, found.value);
      taken = rw (← c.why_verdict-v.ensures, eq-eqb _ _ c.if-v-ne0.false, ← c.missing_word-missing.ensures) found.taken_after;
    }
