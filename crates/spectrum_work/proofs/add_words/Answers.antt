use Rattle.std.proofs.Common.{◌≡◌, ℕ, zero, suc, ◌^◌, [], ◌∷◌, ◌++◌, length, pos, sym, ap, refl, ◌∙◌, add-one, arith, replicate}
use Rattle.std.proofs.lemmas.List.{replicate_more}
use Rattle.slices.specs.Places.{at, tab}
use Rattle.slices.specs.Filled.{length-tab}
use Rattle.spectrum_work.specs.Words.{below, words-first, words-next, words_small, words-all}
use Rattle.spectrum_work.proofs.add_words.Goals as goal

-- a list of one value again and again lists that value at each place
filled : {A : Type 0} (m n : ℕ) (x : A) → m ≡ n → replicate m x ≡ tab n (λ _. x)
unfolding tab
filled zero n x e = rw (sym e)
filled (suc m) n x e =
    rw (sym e)
    (ap (λ k. replicate k x) (sym (add-one m)) ∙ sym (replicate_more m x) ∙ ap (λ l. l ++ (x ∷ [])) (filled m m x refl))

pub loop-u-init : goal.loop-u-init
loop-u-init c = (
  c.next_word-u.ensures.most,
  c.fill.ensures.after (λ y e. e) ∙ filled _ _ (pos 0) c.requires.1,
  words-first c.args.table.now c.args.n c.requires.0 _ _ (c.fill-2.ensures.after (λ y e. e) ∙ filled _ _ 0 c.requires.2) c.next_word-u.ensures,
)

pub add_word-requires : goal.add_word-requires
add_word-requires c =
    let n = c.args.n in
    let i = c.loop-u.invariant in (
      c.requires.0,
      ap length i.1 ∙ length-tab (2 ^ n) (λ _. pos 0),
      ap length i.2 ∙ length-tab (2 ^ n) (below (at c.args.table.now) n _),
      c.requires.3,
      words_small c.args.table.now n c.requires.0 _ _ c.requires.3 i.2,
    )

pub loop-u-preserved : goal.loop-u-preserved
loop-u-preserved c = (
  c.next_word-u-in-loop-u.ensures.most,
  c.add_word.ensures.0,
  words-next c.args.table.now c.args.n c.requires.0 _ _ _ _ c.loop-u.invariant.2 c.add_word.ensures.1 c.next_word-u-in-loop-u.ensures,
)

pub returns : goal.returns
returns c =
    let end : c.loop-u.u ≡ 65535 = omega arith in (
      c.loop-u.invariant.1,
      words-all c.args.table.now c.args.n c.requires.0 _ (rw end at c.loop-u.invariant.2)
          (λ x. omega (arith, c.type_inv.table x)),
    )
