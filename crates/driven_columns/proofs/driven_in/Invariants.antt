-- `driven_columns::driven_in` meets its contract. The loop's invariant: the OR so far has a one in each column that the words passed drive.
-- Assumes nothing.
use Rattle.driven_columns.specs.Columns.{first_words, Gathered}
use Rattle.driven_columns.proofs.driven_in.Given as goal

abbrev pub invariant-loop-word : goal.invariant-loop-word
invariant-loop-word l = Gathered (first_words l.word-index l.words) l.all
