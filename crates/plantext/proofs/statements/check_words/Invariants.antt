-- The loop of `check_words`: the words that are left give the whole answer. Assumes nothing.
use Rattle.std.proofs.Common.{◌≡◌}
use Rattle.std.specs.Iterator.Adapters.{enumerate_count, enumerate_source}
use Rattle.plantext.specs.Grammar.{words_of, all_known}
use Rattle.plantext.proofs.statements.check_words.Given as goal

abbrev pub invariant-loop-place : goal.invariant-loop-place
invariant-loop-place l =
    (goal.iterator-loop-place).can_next l.place-iterator
    × (goal.iterator-loop-place).is_finite l.place-iterator
    × (all_known (enumerate_count l.place-iterator) (words_of (enumerate_source l.place-iterator).0.now) ≡ all_known 0 (words_of l.text))
