-- The loop of `front_numbers`: the numbers so far and those that are left give the whole answer. Assumes nothing.
use Rattle.std.proofs.Common.{◌≡◌, ◌<◌, ◌≤◌, ◌++◌, length}
use Rattle.std.specs.Result.{MatchResult}
use Rattle.plantext.specs.Grammar.{words_of, front_numbers, after_numbers}
use Rattle.plantext.specs.declared.problem.Problem.TheVariants.{TooManyNumbers}
use Rattle.plantext.proofs.words.front_numbers.Given as goal

abbrev pub invariant-loop-n : goal.invariant-loop-n
invariant-loop-n l = record {
  numbers : MatchResult l.pushed (λ _. (length l.numbers ≤ 16) × (l.numbers ++ front_numbers (words_of l.rest) ≡ front_numbers (words_of l.text))) (λ e. (e ≡ TooManyNumbers) × (16 < length (front_numbers (words_of l.text))));
  rest : after_numbers (words_of l.rest) ≡ after_numbers (words_of l.text);
}

abbrev pub decreases-loop-n : goal.decreases-loop-n
decreases-loop-n l = length l.rest
