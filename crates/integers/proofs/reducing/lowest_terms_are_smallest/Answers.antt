-- Lowest terms are the smallest. Assumes nothing.
use Rattle.integers.proofs.FractionLaws.{smallest}
use Rattle.integers.proofs.reducing.lowest_terms_are_smallest.Goals as goal

pub returns : goal.returns
returns c = smallest
