use Rattle.feasibility.proofs.feasibility_is_decidable.Goals as goal
use Rattle.feasibility.proofs.Decision.{decide}

-- src/lib.rt:6:1
pub returns : goal.returns
returns c = decide
