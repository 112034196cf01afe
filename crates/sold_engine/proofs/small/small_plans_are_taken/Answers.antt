use Rattle.sold_engine.proofs.small.small_plans_are_taken.Goals as goal
use Rattle.sold_engine.proofs.Taking.{small_plans_taken}

-- src/small.rt:5:1
pub returns : goal.returns
returns c = small_plans_taken
