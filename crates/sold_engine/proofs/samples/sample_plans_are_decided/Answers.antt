use Rattle.sold_engine.proofs.samples.sample_plans_are_decided.Goals as goal
use Rattle.sold_engine.proofs.Sampling.{samples_decided}

-- src/samples.rt:5:1
pub returns : goal.returns
returns c = samples_decided
