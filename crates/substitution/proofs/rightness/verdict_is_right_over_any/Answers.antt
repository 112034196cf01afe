use Rattle.substitution.proofs.rightness.verdict_is_right_over_any.Goals as goal
use Rattle.substitution.specs.Soundness.{sound_over}

-- src/rightness.rt:5:1
pub returns : goal.returns
returns c = sound_over
