use Rattle.elimination.proofs.rightness.verdict_is_right.Goals as goal
use Rattle.elimination.specs.Soundness.{sound}

-- src/lib.rt:5:1
pub returns : goal.returns
returns c = sound
