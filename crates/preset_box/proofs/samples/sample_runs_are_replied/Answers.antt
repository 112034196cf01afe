-- What `sample_runs_are_replied` leaves to show. Assumes nothing.
use Rattle.preset_box.proofs.Sampling.{samples_replied}
use Rattle.preset_box.proofs.samples.sample_runs_are_replied.Goals as goal

pub returns : goal.returns
returns c = samples_replied
