-- The sample runs are replied to as written, by computing the replies. Assumes nothing.
use Rattle.std.proofs.Common.{refl}
use Rattle.integers.specs.Divisors.{euclid, gcd_of, gcd_all}
use Rattle.preset_box.specs.SampleRuns.{SamplesReplied}

pub samples_replied : SamplesReplied
unfolding euclid gcd_of gcd_all
samples_replied = (refl, (refl, (refl, (refl, (refl, (refl, (refl, (refl, tt))))))))
