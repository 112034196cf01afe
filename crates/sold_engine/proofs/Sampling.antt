-- The sample plans are decided as written, by computing the verdicts. Assumes nothing.
use Rattle.std.proofs.Common.{refl}
use Rattle.integers.specs.Divisors.{euclid, gcd_of, gcd_all}
use Rattle.sold_engine.specs.SamplePlans.{SamplesDecided}

pub samples_decided : SamplesDecided
unfolding euclid gcd_of gcd_all
samples_decided = (refl, (refl, (refl, (refl, (refl, (refl, (refl, (refl, (refl, tt)))))))))
