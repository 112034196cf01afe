use Rattle.std.proofs.Common.{◌≡◌, length, take}
use Rattle.rows.specs.Limits.{faders, EachWithin}
use Rattle.plans.proofs.row_of_rule.widened.Given as goal

abbrev pub invariant-loop-k : goal.invariant-loop-k
invariant-loop-k l = (length l.wide ≡ faders) × (take l.k l.wide ≡ take l.k l.coefficients) × EachWithin l.wide
