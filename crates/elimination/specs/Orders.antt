-- What the choice of the better of two limits has to keep, on either side. Assumes nothing.
use Rattle.std.specs.Prelude.{◌≡◌, Bool, true, false, not}
use Rattle.elimination.specs.declared.limit.Limit.{Limit as Held}
use Rattle.elimination.specs.Levels.{Limit}
use Rattle.elimination.specs.Limiting.{limit_of}

-- by a test for the better limit: of any two limits one is not worse than the other, and not worse than not worse is not worse
abbrev pub Total : (Limit → Limit → Bool) → Type 0
Total better = (x y : Held) → not (better (limit_of y) (limit_of x)) ≡ false → not (better (limit_of x) (limit_of y)) ≡ true

abbrev pub Chain : (Limit → Limit → Bool) → Type 0
Chain better = (x y z : Held) → not (better (limit_of y) (limit_of x)) ≡ true → not (better (limit_of z) (limit_of y)) ≡ true → not (better (limit_of z) (limit_of x)) ≡ true
