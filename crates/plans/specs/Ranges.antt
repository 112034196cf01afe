-- The ranges of a rule's numbers. Assumes nothing.
use Rattle.std.specs.Prelude.{ℕ}

-- a coefficient is from -1,000 to 1,000
abbrev pub coefficient_range : ℕ
coefficient_range = 1000

-- a side is from -1,000,000 to 1,000,000
abbrev pub side_range : ℕ
side_range = 1000000
