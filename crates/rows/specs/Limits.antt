-- The bound on every number, and how many faders and rows there are. Assumes nothing.
use Rattle.std.specs.Prelude.{ℕ, ◌≤◌, Bool, true, cond, ◌&&◌, List, [], ◌∷◌, ℤ, pos, Some, None, Option, nat_le, slice_index_or, unsigned_abs}

-- the largest size of a number, G
abbrev pub largest : ℕ
largest = 1073741824

-- the places of a row and of a preset, one for each fader
abbrev pub faders : ℕ
faders = 6

-- the rows of a list, and the weights of a clash, at the most
abbrev pub most_rows : ℕ
most_rows = 16

-- from -G to G with both ends
abbrev pub Within : ℤ → Type 0
Within z = unsigned_abs z ≤ largest

abbrev pub EachWithin : List ℤ → Type 0
EachWithin zs = (k : ℕ) → Within (slice_index_or zs k (pos 0))

-- the same as tests
abbrev pub near : ℤ → Bool
near z = nat_le (unsigned_abs z) largest

abbrev pub all_near : List ℤ → Bool
all_near [] = true
all_near (z ∷ zs) = near z && all_near zs

-- a number, if it is within G
abbrev pub narrowed : ℤ → Option ℤ
narrowed z = cond (near z) (Some z) None
