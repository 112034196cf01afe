-- Numbers in sixteen places. Assumes nothing.
use Rattle.std.specs.Prelude.{◌-◌, List, ◌++◌, length, replicate, ℤ, pos}

-- at most sixteen numbers, and zeros in the places after them
abbrev pub padded : List ℤ → List ℤ
padded zs = zs ++ replicate (16 - length zs) (pos 0)
