-- What a line in its array holds. Assumes nothing.
use Rattle.std.specs.Prelude.{◌≡◌, ℕ, ◌+◌, ◌≤◌, List, ◌++◌, length, take}
use Rattle.protocol.specs.declared.line.Line.{Line}

abbrev pub held : Line → List ℕ
held u = take u.len u.bytes

-- v is u with the bytes xs after it
pub record Appends (u : Line) (xs : List ℕ) (v : Line) : Type 0 where
  pub bytes : held v ≡ held u ++ xs
  pub len : v.len ≡ u.len + length xs

-- the same, and the bytes are at most n
pub record AppendsFew (u : Line) (xs : List ℕ) (n : ℕ) (v : Line) : Type 0 where
  pub appends : Appends u xs v
  pub few : length xs ≤ n

-- the line holds xs, which are at most n bytes
pub record Holds (xs : List ℕ) (n : ℕ) (v : Line) : Type 0 where
  pub bytes : held v ≡ xs
  pub few : v.len ≤ n
