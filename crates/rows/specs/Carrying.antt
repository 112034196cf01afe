-- Carried rows, and how two of them are combined. Assumes nothing.
use Rattle.std.specs.Prelude.{ℕ, Bool, ◌&&◌, List, replicate, ℤ, pos, ◌+ℤ◌, ◌-ℤ◌, ◌*ℤ◌, slice_set}
use Rattle.integers.specs.Vectors.{add, dot, scale}
use Rattle.rows.specs.declared.carried.Carried.{Carried}
use Rattle.rows.specs.Limits.{most_rows, near, all_near}
use Rattle.rows.specs.Rows.{Constraint}

-- the numbers of a carried row: coefficients, side, and the weight of each listed row in it
pub record Sum : Type 0 where
  pub coefficients : List ℤ
  pub side : ℤ
  pub weights : List ℤ

abbrev pub numbers_of : Carried → Sum
numbers_of r = record { coefficients = r.coefficients; side = r.side; weights = r.weights }

-- the listed row at a place: weight 1 on itself
abbrev pub listed : ℕ → Constraint → Sum
listed i r = record { coefficients = r.coefficients; side = r.side; weights = slice_set (replicate most_rows (pos 0)) i (pos 1) }

-- two carried rows, each times its factor, added number by number
abbrev pub combination : ℤ → Sum → ℤ → Sum → Sum
combination m a n b = record {
  coefficients = add (scale m a.coefficients) (scale n b.coefficients);
  side = m *ℤ a.side +ℤ n *ℤ b.side;
  weights = add (scale m a.weights) (scale n b.weights);
}

-- every number is within G
abbrev pub fits : Sum → Bool
fits s = all_near s.coefficients && (near s.side && all_near s.weights)

-- what the side leaves at levels, times their denominator
abbrev pub remaining : Sum → List ℤ → ℕ → ℤ
remaining s ns d = (s.side *ℤ pos d) -ℤ dot s.coefficients ns
