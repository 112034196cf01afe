-- That every list of rows is feasible or infeasible, whatever the sizes of its numbers and however many rows and coefficients it has. Assumes nothing.
use Rattle.std.specs.Prelude.{◌⊎◌, List}
use Rattle.rows.specs.Rows.{Constraint, Feasible, Infeasible}

-- either levels that meet all rows, or that none do
abbrev pub Decidable : Type 0
Decidable = (rows : List Constraint) → Feasible rows ⊎ Infeasible rows
