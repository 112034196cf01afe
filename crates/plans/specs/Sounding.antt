-- The rows of the rules that sound. Assumes nothing.
use Rattle.std.specs.Prelude.{cond, List, [], ◌∷◌}
use Rattle.rows.specs.Rows.{Constraint}
use Rattle.plans.specs.Rules.{RuleView}

-- a muted rule is passed over
abbrev pub sounding_rows : List RuleView → List Constraint
sounding_rows [] = []
sounding_rows (r ∷ rules) = cond r.sounds (r.row ∷ sounding_rows rules) (sounding_rows rules)
