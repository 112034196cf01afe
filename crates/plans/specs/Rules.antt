-- What a rule says, and what it keeps to. Assumes nothing.
use Rattle.std.specs.Prelude.{◌≡◌, ℕ, zero, suc, ◌≤◌, Bool, List, [], ◌∷◌, map, ℤ, pos, slice_index_or}
use Rattle.rows.specs.Rows.{Constraint, constraint}
use Rattle.plans.specs.declared.rule.Rule.{Rule}

-- a rule: its row, and whether it sounds or is muted
pub record RuleView : Type 0 where
  pub row : Constraint
  pub sounds : Bool

abbrev pub rule_view : Rule → RuleView
rule_view r = record { row = constraint r.row; sounds = r.sounds }

abbrev pub rule_views : List Rule → List RuleView
rule_views rules = map rule_view rules

-- the coefficient of the rule with the number i at the fader k; 0 where there is no such rule
abbrev pub coefficient_at : List Rule → ℕ → ℕ → ℤ
coefficient_at [] i k = pos 0
coefficient_at (r ∷ rules) zero k = slice_index_or r.row.coefficients k (pos 0)
coefficient_at (r ∷ rules) (suc i) k = coefficient_at rules i k

-- no rule has a coefficient but 0 at a fader at or above the count
abbrev pub UsedBelow : ℕ → List Rule → Type 0
UsedBelow count rules = (i k : ℕ) → count ≤ k → coefficient_at rules i k ≡ pos 0
