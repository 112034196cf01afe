-- The loop of `sounding`: what was taken is what the rules so far give. Assumes nothing.
use Rattle.std.proofs.Common.{◌≡◌, ◌≤◌, take}
use Rattle.rows.specs.Lists.{items}
use Rattle.rows.specs.Rows.{constraints}
use Rattle.plans.specs.Rules.{rule_views}
use Rattle.plans.specs.Sounding.{sounding_rows}
use Rattle.plans.proofs.plan.Plan.sounding.Given as goal

abbrev pub invariant-loop-rule : goal.invariant-loop-rule
invariant-loop-rule l = (l.rows.len ≤ l.rule-index) × (constraints (items l.rows) ≡ sounding_rows (rule_views (take l.rule-index l.rule-items)))
