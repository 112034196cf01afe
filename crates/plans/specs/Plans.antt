-- What a plan holds. Assumes nothing.
use Rattle.std.specs.Prelude.{ℕ, List, [], take}
use Rattle.plans.specs.declared.plan.Plan.{Plan}
use Rattle.plans.specs.Rules.{RuleView, rule_views}

-- a plan: its fader count, 0 while no plan is open, and its rules, numbered from 0 as they came
pub record PlanView : Type 0 where
  pub count : ℕ
  pub rules : List RuleView

abbrev pub plan_view : Plan → PlanView
plan_view p = record { count = p.count; rules = rule_views (take p.len p.rules) }

-- no plan is open
abbrev pub no_plan : PlanView
no_plan = record { count = 0; rules = [] }
