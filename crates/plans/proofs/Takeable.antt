-- The sounding rows of an open plan are rows that an engine takes. Assumes nothing.
use Rattle.std.proofs.Common.{ℕ, suc, ◌<◌, ◌≤◌, Bool, true, false, cond, List, [], ◌∷◌, length, take, arith}
use Rattle.std.specs.List.{AllByRecursion as All}
use Rattle.rows.specs.Rows.{constraint}
use Rattle.engine.specs.Verdicts.{ValidRow, Valid}
use Rattle.plans.specs.declared.rule.Rule.{Rule}
use Rattle.plans.specs.declared.plan.Plan.{Plan}
use Rattle.plans.specs.Rules.{RuleView, rule_views, UsedBelow}
use Rattle.plans.specs.Plans.{plan_view}
use Rattle.plans.specs.Sounding.{sounding_rows}
use Rattle.plans.proofs.PlanRules.{length_rules}

-- no more rows sound than there are rules
few_sound : (rules : List RuleView) → length (sounding_rows rules) ≤ length rules
few_sound [] = omega arith
few_sound (r ∷ rules) = by r.sounds (few_sound rules)
  where
    by : (b : Bool) → length (sounding_rows rules) ≤ length rules → length (cond b (r.row ∷ sounding_rows rules) (sounding_rows rules)) ≤ suc (length rules)
    by true h = omega arith
    by false h = omega arith

each_sound : (count : ℕ) (rules : List Rule) → UsedBelow count rules → All (ValidRow count) (sounding_rows (rule_views rules))
each_sound count [] used = tt
each_sound count (r ∷ rules) used = by r.sounds (each_sound count rules (λ i. used (suc i)))
  where
    by : (b : Bool) → All (ValidRow count) (sounding_rows (rule_views rules)) → All (ValidRow count) (cond b (constraint r.row ∷ sounding_rows (rule_views rules)) (sounding_rows (rule_views rules)))
    by true h = (record { places = r.row.places; within = r.row.within; bounded = r.row.bounded; unused = λ k q. used 0 k q }, h)
    by false h = h

pub sounding_valid : (p : Plan) → 0 < p.count → Valid p.count (sounding_rows (plan_view p).rules)
sounding_valid p some = record {
  some = some;
  few = p.few;
  short = omega (arith, few_sound (plan_view p).rules, length_rules p, p.short);
  each = each_sound p.count (take p.len p.rules) p.used;
}
