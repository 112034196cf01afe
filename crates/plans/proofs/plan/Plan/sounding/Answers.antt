-- What `sounding` leaves to show. Assumes nothing.
use Rattle.std.proofs.Common.{List, [], ◌∷◌, ◌++◌, sym, ap, ◌∙◌, arith}
use Rattle.std.proofs.lemmas.List.{take_all}
use Rattle.rows.specs.Lists.{items}
use Rattle.plans.specs.declared.rule.Rule.{Rule}
use Rattle.plans.specs.Rules.{rule_views}
use Rattle.plans.specs.Sounding.{sounding_rows}
use Rattle.plans.proofs.Soundings.{taken_on, passed_over}
use Rattle.plans.proofs.plan.Plan.sounding.Goals as goal
use Rattle.plans.proofs.plan.Plan.sounding.Goals.{then-rule, else-rule}

pub push-requires : goal.push-requires
push-requires c = let s = c.args.self.now in omega (arith, s.short, c.loop-rule.invariant.0, c.loop-rule-test.true, c.rules-rule-items.ensures.count)

pub loop-rule-preserved : goal.loop-rule-preserved
loop-rule-preserved c =
    let rules = c.rules-rule-items.result.now in
    let i = c.loop-rule.rule-index in
    let before = items c.loop-rule.rows in
    let rule = c.rule-item.result in
    elim c.if-rule.branch [
      | then-rule w ↦ rw w.rows-is (
        omega (arith, c.loop-rule.invariant.0, w.push.ensures.count),
        taken_on rules before (items w.push.new.self) i rule c.loop-rule-test.true (sym (ap (λ (r : Rule). r.sounds) c.rule-item.is) ∙ w.if-rule.true) c.loop-rule.invariant.1 (w.push.ensures.value ∙ ap (λ (r : Rule). before ++ r.row ∷ []) c.rule-item.is),
      )
      | else-rule w ↦ rw w.rows-is (
        omega (arith, c.loop-rule.invariant.0),
        passed_over rules before i rule c.loop-rule-test.true (sym (ap (λ (r : Rule). r.sounds) c.rule-item.is) ∙ w.if-rule.false) c.loop-rule.invariant.1,
      )
    ]

pub returns : goal.returns
returns c =
    let rules = c.rules-rule-items.result.now in
    c.loop-rule.invariant.1
    ∙ ap (λ (rs : List Rule). sounding_rows (rule_views rs)) (take_all c.loop-rule.rule-index rules c.loop-rule-test.false ∙ c.rules-rule-items.ensures.value)
