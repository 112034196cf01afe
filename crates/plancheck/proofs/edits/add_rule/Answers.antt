-- What `add_rule` leaves to show. Assumes nothing.
use Rattle.std.proofs.Common.{take, sym, ap, ◌∙◌, w64, SFits, rules}
use Rattle.std.proofs.lemmas.Int.{to_z-of_z}
use Rattle.std.proofs.lemmas.Result.{err_from_is_err_and}
use Rattle.rows.specs.Limits.{faders}
use Rattle.plans.specs.Plans.{plan_view}
use Rattle.plans.specs.Edits.{after_add}
use Rattle.plans.proofs.PlanRules.{length_rules}
use Rattle.plantext.specs.Padding.{padded}
use Rattle.rows.specs.Kinds.{number_of}
use Rattle.plancheck.specs.Edits.{numbers_refusal, refused_by}
use Rattle.plancheck.proofs.Adding.{done, refused_so}
use Rattle.plancheck.proofs.edits.add_rule.Goals as goal

pub returns-in_err-add_numbers : goal.returns-in_err-add_numbers
returns-in_err-add_numbers c =
    let v = plan_view c.args.plan.now in
    let zs = take faders (padded c.args.numbers.now) in
    let kind = number_of c.args.kind in
    let f : SFits w64 c.args.side = search rules in
    let d = simp to_z-of_z at c.in_err-add_numbers.ensures in
    let e = refused_so (numbers_refusal kind zs c.args.side v) (after_add kind zs c.args.side v) v c.in_err-add_numbers.field-0.0 (plan_view c.add_numbers.new.plan) d in
    let p = err_from_is_err_and c.from_residual-in_err-add_numbers.result c.from_residual-in_err-add_numbers.ensures.1 in
    rw (p.1, p.2) (c.in_ok-check_width.ensures.1 _ ∙ ap refused_by e.0, e.1)

pub returns : goal.returns
returns c =
    let v = plan_view c.args.plan.now in
    let zs = take faders (padded c.args.numbers.now) in
    let kind = number_of c.args.kind in
    let f : SFits w64 c.args.side = search rules in
    let d = simp to_z-of_z at c.in_ok-add_numbers.ensures in
    let e = done (numbers_refusal kind zs c.args.side v) (after_add kind zs c.args.side v) v c.in_ok-add_numbers.field-0 (plan_view c.add_numbers.new.plan) d in
    (c.in_ok-check_width.ensures.0, e, sym (length_rules c.add_numbers.new.plan))
