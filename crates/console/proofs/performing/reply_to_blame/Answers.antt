-- What `reply_to_blame` leaves to show. Assumes nothing.
use Rattle.std.proofs.Common.{length, Ok, Err, arith}
use Rattle.feasibility.proofs.Decision.{decide}
use Rattle.plans.specs.Plans.{plan_view}
use Rattle.plans.proofs.PlanRules.{length_rules}
use Rattle.plans.proofs.Takeable.{sounding_valid}
use Rattle.console.proofs.Performed.{blame_replied}
use Rattle.console.proofs.performing.reply_to_blame.Goals as goal

pub returns-in-Ok : goal.returns-in-Ok
returns-in-Ok g c =
    let p = c.args.plan.now in
    let told = blame_replied g.E.Engine.verdict g.E.Engine.cells (length c.args.table.now) (plan_view p) _ c.blame.new.marks (Ok c.in-Ok.field-0) decide (omega (arith, length_rules p, p.short)) (sounding_valid p) (g.met.E.Engine.sound p.count) c.in-Ok.ensures.blamed in
    record { plan = c.in-Ok.ensures.plan; reply = told.0; exact = told.1 }

pub returns-in-Err : goal.returns-in-Err
returns-in-Err g c =
    let p = c.args.plan.now in
    let told = blame_replied g.E.Engine.verdict g.E.Engine.cells (length c.args.table.now) (plan_view p) _ c.blame.new.marks (Err c.in-Err.refusal) decide (omega (arith, length_rules p, p.short)) (sounding_valid p) (g.met.E.Engine.sound p.count) c.in-Err.ensures.blamed in
    record { plan = c.in-Err.ensures.plan; reply = told.0; exact = told.1 }
