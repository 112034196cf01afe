-- What `perform` leaves to show. Assumes nothing.
use Rattle.std.proofs.Common.{◌≡◌, ℕ, true, false, List, length, Option, sym, ap, ◌∙◌, subst, w32, SFits, rules}
use Rattle.std.proofs.lemmas.Int.{to_z-of_z}
use Rattle.rows.specs.Rows.{Constraint}
use Rattle.engine.specs.declared.refusal.Refusal.{Refusal}
use Rattle.engine.specs.Verdicts.{Verdict}
use Rattle.engine.specs.Interface.{count_refusal}
use Rattle.plans.specs.Plans.{PlanView, plan_view}
use Rattle.plans.specs.Edits.{Added, after_open, add_refusal, after_add, lift_refusal, after_lift, mark_refusal, after_mark}
use Rattle.console.specs.declared.command.Command.{Command}
use Rattle.console.specs.declared.command.Command.TheVariants.{Open, Add, Lift, Mute, Sound}
use Rattle.console.specs.Replies.{Reply, reply_view}
use Rattle.console.specs.Runs.{next}
use Rattle.console.specs.Asking.{table_refusal}
use Rattle.console.specs.Law.{Replied}
use Rattle.console.specs.Exact.{reply_of}
use Rattle.console.proofs.Performed.{edit_replied}
use Rattle.console.proofs.performing.perform.Goals as goal

-- what holds of the command that was matched holds of the command given
matched : (verdict : ℕ → List Constraint → Verdict) (table : Option Refusal) (p q : PlanView) (x c : Command) (r : Reply) → x ≡ c → q ≡ next c p → Replied verdict table p c r → r ≡ reply_of verdict table p c
    → (q ≡ next x p) × Replied verdict table p x r × (r ≡ reply_of verdict table p x)
matched verdict table p q x c r is plan reply exact =
    (plan ∙ ap (λ (y : Command). next y p) (sym is), subst (λ (y : Command). Replied verdict table p y r) (sym is) reply, exact ∙ ap (reply_of verdict table p) (sym is))

pub returns-in-Open : goal.returns-in-Open
returns-in-Open g c =
    let p = plan_view c.args.plan.now in
    let q = plan_view c.«open».new.self in
    let e = edit_replied (count_refusal c.in-Open.count) (after_open c.in-Open.count) p q c.«open».result c.«open».ensures in
    let same = c.from.ensures ∙ e.0 in
    let m = matched g.E.Engine.verdict (table_refusal g.E.Engine.cells (length c.args.table.now)) p q c.args.command (Open c.in-Open.count) (reply_view c.from.result) c.in-Open.is e.1 same same in
    record { plan = m.0; reply = m.1; exact = m.2 }

pub returns-in-Add : goal.returns-in-Add
returns-in-Add g c =
    let p = plan_view c.args.plan.now in
    let q = plan_view c.add.new.self in
    let kind = c.in-Add.kind in
    let cs = c.in-Add.coefficients in
    let s = c.in-Add.side in
    let fs : SFits w32 s = search rules in
    let added : Added kind cs s p c.add.result q = simp to_z-of_z at c.add.ensures in
    let e = edit_replied (add_refusal kind cs s p) (after_add kind cs s p) p q c.add.result (added) in
    let same = c.from-in-Add.ensures ∙ e.0 in
    let m = matched g.E.Engine.verdict (table_refusal g.E.Engine.cells (length c.args.table.now)) p q c.args.command (Add kind cs s) (reply_view c.from-in-Add.result) c.in-Add.is e.1 same same in
    record { plan = m.0; reply = m.1; exact = m.2 }

pub returns-in-Lift : goal.returns-in-Lift
returns-in-Lift g c =
    let p = plan_view c.args.plan.now in
    let q = plan_view c.lift.new.self in
    let e = edit_replied (lift_refusal p) (after_lift p) p q c.lift.result c.lift.ensures in
    let same = c.from-in-Lift.ensures ∙ e.0 in
    let m = matched g.E.Engine.verdict (table_refusal g.E.Engine.cells (length c.args.table.now)) p q c.args.command (Lift) (reply_view c.from-in-Lift.result) c.in-Lift.is e.1 same same in
    record { plan = m.0; reply = m.1; exact = m.2 }

pub returns-in-Mute : goal.returns-in-Mute
returns-in-Mute g c =
    let p = plan_view c.args.plan.now in
    let q = plan_view c.mute.new.self in
    let e = edit_replied (mark_refusal c.in-Mute.number false p) (after_mark c.in-Mute.number false p) p q c.mute.result c.mute.ensures in
    let same = c.from-in-Mute.ensures ∙ e.0 in
    let m = matched g.E.Engine.verdict (table_refusal g.E.Engine.cells (length c.args.table.now)) p q c.args.command (Mute c.in-Mute.number) (reply_view c.from-in-Mute.result) c.in-Mute.is e.1 same same in
    record { plan = m.0; reply = m.1; exact = m.2 }

pub returns-in-Sound : goal.returns-in-Sound
returns-in-Sound g c =
    let p = plan_view c.args.plan.now in
    let q = plan_view c.sound.new.self in
    let e = edit_replied (mark_refusal c.in-Sound.number true p) (after_mark c.in-Sound.number true p) p q c.sound.result c.sound.ensures in
    let same = c.from-in-Sound.ensures ∙ e.0 in
    let m = matched g.E.Engine.verdict (table_refusal g.E.Engine.cells (length c.args.table.now)) p q c.args.command (Sound c.in-Sound.number) (reply_view c.from-in-Sound.result) c.in-Sound.is e.1 same same in
    record { plan = m.0; reply = m.1; exact = m.2 }
