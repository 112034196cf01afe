-- What `reply_to_ask` leaves to show. Assumes nothing.
use Rattle.std.proofs.Common.{ℕ, Bool, cond, length, take, Ok, Err, sym, ap, ◌∙◌, subst}
use Rattle.std.proofs.lemmas.Bool.{eq-eqb, ne_eqb}
use Rattle.engine.specs.Interface.{first_refusal}
use Rattle.plans.specs.Plans.{plan_view}
use Rattle.plans.specs.Edits.{closed_refusal}
use Rattle.plans.proofs.PlanRules.{length_rules}
use Rattle.console.specs.Asking.{table_refusal}
use Rattle.console.specs.Replies.{Reply}
use Rattle.console.specs.Law.{unless, AskLaw}
use Rattle.plans.proofs.Takeable.{sounding_valid}
use Rattle.console.proofs.Performed.{ask_replied}
use Rattle.console.proofs.performing.reply_to_ask.Goals as goal

pub returns-in-Err : goal.returns-in-Err
returns-in-Err g c =
    let p = c.args.plan.now in
    let told = ask_replied g.E.Engine.verdict g.E.Engine.cells (length c.args.table.now) (plan_view p) c.blank-sheet.result c.ask.new.sheet (Err c.in-Err.refusal) (sounding_valid p) (g.met.E.Engine.sound p.count) c.in-Err.ensures in
    record { reply = told.0; exact = told.1 }

pub returns-then-sheet-eq0 : goal.returns-then-sheet-eq0
returns-then-sheet-eq0 g c =
    let p = c.args.plan.now in
    let t = c.ask.new.sheet in
    let o = first_refusal (closed_refusal (plan_view p)) (table_refusal g.E.Engine.cells (length c.args.table.now)) in
    let e = ap (λ (b : Bool). cond b (Reply.clash (take (length (plan_view p).rules) t.weights)) (Reply.preset (take p.count t.numerators) t.denominator)) (eq-eqb t.denominator 0 c.if-sheet-eq0.true)
    ∙ ap (λ (n : ℕ). Reply.clash (take n t.weights)) (length_rules p) in
    let told = ask_replied g.E.Engine.verdict g.E.Engine.cells (length c.args.table.now) (plan_view p) c.blank-sheet.result t (Ok c.in_default.field-0) (sounding_valid p) (g.met.E.Engine.sound p.count) c.in_default.ensures in
    record { reply = subst (λ (r : Reply). unless o r (AskLaw g.E.Engine.verdict (plan_view p) r)) e told.0; exact = sym e ∙ told.1 }

pub returns : goal.returns
returns g c =
    let p = c.args.plan.now in
    let t = c.ask.new.sheet in
    let o = first_refusal (closed_refusal (plan_view p)) (table_refusal g.E.Engine.cells (length c.args.table.now)) in
    let e = ap (λ (b : Bool). cond b (Reply.clash (take (length (plan_view p).rules) t.weights)) (Reply.preset (take p.count t.numerators) t.denominator)) (ne_eqb t.denominator 0 c.if-sheet-eq0.false) in
    let told = ask_replied g.E.Engine.verdict g.E.Engine.cells (length c.args.table.now) (plan_view p) c.blank-sheet.result t (Ok c.in_default.field-0) (sounding_valid p) (g.met.E.Engine.sound p.count) c.in_default.ensures in
    record { reply = subst (λ (r : Reply). unless o r (AskLaw g.E.Engine.verdict (plan_view p) r)) e told.0; exact = sym e ∙ told.1 }
