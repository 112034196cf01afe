use Rattle.std.proofs.Common.{List, sym, refl, ap, ◌∙◌, arith}
use Rattle.rows.specs.Lists.{items}
use Rattle.rows.specs.Rows.{Constraint, constraint}
use Rattle.engine.specs.Interface.{Answer, unused_refusal}
use Rattle.engine.specs.States.{state_view}
use Rattle.engine.proofs.StateRows.{length_state_rows, constraints_more, take_refusal_last}
use Rattle.rows.proofs.UnusedFaders.{used_more, unused_zero}
use Rattle.engine.proofs.state.State.take.Goals as goal

pub returns-in-Some : goal.returns-in-Some
returns-in-Some c =
    let s = c.args.self.now in
    let n = length_state_rows s in
    let e = take_refusal_last (constraint c.args.row.now) (state_view s) (omega arith) (omega arith) ∙ ap unused_refusal (sym c.first_unused.ensures ∙ c.in-Some.is) in
    rw e (refl, refl)

pub returns : goal.returns
returns c =
    let s = c.args.self.now in
    let n = length_state_rows s in
    let e = take_refusal_last (constraint c.args.row.now) (state_view s) (omega arith) (omega arith) ∙ ap unused_refusal (sym c.first_unused.ensures ∙ c.in_default.is) in
    rw e (ap (λ (rs : List Constraint). record { count = s.count; rows = rs; answer = Answer.none }) (constraints_more (items s.rows) (items c.push.new.self) c.args.row.now c.push.ensures.value))

pub invariant_of-self : goal.invariant_of-self
invariant_of-self c =
    let s = c.args.self.now in
    let row = c.args.row.now in
    record {
      few = s.few;
      used = used_more s.count (items s.rows) (items c.push.new.self) row s.used (λ k q. unused_zero s.count 0 row.coefficients (sym c.first_unused.ensures ∙ c.in_default.is) k (omega (arith, q))) c.push.ensures.value;
    }
