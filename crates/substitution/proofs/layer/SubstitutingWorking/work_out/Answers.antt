use Rattle.std.proofs.Common.{[], Ok, Err, sym, refl, ap, ◌∙◌}
use Rattle.engine.specs.declared.answer.Answer.TheVariants.{Clash}
use Rattle.substitution.specs.declared.stop.Stop.{Stop}
use Rattle.substitution.specs.Reduction.{Reduced.clashing, Reduced.faulty, Reduced.left}
use Rattle.substitution.specs.Holding.{kepts, latest_first}
use Rattle.substitution.specs.Outcomes.{finished}
use Rattle.substitution.proofs.Looks.{ahead_first}
use Rattle.substitution.proofs.Returning.{left_valid, worked_out}
use Rattle.substitution.proofs.layer.SubstitutingWorking.work_out.Goals as goal

pub decide_left-requires-clause-valid : goal.decide_left-requires-clause-valid
decide_left-requires-clause-valid g c =
    let s = c.args.state.now in
    let end = c.reduce.new.self in
    let held = c.standing-held.result in
    let done = c.in-Ok.ensures.value ∙ ahead_first held c.new-pivots.result c.new-pivots.ensures in
    rw c.left.ensures (left_valid s held (left (kepts end.rows.now) (latest_first end.pivots.now [])) (rw c.as_slice-rows.ensures.value at c.standing-held.ensures) done c.requires.started)

pub returns-in-Ok : goal.returns-in-Ok
returns-in-Ok g c =
    let s = c.args.state.now in
    let end = c.reduce.new.self in
    let held = c.standing-held.result in
    let done = c.in-Ok.ensures.value ∙ ahead_first held c.new-pivots.result c.new-pivots.ensures in
    let says = rw (c.left.ensures, c.solved.ensures, c.as_slice-rows.ensures.value) at c.decide_left.ensures in
    worked_out s held (left (kepts end.rows.now) (latest_first end.pivots.now [])) (rw c.as_slice-rows.ensures.value at c.standing-held.ensures) done g.E.Engine.verdict c.decide_left.result says

pub returns-in-Err-Clash : goal.returns-in-Err-Clash
returns-in-Err-Clash g c =
    let w = c.in-Err-Clash.weights in
    let held = c.standing-held.result in
    let told = ap (λ (t : Stop). finished c.reduce.new.self (Err t)) (sym c.in-Err-Clash.field-0-is) ∙ c.in-Err-Clash.ensures.value in
    let done = told ∙ ahead_first held c.new-pivots.result c.new-pivots.ensures in
    rw c.in-Err-Clash.weights-is (worked_out c.args.state.now held (clashing w.values) (rw c.as_slice-rows.ensures.value at c.standing-held.ensures) done g.E.Engine.verdict (Ok (Clash w)) refl)

pub returns-in-Err-Beyond : goal.returns-in-Err-Beyond
returns-in-Err-Beyond g c =
    let f = c.in-Err-Beyond.fault in
    let held = c.standing-held.result in
    let told = ap (λ (t : Stop). finished c.reduce.new.self (Err t)) (sym c.in-Err-Beyond.field-0-is) ∙ c.in-Err-Beyond.ensures.value in
    let done = told ∙ ahead_first held c.new-pivots.result c.new-pivots.ensures in
    rw c.in-Err-Beyond.fault-is (worked_out c.args.state.now held (faulty f) (rw c.as_slice-rows.ensures.value at c.standing-held.ensures) done g.E.Engine.verdict (Err f) refl)
