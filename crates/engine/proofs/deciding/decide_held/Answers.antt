use Rattle.std.proofs.Common.{◌≡◌, ℕ, length, sym, ap, ◌∙◌, subst, arith, MatchResult}
use Rattle.engine.specs.States.{said}
use Rattle.engine.specs.Deciding.{Readable}
use Rattle.engine.proofs.Replying.{decision_rows, decision_readable, decision_reply}
use Rattle.engine.proofs.deciding.decide_held.Goals as goal

pub read-requires : goal.read-requires
read-requires g c =
    let v = g.E.Engine.view c.args.engine.now in
    let w = g.E.Engine.view c.decide.new.self in
    let held = length c.args.table.now in
    let d = c.in_ok-decide.ensures in
    let valid = c.requires.valid in
    record {
      few = omega (arith, valid.short, c.requires.held);
      held = ap length (decision_rows g.E.Engine.verdict g.E.Engine.cells held v w valid.some tt d) ∙ c.requires.held;
      answer = subst (λ (k : ℕ). Readable k w.answer) c.requires.held (decision_readable g.E.Engine.verdict g.E.Engine.cells held v w valid.some tt d (g.met.E.Engine.sound v.count v.rows valid));
    }

pub returns : goal.returns
returns g c =
    let v = g.E.Engine.view c.args.engine.now in
    let w = g.E.Engine.view c.decide.new.self in
    let held = length c.args.table.now in
    let d = c.in_ok-decide.ensures in
    decision_reply g.E.Engine.verdict g.E.Engine.cells held v w c.requires.valid.some tt d c.read.result
    (subst (λ (k : ℕ). MatchResult c.read.result (λ a. said k a ≡ w.answer) (λ _. ⊥)) (sym c.requires.held) c.read.ensures)
