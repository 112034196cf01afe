use Rattle.std.proofs.Common.{List, sym, ap, ◌∙◌, arith}
use Rattle.std.proofs.lemmas.List.{take_all, at_drop_all}
use Rattle.std.proofs.lemmas.Result.{err_from_is_err_and}
use Rattle.rows.specs.declared.row.Row.{Row}
use Rattle.rows.specs.Rows.{constraints}
use Rattle.engine.specs.Deciding.{takes_refusal, loaded}
use Rattle.engine.proofs.Loading.{row_refused, row_taken}
use Rattle.engine.proofs.deciding.load.Goals as goal

pub returns-in_err-take : goal.returns-in_err-take
returns-in_err-take g c =
    let p = err_from_is_err_and c.from_residual-in_err-take.result c.from_residual-in_err-take.ensures.1 in
    let l = c.loop-row in
    rw (p.1, p.2) (row_refused c.args.count c.args.rows.now l.row-index c.row-item.result c.row-item.is l.invariant.0 c.loop-row-test.true (g.E.Engine.view l.engine) (g.E.Engine.view c.take.new.self) l.invariant.1 l.invariant.2 (Unit {0}) c.in_err-take.field-0.0 c.in_err-take.ensures)

pub loop-row-preserved : goal.loop-row-preserved
loop-row-preserved g c =
    let l = c.loop-row in
    let t = row_taken c.args.count c.args.rows.now l.row-index c.row-item.result c.row-item.is l.invariant.0 c.loop-row-test.true (g.E.Engine.view l.engine) (g.E.Engine.view c.take.new.self) l.invariant.1 l.invariant.2 c.in_ok-take.field-0 c.in_ok-take.ensures in
    (l.invariant.0, t.0, t.1)

pub returns : goal.returns
returns g c =
    let rows = c.args.rows.now in
    let n = c.loop-row.row-index in (
      sym c.loop-row.invariant.2 ∙ at_drop_all (λ (rs : List Row). takes_refusal c.args.count n (constraints rs)) rows n (omega arith),
      c.loop-row.invariant.1 ∙ ap (λ (rs : List Row). loaded c.args.count (constraints rs)) (take_all n rows (omega arith)),
    )
