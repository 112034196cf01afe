use Rattle.std.proofs.Common.{◌∙◌}
use Rattle.std.proofs.lemmas.Result.{err_from_is_err_and}
use Rattle.elimination.specs.Appends.{held_lines}
use Rattle.elimination.proofs.Retiring.{stage_ok, stage_err}
use Rattle.elimination.proofs.lent.Table.eliminate_all.Goals as goal

pub loop-index-preserved : goal.loop-index-preserved
loop-index-preserved c =
    c.loop-index.invariant
    ∙ stage_ok c.args.count c.loop-index.index (held_lines c.loop-index.self) (held_lines c.eliminate.new.self) c.loop-index-test.true c.in_ok-eliminate.ensures

pub returns-in_err-eliminate : goal.returns-in_err-eliminate
returns-in_err-eliminate c =
    let p = err_from_is_err_and c.from_residual.result c.from_residual.ensures.1 in
    rw (p.1, p.2) (c.loop-index.invariant ∙ stage_err c.args.count c.loop-index.index (held_lines c.loop-index.self) _ c.loop-index-test.true c.in_err-eliminate.ensures)
