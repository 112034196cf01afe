use Rattle.std.proofs.Common.{◌+◌, drop, sym, ap, ◌∙◌, arith}
use Rattle.elimination.specs.Limiting.{limit_of, levels_of}
use Rattle.elimination.specs.Tightest.{bounds_by, limit_by, limits_by, found_limits}
use Rattle.elimination.proofs.Collecting.{onto, passed_over, one_more}
use Rattle.elimination.proofs.setting.Setting.find_limits.Goals as goal
use Rattle.elimination.proofs.setting.Setting.find_limits.Goals.{then-bounds+in_ok-limit_on, else-bounds}

pub loop-cell-preserved : goal.loop-cell-preserved
loop-cell-preserved g c =
    let s = g.S.Side in
    let k = c.args.self.now.fader.index in
    let p = c.args.self.now.levels.now in
    let t = c.args.self.now.table.now in
    let i = c.loop-cell.cell-index in
    let F = limit_by s.turned k (levels_of p) in
    let P = bounds_by s.limits k in
    let y = c.cell-item.result in
    let is = c.cell-item.is in
    let ls = found_limits c.loop-cell.found in
    let rest = limits_by s.limits s.turned k p (drop (i + 1) t) in
    elim c.if-bounds.branch [
      | then-bounds+in_ok-limit_on w ↦ (
        omega (arith, ap (λ f. f.count) w.found-is, w.push.ensures.count, c.loop-cell.invariant.0),
        ap (λ f. onto (found_limits f) rest) w.found-is
            ∙ ap (λ x. onto x rest) w.push.ensures.limits
            ∙ sym (one_more F P t i y c.loop-cell-test.true is ls (limit_of w.in_ok-limit_on.field-0) (sym c.bounds.ensures ∙ w.if-bounds.true) w.in_ok-limit_on.ensures)
            ∙ c.loop-cell.invariant.1,
      )
      | else-bounds w ↦ (
        omega (arith, ap (λ f. f.count) w.found-is, c.loop-cell.invariant.0),
        ap (λ f. onto (found_limits f) rest) w.found-is ∙ sym (passed_over F P t i y c.loop-cell-test.true is ls (sym c.bounds.ensures ∙ w.if-bounds.false)) ∙ c.loop-cell.invariant.1,
      )
    ]
