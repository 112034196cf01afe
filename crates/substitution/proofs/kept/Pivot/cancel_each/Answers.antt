use Rattle.std.proofs.Common.{sym, ap, ◌∙◌, arith}
use Rattle.std.specs.Option.{option_map}
use Rattle.std.proofs.lemmas.Result.{err_from_is_err_and}
use Rattle.rows.specs.Carrying.{numbers_of}
use Rattle.substitution.specs.declared.kept.Kept.{Kept}
use Rattle.substitution.specs.Reduction.{cancel_one}
use Rattle.substitution.specs.Holding.{kept_of}
use Rattle.substitution.proofs.Failing.{failed}
use Rattle.substitution.proofs.Places.{left_more}
use Rattle.substitution.proofs.Cancels.{cancel_more, cancel_stops}
use Rattle.substitution.proofs.kept.Pivot.cancel_each.Goals as goal

pub returns-in_err-kept : goal.returns-in_err-kept
returns-in_err-kept c =
    let p = c.args.self.now in
    let l = c.loop-kept in
    let e = err_from_is_err_and c.from_residual.result c.from_residual.ensures.1 in
    let o = c.in_err-kept.ensures.ok_part in
    let z = failed c.cancel.result c.new.result c.in_err-kept.field-0.0 c.in_err-kept.ensures.value in
    let r = ap (λ (x : Kept). cancel_one p.fader.index (numbers_of p.row) (kept_of x)) c.kept-item.is ∙ sym c.cancel.ensures ∙ ap (option_map kept_of) o in
    rw e.1 (cancel_stops p.fader.index (numbers_of p.row) l.kept-index c.args.rows.now l.rows c.kept-item.result c.loop-kept-test.true l.invariant.1 c.kept-item.is l.invariant.0 r, e.2 ∙ z ∙ c.new.ensures)

pub loop-kept-preserved : goal.loop-kept-preserved
loop-kept-preserved c =
    let p = c.args.self.now in
    let l = c.loop-kept in
    let r = ap (λ (x : Kept). cancel_one p.fader.index (numbers_of p.row) (kept_of x)) c.kept-item.is ∙ sym c.cancel.ensures ∙ ap (option_map kept_of) c.in_ok-kept.ensures.ok_part in (
      cancel_more p.fader.index (numbers_of p.row) l.kept-index c.args.rows.now l.rows c.kept-item.result c.loop-kept-test.true l.invariant.1 c.kept-item.is l.invariant.0 c.in_ok-kept.field-0 (omega (arith, l.auto.rows, c.loop-kept-test.true)) r,
      left_more l.kept-index c.args.rows.now l.rows l.invariant.1 c.in_ok-kept.field-0,
    )
