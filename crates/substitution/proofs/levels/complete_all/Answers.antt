use Rattle.std.proofs.Common.{◌-◌, List, [], length, sym, ap, ◌∙◌, arith}
use Rattle.std.specs.Option.{option_map}
use Rattle.std.proofs.lemmas.List.{take_all}
use Rattle.std.proofs.lemmas.Result.{err_from_is_err_and}
use Rattle.engine.specs.declared.fault.Fault.{Fault}
use Rattle.engine.specs.Verdicts.{Verdict}
use Rattle.rows.specs.Presets.{terms_of}
use Rattle.substitution.specs.declared.kept.Pivot.{Pivot as Held}
use Rattle.substitution.specs.Lifting.{all_completed}
use Rattle.substitution.specs.Holding.{latest_first}
use Rattle.substitution.proofs.Failing.{failed}
use Rattle.substitution.proofs.Latest.{completed_some, completed_none}
use Rattle.substitution.proofs.levels.complete_all.Goals as goal

pub loop-i-init : goal.loop-i-init
loop-i-init c =
    let ps = c.args.pivots.now in
    ap (λ (qs : List Held). all_completed (latest_first qs []) c.args.below.now.numerators c.args.below.now.denominator) (take_all (length ps) ps (omega arith))

pub loop-i-preserved : goal.loop-i-preserved
loop-i-preserved c =
    completed_some c.args.pivots.now c.loop-i.i (c.loop-i.i - 1) c.index-pivots-i.result (omega arith) (omega arith) c.index-pivots-i.is c.loop-i.levels.numerators c.loop-i.levels.denominator c.in_ok-levels.levels
    (ap (option_map terms_of) (sym c.in_ok-levels.ensures.ok_part) ∙ c.complete.ensures)
    ∙ c.loop-i.invariant

pub returns-in_err-levels : goal.returns-in_err-levels
returns-in_err-levels c =
    let e = err_from_is_err_and c.from_residual.result c.from_residual.ensures.1 in
    let z = failed c.complete.result c.new.result c.in_err-levels.field-0.0 c.in_err-levels.ensures.value in
    rw e.1
    (ap (λ (f : Fault). Verdict.fault f) (e.2 ∙ z ∙ c.new.ensures)
    ∙ completed_none c.args.pivots.now c.loop-i.i (c.loop-i.i - 1) c.index-pivots-i.result (omega arith) (omega arith) c.index-pivots-i.is c.loop-i.levels.numerators c.loop-i.levels.denominator
    (ap (option_map terms_of) (sym c.in_err-levels.ensures.ok_part) ∙ c.complete.ensures)
    ∙ c.loop-i.invariant)
