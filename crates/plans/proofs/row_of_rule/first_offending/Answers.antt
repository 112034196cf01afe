use Rattle.std.proofs.Common.{◌≡◌, true, false, get_or, pos, sym, ◌∙◌, arith, w16, SFits, rules}
use Rattle.std.proofs.lemmas.Int.{to_z-of_z}
use Rattle.plans.specs.Edits.{offends}
use Rattle.plans.proofs.Offending.{offending_at, offending_none}
use Rattle.plans.proofs.row_of_rule.first_offending.Goals as goal

pub returns-then-is_offending : goal.returns-then-is_offending
returns-then-is_offending c =
    let zs = c.args.coefficients.now in
    let f : SFits w16 (get_or zs c.loop-fader.fader (pos 0)) = search rules in
    let e : offends c.args.count c.loop-fader.fader (get_or zs c.loop-fader.fader (pos 0)) ≡ true = sym (simp to_z-of_z at c.is_offending.ensures) ∙ c.if-is_offending.true in
    sym (offending_at c.args.count c.loop-fader.fader zs true (omega arith) e) ∙ c.loop-fader.invariant

pub loop-fader-preserved : goal.loop-fader-preserved
loop-fader-preserved c =
    let zs = c.args.coefficients.now in
    let f : SFits w16 (get_or zs c.loop-fader.fader (pos 0)) = search rules in
    let e : offends c.args.count c.loop-fader.fader (get_or zs c.loop-fader.fader (pos 0)) ≡ false = sym (simp to_z-of_z at c.is_offending.ensures) ∙ c.if-is_offending.false in
    sym (offending_at c.args.count c.loop-fader.fader zs false (omega arith) e) ∙ c.loop-fader.invariant

pub returns : goal.returns
returns c = sym (offending_none c.args.count c.loop-fader.fader c.args.coefficients.now (omega arith)) ∙ c.loop-fader.invariant
