use Rattle.std.proofs.Common.{◌≡◌, true, false, get_or, pos, sym, ◌∙◌, arith}
use Rattle.std.proofs.lemmas.Int.{to_z-of_z}
use Rattle.rows.specs.Rows.{unused}
use Rattle.rows.proofs.Fits.{fits_32}
use Rattle.rows.proofs.UnusedFaders.{unused_at, unused_none}
use Rattle.rows.proofs.row.Row.first_unused.Goals as goal

pub returns-then-is_unused : goal.returns-then-is_unused
returns-then-is_unused c =
    let zs = c.args.self.now.coefficients in
    let f = fits_32 (get_or zs c.loop-fader.fader (pos 0)) (c.args.self.now.within c.loop-fader.fader) in
    let e : unused c.args.count c.loop-fader.fader (get_or zs c.loop-fader.fader (pos 0)) ≡ true = sym (simp to_z-of_z at c.is_unused.ensures) ∙ c.if-is_unused.true in
    sym (unused_at c.args.count c.loop-fader.fader zs true (omega (arith, c.args.self.now.places)) e) ∙ c.loop-fader.invariant

pub loop-fader-preserved : goal.loop-fader-preserved
loop-fader-preserved c =
    let zs = c.args.self.now.coefficients in
    let f = fits_32 (get_or zs c.loop-fader.fader (pos 0)) (c.args.self.now.within c.loop-fader.fader) in
    let e : unused c.args.count c.loop-fader.fader (get_or zs c.loop-fader.fader (pos 0)) ≡ false = sym (simp to_z-of_z at c.is_unused.ensures) ∙ c.if-is_unused.false in
    sym (unused_at c.args.count c.loop-fader.fader zs false (omega (arith, c.args.self.now.places)) e) ∙ c.loop-fader.invariant

pub returns : goal.returns
returns c = sym (unused_none c.args.count c.loop-fader.fader c.args.self.now.coefficients (omega (arith, c.args.self.now.places))) ∙ c.loop-fader.invariant
