use Rattle.std.proofs.Common.{length, arith}
use Rattle.std.proofs.lemmas.List.{length-take}
use Rattle.rows.specs.Rows.{constraints}
use Rattle.rows.specs.Clashes.{used}
use Rattle.rows.proofs.Excluding.{excludes}
use Rattle.rows.proofs.Firsts.{none_decides}
use Rattle.rows.proofs.Flaws.{flawed_no_clash}
use Rattle.rows.proofs.clashes.is_clash.Goals as goal

pub returns : goal.returns
returns c =
    let w = c.args.weights.now in
    let rs = constraints c.args.rows.now in
    let d = none_decides c.clash_flaw.result c.is_none.result c.clash_flaw.ensures (λ f. flawed_no_clash (used w rs) rs f (omega (arith, length-take (length rs) w.values, w.places))) c.is_none.ensures in
    record { clash = d; excludes = λ e. excludes (used w rs) rs (d.0 e) }
