use Rattle.std.proofs.Common.{◌∙◌, rules, tests}
use Rattle.std.proofs.lemmas.Iterator.{YieldsList-from_slice}
use Rattle.std.proofs.lemmas.Iterator.Search.{position_from_yields_List}
use Rattle.std.proofs.lemmas.Iterator.Adapters.{position_from-zero}
use Rattle.rows.specs.declared.row.Row.{Row}
use Rattle.elimination.specs.Working.{is_equation}
use Rattle.elimination.proofs.Filled.{equation_place}
use Rattle.elimination.proofs.filling.first_equation.Goals as goal

pub returns : goal.returns
returns c =
    let rows = c.args.rows.now in
    let test = λ (r : Row). is_equation r.kind in
    position_from_yields_List test _ _ c.position.result c.position.ensures.ran (YieldsList-from_slice rows cc) (λ x b q k. search (rules, tests)) ∙ position_from-zero test rows ∙ equation_place rows 0
