use Rattle.rows.specs.Rows.{constraints, Meets}
use Rattle.rows.proofs.Firsts.{first_not_all, none_decides}
use Rattle.rows.proofs.preset.Preset.meets_all.Goals as goal

pub returns-clause-meets : goal.returns-clause-meets
returns-clause-meets c =
    let p = c.args.self.now in
    none_decides c.first_unmet.result c.is_none.result c.first_unmet.ensures (λ i. first_not_all (Meets p.numerators p.denominator) (constraints c.args.rows.now) i) c.is_none.ensures
