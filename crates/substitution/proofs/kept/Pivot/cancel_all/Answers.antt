use Rattle.std.proofs.Common.{length, sym, ap, ◌∙◌, arith}
use Rattle.std.proofs.lemmas.List.{length-take-le}
use Rattle.substitution.proofs.kept.Pivot.cancel_all.Goals as goal

pub invariant_of-rows : goal.invariant_of-rows
invariant_of-rows c = (c.rows.invariant.0, c.cancel_first.ensures.places)

pub returns-clause-len : goal.returns-clause-len
returns-clause-len c =
    length-take-le c.rows.inside.len c.cancel_first.new.rows (omega (arith, c.rows.invariant, c.cancel_first.ensures.places))
    ∙ sym (length-take-le c.rows.inside.len c.rows.inside.items (omega (arith, c.rows.invariant)))
    ∙ ap length c.rows.view_is
