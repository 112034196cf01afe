use Rattle.std.proofs.Common.{length, sym, ap, ◌∙◌, subst}
use Rattle.std.proofs.lemmas.List.{length-map}
use Rattle.rows.specs.Rows.{constraint, constraints}
use Rattle.engine.specs.Interface.{View}
use Rattle.engine.specs.Verdicts.{Valid}
use Rattle.engine.proofs.Loading.{unrefused_valid}
use Rattle.engine.proofs.Replying.{loaded_replies}
use Rattle.engine.proofs.deciding.decide_rows.Goals as goal

pub decide_held-requires : goal.decide_held-requires
decide_held-requires g c =
    let l = c.in_ok-load.ensures in
    record {
      valid = subst (λ (v : View). Valid v.count v.rows) (sym l.1) (unrefused_valid c.args.count c.args.rows.now l.0);
      held = ap (λ (v : View). length v.rows) l.1 ∙ length-map c.args.rows.now constraint;
    }

pub returns : goal.returns
returns g c =
    let l = c.in_ok-load.ensures in
    loaded_replies g.E.Engine.verdict g.E.Engine.cells c.args.count (constraints c.args.rows.now) (length c.args.table.now) _ c.decide_held.result l.0 l.1 c.decide_held.ensures
