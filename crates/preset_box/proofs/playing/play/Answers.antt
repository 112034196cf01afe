-- What `play` leaves to show. Assumes nothing.
use Rattle.std.proofs.Common.{◌≡◌, length, take, None, Option, refl, ap, ◌∙◌, subst}
use Rattle.engine.specs.declared.refusal.Refusal.{Refusal}
use Rattle.elimination.specs.Table.{room}
use Rattle.plans.specs.Plans.{no_plan}
use Rattle.console.specs.Asking.{table_refusal}
use Rattle.console.specs.Replies.{reply_views}
use Rattle.console.specs.Law.{RunLaw}
use Rattle.console.specs.Exact.{replies}
use Rattle.sold_engine.specs.Sold.{sold_verdict}
use Rattle.preset_box.proofs.NeverTooLarge.{small_law}
use Rattle.preset_box.proofs.playing.play.Goals as goal

pub returns : goal.returns
returns c =
    let n = c.play.result in
    let cs = take n c.args.commands.now in
    let rs = reply_views (take n c.play.new.replies) in
    let taken : table_refusal room (length c.new_table-table.result) ≡ None = ap (table_refusal room) c.new_table-table.ensures ∙ refl in
    let exact = subst (λ (o : Option Refusal). rs ≡ replies sold_verdict o no_plan cs) taken c.play.ensures.exact in
    record {
      count = c.play.ensures.count;
      rest = c.play.ensures.rest;
      law = subst (λ (o : Option Refusal). RunLaw sold_verdict o cs rs) taken c.play.ensures.law;
      small = small_law cs rs exact c.play.ensures.valid;
      exact = exact;
    }
