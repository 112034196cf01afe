use Rattle.std.proofs.Common.{◌≡◌, false, List, get_or, refl, sym, subst, ap, ◌∙◌}
use Rattle.std.proofs.lemmas.Result.{err_from_is_err_and}
use Rattle.substitution.specs.declared.kept.Kept.{Kept}
use Rattle.substitution.specs.Reduction.{Reduced.clashing, is_equation}
use Rattle.substitution.proofs.Places.{none_by_bits, some_by_bits}
use Rattle.substitution.proofs.Looks.{not_equation, taken_equation, ahead_at, passes, contradicts, empties, stops, solves}
use Rattle.substitution.proofs.reduction.Reduction.look.Goals as goal

pub returns-then-ne-clause-value : goal.returns-then-ne-clause-value
returns-then-ne-clause-value c =
    let s = c.args.self.now in
    let k = c.index-as_slice-self.result in
    let e = c.index-as_slice-self.is ∙ ap (λ (xs : List Kept). get_or xs s.place k) c.as_slice.ensures in
    passes s.rows.now s.pivots.now s.place k c.requires e (subst (λ (x : Kept). is_equation x.kind ≡ false) (sym c.index-as_slice-self.is) (not_equation (get_or c.as_slice.result.now s.place k).kind c.if-ne.ensures))

pub returns-then-row-ne0-clause-value : goal.returns-then-row-ne0-clause-value
returns-then-row-ne0-clause-value c =
    let s = c.args.self.now in
    let k = c.remove.result in
    let e = c.remove.ensures.value in
    let q = taken_equation s.rows.now c.as_slice.result.now s.place c.index-as_slice-self.result k c.requires c.as_slice.ensures e c.if-ne.ensures in
    ap clashing c.contradiction.ensures
    ∙ contradicts s.rows.now s.pivots.now s.place k c.requires e q (sym c.in_default.ensures.value) (some_by_bits k.row.side c.if-row-ne0.true)

pub returns-in_default-clause-value : goal.returns-in_default-clause-value
returns-in_default-clause-value c =
    let s = c.args.self.now in
    let k = c.remove.result in
    let e = c.remove.ensures.value in
    let q = taken_equation s.rows.now c.as_slice.result.now s.place c.index-as_slice-self.result k c.requires c.as_slice.ensures e c.if-ne.ensures in
    empties s.rows.now s.pivots.now s.place k c.requires e c.remove.new.self c.remove.ensures.rest q (sym c.in_default.ensures.value) (none_by_bits k.row.side k.row.bounded c.if-row-ne0.false)

pub returns-in_err-cancel_all-clause-value : goal.returns-in_err-cancel_all-clause-value
returns-in_err-cancel_all-clause-value c =
    let s = c.args.self.now in
    let k = c.remove.result in
    let e = c.remove.ensures.value in
    let q = taken_equation s.rows.now c.as_slice.result.now s.place c.index-as_slice-self.result k c.requires c.as_slice.ensures e c.if-ne.ensures in
    let p = err_from_is_err_and c.from_residual.result c.from_residual.ensures.1 in
    let v = c.in_err-cancel_all.ensures.value in
    rw (p.1, p.2, v.1)
    (stops s.rows.now s.pivots.now s.place k c.requires e c.remove.new.self c.remove.ensures.rest q c.in-Some.fader.index (sym c.in-Some.ensures.value) v.0)

pub returns-clause-value : goal.returns-clause-value
returns-clause-value c =
    let s = c.args.self.now in
    let k = c.remove.result in
    let e = c.remove.ensures.value in
    let q = taken_equation s.rows.now c.as_slice.result.now s.place c.index-as_slice-self.result k c.requires c.as_slice.ensures e c.if-ne.ensures in
    (λ j. ahead_at c.cancel_all.new.rows (c.push.ensures j) s.place)
    ∙ solves s.rows.now s.pivots.now s.place k c.requires e c.remove.new.self c.remove.ensures.rest q c.cancel_all.new.rows _ c.cancel_all.ensures.len refl (sym c.in-Some.ensures.value) c.in_ok-cancel_all.ensures.value
