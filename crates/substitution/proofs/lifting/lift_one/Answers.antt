use Rattle.std.proofs.Common.{◌≡◌, ℕ, ◌<◌, List, length, get_or, take, ℤ, pos, Some, None, Option, sym, ap, ◌∙◌, subst, arith, w32, to_z, SFits, rules}
use Rattle.std.proofs.lemmas.List.{length-take, get_or-take, length_push}
use Rattle.std.proofs.lemmas.Int.{to_z-of_z}
use Rattle.std.proofs.lemmas.Slice.Zip.{zip_turn}
use Rattle.rows.proofs.Fits.{fits_32}
use Rattle.substitution.specs.Lifting.{carried_weights}
use Rattle.substitution.specs.Holding.{kepts}
use Rattle.substitution.specs.declared.kept.Kept.{Kept as Held}
use Rattle.substitution.proofs.Terms.{with_term, terms_none, terms_some, carried_at, carried_length}
use Rattle.substitution.proofs.lifting.lift_one.Goals as goal

-- what the call says, by the places of both lists
module _ (ws : List ℤ) (rows : List Held) (i place : ℕ) (r : Held) (s : ℤ) (h : i < length rows) (e : r ≡ get_or rows i r) where
  weight_is : get_or ws i (pos 0) ≡ get_or (take (length rows) ws) i (pos 0)
  weight_is = sym (get_or-take (length rows) ws i (pos 0) h)

  pub by_place : (o : Option ℤ) → o ≡ with_term s (get_or ws i (pos 0)) (get_or r.row.weights place (pos 0)) → o ≡ with_term s (get_or (take (length rows) ws) i (pos 0)) (get_or (carried_weights place (kepts rows)) i (pos 0))
  by_place o q = q ∙ (λ j. with_term s (weight_is j) (sym (carried_at rows i place r h e) j))

pub returns-in_err-sum : goal.returns-in_err-sum
returns-in_err-sum c =
    let ws = c.args.below.now.values in
    let rows = c.args.rows.now in
    let place = c.args.place in
    let i = length c.loop-weight.yielded in
    let r = c.in-Some.kept.now in
    let us = carried_weights place (kepts rows) in
    let n = carried_length rows place in
    let k = length-take (length rows) ws in
    let t = zip_turn ws rows c.loop-weight.yielded c.into_iter-weight-iterator.result c.loop-weight.weight-iterator c.next.new.self c.next.result (cc) (cc) c.loop-weight.yielded_by _ c.in-Some.is c.next.ensures.steps in
    let w = t.2 (pos 0) in
    let b : SFits w32 c.in-Some.weight.now = subst (SFits w32) (sym w) (fits_32 (get_or ws i (pos 0)) (c.args.below.now.within i)) in
    let d : SFits w32 (get_or r.row.weights place (pos 0)) = fits_32 (get_or r.row.weights place (pos 0)) (r.row.light place) in
    let q = simp to_z-of_z at c.add_term.ensures in
    let v = λ (o : Option ℤ) (is : c.add_term.result ≡ o). by_place ws rows i place r (to_z w32 c.loop-weight.sum-bits) t.1 (t.3 r) o (sym is ∙ q ∙ ap (λ (z : ℤ). with_term (to_z w32 c.loop-weight.sum-bits) z (get_or r.row.weights place (pos 0))) w) in
    c.from_residual.ensures ∙ terms_none (take (length rows) ws) us i (omega (arith, k, n, t.0, t.1)) (omega (arith, k, n, t.0, t.1)) _ (v None c.in_err-sum.was) ∙ sym c.loop-weight.invariant.0

pub loop-weight-preserved : goal.loop-weight-preserved
loop-weight-preserved c =
    let ws = c.args.below.now.values in
    let rows = c.args.rows.now in
    let place = c.args.place in
    let i = length c.loop-weight.yielded in
    let r = c.in-Some.kept.now in
    let us = carried_weights place (kepts rows) in
    let n = carried_length rows place in
    let k = length-take (length rows) ws in
    let t = zip_turn ws rows c.loop-weight.yielded c.into_iter-weight-iterator.result c.loop-weight.weight-iterator c.next.new.self c.next.result (cc) (cc) c.loop-weight.yielded_by _ c.in-Some.is c.next.ensures.steps in
    let w = t.2 (pos 0) in
    let b : SFits w32 c.in-Some.weight.now = subst (SFits w32) (sym w) (fits_32 (get_or ws i (pos 0)) (c.args.below.now.within i)) in
    let d : SFits w32 (get_or r.row.weights place (pos 0)) = fits_32 (get_or r.row.weights place (pos 0)) (r.row.light place) in
    let q = simp to_z-of_z at c.add_term.ensures in
    let v = λ (o : Option ℤ) (is : c.add_term.result ≡ o). by_place ws rows i place r (to_z w32 c.loop-weight.sum-bits) t.1 (t.3 r) o (sym is ∙ q ∙ ap (λ (z : ℤ). with_term (to_z w32 c.loop-weight.sum-bits) z (get_or r.row.weights place (pos 0))) w) in
    let m : SFits w32 c.in_ok-sum.sum = search rules in
    rw (length_push c.loop-weight.yielded (c.in-Some.weight, c.in-Some.kept))
    (simp to_z-of_z (c.loop-weight.invariant.0 ∙ terms_some (take (length rows) ws) us i (omega (arith, k, n, t.0, t.1)) (omega (arith, k, n, t.0, t.1)) _ c.in_ok-sum.sum (v (Some c.in_ok-sum.sum) c.in_ok-sum.was)), (tt, tt), tt)
