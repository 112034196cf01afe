use Rattle.std.proofs.Common.{◌≡◌, ℕ, ◌<◌, ◌≤◌, List, length, get_or, take, ℤ, pos, sym, ap, ◌∙◌, subst, arith, w32, SFits, rules}
use Rattle.std.proofs.lemmas.List.{length-set, take_all}
use Rattle.std.proofs.lemmas.Int.{to_z-of_z}
use Rattle.rows.specs.Limits.{faders, EachWithin}
use Rattle.engine.specs.Interface.{Answer}
use Rattle.engine.proofs.Readings.{numerators_in, front_more, ok_same, level_read, levels_places, levels_within, levels_denominator, levels_whole}
use Rattle.engine.proofs.deciding.read_preset.Goals as goal

pub loop-k-preserved : goal.loop-k-preserved
loop-k-preserved g c =
    let l = c.loop-k in
    let a = (g.E.Engine.view c.args.engine.now).answer in
    let z = c.in_ok-numerator.field-0 in
    let fz : SFits w32 z = search rules in
    let h : l.k < faders = c.loop-k-test.true in
    let read = ok_same z (get_or (numerators_in a) l.k (pos 0)) (c.in_ok-numerator.ensures ∙ level_read c.args.denominator a l.k c.requires h) in
    let ez = to_z-of_z w32 z fz in (
      length-set l.numerator-items l.k _ ∙ l.invariant.0,
      front_more l.numerator-items (numerators_in a) l.k _ (omega (arith, l.invariant.0)) (omega (arith, levels_places c.args.denominator a c.requires)) l.invariant.1 (ez ∙ read),
    )

-- all the numerators are read
module _ (xs ys : List ℤ) (k : ℕ) (h : faders ≤ k) (p : length xs ≡ faders) (q : length ys ≡ faders) where
  all_read : take k xs ≡ take k ys → xs ≡ ys
  all_read e = sym (take_all k xs (omega arith)) ∙ e ∙ take_all k ys (omega arith)

pub invariant_of-result : goal.invariant_of-result
invariant_of-result g c =
    let l = c.loop-k in
    let a = (g.E.Engine.view c.args.engine.now).answer in
    let d = c.args.denominator in
    let e = all_read l.numerator-items (numerators_in a) l.k c.loop-k-test.false l.invariant.0 (levels_places d a c.requires) l.invariant.1 in
    record {
      places = l.invariant.0;
      within = subst EachWithin (sym e) (levels_within d a c.requires);
      positive = (levels_denominator d a c.requires).0;
      bounded = (levels_denominator d a c.requires).1;
    }

pub returns : goal.returns
returns g c =
    let l = c.loop-k in
    let a = (g.E.Engine.view c.args.engine.now).answer in
    let d = c.args.denominator in
    let e = all_read l.numerator-items (numerators_in a) l.k c.loop-k-test.false l.invariant.0 (levels_places d a c.requires) l.invariant.1 in
    ap (λ (ns : List ℤ). Answer.preset ns d) e ∙ levels_whole d a c.requires
