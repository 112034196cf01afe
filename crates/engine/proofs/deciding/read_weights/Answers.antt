use Rattle.std.proofs.Common.{◌≡◌, ℕ, ◌<◌, List, ◌++◌, get_or, take, ℤ, pos, sym, ap, ◌∙◌, subst, arith, w32, SFits, rules}
use Rattle.std.proofs.lemmas.List.{length-set, take_all, take-append-le}
use Rattle.std.proofs.lemmas.Int.{to_z-of_z}
use Rattle.rows.specs.Limits.{Within}
use Rattle.engine.specs.Interface.{Answer}
use Rattle.rows.proofs.Fits.{within_set}
use Rattle.engine.proofs.Readings.{weights_in, front_more, ok_same, load_read, loads_places, loads_within, loads_whole}
use Rattle.engine.proofs.deciding.read_weights.Goals as goal

pub loop-i-preserved : goal.loop-i-preserved
loop-i-preserved g c =
    let l = c.loop-i in
    let n = c.args.rows in
    let v = g.E.Engine.view c.args.engine.now in
    let ws = weights_in v.answer in
    let h : l.i < n = omega (arith, c.loop-i-test.true, l.invariant.0, c.requires.few) in
    let z = c.in_ok-value.field-0 in
    let fz : SFits w32 z = search rules in
    let read = ok_same z (get_or ws l.i (pos 0)) (c.in_ok-value.ensures ∙ load_read n v l.i c.requires.loads c.requires.held h) in
    let ez = to_z-of_z w32 z fz ∙ read in (
      length-set l.value-items l.i _ ∙ l.invariant.0,
      within_set l.value-items l.i _ l.invariant.1 (subst Within (sym ez) (loads_within n v.answer c.requires.loads l.i)),
      front_more l.value-items ws l.i _ (omega (arith, l.invariant.0, h)) (omega (arith, loads_places n v.answer c.requires.loads, h)) l.invariant.2 ez,
    )

pub returns : goal.returns
returns g c =
    let l = c.loop-i in
    let n = c.args.rows in
    let a = (g.E.Engine.view c.args.engine.now).answer in
    let ws = weights_in a in
    let all : take n (l.value-items ++ _) ≡ take n ws =
    take-append-le n l.value-items _ (omega (arith, l.invariant.0)) ∙ subst (λ (k : ℕ). take k l.value-items ≡ take k ws) (omega (arith, c.loop-i-test.false, l.invariant.0, c.requires.few, l.auto)) l.invariant.2 in
    ap (λ (xs : List ℤ). Answer.clash xs) (all ∙ take_all n ws (omega (arith, loads_places n a c.requires.loads))) ∙ loads_whole n a c.requires.loads
