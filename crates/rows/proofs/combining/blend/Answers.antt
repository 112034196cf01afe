use Rattle.std.proofs.Common.{◌≡◌, ℕ, ◌<◌, List, length, get_or, ℤ, pos, ◌+ℤ◌, ◌*ℤ◌, refl, sym, ap, ◌∙◌, arith, w32, SFits, rules}
use Rattle.std.proofs.lemmas.Int.{to_z-of_z}
use Rattle.std.proofs.lemmas.List.{length-set, length-replicate, take_all}
use Rattle.integers.specs.Vectors.{add, scale}
use Rattle.rows.specs.Limits.{all_near}
use Rattle.rows.proofs.Fits.{fits_32}
use Rattle.rows.proofs.Blends.{blend_length, blend_at}
use Rattle.rows.proofs.Writing.{failed, placed, still_near}
use Rattle.rows.proofs.combining.blend.Goals as goal

-- one turn, at the place i of lists of one length
module _ (m n : ℤ) (xs ys : List ℤ) (i : ℕ) (e : length xs ≡ length ys) (h : i < length xs) where
  within_whole : i < length (add (scale m xs) (scale n ys))
  within_whole = rw (blend_length m n xs ys e) h

pub loop-i-init : goal.loop-i-init
loop-i-init g c = (length-replicate g.row.N (pos 0) ∙ sym c.told-xs, refl, refl)

pub returns-in_err-z : goal.returns-in_err-z
returns-in_err-z g c =
    let m = c.args.m.value in
    let n = c.args.n.value in
    let xs = c.args.xs.now in
    let ys = c.args.ys.now in
    let i = c.loop-i.i in
    let fx = fits_32 (get_or xs i (pos 0)) (c.requires.0 i) in
    let fy = fits_32 (get_or ys i (pos 0)) (c.requires.1 i) in
    let none = simp to_z-of_z at c.in_err-z.ensures in
    let l : length xs ≡ length ys = omega (arith, c.told-xs, c.told-ys) in
    let h : i < length xs = omega (arith, c.told-xs, c.loop-i-test.true) in
    rw c.from_residual.ensures (sym (failed (add (scale m xs) (scale n ys)) i (m *ℤ get_or xs i (pos 0) +ℤ n *ℤ get_or ys i (pos 0)) (within_whole m n xs ys i l h) (blend_at m n xs ys l i) none))

pub loop-i-preserved : goal.loop-i-preserved
loop-i-preserved g c =
    let m = c.args.m.value in
    let n = c.args.n.value in
    let xs = c.args.xs.now in
    let ys = c.args.ys.now in
    let i = c.loop-i.i in
    let fz : SFits w32 c.in_ok-z.field-0 = search rules in
    let fx = fits_32 (get_or xs i (pos 0)) (c.requires.0 i) in
    let fy = fits_32 (get_or ys i (pos 0)) (c.requires.1 i) in
    let some = simp to_z-of_z at c.in_ok-z.ensures in
    let l : length xs ≡ length ys = omega (arith, c.told-xs, c.told-ys) in
    let h : i < length xs = omega (arith, c.told-xs, c.loop-i-test.true) in
    let z = m *ℤ get_or xs i (pos 0) +ℤ n *ℤ get_or ys i (pos 0) in
    let w = within_whole m n xs ys i l h in
    let a = blend_at m n xs ys l i in
    let W = add (scale m xs) (scale n ys) in
    let k : length c.loop-i.z-items ≡ length W = c.loop-i.invariant.0 ∙ sym (blend_length m n xs ys l) in
    simp to_z-of_z (
      length-set c.loop-i.z-items i _ ∙ c.loop-i.invariant.0,
      placed W i z w a c.loop-i.z-items c.in_ok-z.field-0 some k c.loop-i.invariant.1,
      still_near W i z w a c.in_ok-z.field-0 some c.loop-i.invariant.2,
    )

pub returns : goal.returns
returns g c =
    let m = c.args.m.value in
    let n = c.args.n.value in
    let xs = c.args.xs.now in
    let ys = c.args.ys.now in
    let i = c.loop-i.i in
    let l : length xs ≡ length ys = omega (arith, c.told-xs, c.told-ys) in
    let e = blend_length m n xs ys l in
    let t = take_all i (add (scale m xs) (scale n ys)) (omega (arith, c.told-xs, c.loop-i-test.false, e)) in
    (sym (ap all_near t) ∙ c.loop-i.invariant.2, sym (take_all i c.loop-i.z-items (omega (arith, c.told-xs, c.loop-i-test.false, c.loop-i.invariant.0))) ∙ c.loop-i.invariant.1 ∙ t)
