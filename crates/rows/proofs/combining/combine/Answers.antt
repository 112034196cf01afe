use Rattle.std.proofs.Common.{◌≡◌, true, ◌&&◌, List, length, ℤ, ◌+ℤ◌, ◌*ℤ◌, Some, sym, ap, ◌∙◌, subst, w32, SFits, to_z, of_z}
use Rattle.std.proofs.lemmas.Int.{to_z-of_z}
use Rattle.std.proofs.lemmas.Bool.{and_from}
use Rattle.integers.specs.Vectors.{add, scale}
use Rattle.rows.specs.Limits.{near, all_near, narrowed, Within, EachWithin}
use Rattle.rows.specs.Carrying.{numbers_of, combination}
use Rattle.rows.proofs.Fits.{fits_32}
use Rattle.rows.proofs.Blends.{some_narrowed, all_near_each, near_within, blend_length}
use Rattle.rows.proofs.combining.combine.Goals as goal

-- a list that was blended
module _ (m n : ℤ) (xs ys out : List ℤ) (near : all_near (add (scale m xs) (scale n ys)) ≡ true) (is : out ≡ add (scale m xs) (scale n ys)) where
  blended_within : EachWithin out
  blended_within = subst EachWithin (sym is) (all_near_each (add (scale m xs) (scale n ys)) near)

  blended_length : length xs ≡ length ys → length out ≡ length xs
  blended_length e = ap length is ∙ blend_length m n xs ys e

-- the side
module _ (m n a b z : ℤ) (wa : Within a) (wb : Within b) where
  side_of : Some z ≡ narrowed (m *ℤ to_z w32 (of_z w32 a) +ℤ n *ℤ to_z w32 (of_z w32 b)) → (near (m *ℤ a +ℤ n *ℤ b) ≡ true) × (z ≡ m *ℤ a +ℤ n *ℤ b)
  side_of e =
      let fa = fits_32 a wa in
      let fb = fits_32 b wb in
      some_narrowed (m *ℤ a +ℤ n *ℤ b) z (simp to_z-of_z at e)

pub invariant_of-result : goal.invariant_of-result
invariant_of-result c =
    let m = c.args.m.value in
    let n = c.args.n.value in
    let a = c.args.a.now in
    let b = c.args.b.now in
    let s = side_of m n a.side b.side c.in_ok-side.side a.bounded b.bounded c.in_ok-side.ensures in
    let w : Within c.in_ok-side.side = subst Within (sym s.1) (near_within (m *ℤ a.side +ℤ n *ℤ b.side) s.0) in
    let f : SFits w32 c.in_ok-side.side = fits_32 c.in_ok-side.side w in
    record {
      places = blended_length m n a.coefficients b.coefficients c.in_ok-coefficients.coefficients c.in_ok-coefficients.ensures.0 c.in_ok-coefficients.ensures.1 (a.places ∙ sym b.places) ∙ a.places;
      within = blended_within m n a.coefficients b.coefficients c.in_ok-coefficients.coefficients c.in_ok-coefficients.ensures.0 c.in_ok-coefficients.ensures.1;
      bounded = simp to_z-of_z w;
      loads = blended_length m n a.weights b.weights c.in_ok-weights.weights c.in_ok-weights.ensures.0 c.in_ok-weights.ensures.1 (a.loads ∙ sym b.loads) ∙ a.loads;
      light = blended_within m n a.weights b.weights c.in_ok-weights.weights c.in_ok-weights.ensures.0 c.in_ok-weights.ensures.1;
    }

pub returns : goal.returns
returns c =
    let m = c.args.m.value in
    let n = c.args.n.value in
    let a = c.args.a.now in
    let b = c.args.b.now in
    let s = side_of m n a.side b.side c.in_ok-side.side a.bounded b.bounded c.in_ok-side.ensures in
    let w : Within c.in_ok-side.side = subst Within (sym s.1) (near_within (m *ℤ a.side +ℤ n *ℤ b.side) s.0) in
    let e = to_z-of_z w32 c.in_ok-side.side (fits_32 c.in_ok-side.side w) in
    let r = combination m (numbers_of a) n (numbers_of b) in (
      and_from (all_near r.coefficients) (near r.side && all_near r.weights) c.in_ok-coefficients.ensures.0 (and_from (near r.side) (all_near r.weights) s.0 c.in_ok-weights.ensures.0),
      λ j. record { coefficients = c.in_ok-coefficients.ensures.1 j; side = (e ∙ s.1) j; weights = c.in_ok-weights.ensures.1 j },
    )
