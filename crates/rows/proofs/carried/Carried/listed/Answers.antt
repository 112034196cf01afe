use Rattle.std.proofs.Common.{length, replicate, pos, sym, ap, ◌∙◌, subst, lit≤, w32}
use Rattle.std.proofs.lemmas.Int.{to_z-of_z}
use Rattle.std.proofs.lemmas.List.{length-set}
use Rattle.rows.specs.Limits.{most_rows, EachWithin}
use Rattle.rows.proofs.Fits.{fits_32, within_set, zeros_within}
use Rattle.rows.proofs.carried.Carried.listed.Goals as goal

pub invariant_of-result : goal.invariant_of-result
invariant_of-result c =
    let r = c.args.row.now in
    let f = fits_32 r.side r.bounded in record {
      places = r.places;
      within = r.within;
      bounded = simp to_z-of_z r.bounded;
      loads = ap length c.unit-weights.ensures ∙ length-set (replicate most_rows (pos 0)) c.args.place (pos 1);
      light = subst EachWithin (sym c.unit-weights.ensures) (within_set (replicate most_rows (pos 0)) c.args.place (pos 1) (zeros_within most_rows) (lit≤ tt));
    }

pub returns : goal.returns
returns c =
    let r = c.args.row.now in
    let f = fits_32 r.side r.bounded in
    λ j. record { coefficients = r.coefficients; side = to_z-of_z w32 r.side f j; weights = c.unit-weights.ensures j }
