use Rattle.std.proofs.Common.{◌≡◌, ◌*◌, ◌≤◌, pos, ◌*ℤ◌, nat_abs, arith, w32, w64, SFits, to_z}
use Rattle.std.proofs.lemmas.Int.{to_z-of_z, to_z_pos}
use Rattle.rows.specs.Limits.{largest}
use Rattle.rows.proofs.Fits.{fits_32, fits_64, product}
use Rattle.rows.proofs.preset.Preset.scaled_side.Goals as goal

pub overflow_mul-result : goal.overflow_mul-result
overflow_mul-result c =
    let side = c.args.row.now.side in
    let d = c.args.self.now.denominator in
    let p : nat_abs (side *ℤ pos d) ≤ largest * largest = product side (pos d) c.args.row.now.bounded c.args.self.now.bounded in
    let f32 : SFits w32 side = fits_32 side c.args.row.now.bounded in
    let f64 : SFits w64 side = fits_64 side (omega (arith, c.args.row.now.bounded)) in
    let e : to_z w64 d ≡ pos d = to_z_pos w64 d (omega (arith, c.args.self.now.bounded)) in
    simp (to_z-of_z, e) (fits_64 (side *ℤ pos d) (omega arith))

pub returns : goal.returns
returns c =
    let side = c.args.row.now.side in
    let d = c.args.self.now.denominator in
    let p : nat_abs (side *ℤ pos d) ≤ largest * largest = product side (pos d) c.args.row.now.bounded c.args.self.now.bounded in
    let f32 : SFits w32 side = fits_32 side c.args.row.now.bounded in
    let f64 : SFits w64 side = fits_64 side (omega (arith, c.args.row.now.bounded)) in
    let e : to_z w64 d ≡ pos d = to_z_pos w64 d (omega (arith, c.args.self.now.bounded)) in
    let fp : SFits w64 (side *ℤ pos d) = fits_64 (side *ℤ pos d) (omega arith) in
    simp (to_z-of_z, e)
