-- What a carried row leaves at levels fits the machine's types. Assumes nothing.
use Rattle.std.proofs.Common.{suc, ◌*◌, ◌^◌, ◌<◌, ◌≤◌, List, [], ◌∷◌, length, ℤ, pos, ◌-ℤ◌, ◌*ℤ◌, nat_abs, arith, w64, SFits}
use Rattle.std.specs.List.{AllByRecursion as All}
use Rattle.std.proofs.lemmas.Int.{ints}
use Rattle.integers.specs.Vectors.{dot}
use Rattle.integers.proofs.Bounds.{abs_in, abs_out}
use Rattle.integers.proofs.VectorLaws.{dot_near}
use Rattle.rows.specs.declared.carried.Carried.{Carried}
use Rattle.rows.specs.declared.preset.Preset.{Preset}
use Rattle.rows.specs.Limits.{largest, Within, EachWithin}
use Rattle.rows.specs.Carrying.{numbers_of, remaining}
use Rattle.rows.proofs.Fits.{fits_64, product}

all_within : (zs : List ℤ) → EachWithin zs → All Within zs
all_within [] w = tt
all_within (z ∷ zs) w = (w 0, all_within zs (λ k. w (suc k)))

-- the difference of a product and of six
apart : (a b : ℤ) → nat_abs a ≤ largest * largest → nat_abs b ≤ 6 * (largest * largest) → nat_abs (a -ℤ b) < 2 ^ 63
apart a b p q =
    let h : nat_abs (a -ℤ b) ≤ 7 * (largest * largest) = abs_in (a -ℤ b) (7 * (largest * largest)) (omega (arith, ints, abs_out a (largest * largest) p, abs_out b (6 * (largest * largest)) q)) (omega (arith, ints, abs_out a (largest * largest) p, abs_out b (6 * (largest * largest)) q)) in
    omega arith

module _ (p : Preset) (c : Carried) where
  pub remaining_near : nat_abs (remaining (numbers_of c) p.numerators p.denominator) < 2 ^ 63
  remaining_near =
      let n : nat_abs (dot c.coefficients p.numerators) ≤ length c.coefficients * (largest * largest) = dot_near largest largest c.coefficients p.numerators (all_within c.coefficients c.within) (all_within p.numerators p.within) in
      let m : nat_abs (dot c.coefficients p.numerators) ≤ 6 * (largest * largest) = rw c.places at n in
      apart (c.side *ℤ pos p.denominator) (dot c.coefficients p.numerators) (product c.side (pos p.denominator) c.bounded p.bounded) m

  pub remaining_fits : SFits w64 (remaining (numbers_of c) p.numerators p.denominator)
  remaining_fits = fits_64 (remaining (numbers_of c) p.numerators p.denominator) remaining_near
