use Rattle.std.proofs.Common.{◌≡◌, ◌^◌, ◌<◌, ℤ, ◌-ℤ◌, nat_abs, sym, subst, w32, w64, SFits, rules}
use Rattle.std.proofs.lemmas.Int.{to_z-of_z}
use Rattle.rows.specs.Carrying.{numbers_of, remaining}
use Rattle.rows.proofs.Fits.{fits_32}
use Rattle.rows.proofs.Remainders.{remaining_near, remaining_fits}
use Rattle.rows.proofs.preset.Preset.remaining.Goals as goal
use Rattle.rows.proofs.preset.Preset.remaining.Goals.{After-sum}

-- what the two calls give
difference : (c : After-sum) → c.scaled_side.result -ℤ c.sum.result ≡ remaining (numbers_of c.args.carried.now) c.args.self.now.numerators c.args.self.now.denominator
difference c =
    let f : SFits w32 c.args.carried.now.side = fits_32 c.args.carried.now.side c.args.carried.now.bounded in
    let e = simp to_z-of_z at c.scaled_side.ensures in
    λ i. e i -ℤ c.sum.ensures i

pub overflow_sub-result : goal.overflow_sub-result
overflow_sub-result c =
    let f : SFits w64 c.scaled_side.result = search rules in
    let g : SFits w64 c.sum.result = search rules in
    simp to_z-of_z (subst (SFits w64) (sym (difference c)) (remaining_fits c.args.self.now c.args.carried.now))

pub returns : goal.returns
returns c =
    let f : SFits w64 c.scaled_side.result = search rules in
    let g : SFits w64 c.sum.result = search rules in
    let h : SFits w64 (c.scaled_side.result -ℤ c.sum.result) = subst (SFits w64) (sym (difference c)) (remaining_fits c.args.self.now c.args.carried.now) in
    simp to_z-of_z (record { value = difference c; size = subst (λ (z : ℤ). nat_abs z < 2 ^ 63) (sym (difference c)) (remaining_near c.args.self.now c.args.carried.now) })
