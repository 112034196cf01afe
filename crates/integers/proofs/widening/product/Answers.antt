use Rattle.std.proofs.Common.{◌*◌, ◌^◌, ◌≤◌, ℤ, ◌*ℤ◌, nat_abs, arith, w32, w64, SFits}
use Rattle.std.proofs.lemmas.Int.{ints, to_z-of_z}
use Rattle.integers.proofs.Bounds.{mul_near}
use Rattle.integers.proofs.widening.product.Goals as goal

size : (a b : ℤ) → SFits w32 a → SFits w32 b → SFits w64 (a *ℤ b)
size a b f g =
    let p : nat_abs a ≤ 2 ^ 31 = omega (arith, ints) in
    let q : nat_abs b ≤ 2 ^ 31 = omega (arith, ints) in
    let m : nat_abs (a *ℤ b) ≤ 2 ^ 31 * 2 ^ 31 = mul_near a b (2 ^ 31) (2 ^ 31) p q in
    omega (arith, ints)

pub overflow_mul-result : goal.overflow_mul-result
overflow_mul-result c =
    let a = c.args.a in
    let b = c.args.b in
    let fa : SFits w32 a = c.ranges.a in
    let fb : SFits w32 b = c.ranges.b in
    let wa : SFits w64 a = omega (arith, ints) in
    let wb : SFits w64 b = omega (arith, ints) in
    simp to_z-of_z (size a b fa fb)

pub returns : goal.returns
returns c =
    let a = c.args.a in
    let b = c.args.b in
    let fa : SFits w32 a = c.ranges.a in
    let fb : SFits w32 b = c.ranges.b in
    let wa : SFits w64 a = omega (arith, ints) in
    let wb : SFits w64 b = omega (arith, ints) in
    let p : SFits w64 (a *ℤ b) = size a b fa fb in
    simp to_z-of_z
