use Rattle.std.proofs.Common.{◌≡◌, ℕ, ◌+◌, ◌*◌, ◌<◌, ◌≤◌, List, length, get_or, ℤ, pos, ◌+ℤ◌, ◌*ℤ◌, nat_abs, sym, ◌∙◌, arith, w32, w64, SFits, to_z, of_z, rules}
use Rattle.std.proofs.lemmas.Int.{to_z-of_z}
use Rattle.std.proofs.lemmas.List.{length-append}
use Rattle.std.proofs.lemmas.Slice.Zip.{zip_turn, zip_end}
use Rattle.integers.specs.Vectors.{dot}
use Rattle.rows.specs.Limits.{largest, EachWithin}
use Rattle.rows.proofs.Fits.{fits_32, fits_64, one_more}
use Rattle.rows.proofs.Sums.{rest, rest_more, rest_all_left}
use Rattle.rows.proofs.preset.Preset.sum.Goals as goal

-- one turn, which adds the product p of x and y, the numbers at the place i
module _ (xs ys : List ℤ) (wx : EachWithin xs) (wy : EachWithin ys) (i : ℕ) (s x y p : ℤ) (ex : x ≡ get_or xs i (pos 0)) (ey : y ≡ get_or ys i (pos 0)) (ep : p ≡ to_z w32 (of_z w32 x) *ℤ to_z w32 (of_z w32 y)) where
  turn : p ≡ get_or xs i (pos 0) *ℤ get_or ys i (pos 0)
  turn =
      let fx = fits_32 (get_or xs i (pos 0)) (wx i) in
      let fy = fits_32 (get_or ys i (pos 0)) (wy i) in
      simp to_z-of_z at (rw (ex, ey) at ep)

  near : nat_abs s ≤ i * (largest * largest) → nat_abs (s +ℤ p) ≤ (i + 1) * (largest * largest)
  near n = rw turn (one_more s (get_or xs i (pos 0)) (get_or ys i (pos 0)) i n (wx i) (wy i))

  more : i < length xs → i < length ys → rest (s +ℤ p) xs ys (i + 1) ≡ rest s xs ys i
  more h k = rw turn (rest_more s xs ys i h k)

pub overflow_add-sum : goal.overflow_add-sum
overflow_add-sum c =
    let xs = c.args.row.now.coefficients in
    let ys = c.args.self.now.numerators in
    let t = zip_turn xs ys _ c.into_iter-coefficient-iterator.result c.loop-coefficient.coefficient-iterator c.next.new.self _ (search rules) (search rules) c.loop-coefficient.yielded_by (c.in-Some.coefficient, c.in-Some.numerator) c.in-Some.is c.next.ensures.steps in
    let i = length c.loop-coefficient.yielded in
    let n : nat_abs c.loop-coefficient.sum ≤ i * (largest * largest) = rw c.loop-coefficient.sum-is at c.loop-coefficient.invariant.1 in
    let m = near xs ys c.args.row.now.within c.args.self.now.within i c.loop-coefficient.sum c.in-Some.coefficient.now c.in-Some.numerator.now c.product-sum.result (t.2 (pos 0)) (t.3 (pos 0)) c.product-sum.ensures n in
    let fr : SFits w64 c.product-sum.result = search rules in
    let f : SFits w64 (c.loop-coefficient.sum +ℤ c.product-sum.result) = fits_64 (c.loop-coefficient.sum +ℤ c.product-sum.result) (omega (arith, m, t.0, c.args.row.now.places)) in
    simp (to_z-of_z, c.loop-coefficient.sum-is) f

pub loop-coefficient-preserved : goal.loop-coefficient-preserved
loop-coefficient-preserved c =
    let xs = c.args.row.now.coefficients in
    let ys = c.args.self.now.numerators in
    let t = zip_turn xs ys _ c.into_iter-coefficient-iterator.result c.loop-coefficient.coefficient-iterator c.next.new.self _ (search rules) (search rules) c.loop-coefficient.yielded_by (c.in-Some.coefficient, c.in-Some.numerator) c.in-Some.is c.next.ensures.steps in
    let i = length c.loop-coefficient.yielded in
    let n : nat_abs c.loop-coefficient.sum ≤ i * (largest * largest) = rw c.loop-coefficient.sum-is at c.loop-coefficient.invariant.1 in
    let before : rest c.loop-coefficient.sum xs ys i ≡ dot xs ys = rw c.loop-coefficient.sum-is at c.loop-coefficient.invariant.0 in
    let m = near xs ys c.args.row.now.within c.args.self.now.within i c.loop-coefficient.sum c.in-Some.coefficient.now c.in-Some.numerator.now c.product-sum.result (t.2 (pos 0)) (t.3 (pos 0)) c.product-sum.ensures n in
    let a = more xs ys c.args.row.now.within c.args.self.now.within i c.loop-coefficient.sum c.in-Some.coefficient.now c.in-Some.numerator.now c.product-sum.result (t.2 (pos 0)) (t.3 (pos 0)) c.product-sum.ensures t.0 t.1 in
    let fr : SFits w64 c.product-sum.result = search rules in
    let f : SFits w64 (c.loop-coefficient.sum +ℤ c.product-sum.result) = fits_64 (c.loop-coefficient.sum +ℤ c.product-sum.result) (omega (arith, m, t.0, c.args.row.now.places)) in
    simp (to_z-of_z, c.loop-coefficient.sum-is, length-append) (a ∙ before, m)

pub returns : goal.returns
returns c =
    let xs = c.args.row.now.coefficients in
    let ys = c.args.self.now.numerators in
    let e = zip_end xs ys _ c.into_iter-coefficient-iterator.result c.loop-coefficient.coefficient-iterator c.next.new.self _ (search rules) (search rules) c.loop-coefficient.yielded_by c.in-None.is c.next.ensures.steps in
    let i : rest c.loop-coefficient.sum xs ys (length c.loop-coefficient.yielded) ≡ dot xs ys = rw c.loop-coefficient.sum-is at c.loop-coefficient.invariant.0 in
    c.loop-coefficient.sum-is ∙ sym (rest_all_left c.loop-coefficient.sum xs ys (length c.loop-coefficient.yielded) (omega (arith, e, c.args.row.now.places, c.args.self.now.places))) ∙ i
