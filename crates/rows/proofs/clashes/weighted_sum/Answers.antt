use Rattle.std.proofs.Common.{◌≡◌, ℕ, ◌+◌, ◌*◌, ◌<◌, ◌≤◌, List, length, get_or, ℤ, pos, ◌+ℤ◌, ◌*ℤ◌, nat_abs, sym, ap, ◌∙◌, inl, inr, arith, w32, w64, SFits, to_z, of_z, rules}
use mir.Syntax.{w128}
use Rattle.std.proofs.lemmas.Int.{ints, to_z-of_z}
use Rattle.std.proofs.lemmas.List.{get_or-map, length-map, length-append}
use Rattle.std.proofs.lemmas.Bool.{cases_lt}
use Rattle.std.proofs.lemmas.Slice.Zip.{zip_turn, zip_end}
use Rattle.integers.specs.Vectors.{dot}
use Rattle.rows.specs.declared.clashes.Part.{Part}
use Rattle.rows.specs.declared.row.Row.{Row}
use Rattle.rows.specs.Limits.{largest, Within, EachWithin}
use Rattle.rows.specs.Rows.{constraint, constraints}
use Rattle.rows.specs.Parts.{number, numbers}
use Rattle.rows.proofs.Fits.{fits_32, fits_128, one_more}
use Rattle.rows.proofs.Sums.{rest, rest_more, rest_all_left, rest_all_right}
use Rattle.rows.proofs.Firsts.{constraint_at}
use Rattle.rows.proofs.clashes.weighted_sum.Goals as goal

numbers_at : (part : Part) (rows : List Row) (i : ℕ) (r : Row) → i < length rows → r ≡ get_or rows i r → get_or (numbers part (constraints rows)) i (pos 0) ≡ number part (constraint r)
numbers_at part rows i r h e =
    get_or-map (number part) (constraints rows) i (constraint r) (pos 0) (rw length-map h) ∙ ap (number part) (constraint_at rows i r h e)

length_numbers : (part : Part) (rows : List Row) → length (numbers part (constraints rows)) ≡ length rows
length_numbers part rows = length-map (constraints rows) (number part) ∙ length-map rows constraint

-- one turn, which adds the product p of the weight w and the number q of the row r, both at the place i
module _ (ws : List ℤ) (ww : EachWithin ws) (part : Part) (rows : List Row) (i : ℕ) (s w q p : ℤ) (r : Row) (h : i < length ws) (k : i < length rows) (ew : w ≡ get_or ws i (pos 0)) (er : r ≡ get_or rows i r)
    (eq : q ≡ number part (constraint r)) (wq : Within q) (ep : p ≡ to_z w32 (of_z w32 w) *ℤ to_z w32 (of_z w32 q)) where
  turn : p ≡ get_or ws i (pos 0) *ℤ q
  turn =
      let fx = fits_32 (get_or ws i (pos 0)) (ww i) in
      let fy = fits_32 q wq in
      simp to_z-of_z at (rw ew at ep)

  near : nat_abs s ≤ i * (largest * largest) → nat_abs (s +ℤ p) ≤ (i + 1) * (largest * largest)
  near n = rw turn (one_more s (get_or ws i (pos 0)) q i n (ww i) wq)

  more : rest (s +ℤ p) ws (numbers part (constraints rows)) (i + 1) ≡ rest s ws (numbers part (constraints rows)) i
  more =
      rw (turn ∙ ap (λ (z : ℤ). get_or ws i (pos 0) *ℤ z) (eq ∙ sym (numbers_at part rows i r k er)))
      (rest_more s ws (numbers part (constraints rows)) i h (omega (arith, k, length_numbers part rows)))

pub overflow_add-sum : goal.overflow_add-sum
overflow_add-sum c =
    let w = c.args.weights.now in
    let rows = c.args.rows.now in
    let t = zip_turn w.values rows _ c.into_iter-weight-iterator.result c.loop-weight.weight-iterator c.next.new.self _ (search rules) (search rules) c.loop-weight.yielded_by (c.in-Some.weight, c.in-Some.row) c.in-Some.is c.next.ensures.steps in
    let i = length c.loop-weight.yielded in
    let n : nat_abs c.loop-weight.sum ≤ i * (largest * largest) = rw c.loop-weight.sum-is at c.loop-weight.invariant.1 in
    let m = near w.values w.within c.args.part rows i c.loop-weight.sum c.in-Some.weight.now c.part_of.result c.product.result c.in-Some.row.now t.0 t.1 (t.2 (pos 0)) (t.3 c.in-Some.row.now) c.part_of.ensures.value c.part_of.ensures.within c.product.ensures n in
    let f : SFits w128 (c.loop-weight.sum +ℤ c.product.result) = fits_128 (c.loop-weight.sum +ℤ c.product.result) (omega (arith, m, t.0, w.places)) in
    let fr : SFits w64 c.product.result = search rules in
    let fw : SFits w128 c.product.result = omega (arith, ints) in
    rw c.from-sum.ensures (simp (to_z-of_z, c.loop-weight.sum-is) f)

pub loop-weight-preserved : goal.loop-weight-preserved
loop-weight-preserved c =
    let w = c.args.weights.now in
    let rows = c.args.rows.now in
    let ns = numbers c.args.part (constraints rows) in
    let t = zip_turn w.values rows _ c.into_iter-weight-iterator.result c.loop-weight.weight-iterator c.next.new.self _ (search rules) (search rules) c.loop-weight.yielded_by (c.in-Some.weight, c.in-Some.row) c.in-Some.is c.next.ensures.steps in
    let i = length c.loop-weight.yielded in
    let n : nat_abs c.loop-weight.sum ≤ i * (largest * largest) = rw c.loop-weight.sum-is at c.loop-weight.invariant.1 in
    let before : rest c.loop-weight.sum w.values ns i ≡ dot w.values ns = rw c.loop-weight.sum-is at c.loop-weight.invariant.0 in
    let m = near w.values w.within c.args.part rows i c.loop-weight.sum c.in-Some.weight.now c.part_of.result c.product.result c.in-Some.row.now t.0 t.1 (t.2 (pos 0)) (t.3 c.in-Some.row.now) c.part_of.ensures.value c.part_of.ensures.within c.product.ensures n in
    let a = more w.values w.within c.args.part rows i c.loop-weight.sum c.in-Some.weight.now c.part_of.result c.product.result c.in-Some.row.now t.0 t.1 (t.2 (pos 0)) (t.3 c.in-Some.row.now) c.part_of.ensures.value c.part_of.ensures.within c.product.ensures in
    let f : SFits w128 (c.loop-weight.sum +ℤ c.product.result) = fits_128 (c.loop-weight.sum +ℤ c.product.result) (omega (arith, m, t.0, w.places)) in
    let fr : SFits w64 c.product.result = search rules in
    let fw : SFits w128 c.product.result = omega (arith, ints) in
    rw c.from-sum.ensures (simp (to_z-of_z, c.loop-weight.sum-is, length-append) (a ∙ before, m))

pub returns : goal.returns
returns c =
    let w = c.args.weights.now in
    let rows = c.args.rows.now in
    let ns = numbers c.args.part (constraints rows) in
    let i = length c.loop-weight.yielded in
    let e = zip_end w.values rows _ c.into_iter-weight-iterator.result c.loop-weight.weight-iterator c.next.new.self _ (search rules) (search rules) c.loop-weight.yielded_by c.in-None.is c.next.ensures.steps in
    let n = length_numbers c.args.part rows in
    let before : rest c.loop-weight.sum w.values ns i ≡ dot w.values ns = rw c.loop-weight.sum-is at c.loop-weight.invariant.0 in
    let done : rest c.loop-weight.sum w.values ns i ≡ c.loop-weight.sum = elim (cases_lt i 16) [
      | inl h ↦ rest_all_right c.loop-weight.sum w.values ns i (omega (arith, n, e, w.places))
      | inr h ↦ rest_all_left c.loop-weight.sum w.values ns i (omega (arith, w.places))
    ] in
    c.loop-weight.sum-is ∙ sym done ∙ before
