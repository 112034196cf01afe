use Rattle.std.proofs.Common.{◌≡◌, ℤ, ◌+ℤ◌, ◌*ℤ◌, Some, Option, sym, ap, ◌∙◌, arith, w32, w64, SFits, to_z, of_z, rules}
use Rattle.std.proofs.lemmas.Int.{to_z-of_z, ints}
use Rattle.rows.specs.Limits.{narrowed}
use Rattle.substitution.proofs.Terms.{term_some, term_fits}
use Rattle.substitution.proofs.lifting.add_term.Goals as goal

-- what the product narrowed gives
narrow_term_of : (w u t : ℤ) → SFits w32 w → SFits w32 u → (p : ℤ) (o : Option ℤ) → SFits w64 p → p ≡ to_z w32 (of_z w32 w) *ℤ to_z w32 (of_z w32 u) → o ≡ narrowed (to_z w64 (of_z w64 p)) → o ≡ Some t → Some t ≡ narrowed (w *ℤ u)
narrow_term_of w u t a b p o f e n is =
    let e' = simp to_z-of_z at e in
    let n' = simp to_z-of_z at n in
    sym is ∙ n' ∙ ap narrowed e'

pub overflow_add-sum : goal.overflow_add-sum
overflow_add-sum c =
    let n = narrow_term_of c.args.weight c.args.carried c.in_ok-term.term c.ranges.weight c.ranges.carried c.product.result c.narrow.result (search rules) c.product.ensures c.narrow.ensures c.in_ok-term.was in
    let s : SFits w32 c.args.sum = c.ranges.sum in
    let t : SFits w32 c.in_ok-term.term = term_fits (c.args.weight *ℤ c.args.carried) c.in_ok-term.term n in
    let s' : SFits w64 c.args.sum = omega (arith, ints, s) in
    let t' : SFits w64 c.in_ok-term.term = omega (arith, ints, t) in
    simp to_z-of_z (omega (arith, ints, s, t))

pub returns : goal.returns
returns c =
    let n = narrow_term_of c.args.weight c.args.carried c.in_ok-term.term c.ranges.weight c.ranges.carried c.product.result c.narrow.result (search rules) c.product.ensures c.narrow.ensures c.in_ok-term.was in
    let s : SFits w32 c.args.sum = c.ranges.sum in
    let t : SFits w32 c.in_ok-term.term = term_fits (c.args.weight *ℤ c.args.carried) c.in_ok-term.term n in
    let s' : SFits w64 c.args.sum = omega (arith, ints, s) in
    let t' : SFits w64 c.in_ok-term.term = omega (arith, ints, t) in
    let f : SFits w64 (c.args.sum +ℤ c.in_ok-term.term) = omega (arith, ints, s, t) in
    let e = simp to_z-of_z at c.narrow-2.ensures in
    e ∙ term_some c.args.sum c.args.weight c.args.carried c.in_ok-term.term n
