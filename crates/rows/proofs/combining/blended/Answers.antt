use Rattle.std.proofs.Common.{◌≡◌, ℤ, ◌+ℤ◌, ◌*ℤ◌, ap, ◌∙◌, w32, w64, SFits, rules}
use Rattle.std.proofs.lemmas.Int.{to_z-of_z}
use Rattle.rows.specs.Limits.{narrowed}
use Rattle.rows.proofs.Fits.{fits_32}
use Rattle.rows.proofs.Blends.{two_products}
use Rattle.rows.proofs.combining.blended.Goals as goal

-- the two products, in the narrow and in the wide type
module _ (m a n b p q : ℤ) (em : p ≡ m *ℤ a) (en : q ≡ n *ℤ b) (f : SFits w64 (m *ℤ a +ℤ n *ℤ b)) where
  sum_fits : SFits w64 (p +ℤ q)
  sum_fits = rw (em, en) f

pub overflow_add-product : goal.overflow_add-product
overflow_add-product c =
    let fm : SFits w32 c.args.m.value = fits_32 c.args.m.value c.args.m.within in
    let fa : SFits w32 c.args.a = c.ranges.a in
    let fn : SFits w32 c.args.n.value = fits_32 c.args.n.value c.args.n.within in
    let fb : SFits w32 c.args.b = c.ranges.b in
    let f : SFits w64 c.product.result = search rules in
    let g : SFits w64 c.product-2.result = search rules in
    let em = simp to_z-of_z at c.product.ensures in
    let en = simp to_z-of_z at c.product-2.ensures in
    simp to_z-of_z (sum_fits c.args.m.value c.args.a c.args.n.value c.args.b c.product.result c.product-2.result em en (two_products c.args.m.value c.args.a c.args.n.value c.args.b c.args.m.within c.requires.0 c.args.n.within c.requires.1))

pub returns : goal.returns
returns c =
    let fm : SFits w32 c.args.m.value = fits_32 c.args.m.value c.args.m.within in
    let fa : SFits w32 c.args.a = c.ranges.a in
    let fn : SFits w32 c.args.n.value = fits_32 c.args.n.value c.args.n.within in
    let fb : SFits w32 c.args.b = c.ranges.b in
    let f : SFits w64 c.product.result = search rules in
    let g : SFits w64 c.product-2.result = search rules in
    let em = simp to_z-of_z at c.product.ensures in
    let en = simp to_z-of_z at c.product-2.ensures in
    let fs : SFits w64 (c.product.result +ℤ c.product-2.result) = sum_fits c.args.m.value c.args.a c.args.n.value c.args.b c.product.result c.product-2.result em en (two_products c.args.m.value c.args.a c.args.n.value c.args.b c.args.m.within c.requires.0 c.args.n.within c.requires.1) in
    let e = simp to_z-of_z at c.narrow.ensures in
    e ∙ ap narrowed (λ i. em i +ℤ en i)
