use Rattle.std.proofs.Common.{◌≡◌, ◌*◌, false, ℤ, pos, ◌+ℤ◌, ◌*ℤ◌, ◌∙◌, w64, SFits, rules}
use Rattle.std.proofs.lemmas.Int.{to_z-of_z}
use Rattle.rows.proofs.Blends.{two_products}
use Rattle.elimination.specs.declared.limit.Limit.{Limit}
use Rattle.elimination.specs.Levels.{lowest}
use Rattle.elimination.proofs.values.middle.Goals as goal

-- the numerator
module _ (l u : Limit) where
  sum_fits : (p q : ℤ) → p ≡ l.numerator *ℤ pos u.denominator → q ≡ u.numerator *ℤ pos l.denominator → SFits w64 (p +ℤ q)
  sum_fits p q a b = rw (a, b) (two_products l.numerator (pos u.denominator) u.numerator (pos l.denominator) l.within u.bounded u.within l.bounded)

pub returns : goal.returns
returns c =
    let f : SFits w64 c.across.result = search rules in
    let g : SFits w64 c.across-2.result = search rules in
    let s = sum_fits c.args.l.now c.args.u.now c.across.result c.across-2.result c.across.ensures c.across-2.ensures in
    let e = simp to_z-of_z at c.lowest.ensures in
    e ∙ (λ i. lowest (c.across.ensures i +ℤ c.across-2.ensures i) (2 * (c.args.l.now.denominator * c.args.u.now.denominator)) false)
