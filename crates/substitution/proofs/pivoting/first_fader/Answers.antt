use Rattle.std.proofs.Common.{◌≡◌, ◌==◌, ℕ, suc, ◌+◌, Bool, true, false, cond, ltb, List, [], ◌∷◌, ℤ, nat_abs, not, Some, sym, ap, ◌∙◌, refl, arith, w32, of_z, rules, tests, eqb-true}
use Rattle.std.specs.Option.{option_map}
use Rattle.std.specs.List.{position_from}
use Rattle.std.proofs.lemmas.Iterator.{YieldsList-from_slice}
use Rattle.std.proofs.lemmas.Iterator.Search.{position_from_yields_List}
use Rattle.std.proofs.lemmas.Iterator.Adapters.{position_from-zero}
use Rattle.std.proofs.lemmas.Bool.{eqb-false}
use Rattle.rows.specs.Limits.{Within, EachWithin}
use Rattle.substitution.specs.Reduction.{first_fader}
use Rattle.substitution.specs.Holding.{index_of}
use Rattle.substitution.proofs.Places.{none_by_bits, some_by_bits}
use Rattle.substitution.proofs.pivoting.first_fader.Goals as goal

-- what the closure tests
abbrev nonzero : ℤ → Bool
nonzero a = not (of_z w32 a == 0)

nonzero_is : (a : ℤ) → Within a → nonzero a ≡ ltb 0 (nat_abs a)
nonzero_is a w = by (of_z w32 a == 0) refl
  where
    by : (b : Bool) → (of_z w32 a == 0) ≡ b → not b ≡ ltb 0 (nat_abs a)
    by true e = sym (none_by_bits a w (eqb-true (of_z w32 a) 0 e))
    by false e = sym (some_by_bits a (eqb-false (of_z w32 a) 0 e))

position_is : (xs : List ℤ) (k : ℕ) → EachWithin xs → position_from nonzero k xs ≡ first_fader k xs
position_is [] k w = refl
position_is (a ∷ more) k w = λ j. cond (nonzero_is a (w 0) j) (Some k) (position_is more (k + 1) (λ i. w (suc i)) j)

pub returns-in_err-place-clause-value : goal.returns-in_err-place-clause-value
returns-in_err-place-clause-value c =
    let xs = c.args.row.now.coefficients in
    let p = position_from_yields_List nonzero _ _ c.position.result c.position.ensures.ran (YieldsList-from_slice xs cc) (λ x b q k. search (rules, tests)) in
    ap (option_map index_of) c.from_residual.ensures ∙ sym c.in_err-place.was ∙ p ∙ position_from-zero nonzero xs ∙ position_is xs 0 c.args.row.now.within

pub returns-clause-value : goal.returns-clause-value
returns-clause-value c =
    let xs = c.args.row.now.coefficients in
    let p = position_from_yields_List nonzero _ _ c.position.result c.position.ensures.ran (YieldsList-from_slice xs cc) (λ x b q k. search (rules, tests)) in
    ap Some (omega arith) ∙ sym c.in_ok-place.was ∙ p ∙ position_from-zero nonzero xs ∙ position_is xs 0 c.args.row.now.within
