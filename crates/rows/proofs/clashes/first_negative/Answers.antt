use Rattle.std.proofs.Common.{arith, rules}
use Rattle.std.proofs.lemmas.List.{length-map}
use Rattle.std.proofs.lemmas.Iterator.{IsFirst-from_position, YieldsList-from_slice, YieldsList-from_zip}
use borrow.Author.Tests.{tests}
use Rattle.rows.specs.Rows.{constraint}
use Rattle.rows.proofs.Pairs.{MayWeigh, first_negative_found}
use Rattle.rows.proofs.clashes.first_negative.Goals as goal

pub returns : goal.returns
returns c =
    let w = c.args.weights.now in
    let rows = c.args.rows.now in
    let f = first_negative_found w.values rows (omega (arith, w.places, c.requires)) w.within c.position.result (IsFirst-from_position c.position.new.self _ _ (λ p. MayWeigh p → ⊥) MayWeigh c.position.ensures.ran (YieldsList-from_zip (YieldsList-from_slice w.values (search rules)) (YieldsList-from_slice rows (search rules))) (λ x q k. search (rules, tests)) (λ x q k. search (rules, tests))) in
    rw (length-map rows constraint) f
