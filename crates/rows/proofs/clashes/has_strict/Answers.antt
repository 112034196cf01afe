use Rattle.std.proofs.Common.{rules}
use Rattle.std.proofs.lemmas.Iterator.{cases_from_any, YieldsList-from_slice, YieldsList-from_zip}
use borrow.Author.Tests.{tests}
use Rattle.rows.proofs.Pairs.{Strict, strictly_decides}
use Rattle.rows.proofs.clashes.has_strict.Goals as goal

pub returns : goal.returns
returns c =
    let w = c.args.weights.now in
    let rows = c.args.rows.now in
    strictly_decides w.values rows w.within c.any.result (cases_from_any c.any.new.self _ _ Strict (λ p. Strict p → ⊥) c.any.ensures.ran (YieldsList-from_zip (YieldsList-from_slice w.values (search rules)) (YieldsList-from_slice rows (search rules))) (λ x q k. search (rules, tests)) (λ x q k. search (rules, tests)))
