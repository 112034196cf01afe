use Rattle.std.proofs.Common.{rules}
use Rattle.std.specs.Option.{MatchOption}
use Rattle.std.proofs.lemmas.Iterator.{IsFirst-from_position, YieldsList-from_slice}
use borrow.Author.Tests.{tests}
use Rattle.rows.specs.Rows.{constraint, constraints, Meets, MeetsAll, FirstUnmet}
use Rattle.rows.proofs.Firsts.{first_found}
use Rattle.rows.proofs.preset.Preset.first_unmet.Goals as goal
use Rattle.rows.proofs.preset.Preset.first_unmet.Goals.{After-position}

-- what `position` found
found : (c : After-position) → MatchOption c.position.result (MeetsAll c.args.self.now.numerators c.args.self.now.denominator (constraints c.args.rows.now)) (λ i. FirstUnmet c.args.self.now.numerators c.args.self.now.denominator (constraints c.args.rows.now) i)
found c =
    let p = c.args.self.now in
    let rows = c.args.rows.now in
    let P = Meets p.numerators p.denominator in
    first_found constraint P rows c.position.result (IsFirst-from_position _ _ _ (λ r. P (constraint r) → ⊥) (λ r. P (constraint r)) c.position.ensures.ran (YieldsList-from_slice rows c.iter.ensures.rest) (λ x q k. search (rules, tests)) (λ x q k. search (rules, tests)))

pub returns : goal.returns
returns c = rw c.in_ok-unmet.was at (found (goal.at.returns c).After-position)

pub returns-in_err-unmet : goal.returns-in_err-unmet
returns-in_err-unmet c = rw c.from_residual.ensures (rw c.in_err-unmet.was at (found (goal.at.returns-in_err-unmet c).After-position))
