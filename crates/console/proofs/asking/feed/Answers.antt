-- What `feed` leaves to show. Assumes nothing.
use Rattle.std.proofs.Common.{ℕ, ◌+◌, true, false, length, take, sym, ap, ◌∙◌, arith}
use Rattle.std.proofs.lemmas.List.{take_all, length-append}
use Rattle.engine.specs.Deciding.{loaded}
use Rattle.plans.specs.Rules.{rule_views}
use Rattle.plans.specs.Sounding.{sounding_rows}
use Rattle.console.proofs.Feeding.{given_more, passed_on, read_sounds, given_row}
use Rattle.console.proofs.asking.feed.Goals as goal
use Rattle.console.proofs.asking.feed.Goals.{then-rule+in_ok-take, else-rule}

pub returns-in_err-take : goal.returns-in_err-take
returns-in_err-take g c =
    let l = c.loop-number in
    let rules = c.args.rules.now in
    absurd (given_row c.args.count rules l.number c.index-rules-number.result c.index-rules-number.is c.loop-number-test.true c.requires c.if-rule.true (g.E.Engine.view l.engine) (g.E.Engine.view c.take.new.self) _ l.invariant.0 c.in_err-take.ensures)

pub loop-number-preserved : goal.loop-number-preserved
loop-number-preserved g c =
    let l = c.loop-number in
    let rules = c.args.rules.now in
    let rule = c.index-rules-number.result in
    elim c.if-rule.branch [
      | then-rule+in_ok-take w ↦
          let sounds = read_sounds rules l.number rule true c.index-rules-number.is w.if-rule.true in
          let more = given_more c.args.count rules l.number rule c.loop-number-test.true c.requires sounds in
          rw (w.engine-is, w.given-is) (
            given_row c.args.count rules l.number rule c.index-rules-number.is c.loop-number-test.true c.requires w.if-rule.true (g.E.Engine.view l.engine) (g.E.Engine.view w.take.new.self) _ l.invariant.0 w.in_ok-take.ensures,
            ap (λ (n : ℕ). n + 1) l.invariant.1 ∙ sym (ap length more ∙ length-append (sounding_rows (rule_views (take l.number rules))) _),
            omega (arith, l.invariant.2),
          )
      | else-rule w ↦
          let same = passed_on rules l.number rule c.loop-number-test.true (read_sounds rules l.number rule false c.index-rules-number.is w.if-rule.false) in
          rw (w.engine-is, w.given-is) (
            l.invariant.0 ∙ ap (loaded c.args.count) (sym same),
            l.invariant.1 ∙ ap length (sym same),
            omega (arith, l.invariant.2),
          )
    ]

pub returns : goal.returns
returns g c =
    let l = c.loop-number in
    let all = take_all l.number c.args.rules.now c.loop-number-test.false in (
      l.invariant.1 ∙ ap (λ (rs : _). length (sounding_rows (rule_views rs))) all,
      l.invariant.0 ∙ ap (λ (rs : _). loaded c.args.count (sounding_rows (rule_views rs))) all,
    )
