-- What `first_line` leaves to show. Assumes nothing.
use Rattle.std.proofs.Common.{rules, tests, ◌≡◌, ◌+◌, ◌-◌, ◌<◌, eqb, length, drop, Some, None, arith, length-drop, false-eqb}
use Rattle.std.specs.List.{position}
use Rattle.std.proofs.lemmas.Iterator.{YieldsList-from_slice}
use Rattle.std.proofs.lemmas.Iterator.Search.{position_from_yields_List}
use Rattle.std.proofs.lemmas.List.{take_all}
use Rattle.plantext.proofs.Lining.{lines_cut, lines_last}
use Rattle.plantext.proofs.cut.first_line.Goals as goal

pub returns-in-Some-clause-cut : goal.returns-in-Some-clause-cut
returns-in-Some-clause-cut c =
    let text = c.args.text.now in
    let n = c.in-Some.i in
    let some : 0 < length text = omega (arith, false-eqb _ 0 c.if-is_empty.ensures) in
    let at : Some n ≡ position (λ b. eqb b 10) text = position_from_yields_List (λ b. eqb b 10) _ _ (Some n) c.in-Some.ensures.ran (YieldsList-from_slice text cc) (λ x b q k. search (rules, tests)) in
    let whole = take_all (length text - (n + 1)) (drop (n + 1) text) (omega (arith, length-drop (n + 1) text)) in
    rw whole (lines_cut text some n at)

pub returns-in-None-clause-cut : goal.returns-in-None-clause-cut
returns-in-None-clause-cut c =
    let text = c.args.text.now in
    let some : 0 < length text = omega (arith, false-eqb _ 0 c.if-is_empty.ensures) in
    let at : None ≡ position (λ b. eqb b 10) text = position_from_yields_List (λ b. eqb b 10) _ _ None c.in-None.ensures.ran (YieldsList-from_slice text cc) (λ x b q k. search (rules, tests)) in
    lines_last text some at
