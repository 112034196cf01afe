use Rattle.std.proofs.Common.{rules, tests, ◌≡◌, eqb, sym}
use Rattle.std.specs.List.{position, position_or_len}
use Rattle.std.proofs.lemmas.Iterator.{YieldsList-from_slice}
use Rattle.std.proofs.lemmas.Iterator.Search.{position_from_yields_List}
use Rattle.plantext.proofs.Cutting.{before_comment_is, place_or_length}
use Rattle.plantext.proofs.cut.uncommented.Goals as goal

pub returns : goal.returns
returns c =
    let line = c.args.line.now in
    let at : c.position.result ≡ position (λ b. eqb b 35) line = position_from_yields_List (λ b. eqb b 35) _ _ c.position.result c.position.ensures.ran (YieldsList-from_slice line cc) (λ x b q k. search (rules, tests)) in
    let whole = place_or_length (λ b. eqb b 35) line in
    let is = before_comment_is line in
    let end : c.unwrap_or-end.result ≡ position_or_len (λ b. eqb b 35) line = cc in
    rw end (sym is)
