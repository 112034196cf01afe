-- What `first_word` leaves to show. Assumes nothing.
use Rattle.std.proofs.Common.{rules, tests, ◌≡◌, ◌-◌, length, take, drop, refl, sym, ◌∙◌, arith, length-drop}
use Rattle.std.specs.List.{position}
use Rattle.std.proofs.lemmas.Iterator.{YieldsList-from_slice}
use Rattle.std.proofs.lemmas.Iterator.Search.{position_from_yields_List}
use Rattle.std.proofs.lemmas.List.{take_all}
use Rattle.plantext.specs.Cuts.{white, dark}
use Rattle.plantext.proofs.Cutting.{words_none, words_cut, words_shorter, place_or_length}
use Rattle.plantext.proofs.cut.first_word.Goals as goal

pub returns-in_err-start-clause-cut : goal.returns-in_err-start-clause-cut
returns-in_err-start-clause-cut c =
    let text = c.args.text.now in
    let at : c.position.result ≡ position dark text = position_from_yields_List dark _ _ c.position.result c.position.ensures.ran (YieldsList-from_slice text cc) (λ x b q k. search (rules, tests)) in
    rw c.from_residual.ensures (words_none text (sym c.in_err-start.was ∙ at))

pub returns : goal.returns
returns c =
    let text = c.args.text.now in
    let n = c.in_ok-start.start in
    let word = drop n text in
    let whole : take (length text - n) word ≡ word = take_all (length text - n) word (omega (arith, length-drop n text)) in
    let at : c.position.result ≡ position dark text = position_from_yields_List dark _ _ c.position.result c.position.ensures.ran (YieldsList-from_slice text cc) (λ x b q k. search (rules, tests)) in
    let next : c.position-2.result ≡ position white word = position_from_yields_List white _ _ c.position-2.result c.position-2.ensures.ran (YieldsList-from_slice word cc) (λ x b q k. search (rules, tests)) in
    let some = sym c.in_ok-start.was ∙ at in
    let run = rw (whole, next, place_or_length white word) at c.unwrap_or-end.ensures in
    let front = rw whole at c.split_at.ensures.front in
    let back = rw whole at c.split_at.ensures.back in
    record {
      cut = rw (front, back) (words_cut text word n c.unwrap_or-end.result some refl run);
      shorter = rw back (words_shorter text word n c.unwrap_or-end.result some refl run);
    }
