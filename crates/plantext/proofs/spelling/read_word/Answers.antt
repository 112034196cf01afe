-- What `read_word` leaves to show. Assumes nothing.
use Rattle.std.proofs.Common.{rules, tests, refl, sym, ap, ◌∙◌}
use Rattle.std.specs.Option.{option_map}
use Rattle.std.specs.Str.{bytes_eq}
use Rattle.std.proofs.lemmas.Iterator.{YieldsList-from_slice}
use Rattle.std.proofs.lemmas.Iterator.Search.{find_from_yields_List}
use Rattle.plantext.proofs.Named.{word_in, word_among, found}
use Rattle.plantext.proofs.spelling.read_word.Goals as goal

pub returns-in-Some : goal.returns-in-Some
returns-in-Some c =
    let bs = c.args.bytes.now in
    let e = find_from_yields_List (λ p. bytes_eq bs p.0.now) _ _ c.find.result c.find.ensures.ran (YieldsList-from_slice c.iter.result.rest.now refl) (λ x b q k. search (rules, tests)) in
    ap (λ r. word_in bs (option_map (λ x. x.now) r)) (sym c.in-Some.is) ∙ ap (word_in bs) e ∙ found bs c.iter.result.rest.now ∙ ap (word_among bs) c.iter.ensures.rest

pub returns-in-None : goal.returns-in-None
returns-in-None c =
    let bs = c.args.bytes.now in
    let e = find_from_yields_List (λ p. bytes_eq bs p.0.now) _ _ c.find.result c.find.ensures.ran (YieldsList-from_slice c.iter.result.rest.now refl) (λ x b q k. search (rules, tests)) in
    c.number_word.ensures ∙ ap (λ r. word_in bs (option_map (λ x. x.now) r)) (sym c.in-None.is) ∙ ap (word_in bs) e ∙ found bs c.iter.result.rest.now ∙ ap (word_among bs) c.iter.ensures.rest
