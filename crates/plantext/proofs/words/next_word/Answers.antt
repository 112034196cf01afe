-- What `next_word` leaves to show. Assumes nothing.
use Rattle.std.proofs.Common.{◌∷◌, map, sym, ap, ◌∙◌}
use Rattle.plantext.specs.Grammar.{words_of}
use Rattle.plantext.specs.Spelling.{word_of}
use Rattle.plantext.proofs.words.next_word.Goals as goal

pub returns-in_err-bytes-clause-word : goal.returns-in_err-bytes-clause-word
unfolding words_of
returns-in_err-bytes-clause-word c = rw c.from_residual.ensures (ap (map word_of) c.in_err-bytes.ensures.cut)

pub returns-clause-word : goal.returns-clause-word
unfolding words_of
returns-clause-word c = ap (map word_of) c.in_ok-bytes.ensures.cut ∙ ap (λ w. w ∷ words_of c.in_ok-bytes.rest.now) (sym c.read_word.ensures)
