-- What `check_words` leaves to show. Assumes nothing.
use Rattle.std.proofs.Common.{rules}
use Rattle.plantext.proofs.Counting.{words_of_few}
use Rattle.plantext.proofs.statements.check_words.Goals as goal

pub loop-place-init : goal.loop-place-init
loop-place-init c =
    let few = words_of_few c.args.text.now in
    search rules
