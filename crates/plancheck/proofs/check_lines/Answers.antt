-- What `check_lines` leaves to show. Assumes nothing.
use Rattle.std.proofs.Common.{rules}
use Rattle.plantext.proofs.Counting.{lines_few}
use Rattle.plancheck.proofs.check_lines.Goals as goal

pub loop-place-init : goal.loop-place-init
loop-place-init c =
    let few = lines_few c.args.text.now in
    search rules
