-- The law that `reads_back` states. Assumes nothing.
use Rattle.plantext.proofs.Back.{reads_back}
use Rattle.plantext.proofs.statements.reads_back.Goals as goal

pub returns : goal.returns
returns c = reads_back
