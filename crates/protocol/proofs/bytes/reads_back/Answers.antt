-- The law that `reads_back` states. Assumes nothing.
use Rattle.protocol.proofs.Back.{reads_back}
use Rattle.protocol.proofs.bytes.reads_back.Goals as goal

pub returns : goal.returns
returns c = reads_back
