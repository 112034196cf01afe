-- What `preset_text` leaves to show. Assumes nothing.
use Rattle.std.proofs.Common.{◌+◌, ◌*◌, length, append_assoc, arith}
use Rattle.protocol.proofs.Appending.{few_from, holds_then, holds_as}
use Rattle.protocol.proofs.lines.preset_text.Goals as goal

pub returns : goal.returns
returns c =
    let n = 12 * length c.args.numerators.now in
    let end = few_from 2 c.push_word.ensures (omega arith) in
    holds_as (6 + n + 2 + 12) 197 (holds_then (6 + n + 2) 12 (holds_then (6 + n) 2 (holds_then 6 n c.new-line.ensures c.push_numbers.ensures) end) c.push_number.ensures) (simp append_assoc) (omega arith)
