-- The loop of `read_commands`: the commands so far and what the rest says are what all bytes say. Assumes nothing.
use Rattle.std.proofs.Common.{◌≡◌, ◌-◌, ◌≤◌, length, take, drop}
use Rattle.protocol.specs.Bytes.{reading}
use Rattle.protocol.proofs.Onward.{after}
use Rattle.protocol.proofs.bytes.read_commands.Given as goal

abbrev pub invariant-loop-rest : goal.invariant-loop-rest
invariant-loop-rest l =
    (after (take l.count l.commands) (reading (length l.initial.commands - l.count) l.rest) ≡ reading (length l.initial.commands) l.bytes)
    × (l.count ≤ length l.initial.commands)
    × (drop l.count l.commands ≡ drop l.count l.initial.commands)

abbrev pub decreases-loop-rest : goal.decreases-loop-rest
decreases-loop-rest l = length l.initial.commands - l.count
