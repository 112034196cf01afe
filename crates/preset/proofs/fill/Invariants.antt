-- The loop of `fill`: no more than the buffer is filled. Assumes nothing.
use Rattle.std.proofs.Common.{◌≤◌, length}
use Rattle.preset.proofs.fill.Given as goal

abbrev pub invariant-loop : goal.invariant-loop
invariant-loop l = l.filled ≤ length l.buffer
