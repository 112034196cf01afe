-- The loop of `by_number`: the weights of the rules so far are set down. Assumes nothing.
use Rattle.std.proofs.Common.{◌≡◌, ◌≤◌, length}
use Rattle.rows.specs.Limits.{most_rows}
use Rattle.console.proofs.Spreading.{Onward, Clear}
use Rattle.console.proofs.asking.by_number.Given as goal

abbrev pub invariant-loop-number : goal.invariant-loop-number
invariant-loop-number l =
    (length l.spread ≡ most_rows) × (l.place ≤ l.number) × Clear l.number l.spread × Onward l.rules l.weights.values l.number l.place l.spread
