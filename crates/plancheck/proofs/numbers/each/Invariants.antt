-- The loop of `each`: each number so far has a value, and it was written. Assumes nothing.
use Rattle.std.proofs.Common.{◌≡◌, ℕ, ◌<◌, pos, Some, length, slice_index_or}
use Rattle.plancheck.proofs.numbers.each.Given as goal

abbrev pub invariant-loop-k : goal.invariant-loop-k
invariant-loop-k g l = record {
  size : length l.all ≡ g.row.N;
  each : (j : ℕ) (d : _) → j < l.k → goal.F-post g l.narrow (slice_index_or l.values j (pos 0)) (Some (slice_index_or l.all j d));
}
