-- What the work on rows and pivots in place says of the working. Assumes nothing.
use Rattle.std.specs.Prelude.{ℕ, ◌+◌, ◌-◌, ◌≤◌, [], length, take, drop, Ok, Err, Result}
use Rattle.substitution.specs.declared.reduction.Reduction.{Reduction}
use Rattle.substitution.specs.declared.stop.Stop.{Stop}
use Rattle.substitution.specs.declared.stop.Stop.TheVariants.{Clash, Beyond}
use Rattle.substitution.specs.Reduction.{Reduced, Reduced.clashing, Reduced.faulty, Reduced.left, reduced}
use Rattle.substitution.specs.Holding.{kepts, latest_first}

-- what the working makes of what stands so far
abbrev pub ahead : Reduction → Reduced
ahead r = reduced (length r.rows.now - r.place) (take r.place (kepts r.rows.now)) (drop r.place (kepts r.rows.now)) (latest_first r.pivots.now [])

-- the same after a turn
abbrev pub ahead_after : Reduction → Result (Unit {0}) Stop → Reduced
ahead_after r (Ok done) = ahead r
ahead_after r (Err (Clash w)) = clashing w.values
ahead_after r (Err (Beyond f)) = faulty f

-- what a finished reduction says
abbrev pub finished : Reduction → Result (Unit {0}) Stop → Reduced
finished r (Ok done) = left (kepts r.rows.now) (latest_first r.pivots.now [])
finished r (Err (Clash w)) = clashing w.values
finished r (Err (Beyond f)) = faulty f

-- one place is done: fewer rows are still to be looked at, and rows and pivots together are no more
pub record Onward (p q : Reduction) : Type 0 where
  pub nearer : length q.rows.now - q.place + 1 ≤ length p.rows.now - p.place
  pub few : length q.rows.now + length q.pivots.now ≤ length p.rows.now + length p.pivots.now

abbrev pub OnwardAfter : Reduction → Reduction → Result (Unit {0}) Stop → Type 0
OnwardAfter p q (Ok done) = Onward p q
OnwardAfter p q (Err stop) = Unit {0}

-- how many rows and pivots are left of so many rows
abbrev pub FewLeft : Reduction → Result (Unit {0}) Stop → ℕ → Type 0
FewLeft r (Ok done) n = length r.rows.now + length r.pivots.now ≤ n
FewLeft r (Err stop) n = Unit {0}
