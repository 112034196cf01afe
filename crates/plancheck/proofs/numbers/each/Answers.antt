-- What `each` leaves to show. Assumes nothing.
use Rattle.std.proofs.Common.{slice_index_or, rules}
use Rattle.plancheck.proofs.numbers.each.Goals as goal

pub returns-in-None-clause-err : goal.returns-in-None-clause-err
returns-in-None-clause-err g c =
    let d = c.default-all.result in
    (search rules, search rules, λ j h. (slice_index_or c.loop-k.all j d, c.loop-k.invariant.each j d h))
