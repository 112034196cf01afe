-- What `narrow_each` leaves to show. Assumes nothing.
use Rattle.std.proofs.Common.{rules}
use Rattle.rows.specs.Limits.{largest}
use Rattle.plancheck.proofs.Beyond.{each_is}
use Rattle.plancheck.proofs.numbers.narrow_each.Goals as goal

pub returns : goal.returns
returns g c = each_is largest g.row.N c.args.values.now c.each.result (search rules) c.each.ensures.ok c.each.ensures.err
