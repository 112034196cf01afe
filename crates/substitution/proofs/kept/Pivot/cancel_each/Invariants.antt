use Rattle.std.proofs.Common.{◌≡◌, take, drop, Some}
use Rattle.rows.specs.Carrying.{numbers_of}
use Rattle.substitution.specs.Reduction.{cancel_all}
use Rattle.substitution.specs.Holding.{kepts}
use Rattle.substitution.proofs.kept.Pivot.cancel_each.Given as goal

abbrev pub invariant-loop-kept : goal.invariant-loop-kept
invariant-loop-kept l =
    (cancel_all l.self.fader.index (numbers_of l.self.row) (kepts (take l.kept-index l.initial.rows)) ≡ Some (kepts (take l.kept-index l.rows)))
    × (drop l.kept-index l.rows ≡ drop l.kept-index l.initial.rows)
