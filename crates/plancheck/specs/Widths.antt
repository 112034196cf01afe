-- How many numbers a line should have. Assumes nothing.
use Rattle.std.specs.Prelude.{ℕ, cond, List, length, ℤ, Some, Option, ◌==◌}
use Rattle.engine.specs.declared.refusal.Refusal.TheVariants.{NoPlan}
use Rattle.plancheck.specs.declared.complaint.Counted.{Counted}
use Rattle.plancheck.specs.declared.complaint.Complaint.{Complaint}
use Rattle.plancheck.specs.declared.complaint.Complaint.TheVariants.{Refused, Width}

-- no desk, or too many or too few numbers, or else what else is wrong
abbrev pub in_width : Counted → ℕ → List ℤ → ℕ → Option Complaint → Option Complaint
in_width what count ns wanted other =
    cond (count == 0) (Some (Refused NoPlan))
    (cond (length ns == wanted) other
    (Some (Width (record { what = what; found = length ns; wanted = wanted }))))
