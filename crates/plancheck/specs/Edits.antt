-- What the statements that change a plan do. Assumes nothing.
use Rattle.std.specs.Prelude.{◌≡◌, ℕ, not, List, length, take, ℤ, pos, negsuc, Some, None, Ok, Err, Option, Result}
use Rattle.rows.specs.Kinds.{number_of}
use Rattle.rows.specs.Limits.{faders, near}
use Rattle.engine.specs.Interface.{Does, first_refusal, refused_if, unused_refusal}
use Rattle.engine.specs.declared.refusal.Refusal.{Refusal}
use Rattle.engine.specs.declared.refusal.Refusal.TheVariants.{BadCount, BadSide}
use Rattle.plans.specs.Ranges.{coefficient_range}
use Rattle.plans.specs.Plans.{PlanView}
use Rattle.plans.specs.Edits.{Opened, add_refusal, after_add}
use Rattle.plantext.specs.declared.numbers.Numbers.{Numbers}
use Rattle.plantext.specs.Padding.{padded}
use Rattle.rows.specs.declared.kind.Kind.{Kind}
use Rattle.plancheck.specs.declared.complaint.Complaint.{Complaint}
use Rattle.plancheck.specs.declared.complaint.Complaint.TheVariants.{Refused}
use Rattle.plancheck.specs.declared.complaint.Counted.TheVariants.{Coefficients}
use Rattle.plancheck.specs.Widths.{in_width}
use Rattle.plancheck.specs.Numbers.{first_beyond}

-- a desk with so many faders; no desk has a count below 0
abbrev pub Opens : {U : Type 0} → ℤ → PlanView → Result U Refusal → PlanView → Type 0
Opens (pos n) v r w = Opened n v r w
Opens (negsuc n) v r w = Does (Some BadCount) v v r w

-- numbers that no rule has, and then what the plan refuses
abbrev pub numbers_refusal : ℕ → List ℤ → ℤ → PlanView → Option Refusal
numbers_refusal kind zs s v =
    first_refusal (unused_refusal (first_beyond coefficient_range 0 zs))
    (first_refusal (refused_if (not (near s)) BadSide)
    (add_refusal kind zs s v))

abbrev pub refused_by : Option Refusal → Option Complaint
refused_by None = None
refused_by (Some refusal) = Some (Refused refusal)

abbrev pub rule_complaint : Numbers → Kind → ℤ → PlanView → Option Complaint
rule_complaint ns c s v = in_width Coefficients v.count ns v.count (refused_by (numbers_refusal (number_of c) (take faders (padded ns)) s v))

-- what is replied to a rule: its number, or why the line is bad
abbrev pub RuleAdded : Numbers → Kind → ℤ → PlanView → Result ℕ Complaint → PlanView → Type 0
RuleAdded ns c s v (Ok n) w = (length ns ≡ v.count) × (w ≡ after_add (number_of c) (take faders (padded ns)) s v) × (n ≡ length w.rules)
RuleAdded ns c s v (Err e) w = (rule_complaint ns c s v ≡ Some e) × (w ≡ v)
