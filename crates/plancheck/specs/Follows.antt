-- What a line comes to. Assumes nothing.
use Rattle.std.specs.Prelude.{◌≡◌, ℤ, pos, Ok, Err, Result}
use Rattle.plans.specs.Plans.{PlanView}
use Rattle.plans.specs.Edits.{after_open}
use Rattle.rows.specs.declared.kind.Kind.{Kind}
use Rattle.plantext.specs.declared.numbers.Numbers.{Numbers}
use Rattle.plantext.specs.declared.problem.Problem.{Problem}
use Rattle.plantext.specs.declared.statement.Statement.{Statement}
use Rattle.plantext.specs.declared.statement.Statement.TheVariants.{Blank as Nothing, Faders, Rule as RuleIs, Preset as PresetIs, Clash as ClashIs}
use Rattle.plancheck.specs.declared.complaint.Complaint.{Complaint}
use Rattle.plancheck.specs.declared.complaint.Complaint.TheVariants.{Unread}
use Rattle.plancheck.specs.declared.outcome.Outcome.{Outcome}
use Rattle.plancheck.specs.declared.outcome.Outcome.TheVariants.{Blank, Desk, Rule, Preset, Clash}
use Rattle.plancheck.specs.Edits.{RuleAdded}
use Rattle.plancheck.specs.Claims.{PresetChecked, ClashChecked}

-- what an outcome tells of the statement s, of the plan v before it and of the plan w after it
abbrev pub Told : Statement → PlanView → Outcome → PlanView → Type 0
Told s v Blank w = (s ≡ Nothing) × (w ≡ v)
Told s v (Desk n) w = (s ≡ Faders (pos n)) × (w ≡ after_open n)
Told s v (Rule n) w = (ns : Numbers) × (c : Kind) × (z : ℤ) × (s ≡ RuleIs ns c z) × RuleAdded ns c z v (Ok n) w
Told s v (Preset ns d verdict) w = (s ≡ PresetIs ns d) × (w ≡ v) × PresetChecked ns d v (Ok verdict)
Told s v (Clash ns verdict) w = (s ≡ ClashIs ns) × (w ≡ v) × ClashChecked ns v (Ok verdict)

-- the same of a line, which says a statement or is none; a bad one leaves the plan
abbrev pub Came : Result Statement Problem → PlanView → Result Outcome Complaint → PlanView → Type 0
Came (Ok s) v (Ok o) w = Told s v o w
Came (Ok s) v (Err e) w = w ≡ v
Came (Err p) v r w = (r ≡ Err (Unread p)) × (w ≡ v)
