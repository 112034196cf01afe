-- The plan as the commands alone tell it. Assumes nothing.
use Rattle.std.specs.Prelude.{true, false, List, [], ◌∷◌, Some, None, Option}
use Rattle.engine.specs.declared.refusal.Refusal.{Refusal}
use Rattle.engine.specs.Interface.{count_refusal}
use Rattle.plans.specs.Plans.{PlanView}
use Rattle.plans.specs.Edits.{after_open, add_refusal, after_add, lift_refusal, after_lift, mark_refusal, after_mark}
use Rattle.console.specs.declared.command.Command.{Command}
use Rattle.console.specs.declared.command.Command.TheVariants.{Open, Add, Lift, Mute, Sound, Ask, Blame}

-- why a command that edits the plan is refused; the others leave the plan as it is
abbrev pub edit_refusal : Command → PlanView → Option Refusal
edit_refusal (Open n) p = count_refusal n
edit_refusal (Add kind cs s) p = add_refusal kind cs s p
edit_refusal Lift p = lift_refusal p
edit_refusal (Mute i) p = mark_refusal i false p
edit_refusal (Sound i) p = mark_refusal i true p
edit_refusal Ask p = None
edit_refusal Blame p = None

-- the plan after a command that is not refused
abbrev pub edited : Command → PlanView → PlanView
edited (Open n) p = after_open n
edited (Add kind cs s) p = after_add kind cs s p
edited Lift p = after_lift p
edited (Mute i) p = after_mark i false p
edited (Sound i) p = after_mark i true p
edited Ask p = p
edited Blame p = p

abbrev pub unless_refused : Option Refusal → PlanView → PlanView → PlanView
unless_refused None next p = next
unless_refused (Some e) next p = p

abbrev pub next : Command → PlanView → PlanView
next c p = unless_refused (edit_refusal c p) (edited c p) p

-- the plan after a list of commands
abbrev pub plan_after : PlanView → List Command → PlanView
plan_after p [] = p
plan_after p (c ∷ cs) = plan_after (next c p) cs
