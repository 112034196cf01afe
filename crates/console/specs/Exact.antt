-- The replies of a run as a function of the engine's verdict and the commands. Assumes nothing.
use Rattle.std.specs.Prelude.{ℕ, List, [], ◌∷◌, Some, None, Ok, Err, Option, Result}
use Rattle.rows.specs.Rows.{Constraint}
use Rattle.engine.specs.declared.fault.Fault.{Fault}
use Rattle.engine.specs.declared.refusal.Refusal.{Refusal}
use Rattle.engine.specs.declared.refusal.Refusal.TheVariants.{TooLarge}
use Rattle.engine.specs.declared.refusal.Refusal.TheVariants.{Feasible as HasPreset}
use Rattle.engine.specs.Verdicts.{Verdict}
use Rattle.engine.specs.Interface.{first_refusal}
use Rattle.plans.specs.Plans.{PlanView}
use Rattle.plans.specs.Edits.{closed_refusal}
use Rattle.plans.specs.Sounding.{sounding_rows}
use Rattle.console.specs.declared.command.Command.{Command}
use Rattle.console.specs.declared.command.Command.TheVariants.{Open, Add, Lift, Mute, Sound, Ask, Blame}
use Rattle.console.specs.Replies.{Reply}
use Rattle.console.specs.Runs.{edit_refusal, next}
use Rattle.console.specs.Law.{set_down, edit_reply}
use Rattle.console.specs.Walks.{numbered, numbers_of, walked}

-- the outcome of the walk, where the sounding rules clash
abbrev pub walk_reply : Result (List (ℕ × Constraint)) Fault → Reply
walk_reply (Ok final) = Reply.blamed (numbers_of final)
walk_reply (Err f) = Reply.refused (TooLarge f)

-- the first decision, and then the walk
abbrev pub blame_reply : Verdict → Result (List (ℕ × Constraint)) Fault → Reply
blame_reply (Verdict.preset ns d) walk = Reply.refused HasPreset
blame_reply (Verdict.clash ws) walk = walk_reply walk
blame_reply (Verdict.fault f) walk = Reply.refused (TooLarge f)

abbrev pub refused_or : Option Refusal → Reply → Reply
refused_or None r = r
refused_or (Some e) r = Reply.refused e

-- the reply to one command, where this plan stands and the table is refused or not
abbrev pub reply_of : (ℕ → List Constraint → Verdict) → Option Refusal → PlanView → Command → Reply
reply_of verdict table p (Open n) = edit_reply (edit_refusal (Open n) p)
reply_of verdict table p (Add kind cs s) = edit_reply (edit_refusal (Add kind cs s) p)
reply_of verdict table p Lift = edit_reply (edit_refusal Lift p)
reply_of verdict table p (Mute i) = edit_reply (edit_refusal (Mute i) p)
reply_of verdict table p (Sound i) = edit_reply (edit_refusal (Sound i) p)
reply_of verdict table p Ask = refused_or (first_refusal (closed_refusal p) table) (set_down p (verdict p.count (sounding_rows p.rules)))
reply_of verdict table p Blame =
    refused_or (first_refusal (closed_refusal p) table) (blame_reply (verdict p.count (sounding_rows p.rules)) (walked (verdict p.count) [] (numbered 0 p.rules)))

-- the replies to a list of commands
abbrev pub replies : (ℕ → List Constraint → Verdict) → Option Refusal → PlanView → List Command → List Reply
replies verdict table p [] = []
replies verdict table p (c ∷ cs) = reply_of verdict table p c ∷ replies verdict table (next c p) cs
