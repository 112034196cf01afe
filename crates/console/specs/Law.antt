-- What a run of commands promises, for any engine that keeps its meaning. The plan before each command is read off the commands before it.
-- Assumes nothing.
use Rattle.std.specs.Prelude.{◌≡◌, ℕ, ◌<◌, ◌↔◌, List, [], ◌∷◌, ◌++◌, map, length, take, ℤ, Some, None, Ok, Err, Option, Result, slice_index_or}
use Rattle.rows.specs.Rows.{Constraint, MeetsAll, Feasible, Infeasible}
use Rattle.rows.specs.Clashes.{Clash}
use Rattle.engine.specs.declared.fault.Fault.{Fault}
use Rattle.engine.specs.declared.refusal.Refusal.{Refusal}
use Rattle.engine.specs.declared.refusal.Refusal.TheVariants.{TooLarge}
use Rattle.engine.specs.declared.refusal.Refusal.TheVariants.{Feasible as HasPreset}
use Rattle.engine.specs.Verdicts.{Verdict, Valid}
use Rattle.engine.specs.Exactness.{Taken}
use Rattle.engine.specs.Interface.{first_refusal}
use Rattle.plans.specs.Rules.{RuleView}
use Rattle.plans.specs.Plans.{PlanView, no_plan}
use Rattle.plans.specs.Edits.{closed_refusal}
use Rattle.plans.specs.Sounding.{sounding_rows}
use Rattle.console.specs.declared.command.Command.{Command}
use Rattle.console.specs.declared.command.Command.TheVariants.{Open, Add, Lift, Mute, Sound, Ask, Blame}
use Rattle.console.specs.Asking.{spread}
use Rattle.console.specs.Replies.{Reply}
use Rattle.console.specs.Runs.{edit_refusal, plan_after}
use Rattle.console.specs.Walks.{numbered, rows_of, numbers_of, Walk, first_fault, Minimal}

-- the rows of all rules, muted ones too
abbrev pub all_rows : List RuleView → List Constraint
all_rows rules = map (λ r. r.row) rules

-- a verdict on the sounding rules of a plan as a reply: a level for each fader of the desk, or a weight for each rule, muted rules 0
abbrev pub set_down : PlanView → Verdict → Reply
set_down p (Verdict.preset ns d) = Reply.preset (take p.count ns) d
set_down p (Verdict.clash ws) = Reply.clash (spread p.rules ws)
set_down p (Verdict.fault f) = Reply.refused (TooLarge f)

abbrev pub IsClash : Reply → Type 0
IsClash Reply.done = ⊥
IsClash (Reply.preset ns d) = ⊥
IsClash (Reply.clash ws) = Unit {0}
IsClash (Reply.blamed is) = ⊥
IsClash (Reply.refused e) = ⊥

-- levels that meet the rows
abbrev pub IsMet : List Constraint → Reply → Type 0
IsMet rows Reply.done = ⊥
IsMet rows (Reply.preset ns d) = (0 < d) × MeetsAll ns d rows
IsMet rows (Reply.clash ws) = ⊥
IsMet rows (Reply.blamed is) = ⊥
IsMet rows (Reply.refused e) = ⊥

abbrev pub IsTooLarge : Reply → Type 0
IsTooLarge r = (f : Fault) × (r ≡ Reply.refused (TooLarge f))

-- Ask: the engine's own verdict set down; where it takes the rules, a clash exactly when no levels meet them, and otherwise a preset that
-- meets them; where it does not, too large. The weights of a clash are one of the plan's rules
pub record AskLaw (verdict : ℕ → List Constraint → Verdict) (p : PlanView) (r : Reply) : Type 0 where
  pub own : r ≡ set_down p (verdict p.count (sounding_rows p.rules))
  pub clashes : Taken (verdict p.count (sounding_rows p.rules)) → IsClash r ↔ Infeasible (sounding_rows p.rules)
  pub meets : Taken (verdict p.count (sounding_rows p.rules)) → (Infeasible (sounding_rows p.rules) → ⊥) → IsMet (sounding_rows p.rules) r
  pub large : (Taken (verdict p.count (sounding_rows p.rules)) → ⊥) → IsTooLarge r
  pub shows : (ws : List ℤ) → r ≡ Reply.clash ws → Clash ws (all_rows p.rules)

-- Blame: where the engine does not take the sounding rules, too large with its fault; where it does and levels meet them, refused for that;
-- where none do, a walk over the rules by whether levels exist decides: the rules still in at its end, a minimal infeasible set, if the
-- engine takes each of the walk's lists, and otherwise too large with the fault of the first that it does not take
pub record BlameLaw (verdict : ℕ → List Constraint → Verdict) (p : PlanView) (r : Reply) : Type 0 where
  pub first : (f : Fault) → verdict p.count (sounding_rows p.rules) ≡ Verdict.fault f → r ≡ Reply.refused (TooLarge f)
  pub feasible : Taken (verdict p.count (sounding_rows p.rules)) → Feasible (sounding_rows p.rules) → r ≡ Reply.refused HasPreset
  pub names : (lists : List (List Constraint)) (final : List (ℕ × Constraint)) → Infeasible (sounding_rows p.rules) → Walk [] (numbered 0 p.rules) lists final
      → first_fault (verdict p.count) (sounding_rows p.rules ∷ lists) ≡ None → (r ≡ Reply.blamed (numbers_of final)) × Minimal (rows_of final)
  pub large : (lists : List (List Constraint)) (final : List (ℕ × Constraint)) → Infeasible (sounding_rows p.rules) → Walk [] (numbered 0 p.rules) lists final
      → (f : Fault) → first_fault (verdict p.count) (sounding_rows p.rules ∷ lists) ≡ Some f → r ≡ Reply.refused (TooLarge f)
  pub walks : (lists : List (List Constraint)) × (final : List (ℕ × Constraint)) × Walk [] (numbered 0 p.rules) lists final

-- a result that tells nothing but a refusal
abbrev pub result_reply : {U : Type 0} → Result U Refusal → Reply
result_reply (Ok u) = Reply.done
result_reply (Err e) = Reply.refused e

abbrev pub edit_reply : Option Refusal → Reply
edit_reply None = Reply.done
edit_reply (Some e) = Reply.refused e

abbrev pub unless : Option Refusal → Reply → Type 0 → Type 0
unless None r law = law
unless (Some e) r law = r ≡ Reply.refused e

-- what the reply to one command has to be, where this plan stands and the table is refused or not
abbrev pub Replied : (ℕ → List Constraint → Verdict) → Option Refusal → PlanView → Command → Reply → Type 0
Replied verdict table p (Open n) r = r ≡ edit_reply (edit_refusal (Open n) p)
Replied verdict table p (Add kind cs s) r = r ≡ edit_reply (edit_refusal (Add kind cs s) p)
Replied verdict table p Lift r = r ≡ edit_reply (edit_refusal Lift p)
Replied verdict table p (Mute i) r = r ≡ edit_reply (edit_refusal (Mute i) p)
Replied verdict table p (Sound i) r = r ≡ edit_reply (edit_refusal (Sound i) p)
Replied verdict table p Ask r = unless (first_refusal (closed_refusal p) table) r (AskLaw verdict p r)
Replied verdict table p Blame r = unless (first_refusal (closed_refusal p) table) r (BlameLaw verdict p r)

-- after every list of commands
pub record RunLaw (verdict : ℕ → List Constraint → Verdict) (table : Option Refusal) (cs : List Command) (rs : List Reply) : Type 0 where
  pub each : length rs ≡ length cs
  pub replied : (before later : List Command) (c : Command) → cs ≡ before ++ c ∷ later → Replied verdict table (plan_after no_plan before) c (slice_index_or rs (length before) Reply.done)

-- every plan that a run comes to is one whose sounding rules an engine may be given
abbrev pub PlansValid : List Command → Type 0
PlansValid cs =
    (before later : List Command) → cs ≡ before ++ later → 0 < (plan_after no_plan before).count
    → Valid (plan_after no_plan before).count (sounding_rows (plan_after no_plan before).rules)
