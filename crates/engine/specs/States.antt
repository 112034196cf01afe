-- What the shared state of our engines holds. Assumes nothing.
use Rattle.std.specs.Prelude.{◌≡◌, ℕ, Bool, true, false, List, length, take, Some, None, Ok, Err, Option, Result}
use Rattle.engine.specs.declared.answer.Answer.{Answer as Kept}
use Rattle.engine.specs.declared.answer.Answer.TheVariants.{Preset, Clash}
use Rattle.engine.specs.declared.fault.Fault.{Fault}
use Rattle.engine.specs.declared.refusal.Refusal.{Refusal}
use Rattle.engine.specs.declared.refusal.Refusal.TheVariants.{TooLarge}
use Rattle.engine.specs.declared.state.State.{State}
use Rattle.rows.specs.Lists.{items}
use Rattle.rows.specs.Rows.{Constraint, constraints}
use Rattle.engine.specs.Verdicts.{Verdict}
use Rattle.engine.specs.Interface.{Answer, View, Does, answered}

abbrev pub state_rows : State → List Constraint
state_rows s = constraints (items s.rows)

-- the answer to a list of so many rows
abbrev pub said : ℕ → Kept → Answer
said n (Preset p) = Answer.preset p.numerators p.denominator
said n (Clash w) = Answer.clash (take n w.values)

-- none before a decision
abbrev pub kept_answer : ℕ → Option Kept → Answer
kept_answer n None = Answer.none
kept_answer n (Some a) = said n a

abbrev pub holds_clash : Kept → Bool
holds_clash (Preset p) = false
holds_clash (Clash w) = true

abbrev pub state_view : State → View
state_view s = record { count = s.count; rows = state_rows s; answer = kept_answer s.rows.len s.answer }

-- a verdict on so many rows, as an answer or as a fault
abbrev pub Says : ℕ → Verdict → Result Kept Fault → Type 0
Says n (Verdict.preset ns d) (Ok a) = said n a ≡ Answer.preset ns d
Says n (Verdict.clash ws) (Ok a) = said n a ≡ Answer.clash ws
Says n (Verdict.fault f) (Err e) = e ≡ f
Says n (Verdict.preset ns d) (Err e) = ⊥
Says n (Verdict.clash ws) (Err e) = ⊥
Says n (Verdict.fault f) (Ok a) = ⊥

-- what was found of the rows becomes the answer; a fault is the reply, and empties the answer
abbrev pub Settled : {U : Type 0} → Result (Option Kept) Fault → View → Result U Refusal → View → Type 0
Settled (Ok a) v r w = Does None (answered v (kept_answer (length v.rows) a)) v r w
Settled (Err f) v (Ok u) w = ⊥
Settled (Err f) v (Err e) w = (e ≡ TooLarge f) × (w ≡ answered v Answer.none)
