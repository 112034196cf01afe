-- What Blame replies, by the walk of the engine's verdicts. Assumes nothing.
use Rattle.std.specs.Prelude.{ℕ, List, [], Some, None, Ok, Err, Option, Result}
use Rattle.rows.specs.Limits.{most_rows}
use Rattle.rows.specs.Rows.{Constraint}
use Rattle.engine.specs.declared.fault.Fault.{Fault}
use Rattle.engine.specs.declared.refusal.Refusal.{Refusal}
use Rattle.engine.specs.declared.refusal.Refusal.TheVariants.{TooLarge, Feasible}
use Rattle.engine.specs.Verdicts.{Verdict}
use Rattle.engine.specs.Interface.{Does, first_refusal}
use Rattle.plans.specs.Plans.{PlanView}
use Rattle.plans.specs.Edits.{closed_refusal}
use Rattle.plans.specs.Sounding.{sounding_rows}
use Rattle.console.specs.Asking.{table_refusal}
use Rattle.console.specs.Marks.{marks_from}
use Rattle.console.specs.Walks.{numbered, numbers_of, walked}

-- 1 for the rules still in at the end of a walk, and 0 for the others; a fault leaves the marks
abbrev pub Names : {U : Type 0} → Result (List (ℕ × Constraint)) Fault → List ℕ → Result U Refusal → List ℕ → Type 0
Names (Ok final) m r n = Does None (marks_from most_rows 0 (numbers_of final)) m r n
Names (Err f) m r n = Does (Some (TooLarge f)) m m r n

-- the first decision, and then the walk
abbrev pub Blames : {U : Type 0} → Verdict → Result (List (ℕ × Constraint)) Fault → List ℕ → Result U Refusal → List ℕ → Type 0
Blames (Verdict.preset ns d) walk m r n = Does (Some Feasible) m m r n
Blames (Verdict.clash ws) walk m r n = Names walk m r n
Blames (Verdict.fault f) walk m r n = Does (Some (TooLarge f)) m m r n

abbrev pub BlamedAt : {U : Type 0} → Option Refusal → Verdict → Result (List (ℕ × Constraint)) Fault → List ℕ → Result U Refusal → List ℕ → Type 0
BlamedAt None verdict walk m r n = Blames verdict walk m r n
BlamedAt (Some e) verdict walk m r n = Does (Some e) m m r n

-- no plan is open; the table is too short; and otherwise the walk over the sounding rules
abbrev pub Blamed : {U : Type 0} → (ℕ → List Constraint → Verdict) → ℕ → ℕ → PlanView → List ℕ → Result U Refusal → List ℕ → Type 0
Blamed verdict needed held p m r n =
    BlamedAt (first_refusal (closed_refusal p) (table_refusal needed held)) (verdict p.count (sounding_rows p.rules)) (walked (verdict p.count) [] (numbered 0 p.rules)) m r n
