-- How a minimal infeasible set is found: the rules are tried one after another. Assumes nothing.
use Rattle.std.specs.Prelude.{ℕ, ◌+◌, ◌<◌, cond, List, [], ◌∷◌, ◌++◌, map, length, take, drop, Some, None, Ok, Err, Option, Result}
use Rattle.rows.specs.Rows.{Constraint, Feasible, Infeasible}
use Rattle.engine.specs.declared.fault.Fault.{Fault}
use Rattle.engine.specs.Verdicts.{Verdict}
use Rattle.plans.specs.Rules.{RuleView}

-- the sounding rules with their numbers, in number order, from number i on
abbrev pub numbered : ℕ → List RuleView → List (ℕ × Constraint)
numbered i [] = []
numbered i (r ∷ rules) = cond r.sounds ((i, r.row) ∷ numbered (i + 1) rules) (numbered (i + 1) rules)

abbrev pub rows_of : List (ℕ × Constraint) → List Constraint
rows_of ps = map (λ p. p.1) ps

abbrev pub numbers_of : List (ℕ × Constraint) → List ℕ
numbers_of ps = map (λ p. p.0) ps

-- Walk kept untried lists final: each untried rule is tried in turn on the list of the others still in, and goes out for good if no levels meet
-- those. The lists are what it is tried on, and final are the rules still in at the end
pub data Walk : List (ℕ × Constraint) → List (ℕ × Constraint) → List (List Constraint) → List (ℕ × Constraint) → Type 0 where
  done : {kept : List (ℕ × Constraint)} → Walk kept [] [] kept
  goes : {kept untried final : List (ℕ × Constraint)} {lists : List (List Constraint)} {p : ℕ × Constraint} → Infeasible (rows_of (kept ++ untried)) → Walk kept untried lists final → Walk kept (p ∷ untried) (rows_of (kept ++ untried) ∷ lists) final
  stays : {kept untried final : List (ℕ × Constraint)} {lists : List (List Constraint)} {p : ℕ × Constraint} → Feasible (rows_of (kept ++ untried)) → Walk (kept ++ p ∷ []) untried lists final → Walk kept (p ∷ untried) (rows_of (kept ++ untried) ∷ lists) final

-- the fault of the first list that an engine does not take
abbrev pub or_fault : Verdict → Option Fault → Option Fault
or_fault (Verdict.preset ns d) later = later
or_fault (Verdict.clash ws) later = later
or_fault (Verdict.fault f) later = Some f

abbrev pub first_fault : (List Constraint → Verdict) → List (List Constraint) → Option Fault
first_fault verdict [] = None
first_fault verdict (rows ∷ lists) = or_fault (verdict rows) (first_fault verdict lists)

-- no levels meet all rows, and some meet all but any one
pub record Minimal (rows : List Constraint) : Type 0 where
  pub together : Infeasible rows
  pub each : (i : ℕ) → i < length rows → Feasible (take i rows ++ drop (i + 1) rows)

-- the walk by an engine's verdicts: a rule goes out on a clash of the others, stays on a preset, and a fault ends the walk
abbrev pub tried : Verdict → Result (List (ℕ × Constraint)) Fault → Result (List (ℕ × Constraint)) Fault → Result (List (ℕ × Constraint)) Fault
tried (Verdict.preset ns d) stay go = stay
tried (Verdict.clash ws) stay go = go
tried (Verdict.fault f) stay go = Err f

abbrev pub walked : (List Constraint → Verdict) → List (ℕ × Constraint) → List (ℕ × Constraint) → Result (List (ℕ × Constraint)) Fault
walked verdict kept [] = Ok kept
walked verdict kept (p ∷ untried) = tried (verdict (rows_of (kept ++ untried))) (walked verdict (kept ++ p ∷ []) untried) (walked verdict kept untried)

-- the outcome of a walk with these lists and this end
abbrev pub outcome : Option Fault → List (ℕ × Constraint) → Result (List (ℕ × Constraint)) Fault
outcome None final = Ok final
outcome (Some f) final = Err f
