-- What every verdict that is right says. Assumes nothing.
use Rattle.std.specs.Prelude.{ℕ, ◌<◌, ◌↔◌, List}
use Rattle.rows.specs.Rows.{Constraint, MeetsAll, Infeasible}
use Rattle.engine.specs.Verdicts.{Verdict, Valid}

-- the engine takes a list where its verdict on it is no fault
abbrev pub Taken : Verdict → Type 0
Taken (Verdict.preset ns d) = Unit {0}
Taken (Verdict.clash ws) = Unit {0}
Taken (Verdict.fault f) = ⊥

abbrev pub IsClash : Verdict → Type 0
IsClash (Verdict.preset ns d) = ⊥
IsClash (Verdict.clash ws) = Unit {0}
IsClash (Verdict.fault f) = ⊥

-- levels that meet the rows
abbrev pub IsMet : List Constraint → Verdict → Type 0
IsMet rows (Verdict.preset ns d) = (0 < d) × MeetsAll ns d rows
IsMet rows (Verdict.clash ws) = ⊥
IsMet rows (Verdict.fault f) = ⊥

-- a clash exactly where no levels meet the rows, and otherwise a preset that meets them
pub record Exact (rows : List Constraint) (v : Verdict) : Type 0 where
  pub clashes : IsClash v ↔ Infeasible rows
  pub meets : (Infeasible rows → ⊥) → IsMet rows v

-- for every engine whose verdicts are right
abbrev pub DecidesExactly : (ℕ → List Constraint → Verdict) → Type 0
DecidesExactly verdict = (count : ℕ) (rows : List Constraint) → Valid count rows → Taken (verdict count rows) → Exact rows (verdict count rows)
