-- What the engine says of the sounding rules, and how it is set down. Assumes nothing.
use Rattle.std.specs.Prelude.{ℕ, ◌-◌, cond, List, [], ◌∷◌, ◌++◌, length, drop, replicate, ℤ, pos, Some, None, Option, Result, nat_lt, slice_index_or}
use Rattle.rows.specs.Limits.{faders, most_rows}
use Rattle.rows.specs.Rows.{Constraint}
use Rattle.engine.specs.declared.answer.Answer.{Answer as Kept}
use Rattle.engine.specs.declared.refusal.Refusal.{Refusal}
use Rattle.engine.specs.declared.refusal.Refusal.TheVariants.{TooLarge, ShortTable}
use Rattle.engine.specs.Verdicts.{Verdict}
use Rattle.engine.specs.Interface.{Does, first_refusal, refused_if}
use Rattle.engine.specs.Deciding.{RepliesAt}
use Rattle.plans.specs.Rules.{RuleView}
use Rattle.plans.specs.Plans.{PlanView}
use Rattle.plans.specs.Edits.{closed_refusal}
use Rattle.plans.specs.Sounding.{sounding_rows}
use Rattle.console.specs.declared.sheet.Sheet.{Sheet}

-- a table of `held` places where the engine needs more
abbrev pub table_refusal : ℕ → ℕ → Option Refusal
table_refusal needed held = refused_if (nat_lt held needed) ShortTable

-- what an engine says of a list of rows, in a table of `held` places where it needs `needed`
abbrev pub Told : (ℕ → List Constraint → Verdict) → ℕ → ℕ → ℕ → List Constraint → Result Kept Refusal → Type 0
Told verdict needed held count rows r = RepliesAt (table_refusal needed held) (length rows) (verdict count rows) r

-- the weights of the sounding rules by rule number; a muted rule weighs 0
abbrev pub spread : List RuleView → List ℤ → List ℤ
spread [] ws = []
spread (r ∷ rules) ws = cond r.sounds (slice_index_or ws 0 (pos 0) ∷ spread rules (drop 1 ws)) (pos 0 ∷ spread rules ws)

-- a weight for each rule that a plan can have
abbrev pub padded : List ℤ → List ℤ
padded ws = ws ++ replicate (most_rows - length ws) (pos 0)

abbrev pub preset_sheet : List ℤ → ℕ → Sheet
preset_sheet ns d = record { numerators = ns; denominator = d; weights = replicate most_rows (pos 0) }

abbrev pub clash_sheet : List RuleView → List ℤ → Sheet
clash_sheet rules ws = record { numerators = replicate faders (pos 0); denominator = 0; weights = padded (spread rules ws) }

-- a verdict set down; a fault leaves the sheet
abbrev pub SetDown : {U : Type 0} → List RuleView → Verdict → Sheet → Result U Refusal → Sheet → Type 0
SetDown rules (Verdict.preset ns d) s r t = Does None (preset_sheet ns d) s r t
SetDown rules (Verdict.clash ws) s r t = Does None (clash_sheet rules ws) s r t
SetDown rules (Verdict.fault f) s r t = Does (Some (TooLarge f)) s s r t

abbrev pub AskedAt : {U : Type 0} → Option Refusal → List RuleView → Verdict → Sheet → Result U Refusal → Sheet → Type 0
AskedAt None rules verdict s r t = SetDown rules verdict s r t
AskedAt (Some e) rules verdict s r t = Does (Some e) s s r t

-- no plan is open; the table is too short; and otherwise the engine's verdict on the sounding rules
abbrev pub Asked : {U : Type 0} → (ℕ → List Constraint → Verdict) → ℕ → ℕ → PlanView → Sheet → Result U Refusal → Sheet → Type 0
Asked verdict needed held p s r t = AskedAt (first_refusal (closed_refusal p) (table_refusal needed held)) p.rules (verdict p.count (sounding_rows p.rules)) s r t
