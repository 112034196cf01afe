-- An answer that was read, set down on the sheet. Assumes nothing.
use Rattle.std.proofs.Common.{◌≡◌, ℕ, Bool, List, length, replicate, ℤ, pos, Some, None, Ok, Option, sym, ap, ◌∙◌, subst}
use Rattle.std.proofs.lemmas.Bool.{ne_eqb}
use Rattle.rows.specs.Limits.{faders}
use Rattle.rows.specs.Rows.{Constraint}
use Rattle.rows.specs.declared.weights.Weights.{Weights}
use Rattle.engine.specs.declared.answer.Answer.TheVariants.{Clash}
use Rattle.engine.specs.declared.refusal.Refusal.{Refusal}
use Rattle.engine.specs.declared.refusal.Refusal.TheVariants.{NoPlan}
use Rattle.engine.specs.Verdicts.{Verdict}
use Rattle.engine.specs.Interface.{Answer, first_refusal, refused_if}
use Rattle.engine.specs.Deciding.{RepliesAt}
use Rattle.plans.specs.Rules.{RuleView}
use Rattle.plans.specs.Plans.{PlanView}
use Rattle.plans.specs.Edits.{closed_refusal}
use Rattle.plans.specs.Sounding.{sounding_rows}
use Rattle.console.specs.declared.sheet.Sheet.{Sheet}
use Rattle.console.specs.Asking.{table_refusal, Told, spread, padded, clash_sheet, AskedAt, Asked}
use Rattle.engine.proofs.Readings.{weights_in}
use Rattle.console.proofs.Spreading.{spread_taken}

-- only a refusal of the table is left where a plan is open
pub open_refusal : (p : PlanView) (o : Option Refusal) → (p.count ≡ 0 → ⊥) → first_refusal (closed_refusal p) o ≡ o
open_refusal p o h = ap (λ (b : Bool). first_refusal (refused_if b NoPlan) o) (ne_eqb p.count 0 h)

clash_not_preset : (ws ns : List ℤ) (d : ℕ) → Answer.clash ws ≡ Answer.preset ns d → ⊥
clash_not_preset ws ns d e = subst Clashes e tt
  where
    Clashes : Answer → Type 0
    Clashes Answer.none = ⊥
    Clashes (Answer.preset ns d) = ⊥
    Clashes (Answer.clash ws) = Unit {0}

-- weights that were read are those of the verdict
clash_at : (o : Option Refusal) (rules : List RuleView) (v : Verdict) (w : Weights) (s : Sheet) → RepliesAt o (length (sounding_rows rules)) v (Ok (Clash w)) → AskedAt {U = Unit {0}} o rules v s (Ok tt) (clash_sheet rules w.values)
clash_at None rules (Verdict.preset ns d) w s told = absurd (clash_not_preset _ _ _ told)
clash_at None rules (Verdict.clash ws) w s told = ap (λ (vs : List ℤ). clash_sheet_of vs) (sym (spread_taken rules w.values) ∙ ap (λ (a : Answer). spread rules (weights_in a)) told)
  where
    clash_sheet_of : List ℤ → Sheet
    clash_sheet_of vs = record { numerators = replicate faders (pos 0); denominator = 0; weights = padded vs }
clash_at None rules (Verdict.fault f) w s told = absurd told
clash_at (Some e) rules v w s told = absurd told

pub asked_clash : (verdict : ℕ → List Constraint → Verdict) (needed held : ℕ) (p : PlanView) (w : Weights) (s t : Sheet) → (p.count ≡ 0 → ⊥) → Told verdict needed held p.count (sounding_rows p.rules) (Ok (Clash w)) → t ≡ clash_sheet p.rules w.values → Asked {U = Unit {0}} verdict needed held p s (Ok tt) t
asked_clash verdict needed held p w s t opened told at =
    let v = verdict p.count (sounding_rows p.rules) in
    subst (λ (o : Option Refusal). AskedAt {U = Unit {0}} o p.rules v s (Ok tt) t) (sym (open_refusal p (table_refusal needed held) opened))
    (subst (λ (x : Sheet). AskedAt {U = Unit {0}} (table_refusal needed held) p.rules v s (Ok tt) x) (sym at) (clash_at (table_refusal needed held) p.rules v w s told))
