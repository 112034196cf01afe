-- The chain of refusals, a step further, and what a row that was made tells of it. Assumes nothing.
use Rattle.std.proofs.Common.{◌≡◌, ℕ, ◌<◌, Bool, false, eqb, leb, List, length, ℤ, Some, None, Ok, Err, Option, sym, refl, ap, ◌∙◌, subst}
use Rattle.std.proofs.lemmas.Bool.{ne_eqb, lt-leb}
use Rattle.rows.specs.declared.kind.Kind.{Kind}
use Rattle.rows.specs.declared.row.Row.{Row}
use Rattle.engine.specs.declared.refusal.Refusal.{Refusal}
use Rattle.engine.specs.declared.refusal.Refusal.TheVariants.{NoPlan, Full}
use Rattle.rows.specs.Limits.{most_rows}
use Rattle.rows.specs.Rows.{Constraint, constraint}
use Rattle.engine.specs.Interface.{first_refusal, refused_if}
use Rattle.plans.specs.Plans.{PlanView}
use Rattle.rows.specs.Kinds.{kind_of}
use Rattle.plans.specs.Edits.{kind_refusal, row_refusal, closed_refusal, add_refusal, Makes}

-- a refusal that does not fit
pub passed : (b : Bool) (e : Refusal) (other : Option Refusal) → b ≡ false → first_refusal (refused_if b e) other ≡ other
passed b e other h = ap (λ (t : Bool). first_refusal (refused_if t e) other) h

-- a plan is open
pub past_closed : (v : PlanView) (other : Option Refusal) → (v.count ≡ 0 → ⊥) → first_refusal (closed_refusal v) other ≡ other
past_closed v other h = passed (eqb v.count 0) NoPlan other (ne_eqb v.count 0 h)

-- and it has room
pub past_full : (kind : ℕ) (cs : List ℤ) (s : ℤ) (v : PlanView) → (v.count ≡ 0 → ⊥) → length v.rules < most_rows → add_refusal kind cs s v ≡ first_refusal (kind_refusal (kind_of kind)) (row_refusal v.count cs s)
past_full kind cs s v h k =
    let last = first_refusal (kind_refusal (kind_of kind)) (row_refusal v.count cs s) in
    past_closed v (first_refusal (refused_if (leb most_rows (length v.rules)) Full) last) h
    ∙ passed (leb most_rows (length v.rules)) Full last (lt-leb most_rows (length v.rules) k)

-- the kind's number was read as o
pub at_kind : (kind : ℕ) (cs : List ℤ) (s : ℤ) (v : PlanView) (o : Option Kind) → (v.count ≡ 0 → ⊥) → length v.rules < most_rows → o ≡ kind_of kind → add_refusal kind cs s v ≡ first_refusal (kind_refusal o) (row_refusal v.count cs s)
at_kind kind cs s v o h k e = past_full kind cs s v h k ∙ ap (λ (p : Option Kind). first_refusal (kind_refusal p) (row_refusal v.count cs s)) (sym e)

refused_row : (refusal : Option Refusal) (c : Constraint) (e : Refusal) → Makes refusal c (Err e) → refusal ≡ Some e
refused_row None c e m = absurd m
refused_row (Some refusal) c e m = ap Some (sym m)

made_row : (refusal : Option Refusal) (c : Constraint) (row : Row) → Makes refusal c (Ok row) → (refusal ≡ None) × (constraint row ≡ c)
made_row None c row m = (refl, m)
made_row (Some refusal) c row m = absurd m

-- a row was asked for with the side s, which was passed on as z
module _ (count : ℕ) (k : Kind) (cs : List ℤ) (s z : ℤ) (e : z ≡ s) where
  pub refused_at : (y : Refusal) → Makes (row_refusal count cs z) (record { kind = k; coefficients = cs; side = z }) (Err y) → row_refusal count cs s ≡ Some y
  refused_at y m = ap (row_refusal count cs) (sym e) ∙ refused_row (row_refusal count cs z) (record { kind = k; coefficients = cs; side = z }) y m

  pub made_at : (row : Row) → Makes (row_refusal count cs z) (record { kind = k; coefficients = cs; side = z }) (Ok row) → (row_refusal count cs s ≡ None) × (constraint row ≡ record { kind = k; coefficients = cs; side = s })
  made_at row m = made_row (row_refusal count cs s) (record { kind = k; coefficients = cs; side = s }) row
      (subst (λ (t : ℤ). Makes (row_refusal count cs t) (record { kind = k; coefficients = cs; side = t }) (Ok row)) e m)
