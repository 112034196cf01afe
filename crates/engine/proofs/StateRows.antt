-- The rows that the shared state holds, and the search for a coefficient that no fader has. Assumes nothing.
use Rattle.std.proofs.Common.{◌≡◌, ℕ, ◌<◌, Bool, cond, ltb, leb, List, [], ◌∷◌, ◌++◌, length, get_or, ℤ, pos, Ok, Err, ap, ◌∙◌, arith}
use Rattle.std.proofs.lemmas.List.{length-map, length-take-le, map-append}
use Rattle.std.proofs.lemmas.Bool.{ne_eqb, lt-leb}
use Rattle.rows.specs.declared.row.Row.{Row}
use Rattle.engine.specs.declared.state.State.{State}
use Rattle.rows.specs.Rows.{Constraint, constraint, constraints, first_unused}
use Rattle.rows.specs.Limits.{most_rows}
use Rattle.rows.specs.Lists.{items}
use Rattle.engine.specs.Interface.{View, Answer, answered, first_refusal, refused_if, unused_refusal, take_refusal, weight_reply}
use Rattle.engine.specs.declared.refusal.Refusal.TheVariants.{NoPlan, Full, NoAnswer}
use Rattle.engine.specs.States.{state_rows}

pub length_state_rows : (s : State) → length (state_rows s) ≡ s.rows.len
length_state_rows s = length-map (items s.rows) constraint ∙ length-take-le s.rows.len s.rows.rows (omega (arith, s.rows.short, s.rows.places))

-- one row more at the end
pub constraints_more : (before after : List Row) (r : Row) → after ≡ before ++ r ∷ [] → constraints after ≡ constraints before ++ constraint r ∷ []
constraints_more before after r e = ap constraints e ∙ map-append constraint before (r ∷ [])

-- the refusals of a started engine that has room
pub take_refusal_last : (row : Constraint) (v : View) → 0 < v.count → length v.rows < most_rows → take_refusal row v ≡ unused_refusal (first_unused v.count 0 row.coefficients)
take_refusal_last row v h k =
    let last = unused_refusal (first_unused v.count 0 row.coefficients) in
    ap (λ (b : Bool). first_refusal (refused_if b NoPlan) (first_refusal (refused_if (leb most_rows (length v.rows)) Full) last)) (ne_eqb v.count 0 (λ e. omega arith))
    ∙ ap (λ (b : Bool). first_refusal (refused_if b Full) last) (lt-leb most_rows (length v.rows) k)

-- a weight read off an answer that is a clash
pub weight_at : (i : ℕ) (v : View) (ws : List ℤ) → v.answer ≡ Answer.clash ws → weight_reply i v ≡ cond (ltb i (length v.rows)) (Ok (get_or ws i (pos 0))) (Err NoAnswer)
weight_at i v ws e = ap (λ (a : Answer). weight_reply i (answered v a)) e
