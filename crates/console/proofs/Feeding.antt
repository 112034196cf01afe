-- The sounding rules of a plan are rows that an engine takes, one after another. Assumes nothing.
use Rattle.std.proofs.Common.{◌≡◌, ℕ, zero, suc, ◌+◌, ◌<◌, Bool, true, false, List, [], ◌∷◌, ◌++◌, length, get_or, take, drop, None, Ok, Err, Option, Result, sym, refl, ap, ◌∙◌, subst, arith, MatchResult}
use Rattle.std.proofs.lemmas.List.{length-append, append-nil, map-append, take-append-drop, drop_more}
use Rattle.rows.specs.Rows.{Constraint, constraint}
use Rattle.rows.proofs.Alls.{unjoin}
use Rattle.engine.specs.declared.refusal.Refusal.{Refusal}
use Rattle.engine.specs.Verdicts.{ValidRow, Valid}
use Rattle.engine.specs.Interface.{View, Does, Took, take_refusal, unused_refusal}
use Rattle.engine.specs.Deciding.{loaded}
use Rattle.engine.proofs.StateRows.{take_refusal_last}
use Rattle.engine.proofs.Loading.{zeros_used}
use Rattle.plans.specs.declared.rule.Rule.{Rule}
use Rattle.plans.specs.Rules.{rule_view, rule_views}
use Rattle.plans.specs.Sounding.{sounding_rows}
use Rattle.plans.proofs.Soundings.{sounding_append, one_more}

-- the next row of a valid list is taken
next_taken : (count : ℕ) (xs ys : List Constraint) (r : Constraint) → Valid count (xs ++ r ∷ ys) → take_refusal r (loaded count xs) ≡ None
next_taken count xs ys r valid =
    let row = (unjoin (ValidRow count) xs (r ∷ ys) valid.each).1.0 in
    take_refusal_last r (loaded count xs) valid.some (omega (arith, valid.short, length-append xs (r ∷ ys)))
    ∙ ap unused_refusal (zeros_used count 0 r.coefficients (λ j h. row.unused j (omega (arith, h))))

-- the engine holds the sounding ones of the first i rules, and the next one sounds
module _ (count : ℕ) (rules : List Rule) (i : ℕ) (d : Rule) (h : i < length rules) (valid : Valid count (sounding_rows (rule_views rules))) (sounds : (get_or rules i d).sounds ≡ true) where
  split_here : sounding_rows (rule_views rules) ≡ sounding_rows (rule_views (take i rules)) ++ constraint (get_or rules i d).row ∷ sounding_rows (rule_views (drop (i + 1) rules))
  split_here =
      ap (λ (rs : List Rule). sounding_rows (rule_views rs)) (sym (take-append-drop i rules) ∙ ap (λ (rs : List Rule). take i rules ++ rs) (drop_more rules i d h))
      ∙ ap sounding_rows (map-append rule_view (take i rules) (get_or rules i d ∷ drop (i + 1) rules))
      ∙ sounding_append (rule_views (take i rules)) (rule_views (get_or rules i d ∷ drop (i + 1) rules))
      ∙ ap (λ (rs : List Constraint). sounding_rows (rule_views (take i rules)) ++ rs) (rw sounds refl)

  pub given_more : sounding_rows (rule_views (take (i + 1) rules)) ≡ sounding_rows (rule_views (take i rules)) ++ constraint (get_or rules i d).row ∷ []
  given_more = one_more rules i d h ∙ rw sounds refl

  pub given_next : {U : Type 0} (v w : View) (r : Result U Refusal) → v ≡ loaded count (sounding_rows (rule_views (take i rules))) → Took (constraint (get_or rules i d).row) v r w
      → MatchResult r (λ _. w ≡ loaded count (sounding_rows (rule_views (take (i + 1) rules)))) (λ _. ⊥)
  given_next v w r held took =
      let xs = sounding_rows (rule_views (take i rules)) in
      let c = constraint (get_or rules i d).row in
      let none = next_taken count xs (sounding_rows (rule_views (drop (i + 1) rules))) c (subst (Valid count) split_here valid) in
      let here : Took c (loaded count xs) r w = subst (λ (x : View). Took c x r w) held took in
      done r w (subst (λ (o : Option Refusal). Does o (loaded count (xs ++ c ∷ [])) (loaded count xs) r w) none here)
    where
      done : {U : Type 0} (r : Result U Refusal) (w : View) → Does None (loaded count (sounding_rows (rule_views (take i rules)) ++ constraint (get_or rules i d).row ∷ [])) (loaded count (sounding_rows (rule_views (take i rules)))) r w → MatchResult r (λ _. w ≡ loaded count (sounding_rows (rule_views (take (i + 1) rules)))) (λ _. ⊥)
      done (Ok u) w e = e ∙ ap (loaded count) (sym given_more)
      done (Err e) w h = h

-- the mark of a rule that was read
pub read_sounds : (rules : List Rule) (i : ℕ) (r : Rule) (b : Bool) → r ≡ get_or rules i r → r.sounds ≡ b → (get_or rules i r).sounds ≡ b
read_sounds rules i r b read e = ap (λ (x : Rule). x.sounds) (sym read) ∙ e

-- the same for a rule that was read
pub given_row : (count : ℕ) (rules : List Rule) (i : ℕ) (rule : Rule) → rule ≡ get_or rules i rule → i < length rules → Valid count (sounding_rows (rule_views rules)) → rule.sounds ≡ true → {U : Type 0} (v w : View) (r : Result U Refusal) → v ≡ loaded count (sounding_rows (rule_views (take i rules))) → Took (constraint rule.row) v r w
    → MatchResult r (λ _. w ≡ loaded count (sounding_rows (rule_views (take (i + 1) rules)))) (λ _. ⊥)
given_row count rules i rule read h valid sounds v w r held took =
    given_next count rules i rule h valid (read_sounds rules i rule true read sounds) v w r held (subst (λ (x : Rule). Took (constraint x.row) v r w) read took)

-- a muted rule changes nothing
pub passed_on : (rules : List Rule) (i : ℕ) (d : Rule) → i < length rules → (get_or rules i d).sounds ≡ false → sounding_rows (rule_views (take (i + 1) rules)) ≡ sounding_rows (rule_views (take i rules))
passed_on rules i d h mute = one_more rules i d h ∙ rw mute (append-nil (sounding_rows (rule_views (take i rules))))

pub above_zero : (n : ℕ) → (n ≡ 0 → ⊥) → 0 < n
above_zero zero h = absurd (h refl)
above_zero (suc n) h = omega arith
