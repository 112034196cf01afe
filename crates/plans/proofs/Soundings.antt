-- The rows of the rules that sound: one rule more, sounding or muted. Assumes nothing.
use Rattle.std.proofs.Common.{◌≡◌, ℕ, ◌+◌, ◌<◌, Bool, true, false, List, [], ◌∷◌, ◌++◌, length, get_or, take, sym, refl, ap, ◌∙◌, append-nil}
use Rattle.std.proofs.lemmas.List.{take_more, map-append}
use Rattle.rows.specs.declared.row.Row.{Row}
use Rattle.rows.specs.Rows.{Constraint, constraint, constraints}
use Rattle.plans.specs.declared.rule.Rule.{Rule}
use Rattle.plans.specs.Rules.{RuleView, rule_view, rule_views}
use Rattle.plans.specs.Sounding.{sounding_rows}

pub sounding_append : (rules more : List RuleView) → sounding_rows (rules ++ more) ≡ sounding_rows rules ++ sounding_rows more
sounding_append [] more = refl
sounding_append (x ∷ rules) more = go x.sounds refl (sounding_append rules more)
  where
    go : (t : Bool) → x.sounds ≡ t → sounding_rows (rules ++ more) ≡ sounding_rows rules ++ sounding_rows more → sounding_rows ((x ∷ rules) ++ more) ≡ sounding_rows (x ∷ rules) ++ sounding_rows more
    go true e h = rw e (ap (λ (rows : List Constraint). x.row ∷ rows) h)
    go false e h = rw e h

-- one rule more
pub one_more : (rules : List Rule) (i : ℕ) (d : Rule) → i < length rules → sounding_rows (rule_views (take (i + 1) rules)) ≡ sounding_rows (rule_views (take i rules)) ++ sounding_rows (rule_view (get_or rules i d) ∷ [])
one_more rules i d h =
    ap (λ (rs : List Rule). sounding_rows (rule_views rs)) (take_more rules i d h)
    ∙ ap sounding_rows (map-append rule_view (take i rules) (get_or rules i d ∷ []))
    ∙ sounding_append (rule_views (take i rules)) (rule_view (get_or rules i d) ∷ [])

-- a rule that sounds is appended to the others
pub taken_on : (rules : List Rule) (before after : List Row) (i : ℕ) (d : Rule) → i < length rules → (get_or rules i d).sounds ≡ true → constraints before ≡ sounding_rows (rule_views (take i rules)) → after ≡ before ++ (get_or rules i d).row ∷ [] → constraints after ≡ sounding_rows (rule_views (take (i + 1) rules))
taken_on rules before after i d h sounds so e =
    ap constraints e
    ∙ map-append constraint before ((get_or rules i d).row ∷ [])
    ∙ ap (λ (cs : List Constraint). cs ++ constraint (get_or rules i d).row ∷ []) so
    ∙ sym (one_more rules i d h ∙ rw sounds refl)

-- a muted rule is passed over
pub passed_over : (rules : List Rule) (rows : List Row) (i : ℕ) (d : Rule) → i < length rules → (get_or rules i d).sounds ≡ false → constraints rows ≡ sounding_rows (rule_views (take i rules)) → constraints rows ≡ sounding_rows (rule_views (take (i + 1) rules))
passed_over rules rows i d h mute so =
    so ∙ sym (one_more rules i d h ∙ rw mute (append-nil (sounding_rows (rule_views (take i rules)))))
