-- The rules that a plan holds: their number, one more, one less, and a mark replaced. Assumes nothing.
use Rattle.std.proofs.Common.{◌≡◌, ℕ, zero, suc, ◌+◌, ◌<◌, ◌≤◌, List, [], ◌∷◌, ◌++◌, length, get_or, take, set, pos, Some, None, sym, refl, ap, ◌∙◌, subst, arith}
use Rattle.std.proofs.lemmas.List.{length-map, length-take-le, take_more_set, take-take, map-append}
use Rattle.rows.specs.declared.row.Row.{Row}
use Rattle.rows.specs.Rows.{constraint}
use Rattle.plans.specs.declared.rule.Rule.{Rule}
use Rattle.plans.specs.declared.plan.Plan.{Plan}
use Rattle.plans.specs.Rules.{RuleView, rule_view, rule_views, coefficient_at, UsedBelow}
use Rattle.plans.specs.Plans.{plan_view}
use Rattle.plans.specs.Edits.{without_last, mark_at, with_mark}

pub length_rules : (p : Plan) → length (plan_view p).rules ≡ p.len
length_rules p = length-map (take p.len p.rules) rule_view ∙ length-take-le p.len p.rules (omega (arith, p.short, p.places))

-- one rule more at the end
pub rules_more : (rules : List Rule) (n : ℕ) (r : Rule) → n < length rules → rule_views (take (n + 1) (set rules n r)) ≡ rule_views (take n rules) ++ rule_view r ∷ []
rules_more rules n r h = ap rule_views (take_more_set rules n r h) ∙ map-append rule_view (take n rules) (r ∷ [])

used_push : (count : ℕ) (rules : List Rule) (r : Rule) → UsedBelow count rules → ((k : ℕ) → count ≤ k → get_or r.row.coefficients k (pos 0) ≡ pos 0) → UsedBelow count (rules ++ r ∷ [])
used_push count [] r used new zero k q = new k q
used_push count [] r used new (suc i) k q = refl
used_push count (x ∷ rules) r used new zero k q = used 0 k q
used_push count (x ∷ rules) r used new (suc i) k q = used_push count rules r (λ j. used (suc j)) new i k q

pub used_more : (count : ℕ) (rules : List Rule) (n : ℕ) (r : Rule) → n < length rules → UsedBelow count (take n rules) → ((k : ℕ) → count ≤ k → get_or r.row.coefficients k (pos 0) ≡ pos 0) → UsedBelow count (take (n + 1) (set rules n r))
used_more count rules n r h used new = subst (UsedBelow count) (sym (take_more_set rules n r h)) (used_push count (take n rules) r used new)

-- the last rule gone
pub rules_less : (rules : List Rule) (n : ℕ) → n < length rules → rule_views (take n rules) ≡ without_last (rule_views (take (suc n) rules))
rules_less [] n h = absurd (omega arith)
rules_less (r ∷ rules) zero h = refl
rules_less (r ∷ []) (suc n) h = absurd (omega arith)
rules_less (r ∷ s ∷ rules) (suc n) h = ap (λ (more : List RuleView). rule_view r ∷ more) (rules_less (s ∷ rules) n (omega arith))

used_take : (count : ℕ) (rules : List Rule) (n : ℕ) → UsedBelow count rules → UsedBelow count (take n rules)
used_take count rules zero used i k q = refl
used_take count [] (suc n) used i k q = refl
used_take count (x ∷ rules) (suc n) used zero k q = used 0 k q
used_take count (x ∷ rules) (suc n) used (suc i) k q = used_take count rules n (λ j. used (suc j)) i k q

pub used_less : (count : ℕ) (rules : List Rule) (m n : ℕ) → m ≤ n → UsedBelow count (take n rules) → UsedBelow count (take m rules)
used_less count rules m n h used = subst (UsedBelow count) (take-take m n rules h) (used_take count (take n rules) m used)

-- the mark of the rule with the number i
pub mark_is : (rules : List Rule) (n i : ℕ) (d : Rule) → i < n → i < length rules → mark_at (rule_views (take n rules)) i ≡ Some (get_or rules i d).sounds
mark_is [] n i d h k = absurd (omega arith)
mark_is (r ∷ rules) zero i d h k = absurd (omega arith)
mark_is (r ∷ rules) (suc n) zero d h k = refl
mark_is (r ∷ rules) (suc n) (suc i) d h k = mark_is rules n i d (omega arith) (omega arith)

pub mark_past : (rules : List RuleView) (i : ℕ) → length rules ≤ i → mark_at rules i ≡ None
mark_past [] i h = refl
mark_past (r ∷ rules) zero h = absurd (omega arith)
mark_past (r ∷ rules) (suc i) h = mark_past rules i (omega arith)

-- the same row with another mark in its place
pub rules_marked : (rules : List Rule) (n i : ℕ) (d x : Rule) → i < n → i < length rules → x.row ≡ (get_or rules i d).row → rule_views (take n (set rules i x)) ≡ with_mark (rule_views (take n rules)) i x.sounds
rules_marked [] n i d x h k e = absurd (omega arith)
rules_marked (r ∷ rules) zero i d x h k e = absurd (omega arith)
rules_marked (r ∷ rules) (suc n) zero d x h k e = ap (λ (v : RuleView). v ∷ rule_views (take n rules)) (ap (λ (row : Row). record { row = constraint row; sounds = x.sounds }) e)
rules_marked (r ∷ rules) (suc n) (suc i) d x h k e = ap (λ (more : List RuleView). rule_view r ∷ more) (rules_marked rules n i d x (omega arith) (omega arith) e)

same_coefficient : (rules : List Rule) (n i j k : ℕ) (d x : Rule) → x.row ≡ (get_or rules i d).row → coefficient_at (take n (set rules i x)) j k ≡ coefficient_at (take n rules) j k
same_coefficient [] n i j k d x e = refl
same_coefficient (r ∷ rules) zero zero j k d x e = refl
same_coefficient (r ∷ rules) zero (suc i) j k d x e = refl
same_coefficient (r ∷ rules) (suc n) zero zero k d x e = ap (λ (row : Row). get_or row.coefficients k (pos 0)) e
same_coefficient (r ∷ rules) (suc n) zero (suc j) k d x e = refl
same_coefficient (r ∷ rules) (suc n) (suc i) zero k d x e = refl
same_coefficient (r ∷ rules) (suc n) (suc i) (suc j) k d x e = same_coefficient rules n i j k d x e

pub used_marked : (count : ℕ) (rules : List Rule) (n i : ℕ) (d x : Rule) → x.row ≡ (get_or rules i d).row → UsedBelow count (take n rules) → UsedBelow count (take n (set rules i x))
used_marked count rules n i d x e used j k q = same_coefficient rules n i j k d x e ∙ used j k q
