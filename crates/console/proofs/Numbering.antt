-- The sounding rules with their numbers: one rule muted, and one rule more. Assumes nothing.
use Rattle.std.proofs.Common.{◌≡◌, ℕ, zero, suc, ◌+◌, ◌<◌, ◌≤◌, Bool, true, false, List, [], ◌∷◌, ◌++◌, length, get_or, take, drop, sym, refl, ap, ◌∙◌, subst, arith}
use Rattle.std.proofs.lemmas.List.{append-nil, map-append, length-map, take-append-drop, length-take-le, take_more, drop_more}
use Rattle.rows.specs.Rows.{Constraint, constraint}
use Rattle.plans.specs.declared.rule.Rule.{Rule}
use Rattle.plans.specs.Rules.{RuleView, rule_view, rule_views}
use Rattle.plans.specs.Sounding.{sounding_rows}
use Rattle.console.specs.Walks.{numbered, rows_of}
use Rattle.console.specs.Marks.{with_mark, marked}
use Rattle.console.proofs.Restoring.{length_marked}

-- the rows alone are the sounding rows
pub rows_numbered : (i : ℕ) (rules : List RuleView) → rows_of (numbered i rules) ≡ sounding_rows rules
rows_numbered i [] = refl
rows_numbered i (r ∷ rules) = by r.sounds refl (rows_numbered (i + 1) rules)
  where
    by : (b : Bool) → r.sounds ≡ b → rows_of (numbered (i + 1) rules) ≡ sounding_rows rules → rows_of (numbered i (r ∷ rules)) ≡ sounding_rows (r ∷ rules)
    by true e h = rw e (ap (λ (rows : List Constraint). r.row ∷ rows) h)
    by false e h = rw e h

pub numbered_append : (i : ℕ) (rules more : List RuleView) → numbered i (rules ++ more) ≡ numbered i rules ++ numbered (i + length rules) more
numbered_append i [] more = ap (λ (n : ℕ). numbered n more) (omega arith)
numbered_append i (r ∷ rules) more = by r.sounds refl (numbered_append (i + 1) rules more)
  where
    by : (b : Bool) → r.sounds ≡ b → numbered (i + 1) (rules ++ more) ≡ numbered (i + 1) rules ++ numbered (i + 1 + length rules) more → numbered i ((r ∷ rules) ++ more) ≡ numbered i (r ∷ rules) ++ numbered (i + length (r ∷ rules)) more
    by true e h = let n : i + 1 + length rules ≡ i + length (r ∷ rules) = omega arith in rw e (ap (λ (ps : List (ℕ × Constraint)). (i, r.row) ∷ ps) (h ∙ ap (λ (m : ℕ). numbered (i + 1) rules ++ numbered m more) n))
    by false e h = let n : i + 1 + length rules ≡ i + length (r ∷ rules) = omega arith in rw e (h ∙ ap (λ (m : ℕ). numbered (i + 1) rules ++ numbered m more) n)

-- the rules tried so far that are still in, and those that are not tried yet
abbrev pub kept_at : List Rule → ℕ → List (ℕ × Constraint)
kept_at rules i = numbered 0 (rule_views (take i rules))

abbrev pub untried_at : List Rule → ℕ → List (ℕ × Constraint)
untried_at rules i = numbered i (rule_views (drop i rules))

-- together they are the sounding ones
pub numbered_split : (rules : List Rule) (i : ℕ) → i ≤ length rules → kept_at rules i ++ untried_at rules i ≡ numbered 0 (rule_views rules)
numbered_split rules i h =
    let n : 0 + length (rule_views (take i rules)) ≡ i = omega (arith, length-map (take i rules) rule_view, length-take-le i rules h) in
    ap (λ (m : ℕ). kept_at rules i ++ numbered m (rule_views (drop i rules))) (sym n)
    ∙ sym (numbered_append 0 (rule_views (take i rules)) (rule_views (drop i rules)))
    ∙ ap (numbered 0) (sym (map-append rule_view (take i rules) (drop i rules)) ∙ ap rule_views (take-append-drop i rules))

module _ (rules : List Rule) (i : ℕ) (d : Rule) (h : i < length rules) where
  -- the rule at i is the next one
  untried_next : untried_at rules i ≡ numbered i (rule_view (get_or rules i d) ∷ rule_views (drop (i + 1) rules))
  untried_next = ap (λ (rs : List Rule). numbered i (rule_views rs)) (drop_more rules i d h)

  kept_next : kept_at rules (i + 1) ≡ kept_at rules i ++ numbered i (rule_view (get_or rules i d) ∷ [])
  kept_next =
      let n : 0 + length (rule_views (take i rules)) ≡ i = omega (arith, length-map (take i rules) rule_view, length-take-le i rules (omega arith)) in
      ap (λ (rs : List Rule). numbered 0 (rule_views rs)) (take_more rules i d h)
      ∙ ap (numbered 0) (map-append rule_view (take i rules) (get_or rules i d ∷ []))
      ∙ numbered_append 0 (rule_views (take i rules)) (rule_view (get_or rules i d) ∷ [])
      ∙ ap (λ (m : ℕ). kept_at rules i ++ numbered m (rule_view (get_or rules i d) ∷ [])) n

  pub muted_untried : (get_or rules i d).sounds ≡ false → untried_at rules i ≡ untried_at rules (i + 1)
  muted_untried e = untried_next ∙ rw e refl

  pub muted_kept : (get_or rules i d).sounds ≡ false → kept_at rules (i + 1) ≡ kept_at rules i
  muted_kept e = kept_next ∙ rw e (append-nil (kept_at rules i))

  pub sounding_untried : (get_or rules i d).sounds ≡ true → untried_at rules i ≡ (i, constraint (get_or rules i d).row) ∷ untried_at rules (i + 1)
  sounding_untried e = untried_next ∙ rw e refl

  pub sounding_kept : (get_or rules i d).sounds ≡ true → kept_at rules (i + 1) ≡ kept_at rules i ++ (i, constraint (get_or rules i d).row) ∷ []
  sounding_kept e = kept_next ∙ rw e refl

-- ---- one mark changed
drop_marked : (rules : List Rule) (i : ℕ) (b : Bool) → drop (i + 1) (marked rules i b) ≡ drop (i + 1) rules
drop_marked [] i b = refl
drop_marked (r ∷ rules) zero b = refl
drop_marked (r ∷ rules) (suc i) b = let n : suc (i + 1) ≡ suc i + 1 = omega arith in subst (λ (m : ℕ). drop m (r ∷ marked rules i b) ≡ drop m (r ∷ rules)) n (drop_marked rules i b)

pub untried_marked : (rules : List Rule) (i : ℕ) (b : Bool) → untried_at (marked rules i b) (i + 1) ≡ untried_at rules (i + 1)
untried_marked rules i b = ap (λ (rs : List Rule). numbered (i + 1) (rule_views rs)) (drop_marked rules i b)

take_marked : (rules : List Rule) (i : ℕ) (b : Bool) → take i (marked rules i b) ≡ take i rules
take_marked [] i b = refl
take_marked (r ∷ rules) zero b = refl
take_marked (r ∷ rules) (suc i) b = ap (λ (more : List Rule). r ∷ more) (take_marked rules i b)

marked_mark : (rules : List Rule) (i : ℕ) (b : Bool) (d : Rule) → i < length rules → (get_or (marked rules i b) i d).sounds ≡ b
marked_mark [] i b d h = absurd (omega arith)
marked_mark (r ∷ rules) zero b d h = refl
marked_mark (r ∷ rules) (suc i) b d h = marked_mark rules i b d (omega arith)

-- the rule at i muted: it is kept no more
pub mute_kept_at : (rules : List Rule) (i : ℕ) (d : Rule) → i < length rules → kept_at (marked rules i false) (i + 1) ≡ kept_at rules i
mute_kept_at rules i d h =
    muted_kept (marked rules i false) i d (omega (arith, length_marked rules i false)) (marked_mark rules i false d h)
    ∙ ap (λ (rs : List Rule). numbered 0 (rule_views rs)) (take_marked rules i false)

-- muted and sounding again: nothing changed
pub marked_back : (rules : List Rule) (i : ℕ) (d : Rule) → (get_or rules i d).sounds ≡ true → marked (marked rules i false) i true ≡ rules
marked_back [] i d e = refl
marked_back (r ∷ rules) zero d e = ap (λ (x : Rule). x ∷ rules) (ap (with_mark r) (sym e))
marked_back (r ∷ rules) (suc i) d e = ap (λ (more : List Rule). r ∷ more) (marked_back rules i d e)

-- the rows that are left when the rule at i is muted
pub rows_without : (rules : List Rule) (i : ℕ) (d : Rule) → i < length rules → sounding_rows (rule_views (marked rules i false)) ≡ rows_of (kept_at rules i ++ untried_at rules (i + 1))
rows_without rules i d h =
    sym (rows_numbered 0 (rule_views (marked rules i false)))
    ∙ ap rows_of (sym (numbered_split (marked rules i false) (i + 1) (omega (arith, length_marked rules i false)))
    ∙ (λ j. mute_kept_at rules i d h j ++ untried_marked rules i false j))
