-- One turn of the walk over the rules themselves. Assumes nothing.
use Rattle.std.proofs.Common.{◌≡◌, ℕ, ◌+◌, ◌<◌, ◌≤◌, Bool, true, false, cond, ltb, List, [], ◌∷◌, ◌++◌, length, get_or, Some, None, Ok, Err, Option, Result, sym, refl, ap, ◌∙◌, subst, arith}
use Rattle.std.proofs.lemmas.List.{take_all, drop_all}
use Rattle.std.proofs.lemmas.Bool.{le-ltb, ltb-false}
use Rattle.rows.specs.Limits.{most_rows}
use Rattle.rows.specs.Rows.{Constraint, constraint}
use Rattle.engine.specs.declared.answer.Answer.{Answer as Kept}
use Rattle.engine.specs.declared.answer.Answer.TheVariants.{Preset as KeptPreset, Clash}
use Rattle.engine.specs.declared.fault.Fault.{Fault}
use Rattle.engine.specs.declared.refusal.Refusal.{Refusal}
use Rattle.engine.specs.declared.refusal.Refusal.TheVariants.{TooLarge, Feasible, ShortTable}
use Rattle.engine.specs.Verdicts.{Verdict, Valid}
use Rattle.engine.specs.Interface.{Answer, refused_if}
use Rattle.engine.specs.States.{holds_clash}
use Rattle.engine.specs.Deciding.{RepliesAt}
use Rattle.plans.specs.declared.rule.Rule.{Rule}
use Rattle.plans.specs.Plans.{PlanView}
use Rattle.plans.specs.Rules.{rule_views}
use Rattle.plans.specs.Sounding.{sounding_rows}
use Rattle.console.specs.Asking.{table_refusal, Told}
use Rattle.console.specs.Blaming.{Names, BlamedAt, Blamed}
use Rattle.console.specs.Marks.{marked, marks_from}
use Rattle.console.specs.Walks.{numbered, rows_of, numbers_of, tried, walked}
use Rattle.console.proofs.SettingDown.{open_refusal}
use Rattle.console.proofs.Walking.{valid_without}
use Rattle.console.proofs.Numbering.{rows_numbered, kept_at, untried_at, numbered_split, muted_untried, muted_kept, sounding_untried, sounding_kept, untried_marked, mute_kept_at, rows_without}

-- the walk from the rule with the number i on
abbrev pub from_here : (List Constraint → Verdict) → List Rule → ℕ → Result (List (ℕ × Constraint)) Fault
from_here verdict rules i = walked verdict (kept_at rules i) (untried_at rules i)

module _ (verdict : List Constraint → Verdict) (rules : List Rule) (i : ℕ) (d : Rule) (h : i < length rules) where
  pub pass_muted : (get_or rules i d).sounds ≡ false → from_here verdict rules (i + 1) ≡ from_here verdict rules i
  pass_muted e = λ j. walked verdict (muted_kept rules i d h e j) (sym (muted_untried rules i d h e) j)

  pub turn_sounding : (get_or rules i d).sounds ≡ true
      → from_here verdict rules i ≡ tried (verdict (sounding_rows (rule_views (marked rules i false)))) (from_here verdict rules (i + 1)) (from_here verdict (marked rules i false) (i + 1))
  turn_sounding e =
      let p : ℕ × Constraint = (i, constraint (get_or rules i d).row) in
      let later = untried_at rules (i + 1) in
      let kept = kept_at rules i in
      ap (walked verdict kept) (sounding_untried rules i d h e)
      ∙ (λ j. tried (verdict (sym (rows_without rules i d h) j)) (walked verdict (sym (sounding_kept rules i d h e) j) later) (walked verdict (sym (mute_kept_at rules i d h) j) (sym (untried_marked rules i false) j)))

  pub still_valid : (count : ℕ) → (get_or rules i d).sounds ≡ true → Valid count (sounding_rows (rule_views rules)) → Valid count (sounding_rows (rule_views (marked rules i false)))
  still_valid count e valid =
      let p : ℕ × Constraint = (i, constraint (get_or rules i d).row) in
      let whole : rows_of (kept_at rules i ++ p ∷ untried_at rules (i + 1)) ≡ sounding_rows (rule_views rules) =
      ap (λ (ps : List (ℕ × Constraint)). rows_of (kept_at rules i ++ ps)) (sym (sounding_untried rules i d h e)) ∙ ap rows_of (numbered_split rules i (omega arith)) ∙ rows_numbered 0 (rule_views rules) in
      subst (Valid count) (sym (rows_without rules i d h)) (valid_without count (kept_at rules i) (untried_at rules (i + 1)) p (subst (Valid count) (sym whole) valid))

-- at the end all rules are tried
pub walk_over : (verdict : List Constraint → Verdict) (rules : List Rule) (i : ℕ) → length rules ≤ i → from_here verdict rules i ≡ Ok (numbered 0 (rule_views rules))
walk_over verdict rules i h = λ j. walked verdict (numbered 0 (rule_views (take_all i rules h j))) (none j)
  where
    none : untried_at rules i ≡ []
    none = ap (λ (rs : List Rule). numbered i (rule_views rs)) (drop_all i rules h)

-- ---- what the engine said of the rest
abbrev clash_is : Answer → Type 0
clash_is Answer.none = ⊥
clash_is (Answer.preset ns d) = ⊥
clash_is (Answer.clash ws) = Unit {0}

-- only a clash is held as one
pub said_is : (stay go : Result (List (ℕ × Constraint)) Fault) (o : Option Refusal) (n : ℕ) (v : Verdict) (a : Kept) → RepliesAt o n v (Ok a) → tried v stay go ≡ cond (holds_clash a) go stay
said_is stay go None n (Verdict.preset ns d) (KeptPreset p) told = refl
said_is stay go None n (Verdict.preset ns d) (Clash w) told = absurd (subst clash_is told tt)
said_is stay go None n (Verdict.clash ws) (KeptPreset p) told = absurd (subst clash_is (sym told) tt)
said_is stay go None n (Verdict.clash ws) (Clash w) told = refl
said_is stay go None n (Verdict.fault f) a told = absurd told
said_is stay go (Some e) n v a told = absurd told

module _ (stay go : Result (List (ℕ × Constraint)) Fault) where
  pub said_fault : (needed held n : ℕ) (v : Verdict) (e : Refusal) → needed ≤ held → RepliesAt (table_refusal needed held) n v (Err e) → (f : Fault) × (e ≡ TooLarge f) × (tried v stay go ≡ Err f)
  said_fault needed held n v e room told = by v (subst (λ (o : Option Refusal). RepliesAt o n v (Err e)) (ap (λ (b : Bool). refused_if b ShortTable) (le-ltb held needed room)) told)
    where
      by : (v : Verdict) → RepliesAt None n v (Err e) → (f : Fault) × (e ≡ TooLarge f) × (tried v stay go ≡ Err f)
      by (Verdict.preset ns d) (f, is, wrong) = absurd wrong
      by (Verdict.clash ws) (f, is, wrong) = absurd wrong
      by (Verdict.fault g) (f, is, same) = (f, is, ap (λ (x : Fault). Err x) (sym same))

-- ---- a turn with what the engine said
module _ (verdict : ℕ → List Constraint → Verdict) (needed held count : ℕ) (rules : List Rule) (i : ℕ) (d : Rule) (h : i < length rules) (sounds : (get_or rules i d).sounds ≡ true) (rest : List Rule) (at : rest ≡ marked rules i false) where
  told_here : (r : Result Kept Refusal) → Told verdict needed held count (sounding_rows (rule_views rest)) r → Told verdict needed held count (sounding_rows (rule_views (marked rules i false))) r
  told_here r told = subst (λ (rs : List Rule). Told verdict needed held count (sounding_rows (rule_views rs)) r) at told

  pub turn_said : (a : Kept) (b : Bool) → Told verdict needed held count (sounding_rows (rule_views rest)) (Ok a) → holds_clash a ≡ b
      → from_here (verdict count) rules i ≡ cond b (from_here (verdict count) (marked rules i false) (i + 1)) (from_here (verdict count) rules (i + 1))
  turn_said a b told e =
      let stay = from_here (verdict count) rules (i + 1) in
      let go = from_here (verdict count) (marked rules i false) (i + 1) in
      turn_sounding (verdict count) rules i d h sounds
      ∙ said_is stay go (table_refusal needed held) _ _ a (told_here (Ok a) told)
      ∙ ap (λ (t : Bool). cond t go stay) e

  pub turn_fault : (e : Refusal) → needed ≤ held → Told verdict needed held count (sounding_rows (rule_views rest)) (Err e) → (f : Fault) × (e ≡ TooLarge f) × (from_here (verdict count) rules i ≡ Err f)
  turn_fault e room told =
      let p = said_fault (from_here (verdict count) rules (i + 1)) (from_here (verdict count) (marked rules i false) (i + 1)) needed held _ _ e room (told_here (Err e) told) in
      (p.0, p.1, turn_sounding (verdict count) rules i d h sounds ∙ p.2)

-- the outcome of the walk as a reply
pub names_fault : (U : Type 0) (walk : Result (List (ℕ × Constraint)) Fault) (f : Fault) (e : Refusal) (m : List ℕ) → walk ≡ Err f → e ≡ TooLarge f → Names {U = U} walk m (Err e) m
names_fault U walk f e m at is = subst (λ (w : Result (List (ℕ × Constraint)) Fault). Names {U = U} w m (Err e) m) (sym at) (is, refl)

pub names_final : (walk : Result (List (ℕ × Constraint)) Fault) (final : List (ℕ × Constraint)) (m n : List ℕ) → walk ≡ Ok final → n ≡ marks_from most_rows 0 (numbers_of final) → Names {U = Unit {0}} walk m (Ok tt) n
names_final walk final m n at is = subst (λ (w : Result (List (ℕ × Constraint)) Fault). Names {U = Unit {0}} w m (Ok tt) n) (sym at) is

no_clash : false ≡ true → ⊥
no_clash e = let z : ◌≡◌ {A = ℕ} 0 1 = ap (λ (b : Bool). cond b 1 0) e in omega arith

-- a table that was not refused has room
pub room_of : (needed held n : ℕ) (v : Verdict) (a : Kept) → RepliesAt (table_refusal needed held) n v (Ok a) → needed ≤ held
room_of needed held n v a told = ltb-false held needed (by (ltb held needed) told)
  where
    by : (b : Bool) → RepliesAt (refused_if b ShortTable) n v (Ok a) → b ≡ false
    by true told = absurd told
    by false told = refl

-- the first decision as a reply
module _ (U : Type 0) (verdict : ℕ → List Constraint → Verdict) (needed held : ℕ) (p : PlanView) (opened : p.count ≡ 0 → ⊥) (a : Kept) (told : Told verdict needed held p.count (sounding_rows p.rules) (Ok a)) (m : List ℕ) where
  pub blamed_walk : (r : Result U Refusal) (n : List ℕ) → holds_clash a ≡ true → Names (walked (verdict p.count) [] (numbered 0 p.rules)) m r n → Blamed verdict needed held p m r n
  blamed_walk r n e names =
      subst (λ (o : Option Refusal). BlamedAt o (verdict p.count (sounding_rows p.rules)) (walked (verdict p.count) [] (numbered 0 p.rules)) m r n) (sym (open_refusal p (table_refusal needed held) opened))
      (by (table_refusal needed held) (verdict p.count (sounding_rows p.rules)) a told e)
    where
      by : (o : Option Refusal) (v : Verdict) (a : Kept) → RepliesAt o (length (sounding_rows p.rules)) v (Ok a) → holds_clash a ≡ true → BlamedAt o v (walked (verdict p.count) [] (numbered 0 p.rules)) m r n
      by None (Verdict.preset ns d) (KeptPreset q) told e = absurd (no_clash e)
      by None (Verdict.preset ns d) (Clash w) told e = absurd (subst clash_is told tt)
      by None (Verdict.clash ws) a told e = names
      by None (Verdict.fault f) a told e = absurd told
      by (Some x) v a told e = absurd told

  pub blamed_feasible : holds_clash a ≡ false → Blamed {U = U} verdict needed held p m (Err Feasible) m
  blamed_feasible e =
      subst (λ (o : Option Refusal). BlamedAt {U = U} o (verdict p.count (sounding_rows p.rules)) (walked (verdict p.count) [] (numbered 0 p.rules)) m (Err Feasible) m) (sym (open_refusal p (table_refusal needed held) opened))
      (by (table_refusal needed held) (verdict p.count (sounding_rows p.rules)) a told e)
    where
      by : (o : Option Refusal) (v : Verdict) (a : Kept) → RepliesAt o (length (sounding_rows p.rules)) v (Ok a) → holds_clash a ≡ false → BlamedAt {U = U} o v (walked (verdict p.count) [] (numbered 0 p.rules)) m (Err Feasible) m
      by None (Verdict.preset ns d) a told e = (refl, refl)
      by None (Verdict.clash ws) (KeptPreset q) told e = absurd (subst clash_is (sym told) tt)
      by None (Verdict.clash ws) (Clash w) told e = absurd (no_clash (sym e))
      by None (Verdict.fault f) a told e = absurd told
      by (Some x) v a told e = absurd told
