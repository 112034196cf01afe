-- The replies of the calls, as the law of runs wants them. Assumes nothing.
use Rattle.std.proofs.Common.{◌≡◌, ℕ, ◌<◌, ◌≤◌, Bool, true, false, cond, eqb, ◌⊎◌, List, [], length, take, replicate, ℤ, pos, Some, None, Ok, Err, Option, Result, sym, refl, ap, ◌∙◌, arith}
use Rattle.std.proofs.lemmas.List.{take-append-le, take_all}
use Rattle.std.proofs.lemmas.Bool.{ne_eqb, eqb-false}
use Rattle.rows.specs.Limits.{most_rows}
use Rattle.rows.specs.Rows.{Constraint, Feasible, Infeasible}
use Rattle.rows.proofs.Alls.{none_some}
use Rattle.engine.specs.declared.fault.Fault.{Fault}
use Rattle.engine.specs.declared.refusal.Refusal.{Refusal}
use Rattle.engine.specs.declared.refusal.Refusal.TheVariants.{NoPlan}
use Rattle.engine.specs.Verdicts.{Verdict, Valid, Right}
use Rattle.engine.specs.Interface.{Does, first_refusal, refused_if}
use Rattle.plans.specs.Rules.{RuleView}
use Rattle.plans.specs.Plans.{PlanView}
use Rattle.plans.specs.Edits.{closed_refusal}
use Rattle.plans.specs.Sounding.{sounding_rows}
use Rattle.console.specs.declared.sheet.Sheet.{Sheet}
use Rattle.console.specs.Asking.{table_refusal, spread, padded, AskedAt, Asked}
use Rattle.console.specs.Blaming.{Names, BlamedAt, Blamed}
use Rattle.console.specs.Replies.{Reply, marked_numbers}
use Rattle.console.specs.Runs.{unless_refused}
use Rattle.console.specs.Law.{set_down, result_reply, edit_reply, unless, AskLaw, BlameLaw}
use Rattle.console.specs.Walks.{numbered, walked}
use Rattle.console.proofs.Ascending.{walk_read_back}
use Rattle.console.proofs.Feeding.{above_zero}
use Rattle.console.proofs.Spreading.{length_spread}
use Rattle.console.specs.Exact.{walk_reply, blame_reply, refused_or}
use Rattle.console.proofs.Lawful.{ask_lawful, blame_lawful}

-- ---- the commands that edit
pub edit_replied : {U : Type 0} (o : Option Refusal) (nxt p q : PlanView) (r : Result U Refusal) → Does o nxt p r q → (result_reply r ≡ edit_reply o) × (q ≡ unless_refused o nxt p)
edit_replied None nxt p q (Ok u) d = (refl, d)
edit_replied None nxt p q (Err e) d = absurd d
edit_replied (Some x) nxt p q (Ok u) d = absurd d
edit_replied (Some x) nxt p q (Err e) d = (ap (λ (y : Refusal). Reply.refused y) d.0, d.1)

-- a plan is open where the call is not refused for that
pub opened : (p : PlanView) (o : Option Refusal) → first_refusal (closed_refusal p) o ≡ None → 0 < p.count
opened p o e = by (eqb p.count 0) refl e
  where
    by : (b : Bool) → eqb p.count 0 ≡ b → first_refusal (refused_if b NoPlan) o ≡ None → 0 < p.count
    by true h e = absurd (none_some NoPlan (sym e))
    by false h e = above_zero p.count (eqb-false p.count 0 h)

-- ---- Ask
-- what a sheet says: a denominator of 0 is no preset's
abbrev pub sheet_reply : PlanView → Sheet → Reply
sheet_reply p t = cond (eqb t.denominator 0) (Reply.clash (take (length p.rules) t.weights)) (Reply.preset (take p.count t.numerators) t.denominator)

abbrev pub asked_reply : {U : Type 0} → PlanView → Result U Refusal → Sheet → Reply
asked_reply p (Ok u) t = sheet_reply p t
asked_reply p (Err e) t = Reply.refused e

padded_front : (rules : List RuleView) (ws : List ℤ) → take (length rules) (padded (spread rules ws)) ≡ spread rules ws
padded_front rules ws =
    take-append-le (length rules) (spread rules ws) _ (omega (arith, length_spread rules ws)) ∙ take_all (length rules) (spread rules ws) (omega (arith, length_spread rules ws))

asked_own : {U : Type 0} (p : PlanView) (v : Verdict) (s t : Sheet) (r : Result U Refusal) → Right p.count (sounding_rows p.rules) v → AskedAt None p.rules v s r t → asked_reply p r t ≡ set_down p v
asked_own p (Verdict.preset ns d) s t (Ok u) right e =
    ap (sheet_reply p) e ∙ ap (λ (b : Bool). cond b (Reply.clash (take (length p.rules) (replicate most_rows (pos 0)))) (Reply.preset (take p.count ns) d)) (ne_eqb d 0 (λ z. omega (arith, right.0.positive, z)))
asked_own p (Verdict.preset ns d) s t (Err x) right e = absurd e
asked_own p (Verdict.clash ws) s t (Ok u) right e = ap (sheet_reply p) e ∙ ap (λ (vs : List ℤ). Reply.clash vs) (padded_front p.rules ws)
asked_own p (Verdict.clash ws) s t (Err x) right e = absurd e
asked_own p (Verdict.fault f) s t (Ok u) right e = absurd e
asked_own p (Verdict.fault f) s t (Err x) right e = ap (λ (y : Refusal). Reply.refused y) e.0

pub ask_replied : {U : Type 0} (verdict : ℕ → List Constraint → Verdict) (needed held : ℕ) (p : PlanView) (s t : Sheet) (r : Result U Refusal)
    → (0 < p.count → Valid p.count (sounding_rows p.rules)) → ((rows : List Constraint) → Valid p.count rows → Right p.count rows (verdict p.count rows)) → Asked verdict needed held p s r t
    → unless (first_refusal (closed_refusal p) (table_refusal needed held)) (asked_reply p r t) (AskLaw verdict p (asked_reply p r t))
    × (asked_reply p r t ≡ refused_or (first_refusal (closed_refusal p) (table_refusal needed held)) (set_down p (verdict p.count (sounding_rows p.rules))))
ask_replied verdict needed held p s t r valid right asked = by (first_refusal (closed_refusal p) (table_refusal needed held)) (opened p (table_refusal needed held)) r asked
  where
    by : {U : Type 0} (o : Option Refusal) → (o ≡ None → 0 < p.count) → (r : Result U Refusal) → AskedAt o p.rules (verdict p.count (sounding_rows p.rules)) s r t
        → unless o (asked_reply p r t) (AskLaw verdict p (asked_reply p r t)) × (asked_reply p r t ≡ refused_or o (set_down p (verdict p.count (sounding_rows p.rules))))
    by None some r asked =
        let v = valid (some refl) in
        let rv = right (sounding_rows p.rules) v in
        let own = asked_own p (verdict p.count (sounding_rows p.rules)) s t r rv asked in
        (ask_lawful p v verdict (asked_reply p r t) rv own, own)
    by (Some x) some (Ok u) asked = absurd asked
    by (Some x) some (Err e) asked = let same = ap (λ (y : Refusal). Reply.refused y) asked.0 in (same, same)

-- ---- Blame
abbrev pub blamed_reply : {U : Type 0} → Result U Refusal → List ℕ → Reply
blamed_reply (Ok u) n = Reply.blamed (marked_numbers 0 n)
blamed_reply (Err e) n = Reply.refused e

walk_own : {U : Type 0} (verdict : List Constraint → Verdict) (rules : List RuleView) (m n : List ℕ) (r : Result U Refusal) → length rules ≤ most_rows → (walk : Result (List (ℕ × Constraint)) Fault) → walked verdict [] (numbered 0 rules) ≡ walk → Names walk m r n → blamed_reply r n ≡ walk_reply walk
walk_own verdict rules m n (Ok u) few (Ok final) at e = ap (λ (ms : List ℕ). Reply.blamed (marked_numbers 0 ms)) e ∙ ap (λ (ns : List ℕ). Reply.blamed ns) (walk_read_back verdict most_rows rules final few at)
walk_own verdict rules m n (Err x) few (Ok final) at e = absurd e
walk_own verdict rules m n (Ok u) few (Err f) at e = absurd e
walk_own verdict rules m n (Err x) few (Err f) at e = ap (λ (y : Refusal). Reply.refused y) e.0

blamed_own : {U : Type 0} (verdict : List Constraint → Verdict) (p : PlanView) (v : Verdict) (m n : List ℕ) (r : Result U Refusal) → length p.rules ≤ most_rows → BlamedAt None v (walked verdict [] (numbered 0 p.rules)) m r n
    → blamed_reply r n ≡ blame_reply v (walked verdict [] (numbered 0 p.rules))
blamed_own verdict p (Verdict.preset ns d) m n (Ok u) few e = absurd e
blamed_own verdict p (Verdict.preset ns d) m n (Err x) few e = ap (λ (y : Refusal). Reply.refused y) e.0
blamed_own verdict p (Verdict.clash ws) m n r few e = walk_own verdict p.rules m n r few (walked verdict [] (numbered 0 p.rules)) refl e
blamed_own verdict p (Verdict.fault f) m n (Ok u) few e = absurd e
blamed_own verdict p (Verdict.fault f) m n (Err x) few e = ap (λ (y : Refusal). Reply.refused y) e.0

pub blame_replied : {U : Type 0} (verdict : ℕ → List Constraint → Verdict) (needed held : ℕ) (p : PlanView) (m n : List ℕ) (r : Result U Refusal)
    → ((rows : List Constraint) → Feasible rows ⊎ Infeasible rows) → length p.rules ≤ most_rows
    → (0 < p.count → Valid p.count (sounding_rows p.rules)) → ((rows : List Constraint) → Valid p.count rows → Right p.count rows (verdict p.count rows)) → Blamed verdict needed held p m r n
    → unless (first_refusal (closed_refusal p) (table_refusal needed held)) (blamed_reply r n) (BlameLaw verdict p (blamed_reply r n))
    × (blamed_reply r n ≡ refused_or (first_refusal (closed_refusal p) (table_refusal needed held)) (blame_reply (verdict p.count (sounding_rows p.rules)) (walked (verdict p.count) [] (numbered 0 p.rules))))
blame_replied verdict needed held p m n r decide few valid right said = by (first_refusal (closed_refusal p) (table_refusal needed held)) (opened p (table_refusal needed held)) r said
  where
    by : {U : Type 0} (o : Option Refusal) → (o ≡ None → 0 < p.count) → (r : Result U Refusal) → BlamedAt o (verdict p.count (sounding_rows p.rules)) (walked (verdict p.count) [] (numbered 0 p.rules)) m r n
        → unless o (blamed_reply r n) (BlameLaw verdict p (blamed_reply r n)) × (blamed_reply r n ≡ refused_or o (blame_reply (verdict p.count (sounding_rows p.rules)) (walked (verdict p.count) [] (numbered 0 p.rules))))
    by None some r said =
        let own = blamed_own (verdict p.count) p (verdict p.count (sounding_rows p.rules)) m n r few said in
        (blame_lawful verdict p (valid (some refl)) right decide (blamed_reply r n) own, own)
    by (Some x) some (Ok u) said = absurd said
    by (Some x) some (Err e) said = let same = ap (λ (y : Refusal). Reply.refused y) said.0 in (same, same)
