-- Small plans are never too large for the box: the replies of a run, one by one. Assumes nothing.
use Rattle.std.proofs.Common.{◌≡◌, ℕ, ◌<◌, Bool, true, false, eqb, List, [], ◌∷◌, ◌++◌, length, get_or, None, Ok, Err, Option, Result, sym, refl, ap, ◌∙◌, subst, arith}
use Rattle.std.proofs.lemmas.List.{append_assoc, map-append}
use Rattle.std.proofs.lemmas.Bool.{eqb-false}
use Rattle.rows.specs.Rows.{Constraint}
use Rattle.engine.specs.declared.fault.Fault.{Fault}
use Rattle.engine.specs.declared.refusal.Refusal.{Refusal}
use Rattle.engine.specs.declared.refusal.Refusal.TheVariants.{NoPlan}
use Rattle.engine.specs.Refusals.{number}
use Rattle.engine.specs.Verdicts.{Verdict, Valid}
use Rattle.engine.specs.Exactness.{Taken}
use Rattle.engine.specs.Interface.{first_refusal, refused_if}
use Rattle.plans.specs.Plans.{PlanView, no_plan}
use Rattle.plans.specs.Edits.{closed_refusal}
use Rattle.plans.specs.Sounding.{sounding_rows}
use Rattle.console.specs.declared.command.Command.{Command}
use Rattle.console.specs.declared.command.Command.TheVariants.{Ask, Blame}
use Rattle.console.specs.Replies.{Reply}
use Rattle.console.specs.Runs.{next, plan_after}
use Rattle.console.specs.Walks.{numbered, rows_of, tried, walked}
use Rattle.console.specs.Law.{set_down, IsTooLarge, PlansValid}
use Rattle.console.specs.Exact.{blame_reply, refused_or, reply_of, replies}
use Rattle.console.proofs.Feeding.{above_zero}
use Rattle.console.proofs.Numbering.{rows_numbered}
use Rattle.console.proofs.Walking.{valid_without, all_without, length_without}
use Rattle.sold_engine.specs.Sold.{sold_verdict}
use Rattle.sold_engine.specs.SmallPlans.{SmallRow, Small}
use Rattle.sold_engine.proofs.Taking.{small_plans_taken}
use Rattle.preset_box.specs.SmallRuns.{NeverLarge, SmallLaw}

-- the reply at a place of a run
reply_at : (verdict : ℕ → List Constraint → Verdict) (table : Option Refusal) (p : PlanView) (before later : List Command) (c : Command) → get_or (replies verdict table p (before ++ c ∷ later)) (length before) Reply.done ≡ reply_of verdict table (plan_after p before) c
reply_at verdict table p [] later c = refl
reply_at verdict table p (x ∷ before) later c = reply_at verdict table (next x p) before later c

-- replies that are not too large
abbrev Large : Reply → Type 0
Large Reply.done = ⊥
Large (Reply.preset ns d) = ⊥
Large (Reply.clash ws) = ⊥
Large (Reply.blamed is) = ⊥
Large (Reply.refused e) = number e ≡ 11

too_large : (r : Reply) → IsTooLarge r → Large r
too_large r (f, e) = subst Large (sym e) refl

-- ---- what is small and valid is taken, and stays so without one of its rows
record Fit (count : ℕ) (rows : List Constraint) : Type 0 where
  valid : Valid count rows
  small : Small count rows

fit_without : (count : ℕ) (xs ys : List (ℕ × Constraint)) (p : ℕ × Constraint) → Fit count (rows_of (xs ++ p ∷ ys)) → Fit count (rows_of (xs ++ ys))
fit_without count xs ys p fit = record {
  valid = valid_without count xs ys p fit.valid;
  small = subst (Small count) (sym (map-append (λ q. q.1) xs ys)) (less (subst (Small count) (map-append (λ q. q.1) xs (p ∷ ys)) fit.small));
}
  where
    less : Small count (rows_of xs ++ p.1 ∷ rows_of ys) → Small count (rows_of xs ++ rows_of ys)
    less s = record {
      few_faders = s.few_faders;
      few_rows = omega (arith, s.few_rows, length_without (rows_of xs) (rows_of ys) p.1);
      small_numbers = all_without SmallRow (rows_of xs) (rows_of ys) p.1 s.small_numbers;
    }

abbrev Finds : Result (List (ℕ × Constraint)) Fault → Type 0
Finds (Ok final) = Unit {0}
Finds (Err f) = ⊥

walk_finds : (count : ℕ) (kept untried : List (ℕ × Constraint)) → Fit count (rows_of (kept ++ untried)) → Finds (walked (sold_verdict count) kept untried)
walk_finds count kept [] fit = tt
walk_finds count kept (p ∷ untried) fit =
    let rest = fit_without count kept untried p fit in
    by (sold_verdict count (rows_of (kept ++ untried))) (small_plans_taken count (rows_of (kept ++ untried)) rest.valid rest.small)
    (walk_finds count (kept ++ p ∷ []) untried (subst (λ (ps : List (ℕ × Constraint)). Fit count (rows_of ps)) (sym (append_assoc kept (p ∷ []) untried)) fit))
    (walk_finds count kept untried rest)
  where
    by : (v : Verdict) → Taken v → Finds (walked (sold_verdict count) (kept ++ p ∷ []) untried) → Finds (walked (sold_verdict count) kept untried)
        → Finds (tried v (walked (sold_verdict count) (kept ++ p ∷ []) untried) (walked (sold_verdict count) kept untried))
    by (Verdict.preset ns d) taken stay go = stay
    by (Verdict.clash ws) taken stay go = go
    by (Verdict.fault f) taken stay go = absurd taken

-- ---- the replies to Ask and Blame
asked_small : (p : PlanView) (v : Verdict) → Taken v → Large (set_down p v) → ⊥
asked_small p (Verdict.preset ns d) taken large = large
asked_small p (Verdict.clash ws) taken large = large
asked_small p (Verdict.fault f) taken large = taken

blamed_small : (v : Verdict) (walk : Result (List (ℕ × Constraint)) Fault) → Taken v → Finds walk → Large (blame_reply v walk) → ⊥
blamed_small (Verdict.preset ns d) walk taken finds large = omega (arith, large)
blamed_small (Verdict.clash ws) (Ok final) taken finds large = large
blamed_small (Verdict.clash ws) (Err f) taken finds large = finds
blamed_small (Verdict.fault f) walk taken finds large = taken

-- a reply that is given where a plan is open
where_open : (p : PlanView) (r : Reply) → (0 < p.count → Large r → ⊥) → Large (refused_or (first_refusal (closed_refusal p) None) r) → ⊥
where_open p r small = by (eqb p.count 0) refl
  where
    by : (b : Bool) → eqb p.count 0 ≡ b → Large (refused_or (first_refusal (refused_if b NoPlan) None) r) → ⊥
    by true e large = omega (arith, large)
    by false e large = small (above_zero p.count (eqb-false p.count 0 e)) large

module _ (p : PlanView) (valid : 0 < p.count → Valid p.count (sounding_rows p.rules)) (small : Small p.count (sounding_rows p.rules)) where
  ask_small : Large (reply_of sold_verdict None p Ask) → ⊥
  ask_small = where_open p (set_down p (sold_verdict p.count (sounding_rows p.rules))) (λ some. asked_small p (sold_verdict p.count (sounding_rows p.rules)) (small_plans_taken p.count (sounding_rows p.rules) (valid some) small))

  blame_small : Large (reply_of sold_verdict None p Blame) → ⊥
  blame_small = where_open p _ (λ some.
      let fit : Fit p.count (sounding_rows p.rules) = record { valid = valid some; small = small } in
      blamed_small (sold_verdict p.count (sounding_rows p.rules)) (walked (sold_verdict p.count) [] (numbered 0 p.rules))
      (small_plans_taken p.count (sounding_rows p.rules) (valid some) small)
      (walk_finds p.count [] (numbered 0 p.rules) (subst (Fit p.count) (sym (rows_numbered 0 p.rules)) fit)))

pub small_law : (cs : List Command) (rs : List Reply) → rs ≡ replies sold_verdict None no_plan cs → PlansValid cs → SmallLaw cs rs
small_law cs rs exact valid = record { ask = at Ask (λ p v s. ask_small p v s); blame = at Blame (λ p v s. blame_small p v s) }
  where
    at : (c : Command) → ((p : PlanView) → (0 < p.count → Valid p.count (sounding_rows p.rules)) → Small p.count (sounding_rows p.rules) → Large (reply_of sold_verdict None p c) → ⊥) → NeverLarge c cs rs
    at c never before later split small large =
        let is : get_or rs (length before) Reply.done ≡ reply_of sold_verdict None (plan_after no_plan before) c =
        ap (λ (xs : List Reply). get_or xs (length before) Reply.done) (exact ∙ ap (replies sold_verdict None no_plan) split) ∙ reply_at sold_verdict None no_plan before later c in
        never (plan_after no_plan before) (valid before (c ∷ later) split) small (subst Large is (too_large (get_or rs (length before) Reply.done) large))
