-- A run with one command more. Assumes nothing.
use Rattle.std.proofs.Common.{◌≡◌, ℕ, zero, suc, ◌<◌, ◌⊎◌, List, [], ◌∷◌, ◌++◌, length, get_or, drop, Option, sym, refl, ap, ◌∙◌, subst, inl, inr, arith}
use Rattle.std.proofs.lemmas.List.{length-append}
use Rattle.rows.specs.Rows.{Constraint}
use Rattle.engine.specs.declared.refusal.Refusal.{Refusal}
use Rattle.engine.specs.Verdicts.{Verdict, Valid}
use Rattle.plans.specs.Plans.{PlanView, no_plan}
use Rattle.plans.specs.Sounding.{sounding_rows}
use Rattle.console.specs.declared.command.Command.{Command}
use Rattle.console.specs.Replies.{Reply}
use Rattle.console.specs.Runs.{next, plan_after}
use Rattle.console.specs.Law.{Replied, RunLaw, PlansValid}
use Rattle.console.specs.Exact.{reply_of, replies}

pub plan_after_more : (p : PlanView) (cs : List Command) (c : Command) → plan_after p (cs ++ c ∷ []) ≡ next c (plan_after p cs)
plan_after_more p [] c = refl
plan_after_more p (x ∷ cs) c = plan_after_more (next x p) cs c

pub replies_more : (verdict : ℕ → List Constraint → Verdict) (table : Option Refusal) (p : PlanView) (cs : List Command) (c : Command) → replies verdict table p (cs ++ c ∷ []) ≡ replies verdict table p cs ++ reply_of verdict table (plan_after p cs) c ∷ []
replies_more verdict table p [] c = refl
replies_more verdict table p (x ∷ cs) c = ap (λ (rs : List Reply). reply_of verdict table p x ∷ rs) (replies_more verdict table (next x p) cs c)

-- a place of a list with one element more is the last, or one of the list
split_more : {X : Type 0} (cs before later : List X) (c x : X) → cs ++ c ∷ [] ≡ before ++ x ∷ later → ((before ≡ cs) × (x ≡ c)) ⊎ ((rest : List X) × (cs ≡ before ++ x ∷ rest))
split_more [] [] later c x e = inl (refl, sym (ap (λ l. get_or l 0 x) e))
split_more [] (b ∷ before) later c x e = absurd (let n = ap length e in omega (arith, n, length-append before (x ∷ later)))
split_more (y ∷ cs) [] later c x e = inr (cs, ap (λ h. h ∷ cs) (ap (λ l. get_or l 0 x) e))
split_more (y ∷ cs) (b ∷ before) later c x e = by (split_more cs before later c x (ap (drop 1) e)) (ap (λ l. get_or l 0 y) e)
  where
    by : ((before ≡ cs) × (x ≡ c)) ⊎ ((rest : List _) × (cs ≡ before ++ x ∷ rest)) → y ≡ b → ((b ∷ before ≡ y ∷ cs) × (x ≡ c)) ⊎ ((rest : List _) × (y ∷ cs ≡ b ∷ before ++ x ∷ rest))
    by (inl (same, is)) h = inl ((λ j. sym h j ∷ same j), is)
    by (inr (rest, at)) h = inr (rest, λ j. h j ∷ at j)

last_at : {X : Type 0} (xs : List X) (x d : X) → get_or (xs ++ x ∷ []) (length xs) d ≡ x
last_at [] x d = refl
last_at (y ∷ xs) x d = last_at xs x d

front_at : {X : Type 0} (xs : List X) (x d : X) (i : ℕ) → i < length xs → get_or (xs ++ x ∷ []) i d ≡ get_or xs i d
front_at [] x d i h = absurd (omega arith)
front_at (y ∷ xs) x d zero h = refl
front_at (y ∷ xs) x d (suc i) h = front_at xs x d i (omega arith)

pub run_none : (verdict : ℕ → List Constraint → Verdict) (table : Option Refusal) → RunLaw verdict table [] []
run_none verdict table = record { each = refl; replied = λ before later c e. absurd (let n = ap length e in omega (arith, n, length-append before (c ∷ later))) }

pub run_more : (verdict : ℕ → List Constraint → Verdict) (table : Option Refusal) (cs : List Command) (rs : List Reply) (c : Command) (r : Reply) → RunLaw verdict table cs rs → Replied verdict table (plan_after no_plan cs) c r → RunLaw verdict table (cs ++ c ∷ []) (rs ++ r ∷ [])
run_more verdict table cs rs c r law new = record {
  each = omega (arith, length-append cs (c ∷ []), length-append rs (r ∷ []), law.each);
  replied = λ before later x e. by before x (split_more cs before later c x e);
}
  where
    by : (before : List Command) (x : Command) → ((before ≡ cs) × (x ≡ c)) ⊎ ((rest : List Command) × (cs ≡ before ++ x ∷ rest)) → Replied verdict table (plan_after no_plan before) x (get_or (rs ++ r ∷ []) (length before) Reply.done)
    by before x (inl (same, is)) =
        let at : get_or (rs ++ r ∷ []) (length before) Reply.done ≡ r = ap (λ (n : ℕ). get_or (rs ++ r ∷ []) n Reply.done) (ap length same ∙ sym law.each) ∙ last_at rs r Reply.done in
        subst (λ (y : Reply). Replied verdict table (plan_after no_plan before) x y) (sym at)
        (subst (λ (y : Command). Replied verdict table (plan_after no_plan before) y r) (sym is) (subst (λ (ys : List Command). Replied verdict table (plan_after no_plan ys) c r) (sym same) new))
    by before x (inr (rest, split)) =
        let below : length before < length rs = omega (arith, ap length split, length-append before (x ∷ rest), law.each) in
        subst (λ (y : Reply). Replied verdict table (plan_after no_plan before) x y) (sym (front_at rs r Reply.done (length before) below)) (law.replied before rest x split)

-- ---- the plans of a run
ValidAt : PlanView → Type 0
ValidAt p = 0 < p.count → Valid p.count (sounding_rows p.rules)

-- a beginning of a list with one element more is the whole, or a beginning of the list
begin_more : {X : Type 0} (cs before later : List X) (c : X) → cs ++ c ∷ [] ≡ before ++ later → (before ≡ cs ++ c ∷ []) ⊎ ((rest : List X) × (cs ≡ before ++ rest))
begin_more cs [] later c e = inr (cs, refl)
begin_more [] (b ∷ []) later c e = inl (λ j. sym (ap (λ l. get_or l 0 c) e) j ∷ [])
begin_more [] (b ∷ d ∷ before) later c e = absurd (let n = ap length e in omega (arith, n, length-append before later))
begin_more (y ∷ cs) (b ∷ before) later c e = by (begin_more cs before later c (ap (drop 1) e)) (ap (λ l. get_or l 0 y) e)
  where
    by : (before ≡ cs ++ c ∷ []) ⊎ ((rest : List _) × (cs ≡ before ++ rest)) → y ≡ b → (b ∷ before ≡ y ∷ cs ++ c ∷ []) ⊎ ((rest : List _) × (y ∷ cs ≡ b ∷ before ++ rest))
    by (inl same) h = inl (λ j. sym h j ∷ same j)
    by (inr (rest, at)) h = inr (rest, λ j. h j ∷ at j)

pub plans_none : PlansValid []
plans_none [] later e h = absurd (omega (arith, h))
plans_none (b ∷ before) later e h = absurd (let n = ap length e in omega (arith, n, length-append before later))

pub plans_more : (cs : List Command) (c : Command) → PlansValid cs → (0 < (plan_after no_plan (cs ++ c ∷ [])).count → Valid (plan_after no_plan (cs ++ c ∷ [])).count (sounding_rows (plan_after no_plan (cs ++ c ∷ [])).rules)) → PlansValid (cs ++ c ∷ [])
unfolding ValidAt
plans_more cs c old new before later e = by (begin_more cs before later c e)
  where
    by : (before ≡ cs ++ c ∷ []) ⊎ ((rest : List Command) × (cs ≡ before ++ rest)) → ValidAt (plan_after no_plan before)
    by (inl same) = subst (λ (xs : List Command). ValidAt (plan_after no_plan xs)) (sym same) new
    by (inr (rest, at)) = old before rest at
