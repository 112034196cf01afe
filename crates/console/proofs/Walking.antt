-- The walk by an engine's verdicts is the walk by whether levels exist, and it ends in a minimal infeasible set. Assumes nothing.
use Rattle.std.proofs.Common.{◌≡◌, ℕ, zero, suc, ◌+◌, ◌<◌, ◌≤◌, ◌⊎◌, List, [], ◌∷◌, ◌++◌, length, take, drop, Option, Result, sym, refl, subst, inl, inr, arith}
use Rattle.std.specs.List.{AllByRecursion as All}
use Rattle.std.proofs.lemmas.List.{append_assoc, append-nil, map-append}
use Rattle.rows.specs.Rows.{Constraint, Feasible, Infeasible}
use Rattle.rows.proofs.Excluding.{excludes}
use Rattle.engine.specs.declared.fault.Fault.{Fault}
use Rattle.engine.specs.Verdicts.{Verdict, ValidRow, Valid, Right}
use Rattle.console.specs.Walks.{rows_of, Walk, Walk.done, Walk.goes, Walk.stays, or_fault, first_fault, Minimal, tried, walked, outcome}

-- ---- lists with one place left out
pub all_without : {X : Type 0} (P : X → Type 0) (xs ys : List X) (x : X) → All P (xs ++ x ∷ ys) → All P (xs ++ ys)
all_without P [] ys x a = a.1
all_without P (y ∷ xs) ys x a = (a.0, all_without P xs ys x a.1)

pub length_without : {X : Type 0} (xs ys : List X) (x : X) → length (xs ++ ys) ≤ length (xs ++ x ∷ ys)
length_without [] ys x = omega arith
length_without (y ∷ xs) ys x = omega (arith, length_without xs ys x)

feasible_without : (xs ys : List Constraint) (r : Constraint) → Feasible (xs ++ r ∷ ys) → Feasible (xs ++ ys)
feasible_without xs ys r (ns, d, positive, meets) = (ns, d, positive, all_without _ xs ys r meets)

-- ---- the engine takes the lists of a walk, or the first that it does not take is the outcome
abbrev RightOn : ℕ → (List Constraint → Verdict) → Type 0
RightOn count verdict = (rows : List Constraint) → Valid count rows → Right count rows (verdict rows)

pub valid_without : (count : ℕ) (xs ys : List (ℕ × Constraint)) (p : ℕ × Constraint) → Valid count (rows_of (xs ++ p ∷ ys)) → Valid count (rows_of (xs ++ ys))
valid_without count xs ys p v =
    let e = map-append (λ q. q.1) xs (p ∷ ys) in
    let w : Valid count (rows_of xs ++ p.1 ∷ rows_of ys) = subst (Valid count) e v in
    subst (Valid count) (sym (map-append (λ q. q.1) xs ys)) (record {
      some = w.some;
      few = w.few;
      short = omega (arith, w.short, length_without (rows_of xs) (rows_of ys) p.1);
      each = all_without (ValidRow count) (rows_of xs) (rows_of ys) p.1 w.each;
    })

tried_goes : (count : ℕ) (rows : List Constraint) (v : Verdict) (stay go : Result (List (ℕ × Constraint)) Fault) (later : Option Fault) (final : List (ℕ × Constraint)) → Right count rows v → Infeasible rows → go ≡ outcome later final → tried v stay go ≡ outcome (or_fault v later) final
tried_goes count rows (Verdict.preset ns d) stay go later final right infeasible e = absurd (infeasible ns d right.0.positive right.1)
tried_goes count rows (Verdict.clash ws) stay go later final right infeasible e = e
tried_goes count rows (Verdict.fault f) stay go later final right infeasible e = refl

tried_stays : (count : ℕ) (rows : List Constraint) (v : Verdict) (stay go : Result (List (ℕ × Constraint)) Fault) (later : Option Fault) (final : List (ℕ × Constraint)) → Right count rows v → Feasible rows → stay ≡ outcome later final → tried v stay go ≡ outcome (or_fault v later) final
tried_stays count rows (Verdict.preset ns d) stay go later final right feasible e = e
tried_stays count rows (Verdict.clash ws) stay go later final right (ns, d, positive, meets) e = absurd (excludes ws rows right ns d positive meets)
tried_stays count rows (Verdict.fault f) stay go later final right feasible e = refl

-- one rule more is kept, and the same rules are in
valid_kept : (count : ℕ) (kept untried : List (ℕ × Constraint)) (p : ℕ × Constraint) → Valid count (rows_of (kept ++ p ∷ untried)) → Valid count (rows_of ((kept ++ p ∷ []) ++ untried))
valid_kept count kept untried p v = subst (λ ps. Valid count (rows_of ps)) (sym (append_assoc kept (p ∷ []) untried)) v

pub walk_is : (count : ℕ) (verdict : List Constraint → Verdict) → RightOn count verdict → {kept untried final : List (ℕ × Constraint)} {lists : List (List Constraint)} → Walk kept untried lists final → Valid count (rows_of (kept ++ untried)) → walked verdict kept untried ≡ outcome (first_fault verdict lists) final
walk_is count verdict right done valid = refl
walk_is count verdict right (goes {kept} {untried} {final} {lists} {p} infeasible walk) valid =
    let smaller = valid_without count kept untried p valid in
    tried_goes count (rows_of (kept ++ untried)) (verdict (rows_of (kept ++ untried))) (walked verdict (kept ++ p ∷ []) untried) (walked verdict kept untried) (first_fault verdict lists) final
    (right (rows_of (kept ++ untried)) smaller) infeasible (walk_is count verdict right walk smaller)
walk_is count verdict right (stays {kept} {untried} {final} {lists} {p} feasible walk) valid =
    tried_stays count (rows_of (kept ++ untried)) (verdict (rows_of (kept ++ untried))) (walked verdict (kept ++ p ∷ []) untried) (walked verdict kept untried) (first_fault verdict lists) final
    (right (rows_of (kept ++ untried)) (valid_without count kept untried p valid)) feasible (walk_is count verdict right walk (valid_kept count kept untried p valid))

-- ---- the end is minimal
-- some levels meet all rows but any one of the middle list
abbrev Critical : List Constraint → List Constraint → List Constraint → Type 0
Critical before [] after = Unit {0}
Critical before (r ∷ rows) after = Feasible (before ++ (rows ++ after)) × Critical (before ++ r ∷ []) rows after

critical_goes : (before rows after : List Constraint) (p : Constraint) → Critical before rows (p ∷ after) → Critical before rows after
critical_goes before [] after p c = tt
critical_goes before (r ∷ rows) after p c = (
  subst Feasible (append_assoc before rows after) (feasible_without (before ++ rows) after p (subst Feasible (sym (append_assoc before rows (p ∷ after))) c.0)),
  critical_goes (before ++ r ∷ []) rows after p c.1,
)

critical_stays : (before rows after : List Constraint) (p : Constraint) → Critical before rows (p ∷ after) → Feasible (before ++ (rows ++ after)) → Critical before (rows ++ p ∷ []) after
critical_stays before [] after p c f = (f, tt)
critical_stays before (r ∷ rows) after p c f = (
  subst (λ t. Feasible (before ++ t)) (sym (append_assoc rows (p ∷ []) after)) c.0,
  critical_stays (before ++ r ∷ []) rows after p c.1 (subst Feasible (sym (append_assoc before (r ∷ []) (rows ++ after))) f),
)

critical_at : (before rows : List Constraint) → Critical before rows [] → (i : ℕ) → i < length rows → Feasible (before ++ (take i rows ++ drop (i + 1) rows))
critical_at before [] c i h = absurd (omega arith)
critical_at before (r ∷ rows) c zero h = subst (λ t. Feasible (before ++ t)) (append-nil rows) c.0
critical_at before (r ∷ rows) c (suc i) h =
    let e : suc (i + 1) ≡ suc i + 1 = omega arith in
    subst (λ n. Feasible (before ++ (take (suc i) (r ∷ rows) ++ drop n (r ∷ rows)))) e
    (subst Feasible (append_assoc before (r ∷ []) (take i rows ++ drop (i + 1) rows)) (critical_at (before ++ r ∷ []) rows c.1 i (omega arith)))

minimal_from : {kept untried final : List (ℕ × Constraint)} {lists : List (List Constraint)} → Walk kept untried lists final → Infeasible (rows_of (kept ++ untried)) → Critical [] (rows_of kept) (rows_of untried) → Minimal (rows_of final)
minimal_from (done {kept}) infeasible critical = record { together = subst (λ ps. Infeasible (rows_of ps)) (append-nil kept) infeasible; each = critical_at [] (rows_of kept) critical }
minimal_from (goes {kept} {untried} {final} {lists} {p} smaller walk) infeasible critical = minimal_from walk smaller (critical_goes [] (rows_of kept) (rows_of untried) p.1 critical)
minimal_from (stays {kept} {untried} {final} {lists} {p} feasible walk) infeasible critical =
    minimal_from walk (subst (λ ps. Infeasible (rows_of ps)) (sym (append_assoc kept (p ∷ []) untried)) infeasible)
    (subst (λ t. Critical [] t (rows_of untried)) (sym (map-append (λ q. q.1) kept (p ∷ [])))
    (critical_stays [] (rows_of kept) (rows_of untried) p.1 critical (subst Feasible (map-append (λ q. q.1) kept untried) feasible)))

pub walk_minimal : {all final : List (ℕ × Constraint)} {lists : List (List Constraint)} → Walk [] all lists final → Infeasible (rows_of all) → Minimal (rows_of final)
walk_minimal walk infeasible = minimal_from walk infeasible tt

-- ---- a walk exists
pub walk_exists : ((rows : List Constraint) → Feasible rows ⊎ Infeasible rows) → (kept untried : List (ℕ × Constraint)) → (lists : List (List Constraint)) × (final : List (ℕ × Constraint)) × Walk kept untried lists final
walk_exists decide kept [] = ([], kept, done)
walk_exists decide kept (p ∷ untried) = by (decide (rows_of (kept ++ untried))) (walk_exists decide (kept ++ p ∷ []) untried) (walk_exists decide kept untried)
  where
    Found : List (ℕ × Constraint) → List (ℕ × Constraint) → Type 0
    Found kept untried = (lists : List (List Constraint)) × (final : List (ℕ × Constraint)) × Walk kept untried lists final

    by : Feasible (rows_of (kept ++ untried)) ⊎ Infeasible (rows_of (kept ++ untried)) → Found (kept ++ p ∷ []) untried → Found kept untried → Found kept (p ∷ untried)
    by (inl feasible) (lists, final, walk) other = (rows_of (kept ++ untried) ∷ lists, final, stays feasible walk)
    by (inr infeasible) other (lists, final, walk) = (rows_of (kept ++ untried) ∷ lists, final, goes infeasible walk)
