-- The stages of substitution on a small plan, by the faders that are gone, and the answer below brought back through its pivots. Assumes nothing.
use Rattle.std.proofs.Common.{◌≡◌, ℕ, zero, suc, ◌+◌, ◌*◌, ◌<◌, ◌≤◌, false, cond, ◌⊎◌, List, [], ◌∷◌, map, length, ℤ, nat_abs, Some, None, Option, Result, sym, refl, ap, subst, inl, inr, arith}
use Rattle.std.specs.List.{AllByRecursion as All}
use Rattle.std.proofs.ByRecursion.{All-weaker}
use Rattle.std.proofs.lemmas.List.{length-map}
use Rattle.std.proofs.lemmas.Bool.{true≢false}
use Rattle.engine.specs.declared.fault.Fault.{Fault}
use Rattle.rows.specs.declared.kind.Kind.{Kind}
use Rattle.rows.specs.declared.kind.Kind.TheVariants.{AtMost, Below, Equal}
use Rattle.rows.specs.Limits.{largest}
use Rattle.rows.specs.Carrying.{Sum}
use Rattle.engine.specs.Exactness.{Taken}
use Rattle.engine.specs.Verdicts.{Verdict, number_beyond}
use Rattle.rows.proofs.Alls.{mapped, none_some}
use Rattle.elimination.specs.Working.{first_equation, elimination_verdict}
use Rattle.elimination.specs.Working.{is_equation as is_equation_below}
use Rattle.substitution.specs.Reduction.{Kept, Pivot, at, is_equation}
use Rattle.substitution.specs.Lifting.{completed, all_completed, weights_verdict, lifted}
use Rattle.substitution.specs.Working.{handed_down}
use Rattle.sold_engine.proofs.Bounded.{Bound, Grows}
use Rattle.sold_engine.proofs.Reaching.{Reach, Reached}
use Rattle.sold_engine.proofs.Substituting.{SumBounded, KeptBounded}
use Rattle.sold_engine.proofs.Lifting.{Completes, weights_lifted, completed_some}
use Rattle.sold_engine.proofs.Deciding.{Course, Runs, RowBounded, Moderate, decided_moderate}
use Rattle.sold_engine.proofs.Figures.{listed, without_first, without_second, without_both, first_leaves, second_leaves, second_follows, first_follows}
use Rattle.sold_engine.proofs.Figures.{course_listed, course_without_first, course_without_second, course_without_both, runs_listed, runs_without_first, runs_without_second, runs_without_both}
use Rattle.sold_engine.proofs.Figures.{first_done, second_done, second_known, first_known, both_by_first, both_by_second}
use Rattle.sold_engine.proofs.Figures.{completes_only_first, completes_only_second, completes_last_second, completes_then_first, completes_last_first, completes_then_second}

-- which faders are gone from the rows
pub data Stage : Type 0 where
  none_gone : Stage
  first_gone : Stage
  second_gone : Stage
  both_gone : Stage

abbrev pub bound_of : Stage → Bound
bound_of none_gone = listed
bound_of first_gone = without_first
bound_of second_gone = without_second
bound_of both_gone = without_both

-- an equation by which fader k goes
pub record Solves (b : Bound) (k : ℕ) (s : Sum) : Type 0 where
  pub bounded : SumBounded b s
  pub solvable : 0 < nat_abs (at s k)

abbrev pub pivot : ℕ → Sum → Pivot
pivot k s = record { fader = k; sum = s }

-- the pivots by which they went, the last first
abbrev pub Pivots : Stage → List Pivot → Type 0
Pivots none_gone ps = ps ≡ []
Pivots first_gone ps = (s : Sum) × (ps ≡ pivot 0 s ∷ []) × Solves listed 0 s
Pivots second_gone ps = (s : Sum) × (ps ≡ pivot 1 s ∷ []) × Solves listed 1 s
Pivots both_gone ps =
    ((t : Sum) × (s : Sum) × (ps ≡ pivot 1 t ∷ pivot 0 s ∷ []) × Solves without_first 1 t × Solves listed 0 s)
    ⊎ ((t : Sum) × (s : Sum) × (ps ≡ pivot 0 t ∷ pivot 1 s ∷ []) × Solves without_second 0 t × Solves listed 1 s)

-- one more fader goes: one that is still there
pub goes : (st : Stage) (ps : List Pivot) (k : ℕ) (s : Sum) → Solves (bound_of st) k s → Pivots st ps → (next : Stage) × Grows k (bound_of st) (bound_of next) × Pivots next (pivot k s ∷ ps)
goes none_gone ps zero s v p = (first_gone, first_leaves, (s, ap (λ (x : List Pivot). pivot 0 s ∷ x) p, v))
goes none_gone ps (suc zero) s v p = (second_gone, second_leaves, (s, ap (λ (x : List Pivot). pivot 1 s ∷ x) p, v))
goes none_gone ps (suc (suc k)) s v p = absurd (omega (arith, v.bounded.coefficients (suc (suc k)), v.solvable))
goes first_gone ps zero s v p = absurd (omega (arith, v.bounded.coefficients 0, v.solvable))
goes first_gone ps (suc zero) s v (t, e, w) = (both_gone, second_follows, inl (s, t, ap (λ (x : List Pivot). pivot 1 s ∷ x) e, v, w))
goes first_gone ps (suc (suc k)) s v p = absurd (omega (arith, v.bounded.coefficients (suc (suc k)), v.solvable))
goes second_gone ps zero s v (t, e, w) = (both_gone, first_follows, inr (s, t, ap (λ (x : List Pivot). pivot 0 s ∷ x) e, v, w))
goes second_gone ps (suc zero) s v p = absurd (omega (arith, v.bounded.coefficients 1, v.solvable))
goes second_gone ps (suc (suc k)) s v p = absurd (omega (arith, v.bounded.coefficients (suc (suc k)), v.solvable))
goes both_gone ps zero s v p = absurd (omega (arith, v.bounded.coefficients 0, v.solvable))
goes both_gone ps (suc zero) s v p = absurd (omega (arith, v.bounded.coefficients 1, v.solvable))
goes both_gone ps (suc (suc k)) s v p = absurd (omega (arith, v.bounded.coefficients (suc (suc k)), v.solvable))

-- ---- the engine below

abbrev course_of : Stage → Course
course_of none_gone = course_listed
course_of first_gone = course_without_first
course_of second_gone = course_without_second
course_of both_gone = course_without_both

runs_of : (st : Stage) → Runs (course_of st)
runs_of none_gone = runs_listed
runs_of first_gone = runs_without_first
runs_of second_gone = runs_without_second
runs_of both_gone = runs_without_both

handed_bounded : (st : Stage) (r : Kept) → KeptBounded (bound_of st) r → RowBounded (course_of st).start (handed_down r)
handed_bounded none_gone r h = (h.coefficients, h.side)
handed_bounded first_gone r h = (h.coefficients, h.side)
handed_bounded second_gone r h = (h.coefficients, h.side)
handed_bounded both_gone r h = (h.coefficients, h.side)

lifted_weight : (st : Stage) → 10 * ((course_of st).weight * (bound_of st).weight) ≤ largest
lifted_weight none_gone = omega arith
lifted_weight first_gone = omega arith
lifted_weight second_gone = omega arith
lifted_weight both_gone = omega arith

-- a row that is no equation
abbrev pub Plain : Kind → Type 0
Plain k = is_equation k ≡ false

no_equation : (i : ℕ) (rs : List Kept) → All (λ r. Plain r.kind) rs → first_equation i (map handed_down rs) ≡ None
no_equation i [] h = refl
no_equation i (r ∷ rs) h = by r.kind h.0 (no_equation (i + 1) rs h.1)
  where
    by : (k : Kind) → Plain k → first_equation (i + 1) (map handed_down rs) ≡ None → cond (is_equation_below k) (Some i) (first_equation (i + 1) (map handed_down rs)) ≡ None
    by AtMost p e = e
    by Below p e = e
    by Equal p e = absurd (true≢false p)

-- ---- the way back

completed_next : (o : Option (List ℤ × ℕ)) (q : List ℤ × ℕ) (k : ℕ) (ps : List Pivot) → o ≡ Some q → Taken (all_completed ps q.0 q.1) → Taken (elim o [ Some q ↦ all_completed ps q.0 q.1 | None ↦ Verdict.fault (number_beyond k) ])
completed_next (Some r) q k ps e h = let s : r ≡ q = cc in subst (λ (x : List ℤ × ℕ). Taken (all_completed ps x.0 x.1)) (sym s) h
completed_next None q k ps e h = absurd (none_some q e)

one_completed : (k : ℕ) (b : Bound) (from to : Reach) → Completes k b from to → (s : Sum) → Solves b k s → (ps : List Pivot) → ((ns : List ℤ) (d : ℕ) → Reached to ns d → Taken (all_completed ps ns d)) → (ns : List ℤ) (d : ℕ) → Reached from ns d → Taken (all_completed (pivot k s ∷ ps) ns d)
one_completed k b from to c s v ps next ns d r =
    let q = completed_some k b from to c s v.bounded v.solvable ns d r in
    completed_next (completed (pivot k s) ns d) q.0 k ps q.1 (next q.0.0 q.0.1 q.2)

all_taken : (st : Stage) (ps : List Pivot) → Pivots st ps → (ns : List ℤ) (d : ℕ) → Reached (course_of st).done ns d → Taken (all_completed ps ns d)
all_taken none_gone ps e ns d r = subst (λ (x : List Pivot). Taken (all_completed x ns d)) (sym e) tt
all_taken first_gone ps (s, e, v) ns d r =
    subst (λ (x : List Pivot). Taken (all_completed x ns d)) (sym e)
    (one_completed 0 listed course_without_first.done first_done completes_only_first s v [] (λ ns d r. tt) ns d r)
all_taken second_gone ps (s, e, v) ns d r =
    subst (λ (x : List Pivot). Taken (all_completed x ns d)) (sym e)
    (one_completed 1 listed course_without_second.done second_done completes_only_second s v [] (λ ns d r. tt) ns d r)
all_taken both_gone ps (inl (t, s, e, w, v)) ns d r =
    subst (λ (x : List Pivot). Taken (all_completed x ns d)) (sym e)
    (one_completed 1 without_first course_without_both.done second_known completes_last_second t w (pivot 0 s ∷ [])
    (one_completed 0 listed second_known both_by_first completes_then_first s v [] (λ ns d r. tt)) ns d r)
all_taken both_gone ps (inr (t, s, e, w, v)) ns d r =
    subst (λ (x : List Pivot). Taken (all_completed x ns d)) (sym e)
    (one_completed 0 without_second course_without_both.done first_known completes_last_first t w (pivot 1 s ∷ [])
    (one_completed 1 listed first_known both_by_second completes_then_second s v [] (λ ns d r. tt)) ns d r)

module _ (count n : ℕ) (few_faders : count ≤ 2) (st : Stage) (rs : List Kept) (ps : List Pivot) (few : length rs ≤ 10) (bounded : All (KeptBounded (bound_of st)) rs) (plain : All (λ r. Plain r.kind) rs) (pivots : Pivots st ps) where
  lifted_taken : (v : Verdict) → Moderate (course_of st).done (course_of st).weight v → Taken (lifted n rs ps v)
  lifted_taken (Verdict.preset ns d) r = all_taken st ps pivots ns d r
  lifted_taken (Verdict.clash ws) w =
      let l = weights_lifted (bound_of st) (course_of st).weight ws rs w bounded few (lifted_weight st) n 0 in
      subst (λ (o : Result (List ℤ) Fault). Taken (weights_verdict o)) (sym l.1) tt
  lifted_taken (Verdict.fault f) m = absurd m

  -- no equation is left
  pub left_taken : Taken (lifted n rs ps (elimination_verdict count (map handed_down rs)))
  left_taken =
      lifted_taken (elimination_verdict count (map handed_down rs))
      (decided_moderate (course_of st) (runs_of st) count (map handed_down rs) few_faders (omega (arith, length-map rs handed_down)) (no_equation 0 rs plain)
      (mapped (RowBounded (course_of st).start) handed_down rs (All-weaker (KeptBounded (bound_of st)) (λ r. RowBounded (course_of st).start (handed_down r)) (handed_bounded st) rs bounded)))
