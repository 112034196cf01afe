-- Small plans are never too large for the engine as sold. Assumes nothing.
use Rattle.std.proofs.Common.{◌≡◌, ℕ, zero, suc, ◌+◌, ◌≤◌, Bool, true, false, ltb, List, [], ◌∷◌, ◌++◌, length, get_or, ℤ, pos, nat_abs, Some, None, Option, sym, refl, ap, subst, arith}
use Rattle.std.specs.List.{AllByRecursion as All}
use Rattle.std.proofs.ByRecursion.{All-weaker, All-append}
use Rattle.std.proofs.lemmas.List.{append-nil, length-append}
use Rattle.rows.specs.declared.kind.Kind.{Kind}
use Rattle.rows.specs.Limits.{most_rows}
use Rattle.engine.specs.Exactness.{Taken}
use Rattle.rows.specs.Rows.{Constraint}
use Rattle.engine.specs.Verdicts.{ValidRow, number_beyond}
use Rattle.rows.proofs.Alls.{none_some}
use Rattle.elimination.specs.Working.{elimination_verdict}
use Rattle.elimination.specs.Alls.{both}
use Rattle.substitution.specs.Reduction.{Kept, Pivot, Reduced, Reduced.left, is_equation, first_fader, cancel_all, contradiction, kept_rows, reduced}
use Rattle.substitution.specs.Working.{decided}
use Rattle.substitution.specs.Soundness.{has_fader, kept_length}
use Rattle.sold_engine.specs.SmallPlans.{SmallRow, SmallPlansTaken, small_coefficient}
use Rattle.sold_engine.proofs.Bounded.{most}
use Rattle.sold_engine.proofs.Deciding.{unit_near}
use Rattle.sold_engine.proofs.Substituting.{KeptBounded, all_cancelled}
use Rattle.sold_engine.proofs.Figures.{listed}
use Rattle.sold_engine.proofs.Pivoting.{Stage, Stage.none_gone, bound_of, Solves, pivot, Pivots, goes, Plain, left_taken}

-- any kind
abbrev Any : Kind → Type 0
Any k = Unit {0}

abbrev Early : Stage → Kept → Type 0
Early st r = KeptBounded (bound_of st) r × Plain r.kind

abbrev Late : Stage → Kept → Type 0
Late st r = KeptBounded (bound_of st) r × Any r.kind

-- the rows before the place that is looked at are no equations; at most n places are left
record State (n : ℕ) (st : Stage) (before after : List Kept) (ps : List Pivot) : Type 0 where
  few : length before + length after ≤ 10
  short : length after ≤ n
  earlier : All (Early st) before
  later : All (Late st) after
  pivots : Pivots st ps

module _ (count listed-rows : ℕ) (few_faders : count ≤ 2) where
  abbrev Decides : Reduced → Type 0
  Decides r = Taken (decided elimination_verdict count listed-rows r)

  abbrev AllDecide : ℕ → Type 0
  AllDecide n = (st : Stage) (before after : List Kept) (ps : List Pivot) → State n st before after ps → Decides (reduced n before after ps)

  ended : (n : ℕ) (st : Stage) (rs : List Kept) (ps : List Pivot) → State n st rs [] ps → Decides (left rs ps)
  ended n st rs ps s =
      left_taken count listed-rows few_faders st rs ps (omega (arith, s.few))
      (All-weaker (Early st) (KeptBounded (bound_of st)) (λ r h. h.0) rs s.earlier)
      (All-weaker (Early st) (λ r. Plain r.kind) (λ r h. h.1) rs s.earlier) s.pivots

  -- the row at the place that is looked at
  module _ (n : ℕ) (ih : AllDecide n) (st : Stage) (before : List Kept) (r : Kept) (after : List Kept) (ps : List Pivot) (s : State (suc n) st before (r ∷ after) ps) where
    passed : Plain r.kind → Decides (reduced n (before ++ r ∷ []) after ps)
    passed p = ih st (before ++ r ∷ []) after ps (record {
      few = omega (arith, s.few, length-append before (r ∷ []));
      short = omega (arith, s.short);
      earlier = All-append (Early st) before (r ∷ []) s.earlier ((s.later.0.0, p), tt);
      later = s.later.1;
      pivots = s.pivots;
    })

    dropped : Decides (reduced n before after ps)
    dropped = ih st before after ps (record { few = omega (arith, s.few); short = omega (arith, s.short); earlier = s.earlier; later = s.later.1; pivots = s.pivots })

    without : (b : Bool) → Decides (elim b [ true ↦ Reduced.clashing (contradiction r.sum) | false ↦ reduced n before after ps ])
    without true = tt
    without false = dropped

    chosen : (k : ℕ) (bs rest : List Kept) (o m : Option (List Kept)) → o ≡ Some bs → m ≡ Some rest → Decides (reduced n bs rest (pivot k r.sum ∷ ps))
        → Decides (elim o [ None ↦ Reduced.faulty (number_beyond k) | Some bs ↦ elim m [ None ↦ Reduced.faulty (number_beyond k) | Some rest ↦ reduced n bs rest (pivot k r.sum ∷ ps) ] ])
    chosen k bs rest None m e f h = absurd (none_some bs e)
    chosen k bs rest (Some cs) None e f h = absurd (none_some rest f)
    chosen k bs rest (Some cs) (Some ds) e f h =
        let x : bs ≡ cs = cc in
        let y : rest ≡ ds = cc in
        subst (λ (zs : List Kept). Decides (reduced n zs ds (pivot k r.sum ∷ ps))) x (subst (λ (zs : List Kept). Decides (reduced n bs zs (pivot k r.sum ∷ ps))) y h)

    solved : (k : ℕ) → first_fader 0 r.sum.coefficients ≡ Some k
        → Decides (elim (cancel_all k r.sum before) [ None ↦ Reduced.faulty (number_beyond k) | Some bs ↦ elim (cancel_all k r.sum after) [ None ↦ Reduced.faulty (number_beyond k) | Some rest ↦ reduced n bs rest (pivot k r.sum ∷ ps) ] ])
    solved k e =
        let own = s.later.0.0 in
        let some = has_fader r.sum.coefficients k e in
        let v : Solves (bound_of st) k r.sum = record { bounded = own; solvable = some } in
        let g = goes st ps k r.sum v s.pivots in
        let next = g.0 in
        let b = all_cancelled k (bound_of st) (bound_of next) g.1 r.sum own some Plain before s.earlier in
        let a = all_cancelled k (bound_of st) (bound_of next) g.1 r.sum own some Any after s.later.1 in
        chosen k b.0 a.0 (cancel_all k r.sum before) (cancel_all k r.sum after) b.1 a.1
        (ih next b.0 a.0 (pivot k r.sum ∷ ps) (record {
          few = omega (arith, s.few, b.3, a.3);
          short = omega (arith, s.short, a.3);
          earlier = b.2;
          later = a.2;
          pivots = g.2;
        }))

    equation : (o : Option ℕ) → first_fader 0 r.sum.coefficients ≡ o
        → Decides (elim o [
          | None ↦ elim (ltb 0 (nat_abs r.sum.side)) [ true ↦ Reduced.clashing (contradiction r.sum) | false ↦ reduced n before after ps ]
          | Some k ↦ elim (cancel_all k r.sum before) [
            | None ↦ Reduced.faulty (number_beyond k)
            | Some bs ↦ elim (cancel_all k r.sum after) [ None ↦ Reduced.faulty (number_beyond k) | Some rest ↦ reduced n bs rest (pivot k r.sum ∷ ps) ]
          ]
        ])
    equation None e = without (ltb 0 (nat_abs r.sum.side))
    equation (Some k) e = solved k e

    looked_at : (b : Bool) → is_equation r.kind ≡ b
        → Decides (elim b [
          | false ↦ reduced n (before ++ r ∷ []) after ps
          | true ↦ elim (first_fader 0 r.sum.coefficients) [
            | None ↦ elim (ltb 0 (nat_abs r.sum.side)) [ true ↦ Reduced.clashing (contradiction r.sum) | false ↦ reduced n before after ps ]
            | Some k ↦ elim (cancel_all k r.sum before) [
              | None ↦ Reduced.faulty (number_beyond k)
              | Some bs ↦ elim (cancel_all k r.sum after) [ None ↦ Reduced.faulty (number_beyond k) | Some rest ↦ reduced n bs rest (pivot k r.sum ∷ ps) ]
            ]
          ]
        ])
    looked_at false e = passed e
    looked_at true e = equation (first_fader 0 r.sum.coefficients) refl

  all_decide : (n : ℕ) → AllDecide n
  all_decide zero st before [] ps s = subst (λ (rs : List Kept). Decides (left rs ps)) (sym (append-nil before)) (ended zero st before ps s)
  all_decide zero st before (r ∷ after) ps s = absurd (omega (arith, s.short))
  all_decide (suc n) st before [] ps s = ended (suc n) st before ps s
  all_decide (suc n) st before (r ∷ after) ps s = looked_at n (all_decide n) st before r after ps s (is_equation r.kind) refl

-- ---- the listed rows

coefficient_near : (m : ℕ) (xs : List ℤ) → All (λ a. nat_abs a ≤ m) xs → (k : ℕ) → nat_abs (get_or xs k (pos 0)) ≤ m
coefficient_near m [] h k = omega arith
coefficient_near m (x ∷ xs) h zero = h.0
coefficient_near m (x ∷ xs) h (suc k) = coefficient_near m xs h.1 k

coefficients_bounded : (count : ℕ) → count ≤ 2 → (r : Constraint) → SmallRow r → ValidRow count r → (k : ℕ) → nat_abs (get_or r.coefficients k (pos 0)) ≤ most listed k
coefficients_bounded count l r s v zero = coefficient_near small_coefficient r.coefficients s.coefficients 0
coefficients_bounded count l r s v (suc zero) = coefficient_near small_coefficient r.coefficients s.coefficients 1
coefficients_bounded count l r s v (suc (suc k)) = omega (arith, ap nat_abs (v.unused (suc (suc k)) (omega arith)))

kept_bounded : (count : ℕ) → count ≤ 2 → (i : ℕ) (rows : List Constraint) → All (λ r. SmallRow r × ValidRow count r) rows → All (Late none_gone) (kept_rows i rows)
kept_bounded count l i [] h = tt
kept_bounded count l i (r ∷ rows) h = (
  (record { coefficients = coefficients_bounded count l r h.0.0 h.0.1; side = h.0.0.side; weights = unit_near most_rows i }, tt),
  kept_bounded count l (i + 1) rows h.1,
)

pub small_plans_taken : SmallPlansTaken
small_plans_taken count rows valid small =
    all_decide count (length rows) small.few_faders (length rows) none_gone [] (kept_rows 0 rows) [] (record {
      few = omega (arith, small.few_rows, kept_length 0 rows);
      short = omega (arith, kept_length 0 rows);
      earlier = tt;
      later = kept_bounded count small.few_faders 0 rows (both SmallRow (ValidRow count) rows small.small_numbers valid.each);
      pivots = refl;
    })
