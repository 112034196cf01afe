-- The elimination engine on rows that are bounded: it gives no fault, and its verdict is bounded. Assumes nothing.
use Rattle.std.proofs.Common.{◌≡◌, ℕ, zero, suc, ◌+◌, ◌≤◌, true, not, ◌&&◌, ◌||◌, ltb, List, [], ◌∷◌, length, get_or, take, set, replicate, ℤ, pos, nat_abs, Some, None, Ok, Err, filter, Option, Result, sym, refl, ap, ◌∙◌, subst, inl, inr, arith}
use lib.Signed.{lt_z}
use Rattle.std.specs.List.{AllByRecursion as All}
use Rattle.std.proofs.ByRecursion.{All-weaker, all_kept_by, kept_by_passes}
use Rattle.std.proofs.lemmas.List.{get_or-take, get_or_past, length-take}
use Rattle.std.proofs.lemmas.Bool.{and_parts, cases_lt}
use Rattle.engine.specs.declared.fault.Fault.{Fault}
use Rattle.rows.specs.Limits.{faders, most_rows}
use Rattle.rows.specs.Rows.{Constraint}
use Rattle.engine.specs.Verdicts.{Verdict, number_beyond, form_not_taken}
use Rattle.rows.proofs.Alls.{none_some}
use Rattle.elimination.specs.Table.{Line, stands, eliminated, all_eliminated}
use Rattle.elimination.specs.Levels.{Levels, first_best, set_fader}
use Rattle.elimination.specs.Working.{first_equation, carried, is_false, support, all_set, at_rest, level_verdict, concluded, worked_out, elimination_verdict}
use Rattle.elimination.specs.Alls.{both}
use Rattle.elimination.specs.Steps.{err_ok}
use Rattle.elimination.specs.Tracing.{zeros_at}
use Rattle.sold_engine.proofs.Bounded.{Bound, most, Grows}
use Rattle.sold_engine.proofs.Counts.{next, after_first, after_second}
use Rattle.sold_engine.proofs.Growing.{Held, standing_bounded, eliminated_held}
use Rattle.sold_engine.proofs.Reaching.{Reach, Reached, Given}
use Rattle.sold_engine.proofs.Settling.{Raises, set_near, best_given, fader_some}

abbrev three : {X : Type 0} → X → X → X → ℕ → X
three a b c zero = a
three a b c (suc zero) = b
three a b c (suc (suc k)) = c

-- bounds for the rows before the first fader is eliminated, before the second, and after both;
-- and for the levels after both are set, after fader 1 is, and before that
pub record Course : Type 0 where
  pub start : Bound
  pub middle : Bound
  pub end : Bound
  pub done : Reach
  pub half : Reach
  pub rest : Reach
  pub weight : ℕ

-- they follow from each other
pub record Runs (c : Course) : Type 0 where
  pub first : Grows 0 c.start c.middle
  pub second : Grows 1 c.middle c.end
  pub raised : Raises 1 c.middle c.rest c.half
  pub finished : Raises 0 c.start c.half c.done
  pub unit : 1 ≤ c.start.weight
  pub weights : c.end.weight ≤ c.weight
  pub denominators : (1 ≤ c.done.denominator) × (1 ≤ c.half.denominator) × (1 ≤ c.rest.denominator)

abbrev pub RowBounded : Bound → Constraint → Type 0
RowBounded b r = ((k : ℕ) → nat_abs (get_or r.coefficients k (pos 0)) ≤ most b k) × (nat_abs r.side ≤ b.side)

-- a preset or a clash with bounded numbers
abbrev pub Moderate : Reach → ℕ → Verdict → Type 0
Moderate h w (Verdict.preset ns d) = Reached h ns d
Moderate h w (Verdict.clash ws) = (j : ℕ) → nat_abs (get_or ws j (pos 0)) ≤ w
Moderate h w (Verdict.fault f) = ⊥

-- ---- the listed rows

pub unit_near : (n i j : ℕ) → nat_abs (get_or (set (replicate n (pos 0)) i (pos 1)) j (pos 0)) ≤ 1
unit_near n i j = set_near (replicate n (pos 0)) i (pos 1) j 1 (λ d. omega (arith, ap nat_abs (zeros_at n j))) (λ e. omega arith)

carried_length : (i : ℕ) (rows : List Constraint) → length (carried i rows) ≡ length rows
carried_length i [] = refl
carried_length i (r ∷ rows) = ap suc (carried_length (i + 1) rows)

carried_held : (g : ℕ → Bound) → 1 ≤ (g 0).weight → (i : ℕ) (rows : List Constraint) → All (RowBounded (g 0)) rows → All (Held g 0) (carried i rows)
carried_held g w i [] h = tt
carried_held g w i (r ∷ rows) h = (record { coefficients = h.0.0; side = h.0.1; weights = λ k. omega (arith, unit_near most_rows i k) }, carried_held g w (i + 1) rows h.1)

-- ---- from one fader to the next

onward : (o : Result (List Line) Fault) (m k : ℕ) (u : List Line) → o ≡ Ok u → ◌≡◌ {A = Result (List Line) Fault} (elim o [ Ok v ↦ all_eliminated m (k + 1) v | Err f ↦ Err f ]) (all_eliminated m (k + 1) u)
onward (Ok v) m k u e = let s : v ≡ u = cc in ap (all_eliminated m (k + 1)) s
onward (Err f) m k u e = absurd (err_ok f u e)

backward : (o : Option Levels) (k : ℕ) (t : List Line) (y : Levels) → o ≡ Some y → ◌≡◌ {A = Result Levels Fault} (elim o [ Some z ↦ all_set k t z | None ↦ Err (number_beyond k) ]) (all_set k t y)
backward (Some z) k t y e = let s : z ≡ y = cc in ap (all_set k t) s
backward None k t y e = absurd (none_some y e)

rest_reached : (h : Reach) → 1 ≤ h.denominator → Reached h at_rest.numerators at_rest.denominator
rest_reached h l = record { numerators = λ j. omega (arith, ap nat_abs (zeros_at faders j)); above = omega arith; denominator = l }

take_near : (n : ℕ) (ws : List ℤ) (w : ℕ) → ((j : ℕ) → nat_abs (get_or ws j (pos 0)) ≤ w) → (j : ℕ) → nat_abs (get_or (take n ws) j (pos 0)) ≤ w
take_near n ws w h j = elim (cases_lt j n) [
  | inl l ↦ subst (λ (z : ℤ). nat_abs z ≤ w) (sym (get_or-take n ws j (pos 0) l)) (h j)
  | inr l ↦ subst (λ (z : ℤ). nat_abs z ≤ w) (sym (get_or_past (take n ws) j (pos 0) (omega (arith, length-take n ws)))) (omega arith)
]

module _ (c : Course) (runs : Runs c) where
  abbrev bounds : ℕ → Bound
  bounds k = three c.start c.middle c.end k

  eliminated_all : (count : ℕ) → count ≤ 2 → (t : List Line) → length t ≤ 10 → All (Held bounds 0) t → (u : List Line) × (all_eliminated count 0 t ≡ Ok u) × All (Held bounds count) u
  eliminated_all zero l t few h = (t, refl, h)
  eliminated_all (suc zero) l t few h =
      let counts = after_first 0 t few in
      let a = eliminated_held bounds 0 1 runs.first t h (omega (arith, counts.0)) in
      (next 0 t, onward (eliminated 0 t) 0 0 (next 0 t) a.0, a.1)
  eliminated_all (suc (suc zero)) l t few h =
      let u = next 0 t in
      let counts = after_first 0 t few in
      let a = eliminated_held bounds 0 1 runs.first t h (omega (arith, counts.0)) in
      let b = eliminated_held bounds 1 2 runs.second u a.1 (omega (arith, after_second 1 u counts.0 counts.1)) in
      (next 1 u, onward (eliminated 0 t) 1 0 u a.0 ∙ onward (eliminated 1 u) 0 1 (next 1 u) b.0, b.1)
  eliminated_all (suc (suc (suc m))) l t few h = absurd (omega arith)

  all_reached : (count : ℕ) → count ≤ 2 → (t : List Line) → All (Held bounds count) t → (y : Levels) × (all_set count t at_rest ≡ Ok y) × Reached c.done y.numerators y.denominator
  all_reached zero l t h = (at_rest, refl, rest_reached c.done runs.denominators.0)
  all_reached (suc zero) l t h =
      let a = fader_some 0 c.start c.half c.done runs.finished at_rest (rest_reached c.half runs.denominators.1) bounds 1 refl t h in
      (a.0, backward (set_fader 0 t at_rest) 0 t a.0 a.1, a.2)
  all_reached (suc (suc zero)) l t h =
      let a = fader_some 1 c.middle c.rest c.half runs.raised at_rest (rest_reached c.rest runs.denominators.2) bounds 2 refl t h in
      let b = fader_some 0 c.start c.half c.done runs.finished a.0 a.2 bounds 2 refl t h in
      (b.0, backward (set_fader 1 t at_rest) 1 t a.0 a.1 ∙ backward (set_fader 0 t a.0) 0 t b.0 b.1, b.2)
  all_reached (suc (suc (suc m))) l t h = absurd (omega arith)

  weight_of : (count : ℕ) → count ≤ 2 → (bounds count).weight ≤ c.weight
  weight_of zero l = omega (arith, runs.first.weight_stays, runs.second.weight_stays, runs.weights)
  weight_of (suc zero) l = omega (arith, runs.second.weight_stays, runs.weights)
  weight_of (suc (suc m)) l = runs.weights

  module _ (count : ℕ) (rows : List Constraint) (few_faders : count ≤ 2) where
    abbrev Weighs : Line → Type 0
    Weighs r = (j : ℕ) → nat_abs (get_or r.weights j (pos 0)) ≤ c.weight

    concluded_moderate : (t : List Line) → All (Held bounds count) t → Moderate c.done c.weight (concluded count rows t)
    concluded_moderate t h = by (first_best (λ x y. ltb (support x) (support y)) (filter is_false t)) (best_given Weighs (λ x y. ltb (support x) (support y)) (filter is_false t) weighed)
      where
        weighed : All Weighs (filter is_false t)
        weighed =
            All-weaker (λ r. (is_false r ≡ true) × Held bounds count r) Weighs
            (λ r p j. omega (arith, (standing_bounded bounds count r (and_parts (stands r) (lt_z r.side (pos 0) || (r.strict && not (lt_z (pos 0) r.side))) p.0).0 p.1).weights j, weight_of count few_faders))
            (filter is_false t) (both (λ r. is_false r ≡ true) (Held bounds count) (filter is_false t) (kept_by_passes is_false t) (all_kept_by is_false (Held bounds count) t h))

        by : (o : Option Line) → Given Weighs o → Moderate c.done c.weight (elim o [ Some r ↦ Verdict.clash (take (length rows) r.weights) | None ↦ level_verdict (all_set count t at_rest) ])
        by (Some r) w = take_near (length rows) r.weights c.weight w
        by None w = let y = all_reached count few_faders t h in subst (λ (o : Result Levels Fault). Moderate c.done c.weight (level_verdict o)) (sym y.1) y.2

    pub decided_moderate : length rows ≤ 10 → first_equation 0 rows ≡ None → All (RowBounded c.start) rows → Moderate c.done c.weight (elimination_verdict count rows)
    decided_moderate few plain h =
        let t = carried 0 rows in
        let u = eliminated_all count few_faders t (omega (arith, carried_length 0 rows)) (carried_held bounds runs.unit 0 rows h) in
        by (first_equation 0 rows) plain
        (subst (λ (o : Result (List Line) Fault). Moderate c.done c.weight (worked_out count rows o)) (sym u.1) (concluded_moderate u.0 u.2))
      where
        by : (o : Option ℕ) → o ≡ None → Moderate c.done c.weight (worked_out count rows (all_eliminated count 0 (carried 0 rows))) → Moderate c.done c.weight (elim o [ Some i ↦ Verdict.fault (form_not_taken i) | None ↦ worked_out count rows (all_eliminated count 0 (carried 0 rows)) ])
        by None e m = m
        by (Some i) e m = absurd (none_some i (sym e))
