-- The working's verdict is right. Assumes nothing.
use Rattle.std.specs.Prelude.{◌≡◌, ℕ, ◌+◌, ◌≤◌, Bool, true, false, cond, not, ◌&&◌, ◌||◌, List, [], ◌∷◌, length, take, ℤ, pos, ◌*ℤ◌, ◌≤ℤ◌, Some, None, Ok, Err, filter, Option, Result, ◌≢◌, int_lt, nat_lt, refl}
use Rattle.std.proofs.Common.{sym, subst, subst₂, ◌∙◌, inl, inr, arith, lit≤}
use Rattle.std.proofs.Math.Nat.{eq-one_of_dvd-one}
use borrow.Author.Differences.{lt-true, lt-false}
use Rattle.std.specs.List.{AllByRecursion}
use Rattle.std.proofs.lemmas.Bool.{false≢true, true≢false, and_parts, cases_lt}
use Rattle.std.proofs.ByRecursion.{All-weaker, all_kept_by, kept_by_passes}
use Rattle.integers.specs.Vectors.{dot}
use Rattle.integers.proofs.Laws.{*ℤ-one}
use Rattle.integers.proofs.Linear.{linear}
use Rattle.integers.proofs.VectorLaws.{dot_none}
use Rattle.rows.specs.declared.kind.Kind.{Kind}
use Rattle.rows.specs.declared.kind.Kind.TheVariants.{AtMost, Below, Equal}
use Rattle.engine.specs.declared.fault.Fault.{Fault}
use Rattle.rows.specs.Limits.{faders, most_rows, Within}
use Rattle.rows.specs.Rows.{Constraint, Compares, MeetsAll}
use Rattle.rows.specs.Clashes.{Weighs, Weighed, total, Strictly, Falsehood, Clash}
use Rattle.engine.specs.Verdicts.{Verdict, Valid, Right, form_not_taken}
use Rattle.rows.proofs.Fits.{zero_within, within_take}
use Rattle.rows.proofs.Weighing.{column_used, falsehood_used}
use Rattle.elimination.specs.Table.{Line, coefficient, stands, all_eliminated}
use Rattle.elimination.specs.Levels.{Levels, first_best}
use Rattle.elimination.specs.Working.{is_equation, is_strict, first_equation, carried, is_false, support, all_set, at_rest, level_verdict, concluded, worked_out}
use Rattle.elimination.specs.Sound.{Sound}
use Rattle.elimination.specs.Alls.{both, best_in}
use Rattle.elimination.specs.Unders.{Under, Held}
use Rattle.rows.proofs.Alls.{none_some}
use Rattle.elimination.specs.Setting.{Met}
use Rattle.elimination.specs.Tracing.{NotNegative, Kept, zeros_at}
use Rattle.elimination.specs.Stages.{Stages, stages, stages_kept, Good, back}

-- ---- the rows and their lines

compares : (k : Kind) (i : ℕ) (o : Option ℕ) (a b : ℤ) → cond (is_equation k) (Some i) o ≡ None → Under (is_strict k) a b → Compares k a b
compares AtMost i o a b e h = h
compares Below i o a b e h = h
compares Equal i o a b e h = absurd (none_some i (sym e))

rest_none : (k : Kind) (i : ℕ) (o : Option ℕ) → cond (is_equation k) (Some i) o ≡ None → o ≡ None
rest_none AtMost i o e = e
rest_none Below i o e = e
rest_none Equal i o e = absurd (none_some i (sym e))

carried_met : (i : ℕ) (rows : List Constraint) (x : Levels) → first_equation i rows ≡ None → AllByRecursion (Met x) (carried i rows) → MeetsAll x.numerators x.denominator rows
carried_met i [] x e h = tt
carried_met i (r ∷ rows) x e h =
    let o = first_equation (i + 1) rows in
    (compares r.kind i o (dot r.coefficients x.numerators) (r.side *ℤ pos x.denominator) e (h.0 refl), carried_met (i + 1) rows x (rest_none r.kind i o e) h.1)

-- ---- a false line is a clash

weighs_any : (k : Kind) (w : ℤ) → pos 0 ≤ℤ w → Weighs w k
weighs_any AtMost w h = h
weighs_any Below w h = h
weighs_any Equal w h = tt

weighed_used : (ws : List ℤ) (rows : List Constraint) → length rows ≤ length ws → NotNegative ws → Weighed (take (length rows) ws) rows
weighed_used ws [] l h = tt
weighed_used [] (r ∷ rows) l h = absurd (omega arith)
weighed_used (w ∷ ws) (r ∷ rows) l h = (weighs_any r.kind w h.0, weighed_used ws rows (omega arith) h.1)

abbrev False : Line → Type 0
False r = is_false r ≡ true

module _ (count : ℕ) (rows : List Constraint) (r : Line) (h : Kept count rows count r) (st : stands r ≡ true) where
  -- it has no coefficients left
  none_left : (k : ℕ) → coefficient r k ≡ pos 0
  none_left k = elim (cases_lt k count) [ inl l ↦ h.clear st k l | inr l ↦ h.unused k l ]

  falsehood_of : (int_lt r.side (pos 0) || (r.strict && not (int_lt (pos 0) r.side))) ≡ true → Falsehood r.weights rows
  falsehood_of e = by (int_lt r.side (pos 0)) r.strict (int_lt (pos 0) r.side) refl refl h.from.strictly e
    where
      t : total r.weights rows ≡ r.side
      t = h.from.totals

      by : (a s b : Bool) → int_lt r.side (pos 0) ≡ a → int_lt (pos 0) r.side ≡ b → (s ≡ true → Strictly r.weights rows) → (a || (s && not b)) ≡ true → Falsehood r.weights rows
      by true s b p q f e = inl (omega (arith, linear, lt-true, t))
      by false true true p q f e = absurd (false≢true e)
      by false true false p q f e = inr (omega (arith, linear, lt-false, t), f refl)
      by false false b p q f e = absurd (false≢true e)

  -- a line that is not false is met where all faders are at 0
  met_at_rest : (int_lt r.side (pos 0) || (r.strict && not (int_lt (pos 0) r.side))) ≡ false → Held at_rest.numerators at_rest.denominator r
  met_at_rest e = subst₂ (Under r.strict) (sym (dot_none r.coefficients at_rest.numerators none_left)) (sym (*ℤ-one r.side)) (by (int_lt r.side (pos 0)) r.strict (int_lt (pos 0) r.side) refl refl e)
    where
      by : (a s b : Bool) → int_lt r.side (pos 0) ≡ a → int_lt (pos 0) r.side ≡ b → (a || (s && not b)) ≡ false → Under s (pos 0) r.side
      by true s b p q e = absurd (true≢false e)
      by false true true p q e = omega (arith, linear, lt-true)
      by false true false p q e = absurd (true≢false e)
      by false false b p q e = omega (arith, linear, lt-false)

pub false_clash : (count : ℕ) (rows : List Constraint) → length rows ≤ most_rows → (r : Line) → Kept count rows count r → False r → Clash (take (length rows) r.weights) rows
false_clash count rows short r h e =
    let p = and_parts (stands r) (int_lt r.side (pos 0) || (r.strict && not (int_lt (pos 0) r.side))) e in
    record {
      weighed = weighed_used r.weights rows (omega (arith, h.from.long)) h.from.not_negative;
      within = within_take (length rows) r.weights h.from.within;
      columns = λ k. column_used r.weights rows k ∙ h.from.columns k ∙ none_left count rows r h p.0 k;
      falsehood = falsehood_used r.weights rows (falsehood_of count rows r h p.0 p.1);
    }

-- ---- no line is false

cons_nil : {X : Type 0} (x : X) (xs : List X) → x ∷ xs ≢ []
cons_nil x xs e = let z : ◌≡◌ {A = Bool} true false = cc in true≢false z

kept_nothing : {X : Type 0} (test : X → Bool) (xs : List X) → filter test xs ≡ [] → AllByRecursion (λ x. test x ≡ false) xs
kept_nothing test [] e = tt
kept_nothing {X} test (x ∷ xs) e = by (test x) refl e (kept_nothing test xs)
  where
    by : (b : Bool) → test x ≡ b → cond b (x ∷ filter test xs) (filter test xs) ≡ [] → (filter test xs ≡ [] → AllByRecursion (λ y. test y ≡ false) xs) → (test x ≡ false) × AllByRecursion (λ y. test y ≡ false) xs
    by true p e f = absurd (cons_nil x (filter test xs) e)
    by false p e f = (p, f e)

met : (count : ℕ) (rows : List Constraint) (r : Line) → Kept count rows count r → is_false r ≡ false → Met at_rest r
met count rows r h e st =
    met_at_rest count rows r h st (subst (λ (b : Bool). (b && (int_lt r.side (pos 0) || (r.strict && not (int_lt (pos 0) r.side)))) ≡ false) st e)

rest_good : (count : ℕ) → Good count count at_rest
rest_good count = record {
  formed = record {
    places = refl;
    within = λ k. subst Within (sym (zeros_at faders k)) zero_within;
    positive = lit≤ tt;
    bounded = lit≤ tt;
    least = λ g p q. eq-one_of_dvd-one p;
    unused = λ k h. zeros_at faders k;
  };
  unset = λ j h. zeros_at faders j;
}

-- ---- the verdict

module _ (count : ℕ) (rows : List Constraint) (valid : Valid count rows) (plain : first_equation 0 rows ≡ None) where
  levels_right : (f : List Line) → Stages rows count f → filter is_false f ≡ [] → (o : Result Levels Fault) → all_set count f at_rest ≡ o → Right count rows (level_verdict o)
  levels_right f s n (Ok y) e =
      let kept = stages_kept count rows valid count f s in
      let rest : AllByRecursion (Met at_rest) f = All-weaker (λ r. Kept count rows count r × (is_false r ≡ false)) (Met at_rest) (λ r p. met count rows r p.0 p.1) f (both (Kept count rows count) (λ r. is_false r ≡ false) f kept (kept_nothing is_false f n)) in
      let b = back count rows valid count f f s (λ j l. (refl, refl)) (omega arith) at_rest (rest_good count) rest y e in
      (b.0.formed, carried_met 0 rows y plain b.1)
  levels_right f s n (Err g) e = tt

  concluded_right : (f : List Line) → Stages rows count f → Right count rows (concluded count rows f)
  concluded_right f s = by (filter is_false f) refl
    where
      both_hold : AllByRecursion (λ r. Kept count rows count r × False r) (filter is_false f)
      both_hold = both (Kept count rows count) False (filter is_false f) (all_kept_by is_false (Kept count rows count) f (stages_kept count rows valid count f s)) (kept_by_passes is_false f)

      by : (rs : List Line) → filter is_false f ≡ rs → Right count rows (elim (first_best (λ x y. nat_lt (support x) (support y)) rs) [ Some r ↦ Verdict.clash (take (length rows) r.weights) | None ↦ level_verdict (all_set count f at_rest) ])
      by [] n = levels_right f s n (all_set count f at_rest) refl
      by (r ∷ rs) n =
          let a : AllByRecursion (λ r. Kept count rows count r × False r) (r ∷ rs) = subst (AllByRecursion (λ r. Kept count rows count r × False r)) n both_hold in
          let b = best_in (λ r. Kept count rows count r × False r) (λ x y. nat_lt (support x) (support y)) r rs a.0 a.1 in
          false_clash count rows valid.short _ b.0 b.1

  worked_right : (o : Result (List Line) Fault) → all_eliminated count 0 (carried 0 rows) ≡ o → Right count rows (worked_out count rows o)
  worked_right (Ok f) e = concluded_right f (stages rows count f e)
  worked_right (Err g) e = tt

pub sound : Sound
sound count rows valid = by (first_equation 0 rows) refl
  where
    by : (o : Option ℕ) → first_equation 0 rows ≡ o → Right count rows (elim o [ Some i ↦ Verdict.fault (form_not_taken i) | None ↦ worked_out count rows (all_eliminated count 0 (carried 0 rows)) ])
    by None e = worked_right count rows valid e (all_eliminated count 0 (carried 0 rows)) refl
    by (Some i) e = tt
