-- The law of Ask and of Blame from the engine's meaning. Assumes nothing.
use Rattle.std.proofs.Common.{◌≡◌, ℕ, zero, suc, ◌≤◌, ◌⊎◌, ◌↔◌, List, [], ◌∷◌, get_or, take, ℤ, pos, ◌+ℤ◌, ◌*ℤ◌, Option, Result, sym, refl, ap, ◌∙◌, subst, arith}
use Rattle.std.proofs.lemmas.Int.{ints}
use Rattle.std.specs.List.{AllByRecursion as All}
use Rattle.integers.specs.Vectors.{dot}
use Rattle.rows.specs.Rows.{Constraint, Compares, MeetsAll, Feasible, Infeasible}
use Rattle.rows.proofs.Excluding.{excludes}
use Rattle.engine.specs.declared.fault.Fault.{Fault}
use Rattle.engine.specs.declared.refusal.Refusal.TheVariants.{TooLarge}
use Rattle.engine.specs.declared.refusal.Refusal.TheVariants.{Feasible as HasPreset}
use Rattle.engine.specs.Verdicts.{Verdict, ValidRow, Valid, Right}
use Rattle.engine.specs.Exactness.{Taken}
use Rattle.plans.specs.Plans.{PlanView}
use Rattle.plans.specs.Sounding.{sounding_rows}
use Rattle.rows.specs.Clashes.{Clash}
use Rattle.console.specs.Replies.{Reply}
use Rattle.console.specs.Exact.{walk_reply, blame_reply}
use Rattle.console.specs.Law.{all_rows, set_down, IsClash, IsMet, IsTooLarge, AskLaw, BlameLaw}
use Rattle.console.specs.Walks.{numbered, Walk, or_fault, first_fault, walked, outcome}
use Rattle.console.proofs.Walking.{walk_is, walk_minimal, walk_exists}
use Rattle.console.proofs.Numbering.{rows_numbered}
use Rattle.console.proofs.Showing.{clash_spread}

-- ---- only the levels of the desk's faders count
dot_zero : (cs ns : List ℤ) → ((k : ℕ) → get_or cs k (pos 0) ≡ pos 0) → dot cs ns ≡ pos 0
dot_zero [] ns z = refl
dot_zero (c ∷ cs) [] z = refl
dot_zero (c ∷ cs) (x ∷ ns) z = (λ j. z 0 j *ℤ x +ℤ dot_zero cs ns (λ k. z (suc k)) j) ∙ omega (arith, ints)

dot_take : (n : ℕ) (cs ns : List ℤ) → ((k : ℕ) → n ≤ k → get_or cs k (pos 0) ≡ pos 0) → dot cs (take n ns) ≡ dot cs ns
dot_take n [] ns z = refl
dot_take zero (c ∷ cs) ns z = sym (dot_zero (c ∷ cs) ns (λ k. z k (omega arith)))
dot_take (suc n) (c ∷ cs) [] z = refl
dot_take (suc n) (c ∷ cs) (x ∷ ns) z = ap (λ (t : ℤ). c *ℤ x +ℤ t) (dot_take n cs ns (λ k h. z (suc k) (omega arith)))

meets_take : (count : ℕ) (ns : List ℤ) (d : ℕ) (rows : List Constraint) → All (ValidRow count) rows → MeetsAll ns d rows → MeetsAll (take count ns) d rows
meets_take count ns d [] valid meets = tt
meets_take count ns d (r ∷ rows) valid meets = (
  subst (λ (t : ℤ). Compares r.kind t (r.side *ℤ pos d)) (sym (dot_take count r.coefficients ns valid.0.unused)) meets.0,
  meets_take count ns d rows valid.1 meets.1,
)

-- ---- Ask
module _ (p : PlanView) (valid : Valid p.count (sounding_rows p.rules)) where
  set_down_law : (v : Verdict) → Right p.count (sounding_rows p.rules) v → (Taken v → IsClash (set_down p v) ↔ Infeasible (sounding_rows p.rules))
      × (Taken v → (Infeasible (sounding_rows p.rules) → ⊥) → IsMet (sounding_rows p.rules) (set_down p v)) × ((Taken v → ⊥) → IsTooLarge (set_down p v))
  set_down_law (Verdict.preset ns d) right = (
    (λ _. ((λ c. absurd c), λ infeasible. infeasible ns d right.0.positive right.1)),
    (λ _ _. (right.0.positive, meets_take p.count ns d (sounding_rows p.rules) valid.each right.1)),
    λ taken. absurd (taken tt),
  )
  set_down_law (Verdict.clash ws) right = (
    (λ _. ((λ _. excludes ws (sounding_rows p.rules) right), λ _. tt)),
    (λ _ feasible. absurd (feasible (excludes ws (sounding_rows p.rules) right))),
    λ taken. absurd (taken tt),
  )
  set_down_law (Verdict.fault f) right = ((λ taken. absurd taken), (λ taken. absurd taken), λ _. (f, refl))

  -- the weights of a reply that is a clash
  weights_of : List ℤ → Reply → List ℤ
  weights_of other Reply.done = other
  weights_of other (Reply.preset ns d) = other
  weights_of other (Reply.clash ws) = ws
  weights_of other (Reply.blamed is) = other
  weights_of other (Reply.refused e) = other

  set_down_shows : (v : Verdict) → Right p.count (sounding_rows p.rules) v → (ws : List ℤ) → set_down p v ≡ Reply.clash ws → Clash ws (all_rows p.rules)
  unfolding weights_of
  set_down_shows (Verdict.preset ns d) right ws e = absurd (subst IsClash (sym e) tt)
  set_down_shows (Verdict.clash vs) right ws e = subst (λ (us : List ℤ). Clash us (all_rows p.rules)) (ap (weights_of ws) e) (clash_spread p.rules vs right)
  set_down_shows (Verdict.fault f) right ws e = absurd (subst IsClash (sym e) tt)

  pub ask_lawful : (verdict : ℕ → List Constraint → Verdict) (r : Reply) → Right p.count (sounding_rows p.rules) (verdict p.count (sounding_rows p.rules)) → r ≡ set_down p (verdict p.count (sounding_rows p.rules)) → AskLaw verdict p r
  ask_lawful verdict r right own =
      let law = set_down_law (verdict p.count (sounding_rows p.rules)) right in
      record {
        own = own;
        clashes = λ taken. subst (λ (x : Reply). IsClash x ↔ Infeasible (sounding_rows p.rules)) (sym own) (law.0 taken);
        meets = λ taken some. subst (IsMet (sounding_rows p.rules)) (sym own) (law.1 taken some);
        large = λ taken. subst IsTooLarge (sym own) (law.2 taken);
        shows = λ ws e. set_down_shows (verdict p.count (sounding_rows p.rules)) right ws (sym own ∙ e);
      }

-- ---- Blame
module _ (verdict : ℕ → List Constraint → Verdict) (p : PlanView) (valid : Valid p.count (sounding_rows p.rules))
    (right : (rows : List Constraint) → Valid p.count rows → Right p.count rows (verdict p.count rows)) where
  abbrev rows : List Constraint
  rows = sounding_rows p.rules

  walk_outcome : {lists : List (List Constraint)} {final : List (ℕ × Constraint)} → Walk [] (numbered 0 p.rules) lists final → walked (verdict p.count) [] (numbered 0 p.rules) ≡ outcome (first_fault (verdict p.count) lists) final
  walk_outcome walk = walk_is p.count (verdict p.count) right walk (subst (Valid p.count) (sym (rows_numbered 0 p.rules)) valid)

  by_fault : (v : Verdict) (walk : Result (List (ℕ × Constraint)) Fault) (f : Fault) → v ≡ Verdict.fault f → blame_reply v walk ≡ Reply.refused (TooLarge f)
  by_fault v walk f e = ap (λ (x : Verdict). blame_reply x walk) e

  by_feasible : (v : Verdict) (walk : Result (List (ℕ × Constraint)) Fault) → Right p.count (sounding_rows p.rules) v → Taken v → Feasible (sounding_rows p.rules) → blame_reply v walk ≡ Reply.refused HasPreset
  by_feasible (Verdict.preset ns d) walk right taken feasible = refl
  by_feasible (Verdict.clash ws) walk right taken (ns, d, positive, meets) = absurd (excludes ws (sounding_rows p.rules) right ns d positive meets)
  by_feasible (Verdict.fault f) walk right taken feasible = absurd taken

  by_walk : (v : Verdict) (walk : Result (List (ℕ × Constraint)) Fault) (later : Option Fault) (final : List (ℕ × Constraint)) → Right p.count (sounding_rows p.rules) v → Infeasible (sounding_rows p.rules) → walk ≡ outcome later final → blame_reply v walk ≡ walk_reply (outcome (or_fault v later) final)
  by_walk (Verdict.preset ns d) walk later final right infeasible e = absurd (infeasible ns d right.0.positive right.1)
  by_walk (Verdict.clash ws) walk later final right infeasible e = ap walk_reply e
  by_walk (Verdict.fault f) walk later final right infeasible e = refl

  pub blame_lawful : ((rows : List Constraint) → Feasible rows ⊎ Infeasible rows) → (r : Reply)
      → r ≡ blame_reply (verdict p.count (sounding_rows p.rules)) (walked (verdict p.count) [] (numbered 0 p.rules)) → BlameLaw verdict p r
  blame_lawful decide r own =
      let v = verdict p.count (sounding_rows p.rules) in
      let walk = walked (verdict p.count) [] (numbered 0 p.rules) in
      let rv = right (sounding_rows p.rules) valid in
      record {
        first = λ f e. own ∙ by_fault v walk f e;
        feasible = λ taken feasible. own ∙ by_feasible v walk rv taken feasible;
        names = λ lists final infeasible path none. (
          own ∙ by_walk v walk (first_fault (verdict p.count) lists) final rv infeasible (walk_outcome path) ∙ ap (λ (o : Option Fault). walk_reply (outcome o final)) none,
          walk_minimal path (subst Infeasible (sym (rows_numbered 0 p.rules)) infeasible),
        );
        large = λ lists final infeasible path f some.
            own ∙ by_walk v walk (first_fault (verdict p.count) lists) final rv infeasible (walk_outcome path) ∙ ap (λ (o : Option Fault). walk_reply (outcome o final)) some;
        walks = walk_exists decide [] (numbered 0 p.rules);
      }
