-- What a loaded engine's decision says to its user. Assumes nothing.
use Rattle.std.proofs.Common.{◌≡◌, ℕ, suc, ◌<◌, ◌≤◌, Bool, ltb, List, [], ◌∷◌, length, ℤ, Some, None, Ok, Err, Option, Result, sym, refl, ap, ◌∙◌, subst, arith, MatchResult}
use Rattle.std.proofs.lemmas.Bool.{ne_eqb, le-ltb}
use Rattle.engine.specs.declared.answer.Answer.{Answer as Kept}
use Rattle.engine.specs.declared.refusal.Refusal.{Refusal}
use Rattle.engine.specs.declared.refusal.Refusal.TheVariants.{NoPlan, ShortTable}
use Rattle.rows.specs.Rows.{Constraint}
use Rattle.rows.specs.Clashes.{Weighed}
use Rattle.engine.specs.Verdicts.{Verdict, Right}
use Rattle.engine.specs.Interface.{View, first_refusal, refused_if, Decided, DecidedAt, Settles}
use Rattle.engine.specs.States.{said}
use Rattle.engine.specs.Deciding.{rows_refusal, loaded, Tells, Replies, RepliesAt, Readable}

-- one weight for each row
weighed_length : (ws : List ℤ) (rows : List Constraint) → Weighed ws rows → length ws ≡ length rows
weighed_length [] [] h = refl
weighed_length [] (r ∷ rows) h = absurd h
weighed_length (w ∷ ws) [] h = absurd h
weighed_length (w ∷ ws) (r ∷ rows) h = ap suc (weighed_length ws rows h.1)

-- what an engine held before its decision, and after it
module _ (verdict : ℕ → List Constraint → Verdict) (needed held : ℕ) (v w : View) (some : 0 < v.count) where
  -- the table's refusal is the only one that is left
  pub decided_at : {U : Type 0} (r : Result U Refusal) → Decided verdict needed held v r w → DecidedAt (refused_if (ltb held needed) ShortTable) (verdict v.count v.rows) v r w
  decided_at r d =
      let short = refused_if (ltb held needed) ShortTable in
      subst (λ (o : Option Refusal). DecidedAt o (verdict v.count v.rows) v r w) (ap (λ (b : Bool). first_refusal short (refused_if b NoPlan)) (ne_eqb v.count 0 (λ e. omega arith)) ∙ alone short) d
    where
      alone : (o : Option Refusal) → first_refusal o None ≡ o
      alone None = refl
      alone (Some e) = refl

  -- it decided
  module _ {U : Type 0} (u : U) (d : Decided verdict needed held v (Ok u) w) where
    settled : (refused_if (ltb held needed) ShortTable ≡ None) × Settles (verdict v.count v.rows) v (Ok u) w
    settled = by (refused_if (ltb held needed) ShortTable) (decided_at (Ok u) d)
      where
        by : (o : Option Refusal) → DecidedAt o (verdict v.count v.rows) v (Ok u) w → (o ≡ None) × Settles (verdict v.count v.rows) v (Ok u) w
        by None h = (refl, h)
        by (Some x) h = absurd h

    pub decision_rows : w.rows ≡ v.rows
    decision_rows = by (verdict v.count v.rows) settled.1
      where
        by : (t : Verdict) → Settles t v (Ok u) w → w.rows ≡ v.rows
        by (Verdict.preset ns d) h = ap (λ (x : View). x.rows) h
        by (Verdict.clash ws) h = ap (λ (x : View). x.rows) h
        by (Verdict.fault f) h = absurd h

    pub decision_readable : Right v.count v.rows (verdict v.count v.rows) → Readable (length v.rows) w.answer
    decision_readable right = by (verdict v.count v.rows) right settled.1
      where
        by : (t : Verdict) → Right v.count v.rows t → Settles t v (Ok u) w → Readable (length v.rows) w.answer
        by (Verdict.preset ns d) p h =
            let f = p.0 in
            subst (λ (x : View). Readable (length v.rows) x.answer) (sym h) (refl, f.places, f.within, f.positive, f.bounded)
        by (Verdict.clash ws) c h = subst (λ (x : View). Readable (length v.rows) x.answer) (sym h) (weighed_length ws v.rows c.weighed, c.within)
        by (Verdict.fault f) p h = absurd h

    decision_read : (a : Kept) → said (length v.rows) a ≡ w.answer → RepliesAt (refused_if (ltb held needed) ShortTable) (length v.rows) (verdict v.count v.rows) (Ok a)
    decision_read a e = subst (λ (o : Option Refusal). RepliesAt o (length v.rows) (verdict v.count v.rows) (Ok a)) (sym settled.0) (by (verdict v.count v.rows) settled.1)
      where
        by : (t : Verdict) → Settles t v (Ok u) w → Tells (length v.rows) t (Ok a)
        by (Verdict.preset ns d) h = e ∙ ap (λ (x : View). x.answer) h
        by (Verdict.clash ws) h = e ∙ ap (λ (x : View). x.answer) h
        by (Verdict.fault f) h = absurd h

    pub decision_reply : (r : Result Kept Refusal) → MatchResult r (λ a. said (length v.rows) a ≡ w.answer) (λ _. ⊥) → RepliesAt (refused_if (ltb held needed) ShortTable) (length v.rows) (verdict v.count v.rows) r
    decision_reply (Ok a) e = decision_read a e
    decision_reply (Err e) h = absurd h

-- the reply of a loaded engine as the reply to the rows
pub loaded_replies : (verdict : ℕ → List Constraint → Verdict) (needed count : ℕ) (rows : List Constraint) (held : ℕ) (v : View) (r : Result Kept Refusal) → rows_refusal count rows ≡ None → v ≡ loaded count rows
    → RepliesAt (refused_if (ltb held needed) ShortTable) (length v.rows) (verdict v.count v.rows) r → Replies verdict needed count rows held r
loaded_replies verdict needed count rows held v r taken at h =
    let here : RepliesAt (refused_if (ltb held needed) ShortTable) (length rows) (verdict count rows) r = subst (λ (x : View). RepliesAt (refused_if (ltb held needed) ShortTable) (length x.rows) (verdict x.count x.rows) r) at h in
    subst (λ (o : Option Refusal). RepliesAt (first_refusal o (refused_if (ltb held needed) ShortTable)) (length rows) (verdict count rows) r) (sym taken) here

-- where neither the rows nor the table are refused, the reply is the verdict
pub told : (verdict : ℕ → List Constraint → Verdict) (needed count : ℕ) (rows : List Constraint) (held : ℕ) (r : Result Kept Refusal) → rows_refusal count rows ≡ None → needed ≤ held
    → Replies verdict needed count rows held r → Tells (length rows) (verdict count rows) r
told verdict needed count rows held r taken room h =
    let last : refused_if (ltb held needed) ShortTable ≡ None = ap (λ (b : Bool). refused_if b ShortTable) (le-ltb held needed room) in
    subst (λ (o : Option Refusal). RepliesAt o (length rows) (verdict count rows) r) (ap (λ (o : Option Refusal). first_refusal o (refused_if (ltb held needed) ShortTable)) taken ∙ last) h
