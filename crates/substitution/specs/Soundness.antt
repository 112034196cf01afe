-- Over an engine whose verdicts are right, the verdicts of substitution are right. Assumes nothing.
use Rattle.std.specs.Prelude.{◌≡◌, ℕ, zero, suc, ◌+◌, ◌<◌, ◌≤◌, Bool, true, false, cond, List, [], ◌∷◌, ◌++◌, map, length, ℤ, pos, ◌*ℤ◌, Some, None, Ok, Err, Option, Result, nat_lt, slice_index_or, unsigned_abs, refl}
use Rattle.std.proofs.Common.{sym, ap, subst, ◌∙◌, inl, inr, arith}
use Rattle.std.proofs.Math.IntN.{zero-*ℤ}
use Rattle.std.specs.List.{AllByRecursion}
use Rattle.std.proofs.lemmas.Bool.{false≢true, ltb-true, cases_lt}
use Rattle.std.proofs.lemmas.List.{length-append, length-map}
use Rattle.std.proofs.ByRecursion.{All-weaker, All-append}
use Rattle.integers.specs.Vectors.{dot}
use Rattle.integers.proofs.VectorLaws.{dot_none}
use Rattle.engine.specs.declared.fault.Fault.{Fault}
use Rattle.rows.specs.declared.kind.Kind.{Kind}
use Rattle.rows.specs.declared.kind.Kind.TheVariants.{AtMost, Below, Equal}
use Rattle.rows.specs.Limits.{most_rows}
use Rattle.rows.specs.Rows.{Constraint, Compares, Meets, MeetsAll}
use Rattle.rows.specs.Presets.{WellFormed}
use Rattle.engine.specs.Verdicts.{Verdict, ValidRow, Valid, Right, number_beyond}
use Rattle.rows.proofs.Alls.{unmap, mapped, unjoin, none_some}
use Rattle.substitution.specs.Reduction.{Kept, Pivot, Reduced, Reduced.clashing, Reduced.faulty, Reduced.left, is_equation, first_fader, at, cancel_all, contradiction, kept_rows, reduced}
use Rattle.substitution.specs.Lifting.{completed, all_completed, lifted_weights, weights_verdict, lifted}
use Rattle.substitution.specs.Working.{handed_down, decided}
use Rattle.substitution.specs.Sound.{SoundOver}
use Rattle.substitution.specs.Cancelling.{zero_is, Become, all_become, become_on, become_back, become_length}
use Rattle.substitution.specs.Tracing.{Traced, listed_traced, becomes_traced}
use Rattle.substitution.specs.Clashing.{contradiction_clash, lifted_clash}
use Rattle.substitution.specs.Completing.{Met, completed_back, completed_pivot, completed_formed}

-- ---- the lowest fader of a row

no_fader : (k : ℕ) (xs : List ℤ) → first_fader k xs ≡ None → (j : ℕ) → slice_index_or xs j (pos 0) ≡ pos 0
no_fader k [] e j = refl
no_fader k (a ∷ more) e j = by (nat_lt 0 (unsigned_abs a)) refl e (no_fader (k + 1) more) j
  where
    by : (b : Bool) → nat_lt 0 (unsigned_abs a) ≡ b → cond b (Some k) (first_fader (k + 1) more) ≡ None → (first_fader (k + 1) more ≡ None → (j : ℕ) → slice_index_or more j (pos 0) ≡ pos 0) → (j : ℕ) → slice_index_or (a ∷ more) j (pos 0) ≡ pos 0
    by true t e ih j = absurd (none_some k (sym e))
    by false t e ih zero = zero_is a t
    by false t e ih (suc j) = ih e j

fader_from : (k : ℕ) (xs : List ℤ) (i : ℕ) → first_fader k xs ≡ Some i → (j : ℕ) × (i ≡ k + j) × (0 < unsigned_abs (slice_index_or xs j (pos 0)))
fader_from k [] i e = absurd (none_some i e)
fader_from k (a ∷ more) i e = by (nat_lt 0 (unsigned_abs a)) refl e (fader_from (k + 1) more i)
  where
    same : (x y : ℕ) → ◌≡◌ {A = Option ℕ} (Some x) (Some y) → x ≡ y
    same x y e = cc

    by : (b : Bool) → nat_lt 0 (unsigned_abs a) ≡ b → cond b (Some k) (first_fader (k + 1) more) ≡ Some i → (first_fader (k + 1) more ≡ Some i → (j : ℕ) × (i ≡ (k + 1) + j) × (0 < unsigned_abs (slice_index_or more j (pos 0)))) → (j : ℕ) × (i ≡ k + j) × (0 < unsigned_abs (slice_index_or (a ∷ more) j (pos 0)))
    by true t e ih = (0, omega (arith, same k i e), ltb-true 0 (unsigned_abs a) t)
    by false t e ih = let h = ih e in (suc h.0, omega (arith, h.1), h.2)

pub has_fader : (xs : List ℤ) (i : ℕ) → first_fader 0 xs ≡ Some i → 0 < unsigned_abs (slice_index_or xs i (pos 0))
has_fader xs i e =
    let h = fader_from 0 xs i e in
    let s : h.0 ≡ i = omega (arith, h.1) in
    subst (λ (j : ℕ). 0 < unsigned_abs (slice_index_or xs j (pos 0))) s h.2

-- ---- the listed rows

kept_met : (i : ℕ) (rows : List Constraint) (ns : List ℤ) (d : ℕ) → AllByRecursion (Met ns d) (kept_rows i rows) → MeetsAll ns d rows
kept_met i [] ns d h = tt
kept_met i (r ∷ rows) ns d h = (h.0, kept_met (i + 1) rows ns d h.1)

pub kept_length : (i : ℕ) (rows : List Constraint) → length (kept_rows i rows) ≡ length rows
kept_length i [] = refl
kept_length i (r ∷ rows) = ap suc (kept_length (i + 1) rows)

equation_is : (k : Kind) → is_equation k ≡ true → k ≡ Equal
equation_is AtMost e = absurd (false≢true e)
equation_is Below e = absurd (false≢true e)
equation_is Equal e = refl

module _ (count : ℕ) (rows : List Constraint) (valid : Valid count rows) where
  -- levels that meet the rows, completed by the pivots, are a right answer
  abbrev Completes : List Kept → List Kept → List Pivot → Type 0
  Completes before after ps = (ns : List ℤ) (d : ℕ) → WellFormed count ns d → AllByRecursion (Met ns d) before → AllByRecursion (Met ns d) after → Right count rows (all_completed ps ns d)

  record State (before after : List Kept) (ps : List Pivot) : Type 0 where
    short : length before + length after ≤ most_rows
    earlier : AllByRecursion (Traced count rows) before
    later : AllByRecursion (Traced count rows) after
    completes : Completes before after ps

  start : State [] (kept_rows 0 rows) []
  start = record {
    short = omega (arith, valid.short, kept_length 0 rows);
    earlier = tt;
    later = listed_traced count rows valid.short 0 rows refl valid.each;
    completes = λ ns d w p q. (w, kept_met 0 rows ns d q);
  }

  -- ---- one place

  passed : (before : List Kept) (r : Kept) (after : List Kept) (ps : List Pivot) → State before (r ∷ after) ps → State (before ++ r ∷ []) after ps
  passed before r after ps st = record {
    short = omega (arith, st.short, length-append before (r ∷ []));
    earlier = All-append (Traced count rows) before (r ∷ []) st.earlier (st.later.0, tt);
    later = st.later.1;
    completes = λ ns d w p q. let h = unjoin (Met ns d) before (r ∷ []) p in st.completes ns d w h.0 (h.1.0, q);
  }

  -- an equation 0 = 0
  dropped : (before : List Kept) (r : Kept) (after : List Kept) (ps : List Pivot) → r.kind ≡ Equal → ((k : ℕ) → at r.sum k ≡ pos 0) → r.sum.side ≡ pos 0 → State before (r ∷ after) ps → State before after ps
  dropped before r after ps e z s st = record {
    short = omega (arith, st.short);
    earlier = st.earlier;
    later = st.later.1;
    completes = λ ns d w p q. st.completes ns d w p (met ns d, q);
  }
    where
      met : (ns : List ℤ) (d : ℕ) → Met ns d r
      met ns d =
          subst (λ (k : Kind). Compares k (dot r.sum.coefficients ns) (r.sum.side *ℤ pos d)) (sym e)
          (dot_none r.sum.coefficients ns z ∙ sym (ap (λ (x : ℤ). x *ℤ pos d) s ∙ zero-*ℤ (pos d)))

  -- an equation that is solved for fader k
  module _ (before : List Kept) (r : Kept) (after : List Kept) (ps : List Pivot) (equal : r.kind ≡ Equal) (k : ℕ) (solvable : 0 < unsigned_abs (at r.sum k)) (st : State before (r ∷ after) ps) where
    in_use : k < count
    in_use = elim (cases_lt k count) [ inl h ↦ h | inr h ↦ absurd (none (st.later.0.valid.unused k h)) ]
      where
        none : at r.sum k ≡ pos 0 → ⊥
        none z = let s : 0 < 0 = subst (λ (x : ℤ). 0 < unsigned_abs x) z solvable in omega arith

    substituted : (bs rest : List Kept) → Become k r.sum before bs → Become k r.sum after rest → State bs rest (record { fader = k; sum = r.sum } ∷ ps)
    substituted bs rest b a = record {
      short = omega (arith, st.short, become_length k r.sum before bs b, become_length k r.sum after rest a);
      earlier = become_on k r.sum (Traced count rows) (Traced count rows) (becomes_traced count rows k r equal solvable st.later.0) before bs b st.earlier;
      later = become_on k r.sum (Traced count rows) (Traced count rows) (becomes_traced count rows k r equal solvable st.later.0) after rest a st.later.1;
      completes = λ ns d w p q. by ns d w p q (completed (record { fader = k; sum = r.sum }) ns d) refl;
    }
      where
        by : (ns : List ℤ) (d : ℕ) → WellFormed count ns d → AllByRecursion (Met ns d) bs → AllByRecursion (Met ns d) rest → (o : Option (List ℤ × ℕ)) → completed (record { fader = k; sum = r.sum }) ns d ≡ o
            → Right count rows (elim o [ Some q ↦ all_completed ps q.0 q.1 | None ↦ Verdict.fault (number_beyond k) ])
        by ns d w p q None e = tt
        by ns d w p q (Some x) e =
            let inside : k < length ns = omega (arith, in_use, valid.few, w.places) in
            let back = completed_back k r.sum ns d solvable inside x e in
            st.completes x.0 x.1 (completed_formed k r.sum ns d solvable inside x e count in_use w)
            (become_back k r.sum (Met x.0 x.1) (Met ns d) back before bs b p)
            (completed_pivot k r.sum ns d solvable inside x e r equal refl, become_back k r.sum (Met x.0 x.1) (Met ns d) back after rest a q)

  -- ---- all places: what holds of a contradiction, of a fault and of what is left when no equation is, holds of the whole reduction

  module _ (P : Reduced → Type 0)
      (at_clash : (r : Kept) → Traced count rows r → r.kind ≡ Equal → ((k : ℕ) → at r.sum k ≡ pos 0) → 0 < unsigned_abs r.sum.side → P (clashing (contradiction r.sum)))
      (at_fault : (f : Fault) → P (faulty f))
      (at_end : (rs : List Kept) (ps : List Pivot) → State rs [] ps → P (left rs ps)) where
    reduced_keeps : (n : ℕ) (before after : List Kept) (ps : List Pivot) → State before after ps → P (reduced n before after ps)
    reduced_keeps zero before after ps st = at_end (before ++ after) ps (record {
      short = omega (arith, st.short, length-append before after);
      earlier = All-append (Traced count rows) before after st.earlier st.later;
      later = tt;
      completes = λ ns d w p q. let h = unjoin (Met ns d) before after p in st.completes ns d w h.0 h.1;
    })
    reduced_keeps (suc n) before [] ps st = at_end before ps st
    reduced_keeps (suc n) before (r ∷ after) ps st = by (reduced_keeps n) (is_equation r.kind) refl
      where
        solved_for : ((before after : List Kept) (ps : List Pivot) → State before after ps → P (reduced n before after ps)) → r.kind ≡ Equal → (k : ℕ) → 0 < unsigned_abs (at r.sum k)
            → (o m : Option (List Kept)) → cancel_all k r.sum before ≡ o → cancel_all k r.sum after ≡ m
            → P (elim o [ None ↦ Reduced.faulty (number_beyond k) | Some bs ↦ elim m [ None ↦ Reduced.faulty (number_beyond k) | Some rest ↦ reduced n bs rest (record { fader = k; sum = r.sum } ∷ ps) ] ])
        solved_for ih equal k solvable None m e f = at_fault (number_beyond k)
        solved_for ih equal k solvable (Some bs) None e f = at_fault (number_beyond k)
        solved_for ih equal k solvable (Some bs) (Some rest) e f =
            ih bs rest (record { fader = k; sum = r.sum } ∷ ps) (substituted before r after ps equal k solvable st bs rest (all_become k r.sum before bs e) (all_become k r.sum after rest f))

        without : ((before after : List Kept) (ps : List Pivot) → State before after ps → P (reduced n before after ps)) → r.kind ≡ Equal → ((k : ℕ) → at r.sum k ≡ pos 0)
            → (b : Bool) → nat_lt 0 (unsigned_abs r.sum.side) ≡ b → P (elim b [ true ↦ Reduced.clashing (contradiction r.sum) | false ↦ reduced n before after ps ])
        without ih equal z true e = at_clash r st.later.0 equal z (ltb-true 0 (unsigned_abs r.sum.side) e)
        without ih equal z false e = ih before after ps (dropped before r after ps equal z (zero_is r.sum.side e) st)

        equation : ((before after : List Kept) (ps : List Pivot) → State before after ps → P (reduced n before after ps)) → r.kind ≡ Equal → (o : Option ℕ) → first_fader 0 r.sum.coefficients ≡ o
            → P (elim o [
              | None ↦ elim (nat_lt 0 (unsigned_abs r.sum.side)) [ true ↦ Reduced.clashing (contradiction r.sum) | false ↦ reduced n before after ps ]
              | Some k ↦ elim (cancel_all k r.sum before) [
                | None ↦ Reduced.faulty (number_beyond k)
                | Some bs ↦ elim (cancel_all k r.sum after) [ None ↦ Reduced.faulty (number_beyond k) | Some rest ↦ reduced n bs rest (record { fader = k; sum = r.sum } ∷ ps) ]
              ]
            ])
        equation ih equal None e = without ih equal (no_fader 0 r.sum.coefficients e) (nat_lt 0 (unsigned_abs r.sum.side)) refl
        equation ih equal (Some k) e = solved_for ih equal k (has_fader r.sum.coefficients k e) (cancel_all k r.sum before) (cancel_all k r.sum after) refl refl

        by : ((before after : List Kept) (ps : List Pivot) → State before after ps → P (reduced n before after ps)) → (b : Bool) → is_equation r.kind ≡ b
            → P (elim b [
              | false ↦ reduced n (before ++ r ∷ []) after ps
              | true ↦ elim (first_fader 0 r.sum.coefficients) [
                | None ↦ elim (nat_lt 0 (unsigned_abs r.sum.side)) [ true ↦ Reduced.clashing (contradiction r.sum) | false ↦ reduced n before after ps ]
                | Some k ↦ elim (cancel_all k r.sum before) [
                  | None ↦ Reduced.faulty (number_beyond k)
                  | Some bs ↦ elim (cancel_all k r.sum after) [ None ↦ Reduced.faulty (number_beyond k) | Some rest ↦ reduced n bs rest (record { fader = k; sum = r.sum } ∷ ps) ]
                ]
              ]
            ])
        by ih false e = ih (before ++ r ∷ []) after ps (passed before r after ps st)
        by ih true e = equation ih (equation_is r.kind e) (first_fader 0 r.sum.coefficients) refl

  -- ---- what is handed down

  handed : (rs : List Kept) (ps : List Pivot) → State rs [] ps → Valid count (map handed_down rs)
  handed rs ps st = record {
    some = valid.some;
    few = valid.few;
    short = omega (arith, st.short, length-map rs handed_down);
    each = mapped (ValidRow count) handed_down rs (All-weaker (Traced count rows) (λ r. ValidRow count (handed_down r)) (λ r t. t.valid) rs st.earlier);
  }

  -- ---- over an engine whose verdicts are right

  module _ (below : ℕ → List Constraint → Verdict) (right_below : (count : ℕ) (rows : List Constraint) → Valid count rows → Right count rows (below count rows)) where
    finished : (rs : List Kept) (ps : List Pivot) → State rs [] ps → Right count rows (decided below count (length rows) (left rs ps))
    finished rs ps st = by (below count (map handed_down rs)) (right_below count (map handed_down rs) (handed rs ps st))
      where
        weights : (ws : List ℤ) → Right count (map handed_down rs) (Verdict.clash ws) → (o : Result (List ℤ) Fault) → lifted_weights (length rows) 0 ws rs ≡ o → Right count rows (weights_verdict o)
        weights ws c (Ok vs) e = lifted_clash count rows valid.short ws rs st.earlier c vs e
        weights ws c (Err f) e = tt

        by : (v : Verdict) → Right count (map handed_down rs) v → Right count rows (lifted (length rows) rs ps v)
        by (Verdict.preset ns d) h = st.completes ns d h.0 (unmap (Meets ns d) handed_down rs h.1) tt
        by (Verdict.clash ws) c = weights ws c (lifted_weights (length rows) 0 ws rs) refl
        by (Verdict.fault f) h = tt

    whole : Right count rows (decided below count (length rows) (reduced (length rows) [] (kept_rows 0 rows) []))
    whole = reduced_keeps (λ r. Right count rows (decided below count (length rows) r)) (contradiction_clash count rows valid.short) (λ f. tt) finished (length rows) [] (kept_rows 0 rows) [] start

pub sound_over : SoundOver
sound_over below right count rows valid = whole count rows valid below right

-- the rows that are handed down are such as an engine takes
abbrev pub HandsDown : ℕ → Reduced → Type 0
HandsDown count (clashing ws) = Unit {0}
HandsDown count (faulty f) = Unit {0}
HandsDown count (left rs ps) = Valid count (map handed_down rs)

pub hands_down : (count : ℕ) (rows : List Constraint) → Valid count rows → HandsDown count (reduced (length rows) [] (kept_rows 0 rows) [])
hands_down count rows valid =
    reduced_keeps count rows valid (HandsDown count) (λ r t e z s. tt) (λ f. tt) (handed count rows valid) (length rows) [] (kept_rows 0 rows) [] (start count rows valid)
