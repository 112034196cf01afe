-- Rows that an engine takes one after another, and when it refuses none of them. Assumes nothing.
use Rattle.std.proofs.Common.{◌≡◌, ℕ, zero, suc, ◌+◌, ◌<◌, ◌≤◌, Bool, true, false, cond, ◌&&◌, ◌||◌, eqb, ltb, leb, List, [], ◌∷◌, ◌++◌, length, get_or, take, drop, ℤ, pos, nat_abs, Some, None, Ok, Err, Option, sym, refl, ap, ◌∙◌, arith}
use Rattle.std.specs.List.{AllByRecursion as All}
use Rattle.std.proofs.lemmas.List.{length-map, length-take-le, map_more, at_drop_more}
use Rattle.std.proofs.lemmas.Bool.{ne_eqb, eqb-false, le-ltb, ltb-false, lt-leb, leb-true, leb-false, or_parts, or_from, and_left, and_right}
use Rattle.rows.specs.declared.row.Row.{Row}
use Rattle.engine.specs.declared.refusal.Refusal.{Refusal}
use Rattle.engine.specs.declared.refusal.Refusal.TheVariants.{BadCount, NoPlan, Full}
use Rattle.rows.specs.Limits.{faders, most_rows}
use Rattle.rows.specs.Rows.{Constraint, constraint, constraints, UsedBelow, first_unused}
use Rattle.engine.specs.Verdicts.{ValidRow, Valid}
use Rattle.engine.specs.Interface.{View, Does, first_refusal, refused_if, count_refusal, unused_refusal, take_refusal, Took}
use Rattle.engine.specs.Deciding.{takes_refusal, rows_refusal, loaded}
use Rattle.rows.proofs.Alls.{none_some}
use Rattle.rows.proofs.UnusedFaders.{unused_zero}

-- ---- what a call replied

does_ok : {V U : Type 0} (o : Option Refusal) (next v w : V) (u : U) → Does o next v (Ok u) w → (o ≡ None) × (w ≡ next)
does_ok None next v w u d = (refl, d)
does_ok (Some e) next v w u d = absurd d

does_err : {V : Type 0} (U : Type 0) (o : Option Refusal) (next v w : V) (e : Refusal) → Does {U = U} o next v (Err e) w → o ≡ Some e
does_err U None next v w e d = absurd d
does_err U (Some x) next v w e d = ap Some (sym d.0)

-- ---- refusals one after another

first_assoc : (a b c : Option Refusal) → first_refusal (first_refusal a b) c ≡ first_refusal a (first_refusal b c)
first_assoc None b c = refl
first_assoc (Some e) b c = refl

first_none : (a b : Option Refusal) → first_refusal a b ≡ None → (a ≡ None) × (b ≡ None)
first_none None b e = (refl, e)
first_none (Some x) b e = absurd (none_some x (sym e))

refused_none : (b : Bool) (e : Refusal) → refused_if b e ≡ None → b ≡ false
refused_none true e h = absurd (none_some e (sym h))
refused_none false e h = refl

-- ---- the count

count_parts : (count : ℕ) → count_refusal count ≡ None → (0 < count) × (count ≤ faders)
count_parts count e =
    let h = or_parts (eqb count 0) (ltb faders count) (refused_none (eqb count 0 || ltb faders count) BadCount e) in
    let z = eqb-false count 0 h.0 in
    (above count z, ltb-false faders count h.1)
  where
    above : (n : ℕ) → (n ≡ 0 → ⊥) → 0 < n
    above zero z = absurd (z refl)
    above (suc n) z = omega arith

count_taken : (count : ℕ) → 0 < count → count ≤ faders → count_refusal count ≡ None
count_taken count h k = ap (λ (b : Bool). refused_if b BadCount) (or_from (eqb count 0) (ltb faders count) (ne_eqb count 0 (λ e. omega arith)) (le-ltb faders count k))

-- ---- one row more, of a started engine that took the first i rows

module _ (count : ℕ) (rows : List Row) (i : ℕ) (r : Row) (read : r ≡ get_or rows i r) (some : 0 < count) (h : i < length rows) (v w : View) (held : v ≡ loaded count (constraints (take i rows)))
    (on : takes_refusal count i (constraints (drop i rows)) ≡ rows_refusal count (constraints rows)) where
  abbrev own : Option Refusal
  own = take_refusal (constraint r) v

  abbrev later : Option Refusal
  later = takes_refusal count (i + 1) (constraints (drop (i + 1) rows))

  opened : own ≡ first_refusal (refused_if (leb most_rows i) Full) (unused_refusal (first_unused count 0 r.coefficients))
  opened =
      let last = unused_refusal (first_unused count 0 r.coefficients) in
      let n : length (constraints (take i rows)) ≡ i = length-map (take i rows) constraint ∙ length-take-le i rows (omega arith) in
      ap (take_refusal (constraint r)) held
      ∙ ap (λ (b : Bool). first_refusal (refused_if b NoPlan) (first_refusal (refused_if (leb most_rows (length (constraints (take i rows)))) Full) last)) (ne_eqb count 0 (λ e. omega arith))
      ∙ ap (λ (m : ℕ). first_refusal (refused_if (leb most_rows m) Full) last) n

  turn : rows_refusal count (constraints rows) ≡ first_refusal own later
  turn =
      let full = refused_if (leb most_rows i) Full in
      let last = unused_refusal (first_unused count 0 r.coefficients) in
      sym on
      ∙ at_drop_more (λ (rs : List Row). takes_refusal count i (constraints rs)) rows i r h
      ∙ ap (λ (x : Row). takes_refusal count i (constraints (x ∷ drop (i + 1) rows))) (sym read)
      ∙ sym (ap (λ (o : Option Refusal). first_refusal o later) opened ∙ first_assoc full last later)

  pub row_refused : (U : Type 0) (e : Refusal) → Took {U = U} (constraint r) v (Err e) w → rows_refusal count (constraints rows) ≡ Some e
  row_refused U e t = turn ∙ ap (λ (o : Option Refusal). first_refusal o later) (does_err U own _ v w e t)

  pub row_taken : {U : Type 0} (u : U) → Took (constraint r) v (Ok u) w
      → (w ≡ loaded count (constraints (take (i + 1) rows))) × (takes_refusal count (i + 1) (constraints (drop (i + 1) rows)) ≡ rows_refusal count (constraints rows))
  row_taken u t =
      let p = does_ok own (loaded v.count (v.rows ++ constraint r ∷ [])) v w u t in
      let more = map_more constraint rows i r h ∙ ap (λ (x : Row). constraints (take i rows) ++ constraint x ∷ []) (sym read) in (
        p.1 ∙ ap (λ (x : View). loaded x.count (x.rows ++ constraint r ∷ [])) held ∙ ap (loaded count) (sym more),
        sym (turn ∙ ap (λ (o : Option Refusal). first_refusal o later) p.0),
      )

-- ---- rows of which none is refused are valid

unused_none : (o : Option ℕ) → unused_refusal o ≡ None → o ≡ None
unused_none None e = refl
unused_none (Some k) e = absurd (none_some _ (sym e))

taken_valid : (count held : ℕ) (rows : List Row) → held ≤ most_rows → takes_refusal count held (constraints rows) ≡ None → (held + length rows ≤ most_rows) × All (ValidRow count) (constraints rows)
taken_valid count held [] few e = (omega arith, tt)
taken_valid count held (r ∷ rows) few e =
    let full = refused_if (leb most_rows held) Full in
    let last = unused_refusal (first_unused count 0 r.coefficients) in
    let later = takes_refusal count (held + 1) (constraints rows) in
    let p = first_none full (first_refusal last later) e in
    let q = first_none last later p.1 in
    let room = leb-false most_rows held (refused_none (leb most_rows held) Full p.0) in
    let ih = taken_valid count (held + 1) rows (omega arith) q.1 in
    let none = unused_none (first_unused count 0 r.coefficients) q.0 in (
      omega (arith, ih.0),
      (record { places = r.places; within = r.within; bounded = r.bounded; unused = λ k h. unused_zero count 0 r.coefficients none k (omega (arith, h)) }, ih.1),
    )

pub unrefused_valid : (count : ℕ) (rows : List Row) → rows_refusal count (constraints rows) ≡ None → Valid count (constraints rows)
unrefused_valid count rows e =
    let p = first_none (count_refusal count) (takes_refusal count 0 (constraints rows)) e in
    let c = count_parts count p.0 in
    let r = taken_valid count 0 rows (omega arith) p.1 in
    record { some = c.0; few = c.1; short = omega (arith, r.0, length-map rows constraint); each = r.1 }

-- ---- of valid rows none is refused

pub zeros_used : (count k : ℕ) (zs : List ℤ) → ((j : ℕ) → count ≤ k + j → get_or zs j (pos 0) ≡ pos 0) → first_unused count k zs ≡ None
zeros_used count k [] z = refl
zeros_used count k (a ∷ zs) z = by (leb count k) refl (zeros_used count (k + 1) zs (λ j h. z (suc j) (omega (arith, h))))
  where
    by : (b : Bool) → leb count k ≡ b → first_unused count (k + 1) zs ≡ None → cond (leb count k && ltb 0 (nat_abs a)) (Some k) (first_unused count (k + 1) zs) ≡ None
    by true e ih =
        let none : ltb 0 (nat_abs a) ≡ false = ap (λ (x : ℤ). ltb 0 (nat_abs x)) (z 0 (omega (arith, leb-true count k e))) ∙ le-ltb 0 0 (omega arith) in
        ap (λ (t : Bool). cond t (Some k) (first_unused count (k + 1) zs)) (and_right (leb count k) (ltb 0 (nat_abs a)) none) ∙ ih
    by false e ih = ap (λ (t : Bool). cond t (Some k) (first_unused count (k + 1) zs)) (and_left (leb count k) (ltb 0 (nat_abs a)) e) ∙ ih

valid_taken : (count held : ℕ) (rows : List Constraint) → held + length rows ≤ most_rows → All (ValidRow count) rows → takes_refusal count held rows ≡ None
valid_taken count held [] few valid = refl
valid_taken count held (r ∷ rows) few valid =
    let last = unused_refusal (first_unused count 0 r.coefficients) in
    let later = takes_refusal count (held + 1) rows in
    ap (λ (b : Bool). first_refusal (refused_if b Full) (first_refusal last later)) (lt-leb most_rows held (omega arith))
    ∙ ap (λ (o : Option ℕ). first_refusal (unused_refusal o) later) (zeros_used count 0 r.coefficients (λ j h. valid.0.unused j (omega (arith, h))))
    ∙ valid_taken count (held + 1) rows (omega arith) valid.1

pub valid_unrefused : (count : ℕ) (rows : List Constraint) → Valid count rows → rows_refusal count rows ≡ None
valid_unrefused count rows v =
    ap (λ (o : Option Refusal). first_refusal o (takes_refusal count 0 rows)) (count_taken count v.some v.few)
    ∙ valid_taken count 0 rows (omega (arith, v.short)) v.each

-- ---- rows without a coefficient at a fader that the desk does not have are valid

used_each : (count : ℕ) (rows : List Row) → UsedBelow count rows → All (ValidRow count) (constraints rows)
used_each count [] used = tt
used_each count (r ∷ rows) used = (record { places = r.places; within = r.within; bounded = r.bounded; unused = λ k h. used 0 k h }, used_each count rows (λ i. used (suc i)))

pub used_valid : (count : ℕ) (rows : List Row) → 0 < count → count ≤ faders → length rows ≤ most_rows → UsedBelow count rows → Valid count (constraints rows)
used_valid count rows some few short used = record { some = some; few = few; short = omega (arith, short, length-map rows constraint); each = used_each count rows used }
