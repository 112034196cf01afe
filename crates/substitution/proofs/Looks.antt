-- One look at the rows of the program: what it comes to is what the working comes to. Assumes nothing.
use Rattle.std.proofs.Common.{◌≡◌, ℕ, ◌+◌, ◌-◌, ◌<◌, true, false, ltb, List, [], ◌∷◌, ◌++◌, length, get_or, take, drop, nat_abs, not, Some, None, refl, sym, subst, ap, ◌∙◌, arith}
use denote.Enum.Bare.{sameb}
use Rattle.std.specs.List.{remove}
use Rattle.std.proofs.lemmas.Bool.{true≢false, false≢true}
use Rattle.std.proofs.lemmas.List.{get_or_default}
use Rattle.std.proofs.lemmas.List.Edits.{length-remove}
use Rattle.rows.specs.contracts.kind.Kind.{the_type}
use Rattle.rows.specs.declared.kind.Kind.{Kind}
use Rattle.rows.specs.declared.kind.Kind.TheVariants.{AtMost, Below, Equal}
use Rattle.engine.specs.Verdicts.{number_beyond}
use Rattle.rows.specs.Carrying.{numbers_of}
use Rattle.substitution.specs.declared.kept.Kept.{Kept as Held}
use Rattle.substitution.specs.declared.kept.Pivot.{Pivot as HeldPivot}
use Rattle.substitution.specs.Reduction.{Pivot, Reduced, Reduced.clashing, Reduced.faulty, is_equation, first_fader, cancel_all, contradiction, reduced}
use Rattle.substitution.specs.Holding.{kept_of, kepts, latest_first}
use Rattle.substitution.proofs.Latest.{latest_push}
use Rattle.substitution.proofs.Turns.{passed, contradicted, emptied, stopped, solved}
use Rattle.substitution.proofs.Held.{count_held, held_at, held_without}

-- ---- the kind, by the program's test

pub not_equation : (k : Kind) → true ≡ not (sameb the_type k Equal) → is_equation k ≡ false
not_equation AtMost e = refl
not_equation Below e = refl
not_equation Equal e = absurd (true≢false e)

equation : (k : Kind) → false ≡ not (sameb the_type k Equal) → is_equation k ≡ true
equation AtMost e = absurd (false≢true e)
equation Below e = absurd (false≢true e)
equation Equal e = refl

-- what was read at a place and found an equation is what is taken out there
pub taken_equation : (rows xs : List Held) (place : ℕ) (d b : Held) → place < length rows → xs ≡ rows → b ≡ get_or rows place b → false ≡ not (sameb the_type (get_or xs place d).kind Equal) → is_equation b.kind ≡ true
taken_equation rows xs place d b h e f is = subst (λ (x : Held). is_equation x.kind ≡ true) (ap (λ (ys : List Held). get_or ys place d) e ∙ get_or_default rows place d b h ∙ sym f) (equation (get_or xs place d).kind is)

-- ---- one row

-- what the working makes of rows, pivots and a place in the rows
abbrev pub ahead_at : List Held → List HeldPivot → ℕ → Reduced
ahead_at rows pivots place = reduced (length rows - place) (take place (kepts rows)) (drop place (kepts rows)) (latest_first pivots [])

-- before any row is looked at, and with no pivot
pub ahead_first : (rows : List Held) (pivots : List HeldPivot) → pivots ≡ [] → ahead_at rows pivots 0 ≡ reduced (length rows) [] (kepts rows) []
ahead_first rows pivots e =
    let n : length rows - 0 ≡ length rows = omega arith in
    λ j. reduced (n j) [] (kepts rows) (latest_first (e j) [])

-- the row k is looked at
module _ (rows : List Held) (pivots : List HeldPivot) (place : ℕ) (k : Held) (g : place < length rows) (e : k ≡ get_or rows place k) where
  found : List Pivot
  found = latest_first pivots []

  within : place < length (kepts rows)
  within = omega (arith, count_held rows)

  there : get_or (kepts rows) place (kept_of k) ≡ kept_of k
  there = held_at rows place k g e

  pub passes : is_equation k.kind ≡ false → ahead_at rows pivots (place + 1) ≡ ahead_at rows pivots place
  unfolding found
  passes a = sym (passed (length rows - place) (length rows - (place + 1)) place (kepts rows) (kept_of k) found (omega arith) within there a)

  pub contradicts : is_equation k.kind ≡ true → first_fader 0 k.row.coefficients ≡ None → ltb 0 (nat_abs k.row.side) ≡ true → clashing (contradiction (numbers_of k.row)) ≡ ahead_at rows pivots place
  unfolding found
  contradicts a b c = sym (contradicted (length rows - place) (length rows - (place + 1)) place (kepts rows) (kept_of k) found (omega arith) within there a b c)

  -- t has the rows without it
  module _ (t : List Held) (w : t ≡ remove rows place) (a : is_equation k.kind ≡ true) where
    fewer : length t + 1 ≡ length rows
    fewer = ap (λ (x : List Held). length x + 1) w ∙ length-remove rows place g

    rest_is : kepts t ≡ take place (kepts rows) ++ drop (place + 1) (kepts rows)
    rest_is = ap kepts w ∙ held_without rows place

    pub empties : first_fader 0 k.row.coefficients ≡ None → ltb 0 (nat_abs k.row.side) ≡ false → ahead_at t pivots place ≡ ahead_at rows pivots place
    unfolding found
    empties b c = sym (emptied (length rows - place) (length t - place) place (kepts rows) (kept_of k) found (omega (arith, fewer)) within there (kepts t) rest_is a b c)

    pub stops : (f : ℕ) → first_fader 0 k.row.coefficients ≡ Some f → cancel_all f (numbers_of k.row) (kepts t) ≡ None → faulty (number_beyond f) ≡ ahead_at rows pivots place
    unfolding found
    stops f b c = sym (stopped (length rows - place) (length t - place) place (kepts rows) (kept_of k) found (omega (arith, fewer)) within there (kepts t) rest_is f a b c)

    -- the fader was cancelled in t, giving v, and the pivot q noted
    pub solves : (v : List Held) (q : HeldPivot) → length v ≡ length t → q.row ≡ k.row → first_fader 0 k.row.coefficients ≡ Some q.fader.index
        → cancel_all q.fader.index (numbers_of k.row) (kepts t) ≡ Some (kepts v) → ahead_at v (pivots ++ q ∷ []) place ≡ ahead_at rows pivots place
    unfolding found
    solves v q long same b c =
        (λ j. reduced (long j - place) (take place (kepts v)) (drop place (kepts v)) ((latest_push pivots q [] ∙ (λ i. record { fader = q.fader.index; sum = numbers_of (same i) } ∷ found)) j))
        ∙ sym (solved (length rows - place) (length t - place) place (kepts rows) (kept_of k) found (omega (arith, fewer)) within there (kepts t) rest_is q.fader.index (kepts v) a b c)
