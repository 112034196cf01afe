-- Equations substituted away, one after another. Assumes nothing.
use Rattle.std.specs.Prelude.{ℕ, zero, suc, ◌+◌, ◌/◌, Bool, true, false, cond, List, [], ◌∷◌, ◌++◌, ℤ, pos, negsuc, neg_ℤ, Some, None, Option, int_lt, nat_lt, slice_index_or, unsigned_abs}
use Rattle.integers.specs.Vectors.{scale}
use Rattle.integers.specs.Divisors.{gcd_of}
use Rattle.rows.specs.declared.kind.Kind.{Kind}
use Rattle.rows.specs.declared.kind.Kind.TheVariants.{AtMost, Below, Equal}
use Rattle.engine.specs.declared.fault.Fault.{Fault}
use Rattle.rows.specs.Rows.{Constraint}
use Rattle.engine.specs.Verdicts.{number_beyond}
use Rattle.rows.specs.Carrying.{Sum, listed, combination, fits}

-- a carried row with the kind of the listed row that it grew from
pub record Kept : Type 0 where
  pub kind : Kind
  pub sum : Sum

-- the rows of the list, from place i on
abbrev pub kept_rows : ℕ → List Constraint → List Kept
kept_rows i [] = []
kept_rows i (r ∷ rows) = record { kind = r.kind; sum = listed i r } ∷ kept_rows (i + 1) rows

-- an equation that was set aside, and the fader that it is solved for
pub record Pivot : Type 0 where
  pub fader : ℕ
  pub sum : Sum

-- what is left when no equation is: weights that are a clash, a fault, or the rows for the engine below with the pivots, the last first
pub data Reduced : Type 0 where
  clashing : List ℤ → Reduced
  faulty : Fault → Reduced
  left : List Kept → List Pivot → Reduced

abbrev pub is_equation : Kind → Bool
is_equation AtMost = false
is_equation Below = false
is_equation Equal = true

-- the lowest fader with a coefficient other than 0, from fader k on
abbrev pub first_fader : ℕ → List ℤ → Option ℕ
first_fader k [] = None
first_fader k (a ∷ more) = cond (nat_lt 0 (unsigned_abs a)) (Some k) (first_fader (k + 1) more)

-- by what the pivot row is multiplied, so that it cancels a row's coefficient a against the pivot's b: -a or a, divided by g
abbrev pub pivot_factor : ℤ → ℤ → ℕ → ℤ
pivot_factor a b g = cond (int_lt (pos 0) b) (signed (neg_ℤ a) g) (signed a g)
  where
    signed : ℤ → ℕ → ℤ
    signed (pos n) g = pos (n / g)
    signed (negsuc n) g = neg_ℤ (pos (suc n / g))

abbrev pub at : Sum → ℕ → ℤ
at s k = slice_index_or s.coefficients k (pos 0)

-- a row in which fader k is cancelled by the pivot row; it keeps its kind
abbrev pub cancelled : ℕ → Sum → Sum → Sum
cancelled k p s =
    combination (pos (unsigned_abs (at p k) / gcd_of (unsigned_abs (at s k)) (unsigned_abs (at p k)))) s
    (pivot_factor (at s k) (at p k) (gcd_of (unsigned_abs (at s k)) (unsigned_abs (at p k)))) p

-- the same, if its numbers are within G; a row without the fader stays
abbrev pub cancel_one : ℕ → Sum → Kept → Option Kept
cancel_one k p r =
    cond (nat_lt 0 (unsigned_abs (at r.sum k)))
    (cond (fits (cancelled k p r.sum)) (Some (record { kind = r.kind; sum = cancelled k p r.sum })) None)
    (Some r)

abbrev pub also : Option Kept → Option (List Kept) → Option (List Kept)
also None rs = None
also (Some r) None = None
also (Some r) (Some rs) = Some (r ∷ rs)

abbrev pub cancel_all : ℕ → Sum → List Kept → Option (List Kept)
cancel_all k p [] = Some []
cancel_all k p (r ∷ rs) = also (cancel_one k p r) (cancel_all k p rs)

-- the weights of an equation 0 = side, negated if the side is above 0
abbrev pub contradiction : Sum → List ℤ
contradiction s = cond (int_lt (pos 0) s.side) (scale (negsuc 0) s.weights) s.weights

-- The rows before the place that is looked at, those from there on, and the pivots so far; at most n places are looked at.
-- An equation without coefficients is set aside if its side is 0 and is a contradiction otherwise; any other is solved for its lowest fader
abbrev pub reduced : ℕ → List Kept → List Kept → List Pivot → Reduced
reduced zero before after ps = left (before ++ after) ps
reduced (suc n) before [] ps = left before ps
reduced (suc n) before (r ∷ after) ps =
    elim (is_equation r.kind) [
      | false ↦ reduced n (before ++ r ∷ []) after ps
      | true ↦ elim (first_fader 0 r.sum.coefficients) [
        | None ↦ elim (nat_lt 0 (unsigned_abs r.sum.side)) [ true ↦ clashing (contradiction r.sum) | false ↦ reduced n before after ps ]
        | Some k ↦ elim (cancel_all k r.sum before) [
          | None ↦ faulty (number_beyond k)
          | Some bs ↦ elim (cancel_all k r.sum after) [
            | None ↦ faulty (number_beyond k)
            | Some rest ↦ reduced n bs rest (record { fader = k; sum = r.sum } ∷ ps)
          ]
        ]
      ]
    ]
