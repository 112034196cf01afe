-- How a fader's level is chosen from the rows set aside for it, with the levels of the faders above it given. Assumes nothing.
use Rattle.std.specs.Prelude.{ℕ, ◌*◌, ◌/◌, Bool, false, cond, not, ◌&&◌, ◌||◌, List, [], ◌∷◌, map, ℤ, pos, ◌+ℤ◌, ◌-ℤ◌, ◌*ℤ◌, neg_ℤ, Some, None, filter, Option, ◌==◌, int_div, int_lt, slice_set, unsigned_abs}
use Rattle.std.specs.List.{best_of}
use Rattle.integers.specs.Vectors.{dot, scale}
use Rattle.integers.specs.Divisors.{gcd_all}
use Rattle.integers.specs.Fractions.{lowest_numerator, lowest_denominator}
use Rattle.elimination.specs.Table.{Line, coefficient, size, is_positive, is_negative, near, all_near}

-- numerators over one denominator; a fader whose level is not chosen yet has numerator 0
pub record Levels : Type 0 where
  pub numerators : List ℤ
  pub denominator : ℕ

-- a fraction, and whether it may not be reached
pub record Limit : Type 0 where
  pub numerator : ℤ
  pub denominator : ℕ
  pub strict : Bool

-- the rows set aside for fader k, by whether they limit it from above or from below
abbrev pub is_for : ℕ → Option ℕ → Bool
is_for k None = false
is_for k (Some j) = j == k

abbrev pub above : ℕ → List Line → List Line
above k t = filter (λ r. is_for k r.aside && is_positive (coefficient r k)) t

abbrev pub below : ℕ → List Line → List Line
below k t = filter (λ r. is_for k r.aside && is_negative (coefficient r k)) t

-- what the side leaves for fader k, times the denominator
abbrev pub remaining : Levels → Line → ℤ
remaining x r = (r.side *ℤ pos x.denominator) -ℤ dot r.coefficients x.numerators

-- numerator over denominator in lowest terms, if both are within G
abbrev pub lowest : ℤ → ℕ → Bool → Option Limit
lowest n d strict =
    cond (near (lowest_numerator n (pos d)) && near (lowest_denominator n (pos d)))
    (Some (record { numerator = lowest_numerator n (pos d); denominator = unsigned_abs (lowest_denominator n (pos d)); strict = strict })) None

-- the limit that a row sets: what remains, divided by the fader's coefficient
abbrev pub upper_limit : ℕ → Levels → Line → Option Limit
upper_limit k x r = lowest (remaining x r) (size k r * x.denominator) r.strict

abbrev pub lower_limit : ℕ → Levels → Line → Option Limit
lower_limit k x r = lowest (neg_ℤ (remaining x r)) (size k r * x.denominator) r.strict

-- all of them, if all are within G
abbrev pub also : Option Limit → Option (List Limit) → Option (List Limit)
also None ls = None
also (Some l) None = None
also (Some l) (Some ls) = Some (l ∷ ls)

abbrev pub limits : (Line → Option Limit) → List Line → Option (List Limit)
limits f [] = Some []
limits f (r ∷ rs) = also (f r) (limits f rs)

-- an upper limit is better if it is smaller, and among equals if it is strict
abbrev pub better_upper : Limit → Limit → Bool
better_upper x y =
    int_lt (x.numerator *ℤ pos y.denominator) (y.numerator *ℤ pos x.denominator)
    || (not (int_lt (y.numerator *ℤ pos x.denominator) (x.numerator *ℤ pos y.denominator)) && (x.strict && not y.strict))

-- a lower limit is better if it is larger, and among equals if it is strict
abbrev pub better_lower : Limit → Limit → Bool
better_lower x y =
    int_lt (y.numerator *ℤ pos x.denominator) (x.numerator *ℤ pos y.denominator)
    || (not (int_lt (x.numerator *ℤ pos y.denominator) (y.numerator *ℤ pos x.denominator)) && (x.strict && not y.strict))

-- the first best, if there is any
abbrev pub first_best : {X : Type 0} → (X → X → Bool) → List X → Option X
first_best better [] = None
first_best better (x ∷ xs) = Some (best_of better x xs)

-- the value between the limits: half their sum; one limit alone if it may be reached, and otherwise 1 beyond it; 0 where there is none
abbrev pub value : Option Limit → Option Limit → Option Limit
value None None = lowest (pos 0) 1 false
value (Some l) None = lowest (cond l.strict (l.numerator +ℤ pos l.denominator) l.numerator) l.denominator false
value None (Some u) = lowest (cond u.strict (u.numerator -ℤ pos u.denominator) u.numerator) u.denominator false
value (Some l) (Some u) = lowest ((l.numerator *ℤ pos u.denominator) +ℤ (u.numerator *ℤ pos l.denominator)) (2 * (l.denominator * u.denominator)) false

-- over the least denominator, if all numbers are then within G
abbrev pub divided : ℕ → List ℤ → List ℤ
divided g ns = map (λ n. int_div n (pos g)) ns

abbrev pub least : List ℤ → ℕ → Option Levels
least ns d =
    cond (all_near (divided (gcd_all d ns) ns) && near (pos (d / gcd_all d ns)))
    (Some (record { numerators = divided (gcd_all d ns) ns; denominator = d / gcd_all d ns })) None

-- the levels with fader k at a value: all over the product of the two denominators, and then over the least
abbrev pub with_level : ℕ → Levels → Limit → Option Levels
with_level k x v = least (slice_set (scale (pos v.denominator) x.numerators) k (v.numerator *ℤ pos x.denominator)) (x.denominator * v.denominator)

abbrev pub placed : ℕ → Levels → Option Limit → Option Levels
placed k x None = None
placed k x (Some v) = with_level k x v

abbrev pub chosen : Option (List Limit) → Option (List Limit) → Option Limit
chosen None us = None
chosen (Some ls) None = None
chosen (Some ls) (Some us) = value (first_best better_lower ls) (first_best better_upper us)

-- fader k set, or none where a number is beyond G
abbrev pub set_fader : ℕ → List Line → Levels → Option Levels
set_fader k t x = placed k x (chosen (limits (lower_limit k x) (below k t)) (limits (upper_limit k x) (above k t)))
