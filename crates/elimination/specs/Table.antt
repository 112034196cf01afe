-- Carried rows and the elimination of one fader from a table of them. Assumes nothing.
use Rattle.std.specs.Prelude.{ℕ, zero, suc, ◌+◌, ◌/◌, Bool, true, false, cond, not, ◌&&◌, ◌||◌, List, [], ◌∷◌, ◌++◌, map, length, ℤ, pos, negsuc, ◌+ℤ◌, ◌*ℤ◌, is_some, Some, None, Ok, Err, filter, Option, Result, nat_lt, slice_index_or, unsigned_abs}
use Rattle.std.specs.List.{flat_map}
use Rattle.integers.specs.Vectors.{add, scale}
use Rattle.integers.specs.Divisors.{gcd_of}
use Rattle.engine.specs.declared.fault.Fault.{Fault}
pub use Rattle.rows.specs.Limits.{near, all_near}
use Rattle.engine.specs.Verdicts.{number_beyond, table_full}

-- the rows that a table holds at the most
abbrev pub room : ℕ
room = 256

-- An inequality that follows from the listed rows: it is these rows times the weights, added.
-- It stands in the table until it is set aside for a fader
pub record Line : Type 0 where
  pub coefficients : List ℤ
  pub side : ℤ
  pub strict : Bool
  pub weights : List ℤ
  pub aside : Option ℕ

abbrev pub coefficient : Line → ℕ → ℤ
coefficient r k = slice_index_or r.coefficients k (pos 0)

abbrev pub stands : Line → Bool
stands r = not (is_some r.aside)

abbrev pub is_positive : ℤ → Bool
is_positive (pos n) = nat_lt 0 n
is_positive (negsuc n) = false

abbrev pub is_negative : ℤ → Bool
is_negative (pos n) = false
is_negative (negsuc n) = true

-- the rows that are to be paired for fader k: one of each kind, in table order
abbrev pub uppers : ℕ → List Line → List Line
uppers k t = filter (λ r. stands r && is_positive (coefficient r k)) t

abbrev pub lowers : ℕ → List Line → List Line
lowers k t = filter (λ r. stands r && is_negative (coefficient r k)) t

-- m times one row and n times another; strict if either is
abbrev pub blend : ℕ → ℕ → Line → Line → Line
blend m n u l = record {
  coefficients = add (scale (pos m) u.coefficients) (scale (pos n) l.coefficients);
  side = pos m *ℤ u.side +ℤ pos n *ℤ l.side;
  strict = u.strict || l.strict;
  weights = add (scale (pos m) u.weights) (scale (pos n) l.weights);
  aside = None;
}

abbrev pub size : ℕ → Line → ℕ
size k r = unsigned_abs (coefficient r k)

-- the least sum of multiples of both in which fader k cancels
abbrev pub combined : ℕ → Line → Line → Line
combined k u l = blend (size k l / gcd_of (size k u) (size k l)) (size k u / gcd_of (size k u) (size k l)) u l

-- every number is within G
abbrev pub fits : Line → Bool
fits r = all_near r.coefficients && (near r.side && all_near r.weights)

-- a row before the rows that follow, if these could be formed
abbrev pub before : Line → Result (List Line) Fault → Result (List Line) Fault
before r (Ok rs) = Ok (r ∷ rs)
before r (Err f) = Err f

-- the sums of pairs that go to the end of a table that holds so many rows: the first that finds no room, or has a number beyond G, ends the working
abbrev pub sums : ℕ → ℕ → List (Line × Line) → Result (List Line) Fault
sums k held [] = Ok []
sums k held (p ∷ ps) =
    elim (nat_lt held room) [
      | true ↦ elim (fits (combined k p.0 p.1)) [ true ↦ before (combined k p.0 p.1) (sums k (held + 1) ps) | false ↦ Err (number_beyond k) ]
      | false ↦ Err (table_full k)
    ]

-- each of the first with each of the second, in order
abbrev pub pairs : List Line → List Line → List (Line × Line)
pairs us ls = flat_map (λ u. map (λ l. (u, l)) ls) us

-- a standing row that has the fader is set aside for it
abbrev pub set_aside : ℕ → Line → Line
set_aside k r = record {
  coefficients = r.coefficients;
  side = r.side;
  strict = r.strict;
  weights = r.weights;
  aside = cond (stands r && nat_lt 0 (size k r)) (Some k) r.aside;
}

-- one fader eliminated
abbrev pub joining : List Line → Result (List Line) Fault → Result (List Line) Fault
joining t (Ok new) = Ok (t ++ new)
joining t (Err f) = Err f

abbrev pub eliminated : ℕ → List Line → Result (List Line) Fault
eliminated k t = joining (map (set_aside k) t) (sums k (length t) (pairs (uppers k t) (lowers k t)))

-- so many faders eliminated, from fader k up
abbrev pub all_eliminated : ℕ → ℕ → List Line → Result (List Line) Fault
all_eliminated zero k t = Ok t
all_eliminated (suc m) k t = elim (eliminated k t) [ Ok u ↦ all_eliminated m (k + 1) u | Err f ↦ Err f ]
