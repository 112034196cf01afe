-- What a row says, and which levels meet it. Assumes nothing.
use Rattle.std.specs.Prelude.{◌≡◌, ℕ, ◌+◌, ◌<◌, ◌≤◌, Bool, cond, ◌&&◌, List, [], ◌∷◌, map, ℤ, pos, ◌*ℤ◌, ◌≤ℤ◌, ◌<ℤ◌, Some, None, Option, nat_le, nat_lt, slice_index_or, unsigned_abs}
use Rattle.std.specs.List.{AllByRecursion}
use Rattle.integers.specs.Vectors.{dot}
use Rattle.rows.specs.declared.kind.Kind.{Kind}
use Rattle.rows.specs.declared.kind.Kind.TheVariants.{AtMost, Below, Equal}
use Rattle.rows.specs.declared.row.Row.{Row}
use Rattle.rows.specs.Firsts.{FirstWithout}

-- a row by what it says: the sum of the coefficients, each times its fader's level, against the side
pub record Constraint : Type 0 where
  pub kind : Kind
  pub coefficients : List ℤ
  pub side : ℤ

abbrev pub constraint : Row → Constraint
constraint r = record { kind = r.kind; coefficients = r.coefficients; side = r.side }

abbrev pub constraints : List Row → List Constraint
constraints rows = map constraint rows

-- a is at most, below or equal to b
abbrev pub Compares : Kind → ℤ → ℤ → Type 0
Compares AtMost a b = a ≤ℤ b
Compares Below a b = a <ℤ b
Compares Equal a b = a ≡ b

-- Levels are whole numerators ns, one for each fader, over one positive whole denominator d, all of any size.
-- A fader that ns does not reach has level 0. These levels meet a row: both sides of it times d
abbrev pub Meets : List ℤ → ℕ → Constraint → Type 0
Meets ns d r = Compares r.kind (dot r.coefficients ns) (r.side *ℤ pos d)

abbrev pub MeetsAll : List ℤ → ℕ → List Constraint → Type 0
MeetsAll ns d rows = AllByRecursion (Meets ns d) rows

-- some levels meet all rows
abbrev pub Feasible : List Constraint → Type 0
Feasible rows = (ns : List ℤ) × (d : ℕ) × (0 < d) × MeetsAll ns d rows

-- no levels meet all rows
abbrev pub Infeasible : List Constraint → Type 0
Infeasible rows = (ns : List ℤ) (d : ℕ) → 0 < d → MeetsAll ns d rows → ⊥

-- the place of the first row that the levels do not meet
abbrev pub FirstUnmet : List ℤ → ℕ → List Constraint → ℕ → Type 0
FirstUnmet ns d rows i = FirstWithout (Meets ns d) rows i

-- the coefficient of the row at place i, at fader k; 0 where there is no such row
abbrev pub coefficient_at : List Row → ℕ → ℕ → ℤ
coefficient_at [] i k = pos 0
coefficient_at (r ∷ rows) ℕ.zero k = slice_index_or r.coefficients k (pos 0)
coefficient_at (r ∷ rows) (ℕ.suc i) k = coefficient_at rows i k

-- no row has a coefficient other than 0 at a fader at or above the count
abbrev pub UsedBelow : ℕ → List Row → Type 0
UsedBelow count rows = (i k : ℕ) → count ≤ k → coefficient_at rows i k ≡ pos 0

-- a coefficient other than 0 at a fader at or above the count
abbrev pub unused : ℕ → ℕ → ℤ → Bool
unused count k a = nat_le count k && nat_lt 0 (unsigned_abs a)

-- the lowest such fader, from fader k on
abbrev pub first_unused : ℕ → ℕ → List ℤ → Option ℕ
first_unused count k [] = None
first_unused count k (a ∷ more) = cond (unused count k a) (Some k) (first_unused count (k + 1) more)
