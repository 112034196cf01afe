-- When weights turn rows into a falsehood, and what is wrong with weights that do not. Assumes nothing.
use Rattle.std.specs.Prelude.{◌≡◌, ℕ, ◌<◌, ◌≤◌, ◌⊎◌, List, [], ◌∷◌, map, length, take, ℤ, pos, ◌≤ℤ◌, ◌<ℤ◌, slice_index_or}
use Rattle.integers.specs.Vectors.{dot}
use Rattle.rows.specs.declared.kind.Kind.{Kind}
use Rattle.rows.specs.declared.kind.Kind.TheVariants.{AtMost, Below, Equal}
use Rattle.rows.specs.declared.flaw.ClashFlaw.{ClashFlaw}
use Rattle.rows.specs.declared.flaw.ClashFlaw.TheVariants.{TooManyRows, Negative, Column, Total}
use Rattle.rows.specs.declared.weights.Weights.{Weights}
use Rattle.rows.specs.Limits.{most_rows, EachWithin}
use Rattle.rows.specs.Rows.{Constraint, Infeasible}

-- an inequality may only be added up with a weight of at least 0
abbrev pub Weighs : ℤ → Kind → Type 0
Weighs w AtMost = pos 0 ≤ℤ w
Weighs w Below = pos 0 ≤ℤ w
Weighs w Equal = Unit {0}

-- one weight for each row, each of which its row may have
abbrev pub Weighed : List ℤ → List Constraint → Type 0
Weighed [] [] = Unit {0}
Weighed [] (r ∷ rows) = ⊥
Weighed (w ∷ ws) [] = ⊥
Weighed (w ∷ ws) (r ∷ rows) = Weighs w r.kind × Weighed ws rows

-- weights times the coefficients of fader k, added
abbrev pub column : List ℤ → List Constraint → ℕ → ℤ
column ws rows k = dot ws (map (λ r. slice_index_or r.coefficients k (pos 0)) rows)

-- weights times sides, added
abbrev pub total : List ℤ → List Constraint → ℤ
total ws rows = dot ws (map (λ r. r.side) rows)

-- some row of kind below has a weight above 0
abbrev pub Strictly : List ℤ → List Constraint → Type 0
Strictly [] rows = ⊥
Strictly (w ∷ ws) [] = ⊥
Strictly (w ∷ ws) (r ∷ rows) = ((r.kind ≡ Below) × (pos 0 <ℤ w)) ⊎ Strictly ws rows

-- the rows times their weights add up to 0 ≤ T with T below 0, or to 0 < 0
abbrev pub Falsehood : List ℤ → List Constraint → Type 0
Falsehood ws rows = (total ws rows <ℤ pos 0) ⊎ ((total ws rows ≡ pos 0) × Strictly ws rows)

pub record Clash (ws : List ℤ) (rows : List Constraint) : Type 0 where
  pub weighed : Weighed ws rows
  pub within : EachWithin ws
  pub columns : (k : ℕ) → column ws rows k ≡ pos 0
  pub falsehood : Falsehood ws rows

-- a clash excludes all levels
abbrev pub Excludes : Type 0
Excludes = (ws : List ℤ) (rows : List Constraint) → Clash ws rows → Infeasible rows

-- the weights that a list of rows uses of the sixteen
abbrev pub used : Weights → List Constraint → List ℤ
used w rows = take (length rows) w.values

-- the place of the first row whose weight it may not have
abbrev pub FirstNegative : List ℤ → List Constraint → ℕ → Type 0
FirstNegative [] rows i = ⊥
FirstNegative (w ∷ ws) [] i = ⊥
FirstNegative (w ∷ ws) (r ∷ rows) ℕ.zero = Weighs w r.kind → ⊥
FirstNegative (w ∷ ws) (r ∷ rows) (ℕ.suc i) = Weighs w r.kind × FirstNegative ws rows i

-- the lowest fader whose column is not 0
pub record FirstColumn (ws : List ℤ) (rows : List Constraint) (k : ℕ) : Type 0 where
  pub here : column ws rows k ≡ pos 0 → ⊥
  pub before : (j : ℕ) → j < k → column ws rows j ≡ pos 0

-- what a flaw says of weights and rows: the first thing that is wrong, in the order of the cases
abbrev pub Flawed : List ℤ → List Constraint → ClashFlaw → Type 0
Flawed ws rows TooManyRows = most_rows < length rows
Flawed ws rows (Negative i) = (length rows ≤ most_rows) × FirstNegative ws rows i
Flawed ws rows (Column k) = Weighed ws rows × FirstColumn ws rows k
Flawed ws rows Total = Weighed ws rows × ((k : ℕ) → column ws rows k ≡ pos 0) × (Falsehood ws rows → ⊥)
