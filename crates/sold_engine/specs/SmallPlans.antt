-- What a small plan is, and that the engine as sold takes it. Assumes nothing.
use Rattle.std.specs.Prelude.{ℕ, ◌≤◌, List, length, unsigned_abs}
use Rattle.std.specs.List.{AllByRecursion}
use Rattle.rows.specs.Rows.{Constraint}
use Rattle.engine.specs.Verdicts.{Valid}
use Rattle.engine.specs.Exactness.{Taken}
use Rattle.sold_engine.specs.Sold.{sold_verdict}

abbrev pub small_faders : ℕ
small_faders = 2

abbrev pub small_rows : ℕ
small_rows = 10

abbrev pub small_coefficient : ℕ
small_coefficient = 10

abbrev pub small_side : ℕ
small_side = 300

pub record SmallRow (r : Constraint) : Type 0 where
  pub coefficients : AllByRecursion (λ a. unsigned_abs a ≤ small_coefficient) r.coefficients
  pub side : unsigned_abs r.side ≤ small_side

pub record Small (count : ℕ) (rows : List Constraint) : Type 0 where
  pub few_faders : count ≤ small_faders
  pub few_rows : length rows ≤ small_rows
  pub small_numbers : AllByRecursion SmallRow rows

-- a small plan is never too large for the engine as sold
abbrev pub SmallPlansTaken : Type 0
SmallPlansTaken = (count : ℕ) (rows : List Constraint) → Valid count rows → Small count rows → Taken (sold_verdict count rows)
