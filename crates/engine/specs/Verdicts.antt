-- What an engine says of a list of rows, and when that is right. Assumes nothing.
use Rattle.std.specs.Prelude.{◌≡◌, ℕ, ◌<◌, ◌≤◌, List, length, ℤ, pos, slice_index_or}
use Rattle.std.specs.List.{AllByRecursion}
use Rattle.engine.specs.declared.fault.Fault.{Fault}
use Rattle.engine.specs.declared.fault.Cause.TheVariants.{NumberBeyond, TableFull, FormNotTaken, WeightBeyond}
use Rattle.rows.specs.Limits.{faders, most_rows, Within, EachWithin}
use Rattle.rows.specs.Rows.{Constraint, MeetsAll}
use Rattle.rows.specs.Presets.{WellFormed}
use Rattle.rows.specs.Clashes.{Clash}

-- levels, as numerators over a denominator; weights, one for each row; or why it could not decide
pub data Verdict : Type 0 where
  preset : List ℤ → ℕ → Verdict
  clash : List ℤ → Verdict
  fault : Fault → Verdict

-- what an engine takes for a desk with so many faders: numbers within G, and no coefficient at a fader that the desk does not have
pub record ValidRow (count : ℕ) (r : Constraint) : Type 0 where
  pub places : length r.coefficients ≡ faders
  pub within : EachWithin r.coefficients
  pub bounded : Within r.side
  pub unused : (k : ℕ) → count ≤ k → slice_index_or r.coefficients k (pos 0) ≡ pos 0

pub record Valid (count : ℕ) (rows : List Constraint) : Type 0 where
  pub some : 0 < count
  pub few : count ≤ faders
  pub short : length rows ≤ most_rows
  pub each : AllByRecursion (ValidRow count) rows

-- a preset is well formed and meets every row; a clash is one
abbrev pub Right : ℕ → List Constraint → Verdict → Type 0
Right count rows (preset ns d) = WellFormed count ns d × MeetsAll ns d rows
Right count rows (clash ws) = Clash ws rows
Right count rows (fault f) = Unit {0}

-- the faults of this maker's engines, by what went wrong
abbrev pub number_beyond : ℕ → Fault
number_beyond fader = record { layer = 0; cause = NumberBeyond; index = fader }

abbrev pub table_full : ℕ → Fault
table_full fader = record { layer = 0; cause = TableFull; index = fader }

abbrev pub form_not_taken : ℕ → Fault
form_not_taken place = record { layer = 0; cause = FormNotTaken; index = place }

abbrev pub weight_beyond : ℕ → Fault
weight_beyond place = record { layer = 0; cause = WeightBeyond; index = place }
