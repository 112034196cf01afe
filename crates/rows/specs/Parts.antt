-- The numbers of rows that weights are multiplied with. Assumes nothing.
use Rattle.std.specs.Prelude.{List, map, ℤ, pos, slice_index_or}
use Rattle.rows.specs.declared.clashes.Part.{Part}
use Rattle.rows.specs.declared.clashes.Part.TheVariants.{Coefficient, Side}
use Rattle.rows.specs.Rows.{Constraint}

abbrev pub number : Part → Constraint → ℤ
number (Coefficient k) r = slice_index_or r.coefficients k (pos 0)
number Side r = r.side

abbrev pub numbers : Part → List Constraint → List ℤ
numbers part rows = map (number part) rows
