-- The table of the program as the lines of the working. Assumes nothing.
use Rattle.std.specs.Prelude.{List, map}
use Rattle.elimination.specs.declared.cell.Cell.{Cell}
use Rattle.elimination.specs.Table.{Line}

abbrev pub line : Cell → Line
line c = record { coefficients = c.row.coefficients; side = c.row.side; strict = c.strict; weights = c.row.weights; aside = c.aside }

abbrev pub lines : List Cell → List Line
lines t = map line t
