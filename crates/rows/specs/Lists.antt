-- What a list of rows in fixed memory holds. Assumes nothing.
use Rattle.std.specs.Prelude.{List, take}
use Rattle.rows.specs.declared.list.RowList.{RowList}
use Rattle.rows.specs.declared.row.Row.{Row}

abbrev pub items : RowList → List Row
items l = take l.len l.rows
