-- How the program chooses the false row: by a rank, over the whole table. Assumes nothing.
use Rattle.std.specs.Prelude.{ℕ, Bool, cond, nat_le}
use Rattle.elimination.specs.declared.cell.Cell.{Cell}
use Rattle.elimination.specs.Table.{Line}
use Rattle.elimination.specs.Lines.{line}
use Rattle.elimination.specs.Working.{is_false, support}

-- how many weights of a false row are other than 0; any other row comes after all of them
abbrev pub rank : Line → ℕ
rank r = cond (is_false r) (support r) 17

abbrev pub not_worse : Cell → Cell → Bool
not_worse x y = nat_le (rank (line x)) (rank (line y))
