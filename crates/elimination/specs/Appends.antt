-- What it is to append the sums of pairs to a table. Assumes nothing.
use Rattle.std.specs.Prelude.{◌≡◌, ℕ, ◌≤◌, Bool, ◌&&◌, List, map, length, take, drop, Ok, Err, Result}
use Rattle.engine.specs.declared.fault.Fault.{Fault}
use Rattle.elimination.specs.declared.cell.Cell.{Cell}
use Rattle.elimination.specs.declared.lent.Table.{Table}
use Rattle.elimination.specs.Table.{Line, room, sums, lowers, stands, coefficient, is_positive, is_negative}
use Rattle.elimination.specs.Lines.{lines}

-- a row that limits fader k from above, and one that limits it from below
abbrev pub is_upper : ℕ → Line → Bool
is_upper k r = stands r && is_positive (coefficient r k)

abbrev pub is_lower : ℕ → Line → Bool
is_lower k r = stands r && is_negative (coefficient r k)

-- t held n rows, and holds the sums of the pairs after them in u, which holds m; or the first sum that cannot be formed is the fault
abbrev pub Appends : ℕ → ℕ → List (Line × Line) → List Cell → Result ℕ Fault → List Cell → Type 0
Appends k n ps t (Ok m) u = (n ≤ m) × (m ≤ room) × (length u ≡ length t) × (take n u ≡ take n t) × (sums k n ps ≡ Ok (lines (drop n (take m u))))
Appends k n ps t (Err f) u = sums k n ps ≡ Err f

-- the same of the tables with their numbers of rows
abbrev pub Appended : ℕ → List (Line × Line) → Table → Result (Unit {0}) Fault → Table → Type 0
Appended k ps t (Ok x) u = Appends k t.held ps t.cells.now (Ok u.held) u.cells.now
Appended k ps t (Err f) u = Appends k t.held ps t.cells.now (Err f) u.cells.now

-- the rows that a table holds
abbrev pub held_lines : Table → List Line
held_lines t = lines (take t.held t.cells.now)

-- a row with the one at place j, if that is one of the other sort
abbrev pub pairs_at : ℕ → Line → List Line → ℕ → List (Line × Line)
pairs_at k u t j = map (λ l. (u, l)) (lowers k (take 1 (drop j t)))
