-- The line of each reply. Assumes nothing.
use Rattle.std.specs.Prelude.{ℕ, ◌+◌, ◌*◌, cond, List, [], ◌∷◌, ◌++◌, map, take, ℤ, pos, codes, ◌==◌}
use Rattle.std.specs.Fmt.{signed_decimal}
use Rattle.std.specs.List.{flat_map}
use Rattle.console.specs.declared.reply.Reply.{Reply}
use Rattle.console.specs.declared.reply.Reply.TheVariants.{Done, Preset, Clash, Blamed, Refused}
use Rattle.engine.specs.Refusals.{number, carries}
use Rattle.rows.specs.Limits.{most_rows}

-- the most bytes of a number that is written: a space, a minus sign and ten digits
abbrev pub most_item : ℕ
most_item = 12

-- the most bytes of a line: CLASH with a weight for each rule, and the newline
abbrev pub most_text : ℕ
most_text = 5 + most_item * most_rows

abbrev pub most_line : ℕ
most_line = most_text + 1

-- a space and the decimal digits of a number, after a minus sign where it is negative
abbrev pub item : ℤ → List ℕ
item z = 32 ∷ signed_decimal z

abbrev pub items : List ℤ → List ℕ
items zs = flat_map item zs

-- the numbers of the rules whose mark is not 0, where the first mark is that of the rule n
abbrev pub marked : ℕ → List ℕ → List ℤ
marked n [] = []
marked n (m ∷ ms) = cond (m == 0) (marked (n + 1) ms) (pos n ∷ marked (n + 1) ms)

-- a line without its end
abbrev pub text_of : Reply → List ℕ
text_of Done = codes "OK"
text_of (Preset n zs d) = codes "PRESET" ++ (items (take n zs) ++ (codes " /" ++ item (pos d)))
text_of (Clash n zs) = codes "CLASH" ++ items (take n zs)
text_of (Blamed ms) = codes "BLAME" ++ items (marked 0 ms)
text_of (Refused r) = codes "NO" ++ items (map pos (number r ∷ carries r))

-- a line ends with a newline
abbrev pub line_of : Reply → List ℕ
line_of r = text_of r ++ 10 ∷ []
