-- The text of a statement, and that a statement is what its own text says. Assumes nothing.
use Rattle.std.specs.Prelude.{◌≡◌, ℕ, ◌<◌, ◌≤◌, List, [], ◌∷◌, ◌++◌, map, length, ℤ, Ok, codes, unsigned_abs}
use Rattle.std.specs.Fmt.{signed_decimal}
use Rattle.std.specs.List.{AllByRecursion}
use Rattle.plantext.specs.Grammar.{statement_of}
use Rattle.rows.specs.declared.kind.Kind.{Kind}
use Rattle.rows.specs.declared.kind.Kind.TheVariants.{AtMost, Below, Equal}
use Rattle.plantext.specs.declared.statement.Statement.{Statement}
use Rattle.plantext.specs.declared.statement.Statement.TheVariants.{Blank, Faders, Rule, Preset, Clash}

-- the word of a comparison
abbrev pub mark : Kind → List ℕ
mark AtMost = codes "<="
mark Below = codes "<"
mark Equal = codes "="

-- the words of a statement, with numbers in decimal digits
abbrev pub spelt : Statement → List (List ℕ)
spelt Blank = []
spelt (Faders n) = codes "faders" ∷ signed_decimal n ∷ []
spelt (Rule ns c side) = map signed_decimal ns ++ (mark c ∷ signed_decimal side ∷ [])
spelt (Preset ns d) = codes "preset" ∷ (map signed_decimal ns ++ (codes "/" ∷ signed_decimal d ∷ []))
spelt (Clash ns) = codes "clash" ∷ map signed_decimal ns

-- words with one space between each two
abbrev pub spaced : List (List ℕ) → List ℕ
spaced [] = []
spaced (w ∷ []) = w
spaced (w ∷ v ∷ ws) = w ++ 32 ∷ spaced (v ∷ ws)

-- the text of a statement
abbrev pub written : Statement → List ℕ
written s = spaced (spelt s)

-- a number of at most twelve digits
abbrev pub Small : ℤ → Type 0
Small z = unsigned_abs z < 1000000000000

-- at most sixteen such numbers
pub record Proper (ns : List ℤ) : Type 0 where
  pub room : length ns ≤ 16
  pub small : AllByRecursion Small ns

-- all numbers of the statement are small
abbrev pub Sound : Statement → Type 0
Sound Blank = Unit {0}
Sound (Faders n) = Small n
Sound (Rule ns c side) = Proper ns × Small side
Sound (Preset ns d) = Proper ns × Small d
Sound (Clash ns) = Proper ns

-- a statement whose numbers have at most twelve digits is what its text says
abbrev pub ReadsBack : Type 0
ReadsBack = (s : Statement) → Sound s → statement_of (written s) ≡ Ok s
