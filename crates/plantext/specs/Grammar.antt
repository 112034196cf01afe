-- What the words of a line say. Assumes nothing.
use Rattle.std.specs.Prelude.{ℕ, ◌+◌, cond, List, [], ◌∷◌, map, length, ℤ, Some, None, Ok, Err, Option, Result, nat_le}
use Rattle.plantext.specs.Cuts.{before_comment, words}
use Rattle.plantext.specs.Spelling.{word_of}
use Rattle.plantext.specs.declared.problem.Problem.{Problem}
use Rattle.plantext.specs.declared.problem.Problem.TheVariants.{UnknownWord, TooLong as LongAt, TooManyNumbers, NoStatement}
use Rattle.plantext.specs.declared.statement.Statement.{Statement}
use Rattle.plantext.specs.declared.statement.Statement.TheVariants.{Blank, Faders as FadersIs, Rule, Preset as PresetIs, Clash as ClashIs}
use Rattle.plantext.specs.declared.word.Word.{Word}
use Rattle.plantext.specs.declared.word.Word.TheVariants.{Faders, Preset, Clash, Compare, Slash, Number}
use Rattle.plantext.specs.declared.word.Misspelling.{Misspelling}
use Rattle.plantext.specs.declared.word.Misspelling.TheVariants.{TooLong, Unknown}

infixl 10 ◌and_then◌
-- goes on with the value of an `Ok`, and stops at an `Err`
abbrev pub ◌and_then◌ : {X Y : Type 0} → Result X Problem → (X → Result Y Problem) → Result Y Problem
Ok x and_then f = f x
Err p and_then f = Err p

-- the problem of a line with a misspelling at the place n
abbrev pub problem_at : ℕ → Misspelling → Problem
problem_at n Unknown = UnknownWord n
problem_at n TooLong = LongAt n

-- a word that is known, at the place n of its line
abbrev pub known : ℕ → Result Word Misspelling → Result (Unit {0}) Problem
known n (Ok w) = Ok tt
known n (Err m) = Err (problem_at n m)

-- the first word that is not known, from the place n on, is the problem of its line
abbrev pub all_known : ℕ → List (Result Word Misspelling) → Result (Unit {0}) Problem
all_known n [] = Ok tt
all_known n (w ∷ ws) = known n w and_then λ _. all_known (n + 1) ws

-- the number that a word is
abbrev pub number_in : Result Word Misspelling → Option ℤ
number_in (Ok (Number z)) = Some z
number_in (Ok Faders) = None
number_in (Ok Preset) = None
number_in (Ok Clash) = None
number_in (Ok (Compare c)) = None
number_in (Ok Slash) = None
number_in (Err m) = None

-- the numbers at the front of the words
abbrev pub front_numbers : List (Result Word Misspelling) → List ℤ
front_numbers [] = []
front_numbers (w ∷ ws) = elim (number_in w) [ Some z ↦ z ∷ front_numbers ws | None ↦ [] ]

-- the words after the numbers at their front
abbrev pub after_numbers : List (Result Word Misspelling) → List (Result Word Misspelling)
after_numbers [] = []
after_numbers (w ∷ ws) = elim (number_in w) [ Some z ↦ after_numbers ws | None ↦ w ∷ ws ]

-- a statement holds at most sixteen numbers in a row
abbrev pub held : List ℤ → Result (List ℤ) Problem
held zs = cond (nat_le (length zs) 16) (Ok zs) (Err TooManyNumbers)

-- words that are one number
abbrev pub one_number : List (Result Word Misspelling) → Result ℤ Problem
one_number [] = Err NoStatement
one_number (w ∷ []) = elim (number_in w) [ Some z ↦ Ok z | None ↦ Err NoStatement ]
one_number (w ∷ v ∷ ws) = Err NoStatement

-- a comparison and a number, after the coefficients zs
abbrev pub rule : List ℤ → List (Result Word Misspelling) → Result Statement Problem
rule zs [] = Err NoStatement
rule zs (Ok (Compare c) ∷ ws) = one_number ws and_then λ side. held zs and_then λ ns. Ok (Rule ns c side)
rule zs (Ok Faders ∷ ws) = Err NoStatement
rule zs (Ok Preset ∷ ws) = Err NoStatement
rule zs (Ok Clash ∷ ws) = Err NoStatement
rule zs (Ok Slash ∷ ws) = Err NoStatement
rule zs (Ok (Number z) ∷ ws) = Err NoStatement
rule zs (Err m ∷ ws) = Err NoStatement

-- a slash and the denominator, after the numerators zs
abbrev pub preset : List ℤ → List (Result Word Misspelling) → Result Statement Problem
preset zs [] = Err NoStatement
preset zs (Ok Slash ∷ ws) = one_number ws and_then λ d. held zs and_then λ ns. Ok (PresetIs ns d)
preset zs (Ok Faders ∷ ws) = Err NoStatement
preset zs (Ok Preset ∷ ws) = Err NoStatement
preset zs (Ok Clash ∷ ws) = Err NoStatement
preset zs (Ok (Compare c) ∷ ws) = Err NoStatement
preset zs (Ok (Number z) ∷ ws) = Err NoStatement
preset zs (Err m ∷ ws) = Err NoStatement

-- nothing, after the weights zs
abbrev pub clash : List ℤ → List (Result Word Misspelling) → Result Statement Problem
clash zs [] = held zs and_then λ ns. Ok (ClashIs ns)
clash zs (w ∷ ws) = Err NoStatement

-- what words that are all known say
abbrev pub statement : List (Result Word Misspelling) → Result Statement Problem
statement [] = Ok Blank
statement (Ok Faders ∷ ws) = one_number ws and_then λ n. Ok (FadersIs n)
statement (Ok Preset ∷ ws) = preset (front_numbers ws) (after_numbers ws)
statement (Ok Clash ∷ ws) = clash (front_numbers ws) (after_numbers ws)
statement (Ok (Compare c) ∷ ws) = rule [] (Ok (Compare c) ∷ ws)
statement (Ok (Number z) ∷ ws) = rule (z ∷ front_numbers ws) (after_numbers ws)
statement (Ok Slash ∷ ws) = Err NoStatement
statement (Err m ∷ ws) = Err NoStatement

-- the words of a text
unfoldable pub words_of : List ℕ → List (Result Word Misspelling)
words_of bs = map word_of (words bs)

-- what a line says: its first word that is not known, or else its statement
abbrev pub statement_of : List ℕ → Result Statement Problem
statement_of bs = all_known 0 (words_of (before_comment bs)) and_then λ _. statement (words_of (before_comment bs))
