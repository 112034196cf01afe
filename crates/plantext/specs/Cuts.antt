-- How a text is cut into lines and a line into words, as lists of bytes. Assumes nothing.
use Rattle.std.specs.Prelude.{ℕ, Bool, cond, not, ◌||◌, List, [], ◌∷◌, ◌++◌, ◌==◌}

-- a space, a tab or a carriage return
abbrev pub white : ℕ → Bool
white b = b == 32 || (b == 9 || b == 13)

-- any other byte, which is part of a word
abbrev pub dark : ℕ → Bool
dark b = not (white b)

-- the bytes before the first `#`
abbrev pub before_comment : List ℕ → List ℕ
before_comment [] = []
before_comment (b ∷ bs) = cond (b == 35) [] (b ∷ before_comment bs)

-- a word that was begun, as the only one of a list; none if it has no byte
abbrev pub ended : List ℕ → List (List ℕ)
ended [] = []
ended (b ∷ bs) = (b ∷ bs) ∷ []

-- the words of a text that goes on after the bytes w of a word
abbrev pub words_after : List ℕ → List ℕ → List (List ℕ)
words_after w [] = ended w
words_after w (b ∷ bs) = cond (white b) (ended w ++ words_after [] bs) (words_after (w ++ b ∷ []) bs)

-- the longest runs of bytes that are not white
abbrev pub words : List ℕ → List (List ℕ)
words bs = words_after [] bs

-- any byte but a line feed
abbrev pub unbroken : ℕ → Bool
unbroken b = not (b == 10)

-- the lines of a text that goes on after the bytes w of a line
abbrev pub lines_after : List ℕ → List ℕ → List (List ℕ)
lines_after w [] = ended w
lines_after w (b ∷ bs) = cond (b == 10) (w ∷ lines_after [] bs) (lines_after (w ++ b ∷ []) bs)

-- what stands before each line feed, and after the last one if that is not empty
abbrev pub lines : List ℕ → List (List ℕ)
lines bs = lines_after [] bs
