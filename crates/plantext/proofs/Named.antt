-- What is found in a table of words by their spelling. Assumes nothing.
use Rattle.std.proofs.Common.{◌≡◌, ℕ, Bool, true, false, cond, List, [], ◌∷◌, Some, None, Ok, Option, Result, Bor, refl}
use Rattle.std.specs.List.{find}
use Rattle.std.specs.Str.{bytes_eq}
use Rattle.plantext.specs.Spelling.{number_word}
use Rattle.plantext.specs.declared.word.Misspelling.{Misspelling}
use Rattle.plantext.specs.declared.word.Word.{Word}

-- the word of an entry that was found, or else a number
abbrev pub word_in : List ℕ → Option (Bor (List ℕ) × Word) → Result Word Misspelling
word_in bs (Some p) = Ok p.1
word_in bs None = number_word bs

-- the entries tried one after another
abbrev pub word_among : List ℕ → List (Bor (List ℕ) × Word) → Result Word Misspelling
word_among bs [] = number_word bs
word_among bs (p ∷ ps) = cond (bytes_eq bs p.0.now) (Ok p.1) (word_among bs ps)

pub found : (bs : List ℕ) (table : List (Bor (List ℕ) × Word)) → word_in bs (find (λ p. bytes_eq bs p.0.now) table) ≡ word_among bs table
found bs [] = refl
found bs (p ∷ ps) = go (bytes_eq bs p.0.now) refl (found bs ps)
  where
    go : (t : Bool) → bytes_eq bs p.0.now ≡ t → word_in bs (find (λ p. bytes_eq bs p.0.now) ps) ≡ word_among bs ps → word_in bs (find (λ p. bytes_eq bs p.0.now) (p ∷ ps)) ≡ word_among bs (p ∷ ps)
    go true e h = rw e
    go false e h = rw e h
