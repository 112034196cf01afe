-- What the bytes of one word say. Assumes nothing.
use Rattle.std.specs.Prelude.{ℕ, cond, not, ◌||◌, List, [], ◌∷◌, length, ℤ, pos, neg_ℤ, Ok, Err, Result, codes, ◌==◌, nat_lt}
use Rattle.std.specs.Str.Parse.{digits_value}
use Rattle.std.specs.Str.{all_ascii_digits, bytes_eq}
use Rattle.rows.specs.declared.kind.Kind.TheVariants.{AtMost, Below, Equal}
use Rattle.plantext.specs.declared.word.Word.{Word}
use Rattle.plantext.specs.declared.word.Word.TheVariants.{Faders, Preset, Clash, Compare, Slash, Number}
use Rattle.plantext.specs.declared.word.Misspelling.{Misspelling}
use Rattle.plantext.specs.declared.word.Misspelling.TheVariants.{TooLong, Unknown}

-- one to twelve decimal digits are a number, their value; more are too long, and anything else is not known
abbrev pub magnitude : List ℕ → Result ℕ Misspelling
magnitude ds = cond (length ds == 0 || not (all_ascii_digits ds)) (Err Unknown) (cond (nat_lt 12 (length ds)) (Err TooLong) (Ok (digits_value 10 ds)))

abbrev pub signed : (ℕ → ℤ) → Result ℕ Misspelling → Result Word Misspelling
signed s (Ok n) = Ok (Number (s n))
signed s (Err m) = Err m

-- the digits ds after the sign s
abbrev pub digits_word : (ℕ → ℤ) → List ℕ → Result Word Misspelling
digits_word s ds = signed s (magnitude ds)

-- the sign of a number after `-`
abbrev pub minus : ℕ → ℤ
minus n = neg_ℤ (pos n)

-- a number may begin with `-` or `+`
abbrev pub number_word : List ℕ → Result Word Misspelling
number_word [] = Err Unknown
number_word (b ∷ bs) = cond (b == 45) (digits_word minus bs) (cond (b == 43) (digits_word pos bs) (digits_word pos (b ∷ bs)))

-- what the bytes of a word say
abbrev pub word_of : List ℕ → Result Word Misspelling
word_of bs =
    cond (bytes_eq bs (codes "faders")) (Ok Faders)
    (cond (bytes_eq bs (codes "preset")) (Ok Preset)
    (cond (bytes_eq bs (codes "clash")) (Ok Clash)
    (cond (bytes_eq bs (codes "<=")) (Ok (Compare AtMost))
    (cond (bytes_eq bs (codes "<")) (Ok (Compare Below))
    (cond (bytes_eq bs (codes "=")) (Ok (Compare Equal))
    (cond (bytes_eq bs (codes "/")) (Ok Slash)
    (number_word bs)))))))
