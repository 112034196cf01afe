-- The text of words. Assumes nothing.
use Rattle.std.specs.Prelude.{ℕ, cond, nat_eq, List, [], ◌∷◌}

-- the end of a word for so many things: none for one thing, and an s otherwise
abbrev pub ending : ℕ → List ℕ
ending n = cond (nat_eq n 1) [] (115 ∷ [])
