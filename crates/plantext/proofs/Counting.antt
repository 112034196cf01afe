-- A text has no more words and no more lines than bytes. Assumes nothing.
use Rattle.std.proofs.Common.{◌≡◌, ℕ, ◌+◌, ◌≤◌, Bool, true, false, eqb, List, [], ◌∷◌, ◌++◌, length, refl, arith, length-append}
use Rattle.std.proofs.lemmas.List.{length-map}
use Rattle.plantext.specs.Cuts.{white, ended, words, words_after, lines, lines_after}
use Rattle.plantext.specs.Grammar.{words_of}
use Rattle.plantext.specs.Spelling.{word_of}

ended_few : (w : List ℕ) → length (ended w) ≤ 1
ended_few [] = omega arith
ended_few (b ∷ w) = omega arith

words_after_few : (w bs : List ℕ) → length (words_after w bs) ≤ length bs + length (ended w)
words_after_few w [] = omega arith
words_after_few w (b ∷ bs) = go (white b) refl (words_after_few [] bs) (words_after_few (w ++ b ∷ []) bs)
  where
    go : (t : Bool) → white b ≡ t → length (words_after [] bs) ≤ length bs + 0 → length (words_after (w ++ b ∷ []) bs) ≤ length bs + length (ended (w ++ b ∷ [])) → length (words_after w (b ∷ bs)) ≤ length (b ∷ bs) + length (ended w)
    go true e h k = rw e (omega (arith, h, length-append (ended w) (words_after [] bs)))
    go false e h k = rw e (omega (arith, k, ended_few (w ++ b ∷ [])))

pub words_of_few : (bs : List ℕ) → length (words_of bs) ≤ length bs
unfolding words_of
words_of_few bs = omega (arith, words_after_few [] bs, length-map (words bs) word_of)

lines_after_few : (w bs : List ℕ) → length (lines_after w bs) ≤ length bs + length (ended w)
lines_after_few w [] = omega arith
lines_after_few w (b ∷ bs) = go (eqb b 10) refl (lines_after_few [] bs) (lines_after_few (w ++ b ∷ []) bs)
  where
    go : (t : Bool) → eqb b 10 ≡ t → length (lines_after [] bs) ≤ length bs + 0 → length (lines_after (w ++ b ∷ []) bs) ≤ length bs + length (ended (w ++ b ∷ [])) → length (lines_after w (b ∷ bs)) ≤ length (b ∷ bs) + length (ended w)
    go true e h k = rw e (omega (arith, h))
    go false e h k = rw e (omega (arith, k, ended_few (w ++ b ∷ [])))

pub lines_few : (bs : List ℕ) → length (lines bs) ≤ length bs
lines_few bs = omega (arith, lines_after_few [] bs)
