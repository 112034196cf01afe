-- The words of a text that was made of words. Assumes nothing.
use Rattle.std.proofs.Common.{◌≡◌, ℕ, ◌<◌, Bool, true, not, ◌&&◌, eqb, List, [], ◌∷◌, ◌++◌, map, length, sym, refl, ap, ◌∙◌, append_assoc, append-nil, arith}
use Rattle.std.proofs.lemmas.Bool.{and_parts, not-true}
use Rattle.std.specs.List.{AllByRecursion as All}
use Rattle.plantext.specs.Cuts.{white, dark, before_comment, words, words_after}
use Rattle.plantext.specs.Grammar.{words_of}
use Rattle.plantext.specs.Spelling.{word_of}
use Rattle.plantext.specs.Writes.{spaced}

-- bytes that are not white and start no comment
abbrev pub plain : List ℕ → Bool
plain [] = true
plain (b ∷ bs) = (dark b && not (eqb b 35)) && plain bs

pub record Whole (w : List ℕ) : Type 0 where
  pub some : 0 < length w
  pub bytes : plain w ≡ true

-- the bytes of a word go on with the word that was begun
words_run : (u w rest : List ℕ) → plain w ≡ true → words_after u (w ++ rest) ≡ words_after (u ++ w) rest
words_run u [] rest p = ap (λ x. words_after x rest) (sym (append-nil u))
words_run u (b ∷ w) rest p =
    let q = and_parts (dark b && not (eqb b 35)) (plain w) p in
    let d = not-true (white b) (and_parts (dark b) (not (eqb b 35)) q.0).0 in
    rw d (words_run (u ++ b ∷ []) w rest q.1 ∙ ap (λ x. words_after x rest) (append_assoc u (b ∷ []) w))

words_last : (w : List ℕ) → Whole w → words w ≡ w ∷ []
words_last [] h = absurd (omega (arith, h.some))
words_last (b ∷ w) h = ap words (sym (append-nil (b ∷ w))) ∙ words_run [] (b ∷ w) [] h.bytes

words_next : (w rest : List ℕ) → Whole w → words (w ++ 32 ∷ rest) ≡ w ∷ words rest
words_next [] rest h = absurd (omega (arith, h.some))
words_next (b ∷ w) rest h = words_run [] (b ∷ w) (32 ∷ rest) h.bytes

words_spaced : (ws : List (List ℕ)) → All Whole ws → words (spaced ws) ≡ ws
words_spaced [] a = refl
words_spaced (w ∷ []) a = words_last w a.0
words_spaced (w ∷ v ∷ ws) a = words_next w (spaced (v ∷ ws)) a.0 ∙ ap (λ x. w ∷ x) (words_spaced (v ∷ ws) a.1)

-- plain bytes hold no comment
before_run : (w rest : List ℕ) → plain w ≡ true → before_comment (w ++ rest) ≡ w ++ before_comment rest
before_run [] rest p = refl
before_run (b ∷ w) rest p =
    let q = and_parts (dark b && not (eqb b 35)) (plain w) p in
    let d = not-true (eqb b 35) (and_parts (dark b) (not (eqb b 35)) q.0).1 in
    rw d (ap (λ x. b ∷ x) (before_run w rest q.1))

before_spaced : (ws : List (List ℕ)) → All Whole ws → before_comment (spaced ws) ≡ spaced ws
before_spaced [] a = refl
before_spaced (w ∷ []) a = ap before_comment (sym (append-nil w)) ∙ before_run w [] a.0.bytes ∙ append-nil w
before_spaced (w ∷ v ∷ ws) a = before_run w (32 ∷ spaced (v ∷ ws)) a.0.bytes ∙ ap (λ x. w ++ 32 ∷ x) (before_spaced (v ∷ ws) a.1)

-- the words of the text are those that it was made of
pub words_of_spaced : (ws : List (List ℕ)) → All Whole ws → words_of (before_comment (spaced ws)) ≡ map word_of ws
unfolding words_of
words_of_spaced ws a = ap (λ bs. map word_of (words bs)) (before_spaced ws a) ∙ ap (map word_of) (words_spaced ws a)
