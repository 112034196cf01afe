-- What the first word of a text is, and what the bytes before a comment are. Assumes nothing.
use Rattle.std.proofs.Common.{◌≡◌, ℕ, ◌+◌, ◌<◌, ◌≤◌, Bool, true, false, cond, not, eqb, ltb, List, [], ◌∷◌, ◌++◌, length, take, drop, Some, None, unwrap_or, sym, refl, ap, ◌∙◌, append_assoc, append-nil, one-add, arith, length-drop}
use Rattle.std.specs.List.{position, position_or_len}
use Rattle.std.proofs.lemmas.Bool.{ltb-false}
use Rattle.std.proofs.lemmas.List.{drop_all}
use Rattle.std.proofs.lemmas.List.Quantifiers.{position-Some}
use Rattle.std.proofs.lemmas.List.Sums.{prefix_len-le-length, position_or_len_is}
use Rattle.plantext.specs.Cuts.{white, dark, before_comment, words, words_after}

-- the first place that passes, or the length
pub place_or_length : (p : ℕ → Bool) (bs : List ℕ) → unwrap_or (position p bs) (length bs) ≡ position_or_len p bs
place_or_length p bs = go (ltb (position_or_len p bs) (length bs)) refl
  where
    go : (t : Bool) → ltb (position_or_len p bs) (length bs) ≡ t → unwrap_or (position p bs) (length bs) ≡ position_or_len p bs
    go true e = rw e
    go false e = rw e (omega (arith, ltb-false (position_or_len p bs) (length bs) e, prefix_len-le-length (λ b. not (p b)) bs))

-- where none passes
pub place_none : (p : ℕ → Bool) (bs : List ℕ) → None ≡ position p bs → length bs ≤ position_or_len p bs
place_none p bs e = go (ltb (position_or_len p bs) (length bs)) refl e
  where
    go : (t : Bool) → ltb (position_or_len p bs) (length bs) ≡ t → None ≡ cond t (Some (position_or_len p bs)) None → length bs ≤ position_or_len p bs
    go true h f = cc
    go false h f = ltb-false (position_or_len p bs) (length bs) h

-- where one does
pub place_some : (p : ℕ → Bool) (bs : List ℕ) (n : ℕ) → Some n ≡ position p bs → (n ≡ position_or_len p bs) × (n < length bs)
place_some p bs n e =
    let h = position-Some p bs n 0 (sym e) in
    (sym (position_or_len_is p bs n 0 (omega (arith, h.0)) h.2 (λ _. h.1)), h.0)

-- white bytes in front of a text change nothing
pub words_skip : (bs : List ℕ) → words bs ≡ words (drop (position_or_len dark bs) bs)
words_skip [] = refl
words_skip (b ∷ bs) = go (white b) refl (words_skip bs)
  where
    go : (t : Bool) → white b ≡ t → words bs ≡ words (drop (position_or_len dark bs) bs) → words (b ∷ bs) ≡ words (drop (position_or_len dark (b ∷ bs)) (b ∷ bs))
    go true e h = rw (e, one-add) h
    go false e h = rw (e, e)

-- a word that was begun ends where the bytes are white again
words_on : (a : ℕ) (w bs : List ℕ) → words_after (a ∷ w) bs ≡ ((a ∷ w) ++ take (position_or_len white bs) bs) ∷ words (drop (position_or_len white bs) bs)
words_on a w [] = ap (λ x. (a ∷ x) ∷ []) (sym (append-nil w))
words_on a w (b ∷ bs) = go (white b) refl (words_on a (w ++ b ∷ []) bs)
  where
    go : (t : Bool) → white b ≡ t → words_after (a ∷ (w ++ b ∷ [])) bs ≡ ((a ∷ (w ++ b ∷ [])) ++ take (position_or_len white bs) bs) ∷ words (drop (position_or_len white bs) bs) → words_after (a ∷ w) (b ∷ bs) ≡ ((a ∷ w) ++ take (position_or_len white (b ∷ bs)) (b ∷ bs)) ∷ words (drop (position_or_len white (b ∷ bs)) (b ∷ bs))
    go true e h = rw (e, append-nil w, e)
    go false e h = rw (e, one-add) (rw append_assoc at h)

-- the first word of a text that begins with one
words_first : (bs : List ℕ) → 0 < length bs → position_or_len dark bs ≡ 0 → words bs ≡ take (position_or_len white bs) bs ∷ words (drop (position_or_len white bs) bs)
words_first [] some none = absurd (omega arith)
words_first (b ∷ bs) some none = go (white b) refl none
  where
    go : (t : Bool) → white b ≡ t → position_or_len dark (b ∷ bs) ≡ 0 → words (b ∷ bs) ≡ take (position_or_len white (b ∷ bs)) (b ∷ bs) ∷ words (drop (position_or_len white (b ∷ bs)) (b ∷ bs))
    go true e h = absurd (let z : 1 + position_or_len dark bs ≡ 0 = rw e at h in omega arith)
    go false e h = rw (e, one-add) (words_on b [] bs)

-- no white byte follows those that are skipped
leading_skipped : (bs : List ℕ) → position_or_len dark (drop (position_or_len dark bs) bs) ≡ 0
leading_skipped [] = refl
leading_skipped (b ∷ bs) = go (white b) refl (leading_skipped bs)
  where
    go : (t : Bool) → white b ≡ t → position_or_len dark (drop (position_or_len dark bs) bs) ≡ 0 → position_or_len dark (drop (position_or_len dark (b ∷ bs)) (b ∷ bs)) ≡ 0
    go true e h = rw (e, one-add) h
    go false e h = rw (e, e)

-- that word has a byte
word_some : (t : List ℕ) → 0 < length t → position_or_len dark t ≡ 0 → 0 < position_or_len white t
word_some [] some none = absurd (omega arith)
word_some (b ∷ t) some none = go (white b) refl none
  where
    go : (u : Bool) → white b ≡ u → position_or_len dark (b ∷ t) ≡ 0 → 0 < position_or_len white (b ∷ t)
    go true e h = absurd (let z : 1 + position_or_len dark t ≡ 0 = rw e at h in omega arith)
    go false e h = rw e (omega arith)

-- where no byte is dark
pub words_none : (bs : List ℕ) → None ≡ position dark bs → words bs ≡ []
words_none bs e = words_skip bs ∙ ap words (drop_all (position_or_len dark bs) bs (place_none dark bs e))

module _ (bs t : List ℕ) (n k : ℕ) (at : Some n ≡ position dark bs) (skipped : t ≡ drop n bs) (run : k ≡ position_or_len white t) where
  begins : (0 < length t) × (position_or_len dark t ≡ 0) × (words bs ≡ words t)
  begins =
      let h = place_some dark bs n at in
      let same : t ≡ drop (position_or_len dark bs) bs = skipped ∙ ap (λ (m : ℕ). drop m bs) h.0 in (
        omega (arith, ap length skipped, length-drop n bs, h.1),
        ap (position_or_len dark) same ∙ leading_skipped bs,
        words_skip bs ∙ ap words (sym same),
      )

  -- the first word of the text bs, with t for what stands from its first dark byte on
  pub words_cut : words bs ≡ take k t ∷ words (drop k t)
  words_cut = begins.2 ∙ words_first t begins.0 begins.1 ∙ ap (λ (m : ℕ). take m t ∷ words (drop m t)) (sym run)

  -- the text after it is shorter
  pub words_shorter : length (drop k t) < length bs
  words_shorter = omega (arith, length-drop k t, ap length skipped, length-drop n bs, begins.0, run, word_some t begins.0 begins.1)

-- the bytes before the first comment
pub before_comment_is : (bs : List ℕ) → before_comment bs ≡ take (position_or_len (λ b. eqb b 35) bs) bs
before_comment_is [] = refl
before_comment_is (b ∷ bs) = go (eqb b 35) refl (before_comment_is bs)
  where
    go : (t : Bool) → eqb b 35 ≡ t → before_comment bs ≡ take (position_or_len (λ b. eqb b 35) bs) bs → before_comment (b ∷ bs) ≡ take (position_or_len (λ b. eqb b 35) (b ∷ bs)) (b ∷ bs)
    go true e h = rw e
    go false e h = rw (e, one-add) (ap (λ x. b ∷ x) h)
