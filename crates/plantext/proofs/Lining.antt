-- What the first line of a text is. Assumes nothing.
use Rattle.std.proofs.Common.{◌≡◌, ℕ, ◌+◌, ◌<◌, Bool, true, false, eqb, List, [], ◌∷◌, ◌++◌, length, take, drop, Some, None, sym, refl, ap, ◌∙◌, append_assoc, append-nil, one-add, arith}
use Rattle.std.specs.List.{prefix_len, position}
use Rattle.std.proofs.lemmas.List.{take_all, drop_all, drop-drop}
use Rattle.plantext.proofs.Cutting.{place_none, place_some}
use Rattle.plantext.specs.Cuts.{unbroken, lines, lines_after}

-- a line that was begun ends at the first line feed
lines_on : (a : ℕ) (w bs : List ℕ) → lines_after (a ∷ w) bs ≡ ((a ∷ w) ++ take (prefix_len unbroken bs) bs) ∷ lines (drop 1 (drop (prefix_len unbroken bs) bs))
lines_on a w [] = ap (λ x. (a ∷ x) ∷ []) (sym (append-nil w))
lines_on a w (b ∷ bs) = go (eqb b 10) refl (lines_on a (w ++ b ∷ []) bs)
  where
    go : (t : Bool) → eqb b 10 ≡ t → lines_after (a ∷ (w ++ b ∷ [])) bs ≡ ((a ∷ (w ++ b ∷ [])) ++ take (prefix_len unbroken bs) bs) ∷ lines (drop 1 (drop (prefix_len unbroken bs) bs)) → lines_after (a ∷ w) (b ∷ bs) ≡ ((a ∷ w) ++ take (prefix_len unbroken (b ∷ bs)) (b ∷ bs)) ∷ lines (drop 1 (drop (prefix_len unbroken (b ∷ bs)) (b ∷ bs)))
    go true e h = rw (e, append-nil w)
    go false e h = rw (e, one-add) (rw append_assoc at h)

-- the first line of a text that is not empty
pub lines_first : (bs : List ℕ) → 0 < length bs → lines bs ≡ take (prefix_len unbroken bs) bs ∷ lines (drop 1 (drop (prefix_len unbroken bs) bs))
lines_first [] some = absurd (omega arith)
lines_first (b ∷ bs) some = go (eqb b 10) refl
  where
    go : (t : Bool) → eqb b 10 ≡ t → lines (b ∷ bs) ≡ take (prefix_len unbroken (b ∷ bs)) (b ∷ bs) ∷ lines (drop 1 (drop (prefix_len unbroken (b ∷ bs)) (b ∷ bs)))
    go true e = rw e
    go false e = rw (e, one-add) (lines_on b [] bs)

module _ (bs : List ℕ) (some : 0 < length bs) where
  -- the last line has no line feed
  pub lines_last : None ≡ position (λ b. eqb b 10) bs → lines bs ≡ bs ∷ []
  lines_last e =
      let h = place_none (λ b. eqb b 10) bs e in
      let n = prefix_len unbroken bs in
      lines_first bs some ∙ ap (λ x. x ∷ lines (drop 1 (drop n bs))) (take_all n bs h) ∙ ap (λ x. bs ∷ lines (drop 1 x)) (drop_all n bs h)

  -- the text was cut at a line feed
  pub lines_cut : (n : ℕ) → Some n ≡ position (λ b. eqb b 10) bs → lines bs ≡ take n bs ∷ lines (drop (n + 1) bs)
  lines_cut n e =
      let h = place_some (λ b. eqb b 10) bs n e in
      lines_first bs some ∙ ap (λ (m : ℕ). take m bs ∷ lines (drop 1 (drop m bs))) (sym h.0) ∙ ap (λ x. take n bs ∷ lines x) (drop-drop 1 n bs)
