-- The pairs of a table, row by row, as nested loops meet them. Assumes nothing.
use Rattle.std.proofs.Common.{◌≡◌, ℕ, ◌+◌, ◌<◌, Bool, true, false, cond, List, [], ◌∷◌, ◌++◌, map, length, get_or, take, drop, sym, refl, ap, ◌∙◌, arith}
use Rattle.std.specs.List.{flat_map}
use Rattle.std.proofs.lemmas.List.{append_assoc, append-nil, take-append-drop, take-take, take_more, drop-take, map-append}
use Rattle.std.proofs.lemmas.List.Elements.{filter-append}
use Rattle.elimination.specs.Table.{Line, uppers, lowers, pairs}
use Rattle.elimination.specs.Appends.{is_upper, is_lower, pairs_at}

-- one row with all of the other sort
abbrev pub with_each : Line → List Line → List (Line × Line)
with_each u ls = map (λ l. (u, l)) ls

joined_append : {X A : Type 0} (f : X → List A) (xs ys : List X) → flat_map f (xs ++ ys) ≡ flat_map f xs ++ flat_map f ys
joined_append f [] ys = refl
joined_append f (x ∷ xs) ys = ap (λ (z : List _). f x ++ z) (joined_append f xs ys) ∙ sym (append_assoc (f x) (flat_map f xs) (flat_map f ys))

pub pairs_append : (us vs ls : List Line) → pairs (us ++ vs) ls ≡ pairs us ls ++ pairs vs ls
pairs_append us vs ls = joined_append (λ u. with_each u ls) us vs

-- the first j + 1 places
take_next : {X : Type 0} (xs : List X) (j : ℕ) → take (j + 1) xs ≡ take j xs ++ take 1 (drop j xs)
take_next xs j =
    sym (take-append-drop j (take (j + 1) xs))
    ∙ (λ i. take-take j (j + 1) xs (omega arith) i ++ drop-take j 1 xs i)

-- what stands at place j does not hang on what stands past n
pub place_within : {X : Type 0} (xs ys : List X) (j n : ℕ) → j < n → take n xs ≡ take n ys → take 1 (drop j xs) ≡ take 1 (drop j ys)
place_within xs ys j n h e =
    sym (drop-take j 1 xs) ∙ ap (drop j) (sym (take-take (j + 1) n xs (omega arith)) ∙ ap (take (j + 1)) e ∙ take-take (j + 1) n ys (omega arith)) ∙ drop-take j 1 ys

module _ (k : ℕ) (t : List Line) where
  -- the row u with the first j + 1 rows
  pub row_more : (u : Line) (j : ℕ) → with_each u (lowers k (take (j + 1) t)) ≡ with_each u (lowers k (take j t)) ++ pairs_at k u t j
  row_more u j =
      ap (λ (x : List Line). with_each u (lowers k x)) (take_next t j)
      ∙ ap (with_each u) (filter-append (is_lower k) (take j t) (take 1 (drop j t)))
      ∙ map-append (λ l. (u, l)) (lowers k (take j t)) (lowers k (take 1 (drop j t)))

  -- and with those after it
  pub row_whole : (u : Line) (j : ℕ) → with_each u (lowers k t) ≡ (with_each u (lowers k (take j t)) ++ pairs_at k u t j) ++ with_each u (lowers k (drop (j + 1) t))
  row_whole u j =
      ap (λ (x : List Line). with_each u (lowers k x)) (sym (take-append-drop (j + 1) t))
      ∙ ap (with_each u) (filter-append (is_lower k) (take (j + 1) t) (drop (j + 1) t))
      ∙ map-append (λ l. (u, l)) (lowers k (take (j + 1) t)) (lowers k (drop (j + 1) t))
      ∙ ap (λ (x : List (Line × Line)). x ++ with_each u (lowers k (drop (j + 1) t))) (row_more u j)

  -- the rows before place i + 1, the one at i being u
  module _ (i : ℕ) (u : Line) (h : i < length t) (e : get_or t i u ≡ u) where
    uppers_next : uppers k (take (i + 1) t) ≡ uppers k (take i t) ++ cond (is_upper k u) (u ∷ []) []
    uppers_next =
        ap (uppers k) (take_more t i u h ∙ ap (λ (x : Line). take i t ++ x ∷ []) e)
        ∙ filter-append (is_upper k) (take i t) (u ∷ [])

    pub pairs_next : is_upper k u ≡ true → pairs (uppers k (take (i + 1) t)) (lowers k t) ≡ pairs (uppers k (take i t)) (lowers k t) ++ with_each u (lowers k t)
    pairs_next upper =
        ap (λ (x : List Line). pairs x (lowers k t)) (uppers_next ∙ ap (λ (b : Bool). uppers k (take i t) ++ cond b (u ∷ []) []) upper)
        ∙ pairs_append (uppers k (take i t)) (u ∷ []) (lowers k t)
        ∙ ap (λ (x : List (Line × Line)). pairs (uppers k (take i t)) (lowers k t) ++ x) (append-nil (with_each u (lowers k t)))

    pub pairs_same : is_upper k u ≡ false → pairs (uppers k (take (i + 1) t)) (lowers k t) ≡ pairs (uppers k (take i t)) (lowers k t)
    pairs_same no-upper =
        ap (λ (x : List Line). pairs x (lowers k t)) (uppers_next ∙ ap (λ (b : Bool). uppers k (take i t) ++ cond b (u ∷ []) []) no-upper ∙ append-nil (uppers k (take i t)))

    pub pairs_whole : is_upper k u ≡ true → pairs (uppers k t) (lowers k t) ≡ (pairs (uppers k (take i t)) (lowers k t) ++ with_each u (lowers k t)) ++ pairs (uppers k (drop (i + 1) t)) (lowers k t)
    pairs_whole upper =
        ap (λ (x : List Line). pairs (uppers k x) (lowers k t)) (sym (take-append-drop (i + 1) t))
        ∙ ap (λ (x : List Line). pairs x (lowers k t)) (filter-append (is_upper k) (take (i + 1) t) (drop (i + 1) t))
        ∙ pairs_append (uppers k (take (i + 1) t)) (uppers k (drop (i + 1) t)) (lowers k t)
        ∙ ap (λ (x : List (Line × Line)). x ++ pairs (uppers k (drop (i + 1) t)) (lowers k t)) (pairs_next upper)
