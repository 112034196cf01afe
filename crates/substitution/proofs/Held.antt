-- The rows and pivots of the program, seen as those of the working. Assumes nothing.
use Rattle.std.proofs.Common.{◌≡◌, ℕ, suc, ◌+◌, ◌<◌, List, ◌++◌, length, get_or, take, drop, sym, ap, ◌∙◌, add-one}
use Rattle.std.specs.List.{remove}
use Rattle.std.proofs.lemmas.List.{length-map, get_or-map, map-append, take-map, drop-map}
use Rattle.substitution.specs.declared.kept.Kept.{Kept as Held}
use Rattle.substitution.specs.Holding.{kept_of, kepts}

module _ (rows : List Held) where
  pub count_held : length (kepts rows) ≡ length rows
  count_held = length-map rows kept_of

  pub held_at : (i : ℕ) (k : Held) → i < length rows → k ≡ get_or rows i k → get_or (kepts rows) i (kept_of k) ≡ kept_of k
  held_at i k g e = get_or-map kept_of rows i k (kept_of k) g ∙ ap kept_of (sym e)

  pub held_without : (i : ℕ) → kepts (remove rows i) ≡ take i (kepts rows) ++ drop (i + 1) (kepts rows)
  held_without i =
      map-append kept_of (take i rows) (drop (suc i) rows)
      ∙ (λ j. sym (take-map kept_of i rows) j ++ (sym (drop-map kept_of (suc i) rows) ∙ ap (λ (n : ℕ). drop n (kepts rows)) (sym (add-one i))) j)
