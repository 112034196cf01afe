-- A loop that adds up products: what is left to add makes the whole sum. Assumes nothing.
use Rattle.std.proofs.Common.{◌≡◌, ℕ, ◌+◌, ◌<◌, ◌≤◌, List, length, get_or, drop, ℤ, pos, ◌+ℤ◌, ◌*ℤ◌, sym, ap, ◌∙◌}
use lib.IntN.{+ℤ_assoc, +ℤ_idr}
use Rattle.std.proofs.lemmas.List.{drop_more, drop_all}
use Rattle.integers.specs.Vectors.{dot}
use Rattle.integers.proofs.VectorLaws.{dot_nil}

-- the sum s, with what the places from i on add
abbrev pub rest : ℤ → List ℤ → List ℤ → ℕ → ℤ
rest s xs ys i = s +ℤ dot (drop i xs) (drop i ys)

pub rest_more : (s : ℤ) (xs ys : List ℤ) (i : ℕ) → i < length xs → i < length ys → rest (s +ℤ get_or xs i (pos 0) *ℤ get_or ys i (pos 0)) xs ys (i + 1) ≡ rest s xs ys i
rest_more s xs ys i h k =
    +ℤ_assoc s (get_or xs i (pos 0) *ℤ get_or ys i (pos 0)) (dot (drop (i + 1) xs) (drop (i + 1) ys))
    ∙ sym (λ j. s +ℤ dot (drop_more xs i (pos 0) h j) (drop_more ys i (pos 0) k j))

pub rest_all_left : (s : ℤ) (xs ys : List ℤ) (i : ℕ) → length xs ≤ i → rest s xs ys i ≡ s
rest_all_left s xs ys i h = ap (λ (t : List ℤ). s +ℤ dot t (drop i ys)) (drop_all i xs h) ∙ +ℤ_idr s

pub rest_all_right : (s : ℤ) (xs ys : List ℤ) (i : ℕ) → length ys ≤ i → rest s xs ys i ≡ s
rest_all_right s xs ys i h = ap (λ (t : List ℤ). s +ℤ dot (drop i xs) t) (drop_all i ys h) ∙ ap (λ (z : ℤ). s +ℤ z) (dot_nil (drop i xs)) ∙ +ℤ_idr s
