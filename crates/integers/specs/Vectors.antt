-- Lists of whole numbers as vectors. Assumes nothing.
use Rattle.std.specs.Prelude.{List, [], ◌∷◌, ℤ, pos, ◌+ℤ◌, ◌*ℤ◌}

-- the sum of the products, place by place; a place that one list lacks counts 0
abbrev pub dot : List ℤ → List ℤ → ℤ
dot [] ys = pos 0
dot (x ∷ xs) [] = pos 0
dot (x ∷ xs) (y ∷ ys) = x *ℤ y +ℤ dot xs ys

-- the sum, place by place; what one list lacks counts 0
abbrev pub add : List ℤ → List ℤ → List ℤ
add [] ys = ys
add (x ∷ xs) [] = x ∷ xs
add (x ∷ xs) (y ∷ ys) = (x +ℤ y) ∷ add xs ys

abbrev pub scale : ℤ → List ℤ → List ℤ
scale w [] = []
scale w (x ∷ xs) = (w *ℤ x) ∷ scale w xs
