-- `dot` is linear in each of its lists, and how large it can be. Assumes nothing.
use Rattle.std.proofs.Common.{◌≡◌, ℕ, zero, suc, ◌*◌, ◌≤◌, List, [], ◌∷◌, length, get_or, ℤ, pos, ◌+ℤ◌, ◌*ℤ◌, nat_abs, sym, refl, ap, ◌∙◌, arith}
use lib.IntN.{+ℤ_idl, +ℤ_idr, *ℤ-zero, zero-*ℤ}
use Rattle.std.specs.List.{AllByRecursion as All}
use Rattle.integers.specs.Vectors.{dot, add, scale}
use Rattle.integers.proofs.Laws.{*ℤ-+ℤ, +ℤ-*ℤ, *ℤ-assoc, *ℤ-left-comm}
use Rattle.integers.proofs.Linear.{linear}
use Rattle.integers.proofs.Bounds.{mul_near, add_near}

pub dot_add : (xs ys ns : List ℤ) → dot (add xs ys) ns ≡ dot xs ns +ℤ dot ys ns
dot_add [] ys ns = sym (+ℤ_idl (dot ys ns))
dot_add (x ∷ xs) [] ns = sym (+ℤ_idr (dot (x ∷ xs) ns))
dot_add (x ∷ xs) (y ∷ ys) [] = refl
dot_add (x ∷ xs) (y ∷ ys) (n ∷ ns) = omega (arith, linear, +ℤ-*ℤ x y n, dot_add xs ys ns)

pub dot_scale : (w : ℤ) (xs ns : List ℤ) → dot (scale w xs) ns ≡ w *ℤ dot xs ns
dot_scale w [] ns = sym (*ℤ-zero w)
dot_scale w (x ∷ xs) [] = sym (*ℤ-zero w)
dot_scale w (x ∷ xs) (n ∷ ns) = omega (arith, linear, *ℤ-assoc w x n, *ℤ-+ℤ w (x *ℤ n) (dot xs ns), dot_scale w xs ns)

pub dot_scale_right : (w : ℤ) (xs ns : List ℤ) → dot xs (scale w ns) ≡ w *ℤ dot xs ns
dot_scale_right w [] ns = sym (*ℤ-zero w)
dot_scale_right w (x ∷ xs) [] = sym (*ℤ-zero w)
dot_scale_right w (x ∷ xs) (n ∷ ns) = omega (arith, linear, *ℤ-left-comm x w n, *ℤ-+ℤ w (x *ℤ n) (dot xs ns), dot_scale_right w xs ns)

pub dot_nil : (xs : List ℤ) → dot xs [] ≡ pos 0
dot_nil [] = refl
dot_nil (x ∷ xs) = refl

-- the k-th place of a sum and of a multiple
pub add_at : (xs ys : List ℤ) (k : ℕ) → get_or (add xs ys) k (pos 0) ≡ get_or xs k (pos 0) +ℤ get_or ys k (pos 0)
add_at [] ys k = sym (+ℤ_idl (get_or ys k (pos 0)))
add_at (x ∷ xs) [] k = sym (+ℤ_idr (get_or (x ∷ xs) k (pos 0)))
add_at (x ∷ xs) (y ∷ ys) zero = refl
add_at (x ∷ xs) (y ∷ ys) (suc k) = add_at xs ys k

pub scale_at : (w : ℤ) (xs : List ℤ) (k : ℕ) → get_or (scale w xs) k (pos 0) ≡ w *ℤ get_or xs k (pos 0)
scale_at w [] k = sym (*ℤ-zero w)
scale_at w (x ∷ xs) zero = refl
scale_at w (x ∷ xs) (suc k) = scale_at w xs k

-- a list of zeros
pub dot_none : (xs ns : List ℤ) → ((k : ℕ) → get_or xs k (pos 0) ≡ pos 0) → dot xs ns ≡ pos 0
dot_none [] ns z = refl
dot_none (x ∷ xs) [] z = refl
dot_none (x ∷ xs) (n ∷ ns) z = (λ i. z 0 i *ℤ n +ℤ dot_none xs ns (λ k. z (suc k)) i) ∙ +ℤ_idr (pos 0 *ℤ n) ∙ zero-*ℤ n

-- numbers within m and within n
pub dot_near : (m n : ℕ) (xs ys : List ℤ) → All (λ x. nat_abs x ≤ m) xs → All (λ y. nat_abs y ≤ n) ys → nat_abs (dot xs ys) ≤ length xs * (m * n)
dot_near m n [] ys p q = omega arith
dot_near m n (x ∷ xs) [] p q = omega arith
dot_near m n (x ∷ xs) (y ∷ ys) p q =
    omega (arith, add_near (x *ℤ y) (dot xs ys) (m * n) (length xs * (m * n)) (mul_near x y m n p.0 q.0) (dot_near m n xs ys p.1 q.1), native.Mathlib.Nat.suc-mul (length xs) (m * n))

-- lists of one length
pub length_scale : (w : ℤ) (xs : List ℤ) → length (scale w xs) ≡ length xs
length_scale w [] = refl
length_scale w (x ∷ xs) = ap suc (length_scale w xs)

pub length_add : (xs ys : List ℤ) → length xs ≡ length ys → length (add xs ys) ≡ length xs
length_add [] [] e = refl
length_add [] (y ∷ ys) e = absurd (omega arith)
length_add (x ∷ xs) [] e = absurd (omega arith)
length_add (x ∷ xs) (y ∷ ys) e = ap suc (length_add xs ys (omega arith))
