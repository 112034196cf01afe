-- The weights of a listed row: 1 on itself and 0 on all others. Assumes nothing.
use Rattle.std.proofs.Common.{◌≡◌, ℕ, zero, suc, ◌<◌, List, [], ◌∷◌, length, get_or, drop, set, replicate, ℤ, pos, refl, arith, lit≤}
use lib.IntN.{zero-*ℤ}
use Rattle.integers.specs.Vectors.{dot}
use Rattle.integers.proofs.Laws.{one-*ℤ}
use Rattle.integers.proofs.Linear.{linear}
use Rattle.integers.proofs.VectorLaws.{dot_none}
use Rattle.rows.specs.Limits.{EachWithin}
use Rattle.rows.proofs.Fits.{zeros_within, within_set}

pub zeros_at : (n k : ℕ) → get_or (replicate n (pos 0)) k (pos 0) ≡ pos 0
zeros_at zero k = refl
zeros_at (suc n) zero = refl
zeros_at (suc n) (suc k) = zeros_at n k

abbrev pub unit : ℕ → ℕ → List ℤ
unit n i = set (replicate n (pos 0)) i (pos 1)

pub dot_unit : (n i : ℕ) (ys : List ℤ) → i < n → dot (unit n i) ys ≡ get_or ys i (pos 0)
dot_unit zero i ys h = absurd (omega arith)
dot_unit (suc n) zero [] h = refl
dot_unit (suc n) zero (y ∷ ys) h = omega (arith, linear, one-*ℤ y, dot_none (replicate n (pos 0)) ys (zeros_at n))
dot_unit (suc n) (suc i) [] h = refl
dot_unit (suc n) (suc i) (y ∷ ys) h = omega (arith, linear, zero-*ℤ y, dot_unit n i ys (omega arith))

pub unit_within : (n i : ℕ) → EachWithin (unit n i)
unit_within n i = within_set (replicate n (pos 0)) i (pos 1) (zeros_within n) (lit≤ tt)

-- the element at a place, and the rest of the list
pub place : {X : Type 0} (xs : List X) (i : ℕ) (x : X) (rest : List X) → drop i xs ≡ x ∷ rest → (i < length xs) × (get_or xs i x ≡ x) × (drop (suc i) xs ≡ rest)
place [] zero x rest e = absurd (let z : ◌≡◌ {A = ℕ} 0 1 = cc in omega arith)
place [] (suc i) x rest e = absurd (let z : ◌≡◌ {A = ℕ} 0 1 = cc in omega arith)
place (y ∷ xs) zero x rest e = (omega arith, cc, cc)
place (y ∷ xs) (suc i) x rest e = let h = place xs i x rest e in (omega arith, h.1, h.2)
