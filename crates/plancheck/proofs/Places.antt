-- Rows by their places. Assumes nothing.
use Rattle.std.proofs.Common.{◌≡◌, ℕ, zero, suc, ◌<◌, List, [], ◌∷◌, length, get_or, ℤ, refl, arith}
use Rattle.std.proofs.lemmas.List.{length-map}
use Rattle.rows.specs.Firsts.{FirstWithout}
use Rattle.rows.specs.declared.row.Row.{Row}
use Rattle.rows.specs.Rows.{constraint, constraints, Meets, FirstUnmet}
use Rattle.plancheck.specs.Claims.{coefficients_at}

-- the first that fails stands in the list
pub first_within : {X : Type 0} (P : X → Type 0) (xs : List X) (i : ℕ) → FirstWithout P xs i → i < length xs
first_within P [] i f = absurd f
first_within P (x ∷ xs) zero f = omega arith
first_within P (x ∷ xs) (suc i) f = let h = first_within P xs i f.1 in omega arith

pub coefficients_there : (rows : List Row) (i : ℕ) (d : Row) → i < length rows → (get_or rows i d).coefficients ≡ coefficients_at (constraints rows) i
coefficients_there [] i d h = absurd (omega arith)
coefficients_there (r ∷ rows) zero d h = refl
coefficients_there (r ∷ rows) (suc i) d h = coefficients_there rows i d (omega arith)

pub unmet_within : (ns : List ℤ) (d : ℕ) (rows : List Row) (i : ℕ) → FirstUnmet ns d (constraints rows) i → i < length rows
unmet_within ns d rows i f = let h = first_within (Meets ns d) (constraints rows) i f in omega (arith, length-map rows constraint)
