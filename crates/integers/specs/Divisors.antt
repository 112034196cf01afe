-- The greatest common divisor: what it is, and Euclid's rule for it. Assumes nothing.
use Rattle.std.specs.Prelude.{ℕ, zero, suc, ◌%◌, List, [], ◌∷◌, ℤ, unsigned_abs}
use Rattle.std.specs.Int.{◌∣◌}
use Rattle.std.specs.List.{AllByRecursion}

-- r divides a and b, and whatever divides both divides r
pub record IsGcd (a b r : ℕ) : Type 0 where
  pub left : r ∣ a
  pub right : r ∣ b
  pub greatest : (d : ℕ) → d ∣ a → d ∣ b → d ∣ r

-- Euclid's rule, used at most so many times
unfoldable pub euclid : ℕ → ℕ → ℕ → ℕ
euclid zero a b = a
euclid (suc n) a zero = a
euclid (suc n) a (suc b) = euclid n (suc b) (a % suc b)

-- the common divisor of a and 0 is a; that of a and any other b is that of b and a modulo b, which suc b uses of the rule reach
unfoldable pub gcd_of : ℕ → ℕ → ℕ
gcd_of a b = euclid (suc b) a b

-- the common divisor of a number and of the sizes of a list
unfoldable pub gcd_all : ℕ → List ℤ → ℕ
gcd_all g [] = g
gcd_all g (z ∷ zs) = gcd_all (gcd_of g (unsigned_abs z)) zs

-- r divides the number and each of the list, and whatever divides all of them divides r
pub record IsGcdAll (g : ℕ) (zs : List ℤ) (r : ℕ) : Type 0 where
  pub first : r ∣ g
  pub each : AllByRecursion (λ z. r ∣ unsigned_abs z) zs
  pub greatest : (d : ℕ) → d ∣ g → AllByRecursion (λ z. d ∣ unsigned_abs z) zs → d ∣ r
