-- Bounds on the sizes of sums and products. Assumes nothing.
use Rattle.std.proofs.Common.{◌≡◌, ℕ, zero, suc, ◌+◌, ◌*◌, ◌≤◌, ℤ, pos, negsuc, ◌+ℤ◌, ◌*ℤ◌, neg_ℤ, nat_abs, refl, arith}
use borrow.Author.Differences.{up, down, ints}
use Rattle.std.proofs.lemmas.Nat.{mul-le}

pub abs_neg : (n : ℕ) → nat_abs (neg_ℤ (pos n)) ≡ n
abs_neg zero = refl
abs_neg (suc n) = refl

pub abs_mul : (a b : ℤ) → nat_abs (a *ℤ b) ≡ nat_abs a * nat_abs b
abs_mul (pos a) (pos b) = refl
abs_mul (pos a) (negsuc b) = abs_neg (a * suc b)
abs_mul (negsuc a) (pos b) = abs_neg (suc a * b)
abs_mul (negsuc a) (negsuc b) = refl

pub mul_near : (a b : ℤ) (m n : ℕ) → nat_abs a ≤ m → nat_abs b ≤ n → nat_abs (a *ℤ b) ≤ m * n
mul_near a b m n p q = rw abs_mul (mul-le (nat_abs a) (nat_abs b) m n p q)

-- what |z| ≤ m says, in the form that `omega (arith, ints)` proves and uses
pub abs_in : (z : ℤ) (m : ℕ) → up z ≤ down z + m → down z ≤ up z + m → nat_abs z ≤ m
abs_in (pos n) m p q = omega arith
abs_in (negsuc n) m p q = omega arith

pub abs_out : (z : ℤ) (m : ℕ) → nat_abs z ≤ m → (up z ≤ down z + m) × (down z ≤ up z + m)
abs_out (pos n) m p = omega arith
abs_out (negsuc n) m p = omega arith

pub add_near : (a b : ℤ) (m n : ℕ) → nat_abs a ≤ m → nat_abs b ≤ n → nat_abs (a +ℤ b) ≤ m + n
add_near a b m n p q = abs_in (a +ℤ b) (m + n) (omega (arith, ints, abs_out a m p, abs_out b n q)) (omega (arith, ints, abs_out a m p, abs_out b n q))
