-- Euclid's rule gives the greatest common divisor, of two numbers and of a list. Assumes nothing.
use Rattle.std.proofs.Common.{◌≡◌, ℕ, zero, suc, ◌*◌, ◌/◌, ◌%◌, ◌<◌, List, [], ◌∷◌, ℤ, pos, nat_abs, refl, ap, ◌∙◌, mod-lt, zero-mul, arith}
use Prim.Native.Nat.{◌∣◌}
use native.Mathlib.Nat.{dvd_refl, dvd-zero, dvd_trans, dvd-mod_iff, dvd_antisymm, mul-div_cancel', mul-dvd-mul_left, dvd-mul_right, dvd_of_mul-dvd-mul_left}
use Rattle.integers.specs.Vectors.{scale}
use Rattle.integers.proofs.Bounds.{abs_mul}
use Rattle.integers.specs.Divisors.{IsGcd, IsGcdAll, euclid, gcd_of, gcd_all}

-- more uses of the rule than needed change nothing
same_uses : (m n a b : ℕ) → b < m → b < n → euclid m a b ≡ euclid n a b
unfolding euclid
same_uses zero n a b h k = absurd (omega arith)
same_uses (suc m) zero a b h k = absurd (omega arith)
same_uses (suc m) (suc n) a zero h k = refl
same_uses (suc m) (suc n) a (suc b) h k =
    let lt : a % suc b < suc b = mod-lt a (omega arith) in
    same_uses m n (suc b) (a % suc b) (omega arith) (omega arith)

pub gcd_zero : (a : ℕ) → gcd_of a 0 ≡ a
unfolding euclid gcd_of
gcd_zero a = refl

pub gcd_step : (a b : ℕ) → 0 < b → gcd_of a b ≡ gcd_of b (a % b)
unfolding euclid gcd_of
gcd_step a zero h = absurd (omega arith)
gcd_step a (suc b) h =
    let lt : a % suc b < suc b = mod-lt a (omega arith) in
    same_uses (suc b) (suc (a % suc b)) (suc b) (a % suc b) (omega arith) (omega arith)

pub is_gcd_zero : (a : ℕ) → IsGcd a 0 a
is_gcd_zero a = record { left = dvd_refl a; right = dvd-zero a; greatest = λ d p q. p }

pub is_gcd_step : (a b r : ℕ) → IsGcd b (a % b) r → IsGcd a b r
is_gcd_step a b r g = record {
  left = (dvd-mod_iff r g.left).0 g.right;
  right = g.left;
  greatest = λ d p q. g.greatest d q ((dvd-mod_iff d q).1 p);
}

euclid_is_gcd : (n a b : ℕ) → b < n → IsGcd a b (euclid n a b)
unfolding euclid
euclid_is_gcd zero a b h = absurd (omega arith)
euclid_is_gcd (suc n) a zero h = is_gcd_zero a
euclid_is_gcd (suc n) a (suc b) h =
    let lt : a % suc b < suc b = mod-lt a (omega arith) in
    is_gcd_step a (suc b) _ (euclid_is_gcd n (suc b) (a % suc b) (omega arith))

pub gcd_of_is_gcd : (a b : ℕ) → IsGcd a b (gcd_of a b)
unfolding gcd_of
gcd_of_is_gcd a b = euclid_is_gcd (suc b) a b (omega arith)

-- and nothing else is
pub is_gcd_unique : (a b r s : ℕ) → IsGcd a b r → IsGcd a b s → r ≡ s
is_gcd_unique a b r s p q =
    dvd_antisymm (q.greatest r p.left p.right) (p.greatest s q.left q.right)

pub gcd_all_is_gcd_all : (g : ℕ) (zs : List ℤ) → IsGcdAll g zs (gcd_all g zs)
unfolding gcd_all
gcd_all_is_gcd_all g [] = record { first = dvd_refl g; each = tt; greatest = λ d p q. p }
gcd_all_is_gcd_all g (z ∷ zs) =
    let h = gcd_of_is_gcd g (nat_abs z) in
    let r = gcd_all_is_gcd_all (gcd_of g (nat_abs z)) zs in
    record {
      first = dvd_trans _ r.first h.left;
      each = (dvd_trans _ r.first h.right, r.each);
      greatest = λ d p q. r.greatest d (h.greatest d p q.0) q.1;
    }

pub is_gcd_all_unique : (g : ℕ) (zs : List ℤ) (r s : ℕ) → IsGcdAll g zs r → IsGcdAll g zs s → r ≡ s
is_gcd_all_unique g zs r s p q =
    dvd_antisymm (q.greatest r p.first p.each) (p.greatest s q.first q.each)

-- a common factor
is_gcd_mul : (k a b g : ℕ) → 0 < k → IsGcd a b g → IsGcd (k * a) (k * b) (k * g)
is_gcd_mul k a b g h p =
    let G = gcd_of (k * a) (k * b) in
    let r = gcd_of_is_gcd (k * a) (k * b) in
    let e : k * (G / k) ≡ G = mul-div_cancel' k (r.greatest k (dvd-mul_right k a) (dvd-mul_right k b)) in
    let left : G / k ∣ a = dvd_of_mul-dvd-mul_left (G / k) h (rw e r.left) in
    let right : G / k ∣ b = dvd_of_mul-dvd-mul_left (G / k) h (rw e r.right) in
    let all : G ∣ k * g = rw e at (mul-dvd-mul_left (G / k) k (p.greatest (G / k) left right)) in
    record {
      left = mul-dvd-mul_left g k p.left;
      right = mul-dvd-mul_left g k p.right;
      greatest = λ d s t. dvd_trans d (r.greatest d s t) all;
    }

pub gcd_mul : (k a b : ℕ) → gcd_of (k * a) (k * b) ≡ k * gcd_of a b
gcd_mul zero a b = simp zero-mul (gcd_zero 0)
gcd_mul (suc k) a b = is_gcd_unique (suc k * a) (suc k * b) _ _ (gcd_of_is_gcd (suc k * a) (suc k * b)) (is_gcd_mul (suc k) a b (gcd_of a b) (omega arith) (gcd_of_is_gcd a b))

pub gcd_all_mul : (k g : ℕ) (zs : List ℤ) → gcd_all (k * g) (scale (pos k) zs) ≡ k * gcd_all g zs
unfolding gcd_all
gcd_all_mul k g [] = refl
gcd_all_mul k g (z ∷ zs) =
    ap (λ (n : ℕ). gcd_all (gcd_of (k * g) n) (scale (pos k) zs)) (abs_mul (pos k) z)
    ∙ ap (λ (n : ℕ). gcd_all n (scale (pos k) zs)) (gcd_mul k g (nat_abs z))
    ∙ gcd_all_mul k (gcd_of g (nat_abs z)) zs
