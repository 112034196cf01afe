-- Numerators and denominator divided by their common divisor: the same fractions, in lowest terms. Assumes nothing.
use Rattle.std.proofs.Common.{◌≡◌, ℕ, ◌*◌, ◌/◌, ◌<◌, List, [], ◌∷◌, ℤ, pos, ◌*ℤ◌, nat_abs, sym, refl, ap, ◌∙◌, subst, one-mul}
use Prim.Native.Nat.{◌∣◌}
use native.Mathlib.Nat.{div-mul_cancel, pos_of_dvd_of_pos, eq-one_of_dvd-one, dvd_of_mul-dvd-mul_right, mul-dvd-mul_right, dvd-mul_right}
use lib.Signed.{quot_z}
use Rattle.std.specs.List.{AllByRecursion as All}
use Rattle.integers.specs.Divisors.{gcd_all}
use Rattle.integers.specs.Fractions.{Least, Same}
use Rattle.integers.proofs.Bounds.{abs_mul}
use Rattle.integers.proofs.DivisorLaws.{gcd_all_is_gcd_all}
use Rattle.integers.proofs.FractionLaws.{quot_exact}
use Rattle.integers.proofs.Ring.{var, ◌⊗◌, vanish}
use Rattle.rows.specs.Presets.{divided}

-- what divides the quotients, times the divisor, divides the numbers
pub divides_back : (g h : ℕ) (ns : List ℤ) → All (λ n. g ∣ nat_abs n) ns → All (λ n. h ∣ nat_abs n) (divided g ns) → All (λ n. h * g ∣ nat_abs n) ns
divides_back g h [] a b = tt
divides_back g h (n ∷ ns) a b =
    let e : nat_abs (quot_z n (pos g)) * g ≡ nat_abs n = sym (abs_mul (quot_z n (pos g)) (pos g)) ∙ ap nat_abs (quot_exact n g a.0) in
    (subst (λ (x : ℕ). h * g ∣ x) e (mul-dvd-mul_right h b.0 g), divides_back g h ns a.1 b.1)

same_fractions : (g e d : ℕ) (ns : List ℤ) → e * g ≡ d → All (λ n. g ∣ nat_abs n) ns → Same (divided g ns) e ns d
same_fractions g e d [] s a = tt
same_fractions g e d (n ∷ ns) s a = (
  ap (λ (x : ℕ). quot_z n (pos g) *ℤ pos x) (sym s)
      ∙ vanish (var 0 ⊗ (var 1 ⊗ var 2)) ((var 0 ⊗ var 2) ⊗ var 1) (quot_z n (pos g) ∷ pos e ∷ pos g ∷ []) refl
      ∙ ap (λ (z : ℤ). z *ℤ pos e) (quot_exact n g a.0),
  same_fractions g e d ns s a.1,
)

module _ (ns : List ℤ) (d : ℕ) (pd : 0 < d) where
  pub shared_above : 0 < gcd_all d ns
  shared_above = pos_of_dvd_of_pos (gcd_all_is_gcd_all d ns).first pd

  pub restored : d / gcd_all d ns * gcd_all d ns ≡ d
  restored = div-mul_cancel (gcd_all d ns) (gcd_all_is_gcd_all d ns).first

  pub quotient_above : 0 < d / gcd_all d ns
  quotient_above = some_of (d / gcd_all d ns) d (gcd_all d ns) pd restored
    where
      some_of : (q d g : ℕ) → 0 < d → q * g ≡ d → 0 < q
      some_of q d g h e = pos_of_dvd_of_pos (subst (λ (x : ℕ). q ∣ x) e (dvd-mul_right q g)) h

  pub reduced_least : Least (divided (gcd_all d ns) ns) (d / gcd_all d ns)
  reduced_least h p q =
      let g = gcd_all d ns in
      let is = gcd_all_is_gcd_all d ns in
      eq-one_of_dvd-one (dvd_of_mul-dvd-mul_right h shared_above
      (subst (λ (y : ℕ). h * g ∣ y) (sym (one-mul g))
      (is.greatest (h * g) (subst (λ (y : ℕ). h * g ∣ y) restored (mul-dvd-mul_right h p g)) (divides_back g h ns is.each q))))

  pub reduced_same : Same (divided (gcd_all d ns) ns) (d / gcd_all d ns) ns d
  reduced_same = same_fractions (gcd_all d ns) (d / gcd_all d ns) d ns restored (gcd_all_is_gcd_all d ns).each
