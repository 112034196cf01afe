-- Fractions in lowest terms: no other terms are smaller, and to divide by the common divisor gives them. Assumes nothing.
use Rattle.std.proofs.Common.{◌≡◌, ℕ, suc, ◌*◌, ◌/◌, ◌<◌, ◌≤◌, List, [], ◌∷◌, ℤ, pos, negsuc, ◌*ℤ◌, neg_ℤ, nat_abs, ◌≤ℤ◌, ◌<ℤ◌, sym, refl, ap, ◌∙◌, subst, mul-le-mul_left, one-mul, mul-one, div-le_self, le_of_mul-le-mul_right, arith, w64, SFits}
use Prim.Native.Nat.{◌∣◌}
use native.Mathlib.Nat.{dvd-mul_left, le_of_dvd, div-mul_cancel, pos_of_dvd_of_pos, eq-one_of_dvd-one, dvd_of_mul-dvd-mul_right, mul-dvd-mul_right}
use borrow.Author.Differences.{ints}
use lib.IntN.{*ℤ_comm, *ℤ-zero}
use lib.Signed.{quot_z}
use Rattle.std.specs.List.{AllByRecursion as All}
use Rattle.integers.specs.Divisors.{gcd_of, gcd_all, IsGcdAll}
use Rattle.integers.specs.Fractions.{Least, Same, NoLarger, Smallest, Lowest, Reduced, lowest_numerator, lowest_denominator}
use Rattle.integers.specs.Vectors.{scale}
use Rattle.integers.proofs.Bounds.{abs_mul}
use Rattle.integers.proofs.DivisorLaws.{gcd_of_is_gcd, gcd_all_is_gcd_all, gcd_all_mul}
use Rattle.integers.proofs.Inequality.{given, ◌and◌, follows}
use Rattle.integers.proofs.Laws.{neg-*ℤ}
use Rattle.integers.proofs.Order.{*ℤ-cancel, *ℤ-cancel-<}
use Rattle.integers.proofs.Ring.{con, var, ◌⊗◌}

-- d divides the numerators times q
divides_scaled : (d q : ℕ) (ns ps : List ℤ) → Same ns d ps q → All (λ z. d ∣ nat_abs z) (scale (pos q) ns)
divides_scaled d q [] [] s = tt
divides_scaled d q [] (p ∷ ps) s = absurd s
divides_scaled d q (n ∷ ns) [] s = absurd s
divides_scaled d q (n ∷ ns) (p ∷ ps) s =
    let e : nat_abs (pos q *ℤ n) ≡ nat_abs p * d = ap nat_abs (*ℤ_comm (pos q) n ∙ s.0) ∙ abs_mul p (pos d) in
    (subst (λ (x : ℕ). d ∣ x) (sym e) (dvd-mul_left d (nat_abs p)), divides_scaled d q ns ps s.1)

-- the denominator in lowest terms divides that in any other terms
pub least_divides : (ns : List ℤ) (d : ℕ) (ps : List ℤ) (q : ℕ) → Least ns d → Same ns d ps q → d ∣ q
least_divides ns d ps q l s =
    let all = gcd_all_is_gcd_all d ns in
    let one : gcd_all d ns ≡ 1 = l (gcd_all d ns) all.first all.each in
    let e : gcd_all (q * d) (scale (pos q) ns) ≡ q = gcd_all_mul q d ns ∙ ap (λ (x : ℕ). q * x) one ∙ mul-one q in
    subst (λ (x : ℕ). d ∣ x) e ((gcd_all_is_gcd_all (q * d) (scale (pos q) ns)).greatest d (dvd-mul_left d q) (divides_scaled d q ns ps s))

no_larger : (ns : List ℤ) (d : ℕ) (ps : List ℤ) (q : ℕ) → 0 < d → d ≤ q → Same ns d ps q → NoLarger ns ps
no_larger [] d [] q h k s = tt
no_larger [] d (p ∷ ps) q h k s = absurd s
no_larger (n ∷ ns) d [] q h k s = absurd s
no_larger (n ∷ ns) d (p ∷ ps) q h k s =
    let e : nat_abs n * q ≡ nat_abs p * d = sym (abs_mul n (pos q)) ∙ ap nat_abs s.0 ∙ abs_mul p (pos d) in
    let m : nat_abs n * d ≤ nat_abs p * d = subst (λ (x : ℕ). nat_abs n * d ≤ x) e (mul-le-mul_left (nat_abs n) k) in
    (le_of_mul-le-mul_right m h, no_larger ns d ps q h k s.1)

pub smallest : Smallest
smallest ns d ps q h k l s =
    let le : d ≤ q = le_of_dvd k (least_divides ns d ps q l s) in
    (no_larger ns d ps q h le s, le)

-- the same of one fraction
pub lowest_least : (m e p q : ℤ) → pos 0 <ℤ e → pos 0 <ℤ q → Lowest m e → m *ℤ q ≡ p *ℤ e → (nat_abs m ≤ nat_abs p) × (nat_abs e ≤ nat_abs q)
lowest_least m (pos e) p (pos q) h k l s =
    let r = smallest (m ∷ []) e (p ∷ []) q (omega (arith, ints)) (omega (arith, ints)) (λ g a b. l g b.0 a) (s, tt) in
    (r.0.0, r.1)
lowest_least m (pos e) p (negsuc q) h k l s = absurd k.lt
lowest_least m (negsuc e) p q h k l s = absurd h.lt

-- ---- to divide by the common divisor

pub quot_exact : (z : ℤ) (g : ℕ) → g ∣ nat_abs z → quot_z z (pos g) *ℤ pos g ≡ z
quot_exact (pos a) g h = ap pos (div-mul_cancel g h)
quot_exact (negsuc a) g h = neg-*ℤ (pos (suc a / g)) (pos g) ∙ ap (λ (x : ℕ). neg_ℤ (pos x)) (div-mul_cancel g h)

pub quot_fits : (z d : ℤ) → SFits w64 z → pos 0 ≤ℤ d → SFits w64 (quot_z z d)
quot_fits (pos a) (pos b) f h = omega (arith, ints, div-le_self a b)
quot_fits (negsuc a) (pos b) f h = omega (arith, ints, div-le_self (suc a) b)
quot_fits z (negsuc b) f h = absurd h.le

-- n over d, their common divisor g, and the quotients m over e
pub record Divided (n d m e : ℤ) (g : ℕ) : Type 0 where
  pub above : 0 < g
  pub within : g ≤ nat_abs d
  pub numerator : m *ℤ pos g ≡ n
  pub denominator : e *ℤ pos g ≡ d
  pub positive : pos 0 <ℤ e
  pub lowest : Lowest m e

pub divided : (n d : ℤ) → pos 0 <ℤ d → Divided n d (lowest_numerator n d) (lowest_denominator n d) (gcd_of (nat_abs n) (nat_abs d))
divided n d h =
    let g = gcd_of (nat_abs n) (nat_abs d) in
    let m = lowest_numerator n d in
    let e = lowest_denominator n d in
    let is = gcd_of_is_gcd (nat_abs n) (nat_abs d) in
    let size : 0 < nat_abs d = omega (arith, ints) in
    let above : 0 < g = pos_of_dvd_of_pos is.right size in
    let en : m *ℤ pos g ≡ n = quot_exact n g is.left in
    let ed : e *ℤ pos g ≡ d = quot_exact d g is.right in
    let an : nat_abs m * g ≡ nat_abs n = sym (abs_mul m (pos g)) ∙ ap nat_abs en in
    let ad : nat_abs e * g ≡ nat_abs d = sym (abs_mul e (pos g)) ∙ ap nat_abs ed in
    let pg : pos 0 <ℤ pos g = omega (arith, ints) in
    let less : (pos g *ℤ pos 0) <ℤ (pos g *ℤ e) = subst (λ (z : ℤ). (pos g *ℤ pos 0) <ℤ z) (sym ed ∙ *ℤ_comm e (pos g)) (subst (λ (z : ℤ). z <ℤ d) (sym (*ℤ-zero (pos g))) h) in
    record {
      above = above;
      within = le_of_dvd size is.right;
      numerator = en;
      denominator = ed;
      positive = *ℤ-cancel-< (pos g) pg less;
      lowest = λ k p q. eq-one_of_dvd-one (dvd_of_mul-dvd-mul_right k above
          (subst (λ (x : ℕ). k * g ∣ x) (sym (one-mul g))
          (is.greatest (k * g) (subst (λ (x : ℕ). k * g ∣ x) an (mul-dvd-mul_right k p g)) (subst (λ (x : ℕ). k * g ∣ x) ad (mul-dvd-mul_right k q g)))));
    }

pub divided_reduced : (n d m e : ℤ) (g : ℕ) → Divided n d m e g → Reduced n d m e
divided_reduced n d m e g t =
    let N = var 0 in let D = var 1 in let M = var 2 in let E = var 3 in let G = var 4 in let P = var 5 in let Q = var 6 in
    let factor : pos 0 <ℤ pos g = omega (arith, ints, t.above) in
    record {
      same = follows (N ⊗ E) (M ⊗ D) (n ∷ d ∷ m ∷ e ∷ pos g ∷ []) (given E N (M ⊗ G) (sym t.numerator) and given M (E ⊗ G) D t.denominator) refl;
      least = λ p q h s. lowest_least m e p q t.positive h t.lowest
          (*ℤ-cancel (pos g) factor (follows (G ⊗ (M ⊗ Q)) (G ⊗ (P ⊗ E)) (n ∷ d ∷ m ∷ e ∷ pos g ∷ p ∷ q ∷ [])
          (given Q (M ⊗ G) N t.numerator and given (con (pos 1)) (N ⊗ Q) (P ⊗ D) s and given P D (E ⊗ G) (sym t.denominator)) refl));
    }

-- the terms are lowest exactly where the common divisor is 1
pub least_from_one : (ns : List ℤ) (d r : ℕ) → IsGcdAll d ns r → r ≡ 1 → Least ns d
least_from_one ns d r a e g h k = eq-one_of_dvd-one (subst (λ (x : ℕ). g ∣ x) e (a.greatest g h k))

pub one_from_least : (ns : List ℤ) (d r : ℕ) → IsGcdAll d ns r → Least ns d → r ≡ 1
one_from_least ns d r a l = l r a.first a.each
