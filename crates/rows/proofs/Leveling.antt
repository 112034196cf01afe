-- Levels over the least denominator: the same levels, within G, which meet the same rows. Assumes nothing.
use Rattle.std.proofs.Common.{◌≡◌, ℕ, zero, suc, ◌*◌, ◌/◌, ◌<◌, ◌≤◌, cond, ◌&&◌, eqb, List, [], ◌∷◌, length, get_or, ℤ, pos, ◌*ℤ◌, nat_abs, Some, None, sym, refl, ap, ◌∙◌, subst, subst₂, arith}
use Prim.Native.Nat.{◌∣◌}
use lib.IntN.{*ℤ-zero, *ℤ_comm}
use lib.Signed.{quot_z}
use Rattle.std.specs.List.{AllByRecursion as All}
use Rattle.std.proofs.lemmas.Bool.{and_parts, eqb-false}
use Rattle.integers.specs.Vectors.{dot, scale}
use Rattle.integers.specs.Divisors.{gcd_all}
use Rattle.integers.specs.Fractions.{Least}
use Rattle.integers.proofs.Linear.{linear}
use Rattle.integers.proofs.Order.{*ℤ-cancel}
use Rattle.integers.proofs.Ring.{var, ◌⊗◌, vanish}
use Rattle.integers.proofs.VectorLaws.{dot_scale_right, scale_at, length_scale}
use Rattle.integers.proofs.DivisorLaws.{gcd_all_is_gcd_all}
use Rattle.integers.proofs.FractionLaws.{quot_exact}
use Rattle.rows.specs.Limits.{largest, EachWithin, near, all_near}
use Rattle.rows.specs.Rows.{Constraint, Compares, Meets}
use Rattle.rows.specs.Presets.{divided, least_terms}
use Rattle.rows.proofs.Alls.{cond_some, cond_none}
use Rattle.rows.proofs.Blends.{near_within, all_near_each}
use Rattle.rows.proofs.Comparing.{compares_cancel}
use Rattle.rows.proofs.Reducing.{shared_above, quotient_above, restored, reduced_least}

multiplied_back : (g : ℕ) (ns : List ℤ) → All (λ n. g ∣ nat_abs n) ns → scale (pos g) (divided g ns) ≡ ns
multiplied_back g [] h = refl
multiplied_back g (n ∷ ns) h = λ i. (*ℤ_comm (pos g) (quot_z n (pos g)) ∙ quot_exact n g h.0) i ∷ multiplied_back g ns h.1 i

-- ms over e is ns over d in lowest terms, within G
pub record Leveled (ns : List ℤ) (d : ℕ) (ms : List ℤ) (e : ℕ) : Type 0 where
  pub factor : ℕ
  pub above : 0 < factor
  pub positive : 0 < e
  pub numerators_are : scale (pos factor) ms ≡ ns
  pub denominator_is : e * factor ≡ d
  pub within : EachWithin ms
  pub bounded : e ≤ largest
  pub lowest : Least ms e

pub leveled : (ns : List ℤ) (d : ℕ) (q : List ℤ × ℕ) → least_terms ns d ≡ Some q → Leveled ns d q.0 q.1
leveled ns d q s =
    let g = gcd_all d ns in
    let is = gcd_all_is_gcd_all d ns in
    let test = all_near (divided g ns) && near (pos (d / g)) in
    let o = cond_none (eqb d 0) (cond test (Some (divided g ns, d / g)) None) q s in
    let not-zero = eqb-false d 0 o.0 in
    let pd : 0 < d = some d not-zero in
    let c = cond_some test (divided g ns, d / g) q o.1 in
    let t = and_parts (all_near (divided g ns)) (near (pos (d / g))) c.0 in
    subst (λ (y : List ℤ × ℕ). Leveled ns d y.0 y.1) c.1
    (record {
      factor = g;
      above = shared_above ns d pd;
      positive = quotient_above ns d pd;
      numerators_are = multiplied_back g ns is.each;
      denominator_is = restored ns d pd;
      within = all_near_each (divided g ns) t.0;
      bounded = near_within (pos (d / g)) t.1;
      lowest = reduced_least ns d pd;
    })
  where
    some : (n : ℕ) → (n ≡ 0 → ⊥) → 0 < n
    some zero h = absurd (h refl)
    some (suc n) h = omega arith

module _ (ns : List ℤ) (d : ℕ) (ms : List ℤ) (e : ℕ) (o : Leveled ns d ms e) where
  pub leveled_meets : (r : Constraint) → Meets ns d r → Meets ms e r
  leveled_meets r h =
      let g = o.factor in
      let S = var 0 in let D = var 1 in let G = var 2 in
      compares_cancel r.kind g (dot r.coefficients ms) (r.side *ℤ pos e) o.above
      (subst₂ (Compares r.kind)
      (ap (dot r.coefficients) (sym o.numerators_are) ∙ dot_scale_right (pos g) r.coefficients ms)
      (ap (λ (t : ℕ). r.side *ℤ pos t) (sym o.denominator_is) ∙ vanish (S ⊗ (D ⊗ G)) (G ⊗ (S ⊗ D)) (r.side ∷ pos e ∷ pos g ∷ []) refl)
      h)

  pub leveled_length : length ms ≡ length ns
  leveled_length = sym (length_scale (pos o.factor) ms) ∙ ap length o.numerators_are

  pub leveled_zero : (k : ℕ) → get_or ns k (pos 0) ≡ pos 0 → get_or ms k (pos 0) ≡ pos 0
  leveled_zero k z = cancel_zero o.factor (get_or ms k (pos 0)) o.above (sym (scale_at (pos o.factor) ms k) ∙ ap (λ (t : List ℤ). get_or t k (pos 0)) o.numerators_are ∙ z)
    where
      cancel_zero : (g : ℕ) (z : ℤ) → 0 < g → pos g *ℤ z ≡ pos 0 → z ≡ pos 0
      cancel_zero g z p e = *ℤ-cancel (pos g) (omega (arith, linear)) (e ∙ sym (*ℤ-zero (pos g)))
