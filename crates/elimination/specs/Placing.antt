-- The levels with one fader set: which lines they meet, and that they are well formed. Assumes nothing.
use Rattle.std.specs.Prelude.{◌≡◌, ℕ, zero, suc, ◌*◌, ◌/◌, ◌<◌, ◌≤◌, true, ◌&&◌, List, [], ◌∷◌, length, get_or, ℤ, pos, ◌+ℤ◌, ◌-ℤ◌, ◌*ℤ◌, neg_ℤ, Some, ◌≢◌, int_div, slice_index_or, slice_set, unsigned_abs, refl}
use Rattle.std.proofs.Common.{sym, ap, subst, subst₂, ◌∙◌, arith}
use Rattle.std.specs.Int.{◌∣◌}
use Rattle.std.proofs.Math.IntN.{*ℤ-zero, zero-*ℤ, *ℤ_comm}
use Rattle.std.specs.List.{AllByRecursion}
use Rattle.std.proofs.lemmas.List.{length-set, get_or-set_other}
use Rattle.std.proofs.lemmas.Bool.{and_parts, leb-true}
use Rattle.integers.specs.Vectors.{dot, scale}
use Rattle.integers.specs.Divisors.{gcd_all}
use Rattle.integers.specs.Fractions.{Least}
use Rattle.integers.proofs.Linear.{linear}
use Rattle.integers.proofs.Order.{*ℤ-cancel}
use Rattle.integers.proofs.Ring.{con, var, ◌⊕◌, ◌⊖◌, ◌⊗◌, neg, vanish}
use Rattle.integers.proofs.VectorLaws.{dot_scale_right, scale_at}
use Rattle.integers.proofs.DivisorLaws.{gcd_all_is_gcd_all}
use Rattle.integers.proofs.FractionLaws.{quot_exact}
use Rattle.rows.specs.Limits.{largest, Within, EachWithin}
use Rattle.rows.proofs.Fits.{zero_within}
use Rattle.rows.proofs.Reducing.{shared_above, quotient_above, restored, reduced_least}
use Rattle.elimination.specs.Table.{Line, coefficient, is_positive, is_negative, size, near, all_near}
use Rattle.elimination.specs.Levels.{Levels, Limit, remaining, divided, least}
use Rattle.rows.proofs.Alls.{cond_some}
use Rattle.elimination.specs.Unders.{Under, Held, Across, under_same, under_times, under_cancel}
use Rattle.elimination.specs.Blending.{positive_is, negative_is}

-- ---- numbers within G

pub near_within : (z : ℤ) → near z ≡ true → Within z
near_within z e = leb-true (unsigned_abs z) largest e

pub all_near_within : (zs : List ℤ) → all_near zs ≡ true → EachWithin zs
all_near_within [] e k = zero_within
all_near_within (z ∷ zs) e zero = near_within z (and_parts (near z) (all_near zs) e).0
all_near_within (z ∷ zs) e (suc k) = all_near_within zs (and_parts (near z) (all_near zs) e).1 k

-- ---- one level changed

pub dot_set : (xs ns : List ℤ) (k : ℕ) (p : ℤ) → k < length ns → slice_index_or ns k (pos 0) ≡ pos 0 → dot xs (slice_set ns k p) ≡ dot xs ns +ℤ slice_index_or xs k (pos 0) *ℤ p
dot_set [] ns k p h z = omega (arith, linear, zero-*ℤ p)
dot_set (x ∷ xs) [] k p h z = absurd (omega arith)
dot_set (x ∷ xs) (n ∷ ns) zero p h z = omega (arith, linear, ap (λ (t : ℤ). x *ℤ t) z, *ℤ-zero x)
dot_set (x ∷ xs) (n ∷ ns) (suc k) p h z = omega (arith, linear, dot_set xs ns k p (omega arith) z)

pub length_scale : (w : ℤ) (xs : List ℤ) → length (scale w xs) ≡ length xs
length_scale w [] = refl
length_scale w (x ∷ xs) = ap suc (length_scale w xs)

-- ---- the same levels over the least denominator

multiplied_back : (g : ℕ) (ns : List ℤ) → AllByRecursion (λ n. g ∣ unsigned_abs n) ns → scale (pos g) (divided g ns) ≡ ns
multiplied_back g [] h = refl
multiplied_back g (n ∷ ns) h = λ i. (*ℤ_comm (pos g) (int_div n (pos g)) ∙ quot_exact n g h.0) i ∷ multiplied_back g ns h.1 i

-- x is ns over d in lowest terms, within G
pub record Leveled (ns : List ℤ) (d : ℕ) (x : Levels) : Type 0 where
  pub factor : ℕ
  pub above : 0 < factor
  pub positive : 0 < x.denominator
  pub numerators_are : scale (pos factor) x.numerators ≡ ns
  pub denominator_is : x.denominator * factor ≡ d
  pub within : EachWithin x.numerators
  pub bounded : x.denominator ≤ largest
  pub lowest : Least x.numerators x.denominator

pub leveled : (ns : List ℤ) (d : ℕ) (x : Levels) → 0 < d → least ns d ≡ Some x → Leveled ns d x
leveled ns d x pd e =
    let g = gcd_all d ns in
    let is = gcd_all_is_gcd_all d ns in
    let c = cond_some (all_near (divided g ns) && near (pos (d / g))) (record { numerators = divided g ns; denominator = d / g }) x e in
    let t = and_parts (all_near (divided g ns)) (near (pos (d / g))) c.0 in
    subst (λ (y : Levels). Leveled ns d y) c.1
    (record {
      factor = g;
      above = shared_above ns d pd;
      positive = quotient_above ns d pd;
      numerators_are = multiplied_back g ns is.each;
      denominator_is = restored ns d pd;
      within = all_near_within (divided g ns) t.0;
      bounded = near_within (pos (d / g)) t.1;
      lowest = reduced_least ns d pd;
    })

module _ (ns : List ℤ) (d : ℕ) (x : Levels) (o : Leveled ns d x) where
  pub leveled_held : (r : Line) → Held ns d r → Held x.numerators x.denominator r
  leveled_held r h =
      let g = o.factor in
      let S = var 0 in let D = var 1 in let G = var 2 in
      under_cancel r.strict g (dot r.coefficients x.numerators) (r.side *ℤ pos x.denominator) o.above
      (subst₂ (Under r.strict)
      (ap (dot r.coefficients) (sym o.numerators_are) ∙ dot_scale_right (pos g) r.coefficients x.numerators)
      (ap (λ (t : ℕ). r.side *ℤ pos t) (sym o.denominator_is) ∙ vanish (S ⊗ (D ⊗ G)) (G ⊗ (S ⊗ D)) (r.side ∷ pos x.denominator ∷ pos g ∷ []) refl)
      h)

  pub leveled_length : length x.numerators ≡ length ns
  leveled_length = sym (length_scale (pos o.factor) x.numerators) ∙ ap length o.numerators_are

  pub leveled_zero : (k : ℕ) → slice_index_or ns k (pos 0) ≡ pos 0 → slice_index_or x.numerators k (pos 0) ≡ pos 0
  leveled_zero k z = cancel_zero o.factor (slice_index_or x.numerators k (pos 0)) o.above (sym (scale_at (pos o.factor) x.numerators k) ∙ ap (λ (t : List ℤ). get_or t k (pos 0)) o.numerators_are ∙ z)
    where
      cancel_zero : (g : ℕ) (z : ℤ) → 0 < g → pos g *ℤ z ≡ pos 0 → z ≡ pos 0
      cancel_zero g z p e = *ℤ-cancel (pos g) (omega (arith, linear)) (e ∙ sym (*ℤ-zero (pos g)))

-- ---- a line at the new levels

-- over the product of the denominators
abbrev pub raised : ℕ → Levels → Limit → List ℤ
raised k x v = slice_set (scale (pos v.denominator) x.numerators) k (v.numerator *ℤ pos x.denominator)

pub raised_length : (k : ℕ) (x : Levels) (v : Limit) → length (raised k x v) ≡ length x.numerators
raised_length k x v = length-set (scale (pos v.denominator) x.numerators) k (v.numerator *ℤ pos x.denominator) ∙ length_scale (pos v.denominator) x.numerators

pub raised_zero : (k : ℕ) (x : Levels) (v : Limit) (j : ℕ) → (j ≢ k) → slice_index_or x.numerators j (pos 0) ≡ pos 0 → slice_index_or (raised k x v) j (pos 0) ≡ pos 0
raised_zero k x v j n z =
    let q = pos v.denominator in
    get_or-set_other (scale q x.numerators) k j (v.numerator *ℤ pos x.denominator) (pos 0) n ∙ scale_at q x.numerators j ∙ ap (λ (t : ℤ). q *ℤ t) z ∙ *ℤ-zero q

module _ (k : ℕ) (x : Levels) (v : Limit) (pv : 0 < v.denominator) (kl : k < length x.numerators) (unset : get_or x.numerators k (pos 0) ≡ pos 0) where
  new_dot : (xs : List ℤ) → dot xs (raised k x v) ≡ pos v.denominator *ℤ dot xs x.numerators +ℤ slice_index_or xs k (pos 0) *ℤ (v.numerator *ℤ pos x.denominator)
  new_dot xs =
      let q = pos v.denominator in
      dot_set xs (scale q x.numerators) k (v.numerator *ℤ pos x.denominator) (omega (arith, length_scale q x.numerators)) (scale_at q x.numerators k ∙ ap (λ (t : ℤ). q *ℤ t) unset ∙ *ℤ-zero q)
      ∙ ap (λ (t : ℤ). t +ℤ slice_index_or xs k (pos 0) *ℤ (v.numerator *ℤ pos x.denominator)) (dot_scale_right q xs x.numerators)

  -- from an order with the same difference
  held : (r : Line) (a b : ℤ) → b -ℤ a ≡ r.side *ℤ pos (x.denominator * v.denominator) -ℤ (pos v.denominator *ℤ dot r.coefficients x.numerators +ℤ coefficient r k *ℤ (v.numerator *ℤ pos x.denominator)) → Under r.strict a b → Held (raised k x v) (x.denominator * v.denominator) r
  held r a b e h = under_same r.strict a b (dot r.coefficients (raised k x v)) (r.side *ℤ pos (x.denominator * v.denominator)) (e ∙ ap (λ (t : ℤ). r.side *ℤ pos (x.denominator * v.denominator) -ℤ t) (sym (new_dot r.coefficients))) h

  -- the fader does not stand in it
  pub held_free : (r : Line) → coefficient r k ≡ pos 0 → Held x.numerators x.denominator r → Held (raised k x v) (x.denominator * v.denominator) r
  held_free r z h =
      let t = dot r.coefficients x.numerators in
      let P = var 0 in let D = var 1 in let Q = var 2 in let S = var 3 in let T = var 4 in
      held r (pos v.denominator *ℤ t) (pos v.denominator *ℤ (r.side *ℤ pos x.denominator))
      (vanish (Q ⊗ (S ⊗ D) ⊖ Q ⊗ T) (S ⊗ (D ⊗ Q) ⊖ (Q ⊗ T ⊕ con (pos 0) ⊗ (P ⊗ D))) (v.numerator ∷ pos x.denominator ∷ pos v.denominator ∷ r.side ∷ t ∷ []) refl
      ∙ ap (λ (c : ℤ). r.side *ℤ pos (x.denominator * v.denominator) -ℤ (pos v.denominator *ℤ t +ℤ c *ℤ (v.numerator *ℤ pos x.denominator))) (sym z))
      (under_times r.strict v.denominator t (r.side *ℤ pos x.denominator) pv h)

  -- it is an upper limit, which the value is within
  pub held_upper : (r : Line) → is_positive (coefficient r k) ≡ true → Across r.strict v.numerator v.denominator (remaining x r) (size k r * x.denominator) → Held (raised k x v) (x.denominator * v.denominator) r
  held_upper r e h =
      let t = dot r.coefficients x.numerators in
      let P = var 0 in let D = var 1 in let Q = var 2 in let S = var 3 in let T = var 4 in let C = var 5 in
      held r (v.numerator *ℤ pos (size k r * x.denominator)) (remaining x r *ℤ pos v.denominator)
      (vanish ((S ⊗ D ⊖ T) ⊗ Q ⊖ P ⊗ (C ⊗ D)) (S ⊗ (D ⊗ Q) ⊖ (Q ⊗ T ⊕ C ⊗ (P ⊗ D))) (v.numerator ∷ pos x.denominator ∷ pos v.denominator ∷ r.side ∷ t ∷ pos (size k r) ∷ []) refl
      ∙ ap (λ (c : ℤ). r.side *ℤ pos (x.denominator * v.denominator) -ℤ (pos v.denominator *ℤ t +ℤ c *ℤ (v.numerator *ℤ pos x.denominator))) (sym (positive_is (coefficient r k) e).1))
      h

  -- it is a lower limit, which the value is within
  pub held_lower : (r : Line) → is_negative (coefficient r k) ≡ true → Across r.strict (neg_ℤ (remaining x r)) (size k r * x.denominator) v.numerator v.denominator → Held (raised k x v) (x.denominator * v.denominator) r
  held_lower r e h =
      let t = dot r.coefficients x.numerators in
      let P = var 0 in let D = var 1 in let Q = var 2 in let S = var 3 in let T = var 4 in let C = var 5 in
      held r (neg_ℤ (remaining x r) *ℤ pos v.denominator) (v.numerator *ℤ pos (size k r * x.denominator))
      (vanish (P ⊗ (C ⊗ D) ⊖ neg (S ⊗ D ⊖ T) ⊗ Q) (S ⊗ (D ⊗ Q) ⊖ (Q ⊗ T ⊕ neg C ⊗ (P ⊗ D))) (v.numerator ∷ pos x.denominator ∷ pos v.denominator ∷ r.side ∷ t ∷ pos (size k r) ∷ []) refl
      ∙ ap (λ (c : ℤ). r.side *ℤ pos (x.denominator * v.denominator) -ℤ (pos v.denominator *ℤ t +ℤ c *ℤ (v.numerator *ℤ pos x.denominator))) (sym (negative_is (coefficient r k) e).1))
      h
