-- The pivot's fader solved from the other levels: the new levels meet the pivot and every row before it was substituted. Assumes nothing.
use Rattle.std.specs.Prelude.{◌≡◌, ℕ, zero, suc, ◌*◌, ◌<◌, Bool, cond, List, [], ◌∷◌, length, ℤ, pos, negsuc, ◌+ℤ◌, ◌*ℤ◌, neg_ℤ, Some, ◌≢◌, int_lt, slice_index_or, slice_set, unsigned_abs, refl}
use Rattle.std.proofs.Common.{sym, ap, subst, subst₂, ◌∙◌, inl, inr, arith}
use Rattle.std.proofs.Math.IntN.{*ℤ-zero, zero-*ℤ, +ℤ_idr}
use Rattle.std.proofs.lemmas.List.{length-set, get_or-set_other}
use Rattle.std.proofs.lemmas.Bool.{lt-ltb}
use Rattle.integers.specs.Vectors.{dot, scale}
use Rattle.integers.proofs.Laws.{*ℤ-+ℤ, *ℤ-left-comm}
use Rattle.integers.proofs.Linear.{linear}
use Rattle.integers.proofs.Ring.{var, ◌⊕◌, ◌⊖◌, ◌⊗◌, neg, vanish}
use Rattle.integers.proofs.VectorLaws.{dot_add, dot_scale, dot_scale_right, scale_at, length_scale}
use Rattle.rows.specs.declared.kind.Kind.TheVariants.{Equal}
use Rattle.rows.specs.Rows.{Compares, Meets}
use Rattle.rows.specs.Presets.{WellFormed}
use Rattle.rows.specs.Carrying.{Sum}
use Rattle.rows.proofs.Comparing.{compares_times, compares_cancel, compares_same}
use Rattle.rows.proofs.Leveling.{Leveled, leveled, leveled_meets, leveled_length, leveled_zero}
use Rattle.substitution.specs.Reduction.{Kept, at, cancelled}
use Rattle.substitution.specs.Lifting.{solved, completed}
use Rattle.substitution.specs.Working.{handed_down}
use Rattle.substitution.specs.Cancelling.{own_factor, other_factor, own_above, cancelled_gone, turned, Becomes}

abbrev pub Met : List ℤ → ℕ → Kept → Type 0
Met ns d r = Meets ns d (handed_down r)

-- ---- all levels times w, and one of them set

dot_placed : (xs ns : List ℤ) (k : ℕ) (w v : ℤ) → k < length ns → dot xs (slice_set (scale w ns) k v) ≡ w *ℤ dot xs (slice_set ns k (pos 0)) +ℤ slice_index_or xs k (pos 0) *ℤ v
dot_placed [] ns k w v h = omega (arith, linear, *ℤ-zero w, zero-*ℤ v)
dot_placed (x ∷ xs) [] k w v h = absurd (omega arith)
dot_placed (x ∷ xs) (n ∷ ns) zero w v h = omega (arith, linear, dot_scale_right w xs ns, *ℤ-+ℤ w (x *ℤ pos 0) (dot xs ns), ap (λ (t : ℤ). w *ℤ t) (*ℤ-zero x), *ℤ-zero w)
dot_placed (x ∷ xs) (n ∷ ns) (suc k) w v h = omega (arith, linear, dot_placed xs ns k w v (omega arith), *ℤ-left-comm x w n, *ℤ-+ℤ w (x *ℤ n) (dot xs (slice_set ns k (pos 0))))

-- a fader that the row does not have
dot_cleared : (xs ns : List ℤ) (k : ℕ) → slice_index_or xs k (pos 0) ≡ pos 0 → dot xs (slice_set ns k (pos 0)) ≡ dot xs ns
dot_cleared [] ns k z = refl
dot_cleared (x ∷ xs) [] k z = refl
dot_cleared (x ∷ xs) (n ∷ ns) zero z = omega (arith, linear, *ℤ-zero x, ap (λ (t : ℤ). t *ℤ n) z, zero-*ℤ n)
dot_cleared (x ∷ xs) (n ∷ ns) (suc k) z = ap (λ (t : ℤ). x *ℤ n +ℤ t) (dot_cleared xs ns k z)

-- the sign of the pivot's coefficient
abbrev with_sign : ℤ → ℤ → ℤ
with_sign b s = cond (int_lt (pos 0) b) s (neg_ℤ s)

sign_times : (b s : ℤ) → b *ℤ with_sign b s ≡ pos (unsigned_abs b) *ℤ s
sign_times (pos zero) s = zero-*ℤ (with_sign (pos zero) s) ∙ sym (zero-*ℤ s)
sign_times (pos (suc n)) s = ap (λ (t : Bool). pos (suc n) *ℤ cond t s (neg_ℤ s)) (lt-ltb 0 (suc n) (omega arith))
sign_times (negsuc n) s = vanish (neg (var 0) ⊗ neg (var 1)) (var 0 ⊗ var 1) (pos (suc n) ∷ s ∷ []) refl

module _ (k : ℕ) (p : Sum) (ns : List ℤ) (d : ℕ) (solvable : 0 < unsigned_abs (at p k)) (inside : k < length ns) where
  abbrev value : ℤ
  value = with_sign (at p k) (solved p k ns d)

  -- the levels before they are brought to the least denominator, over the old one times the coefficient's size
  abbrev raised : List ℤ
  raised = slice_set (scale (pos (unsigned_abs (at p k))) ns) k (with_sign (at p k) (solved p k ns d))

  pivot_met : dot p.coefficients raised ≡ p.side *ℤ pos (unsigned_abs (at p k) * d)
  pivot_met =
      let b = at p k in
      let t = dot p.coefficients (slice_set ns k (pos 0)) in
      let B = var 0 in let T = var 1 in let S = var 2 in let D = var 3 in
      dot_placed p.coefficients ns k (pos (unsigned_abs b)) value inside
      ∙ ap (λ (x : ℤ). pos (unsigned_abs b) *ℤ t +ℤ x) (sign_times b (solved p k ns d))
      ∙ vanish (B ⊗ T ⊕ B ⊗ (S ⊗ D ⊖ T)) (S ⊗ (B ⊗ D)) (pos (unsigned_abs b) ∷ t ∷ p.side ∷ pos d ∷ []) refl

  free_met : (r : Kept) → at r.sum k ≡ pos 0 → Met ns d r → Met raised (unsigned_abs (at p k) * d) r
  free_met r z h =
      let b = pos (unsigned_abs (at p k)) in
      let xs = r.sum.coefficients in
      let B = var 0 in let S = var 1 in let D = var 2 in
      subst₂ (Compares r.kind)
      (sym (dot_placed xs ns k b value inside ∙ (λ i. b *ℤ dot_cleared xs ns k z i +ℤ z i *ℤ value) ∙ (λ i. b *ℤ dot xs ns +ℤ zero-*ℤ value i) ∙ +ℤ_idr (b *ℤ dot xs ns)))
      (vanish (B ⊗ (S ⊗ D)) (S ⊗ (B ⊗ D)) (b ∷ r.sum.side ∷ pos d ∷ []) refl)
      (compares_times r.kind (unsigned_abs (at p k)) (dot xs ns) (r.sum.side *ℤ pos d) solvable h)

  -- back from the row in which the fader is cancelled
  turned_met : (r : Kept) → Met raised (unsigned_abs (at p k) * d) (turned k p r) → Met raised (unsigned_abs (at p k) * d) r
  turned_met r h =
      let s = r.sum in
      let m = pos (own_factor k p s) in
      let n = other_factor k p s in
      let e = pos (unsigned_abs (at p k) * d) in
      let x = dot s.coefficients raised in
      let M = var 0 in let N = var 1 in let X = var 2 in let S = var 3 in let T = var 4 in let E = var 5 in
      let sum : dot (cancelled k p s).coefficients raised ≡ m *ℤ x +ℤ n *ℤ (p.side *ℤ e) = dot_add (scale m s.coefficients) (scale n p.coefficients) raised ∙ (λ i. dot_scale m s.coefficients raised i +ℤ dot_scale n p.coefficients raised i) ∙ ap (λ (t : ℤ). m *ℤ x +ℤ n *ℤ t) pivot_met in
      compares_cancel r.kind (own_factor k p s) x (s.side *ℤ e) (own_above k p s solvable)
      (compares_same r.kind (m *ℤ x +ℤ n *ℤ (p.side *ℤ e)) ((cancelled k p s).side *ℤ e) (m *ℤ x) (m *ℤ (s.side *ℤ e))
      (vanish ((M ⊗ S ⊕ N ⊗ T) ⊗ E ⊖ (M ⊗ X ⊕ N ⊗ (T ⊗ E))) (M ⊗ (S ⊗ E) ⊖ M ⊗ X) (m ∷ n ∷ x ∷ s.side ∷ p.side ∷ e ∷ []) refl)
      (subst (λ (t : ℤ). Compares r.kind t ((cancelled k p s).side *ℤ e)) sum h))

  raised_zero : (j : ℕ) → (j ≢ k) → slice_index_or ns j (pos 0) ≡ pos 0 → slice_index_or raised j (pos 0) ≡ pos 0
  raised_zero j n z =
      let b = pos (unsigned_abs (at p k)) in
      get_or-set_other (scale b ns) k j value (pos 0) n ∙ scale_at b ns j ∙ ap (λ (t : ℤ). b *ℤ t) z ∙ *ℤ-zero b

  module _ (q : List ℤ × ℕ) (is : completed (record { fader = k; sum = p }) ns d ≡ Some q) where
    over : Leveled raised (unsigned_abs (at p k) * d) q.0 q.1
    over = leveled raised (unsigned_abs (at p k) * d) q is

    pub completed_back : (r s : Kept) → Becomes k p r s → Met ns d s → Met q.0 q.1 r
    completed_back r s b h = leveled_meets raised (unsigned_abs (at p k) * d) q.0 q.1 over (handed_down r) (by b)
      where
        by : Becomes k p r s → Met raised (unsigned_abs (at p k) * d) r
        by (inl c) = free_met r c.0 (subst (Met ns d) (sym c.1) h)
        by (inr c) = turned_met r (free_met (turned k p r) (cancelled_gone k p r.sum c.0 solvable) (subst (Met ns d) (sym c.2) h))

    pub completed_pivot : (r : Kept) → r.kind ≡ Equal → r.sum ≡ p → Met q.0 q.1 r
    completed_pivot r e f =
        leveled_meets raised (unsigned_abs (at p k) * d) q.0 q.1 over (handed_down r)
        (subst₂ (λ κ (t : Sum). Compares κ (dot t.coefficients raised) (t.side *ℤ pos (unsigned_abs (at p k) * d))) (sym e) (sym f) pivot_met)

    pub completed_formed : (count : ℕ) → k < count → WellFormed count ns d → WellFormed count q.0 q.1
    completed_formed count l w = record {
      places = leveled_length raised (unsigned_abs (at p k) * d) q.0 q.1 over ∙ length-set (scale (pos (unsigned_abs (at p k))) ns) k value ∙ length_scale (pos (unsigned_abs (at p k))) ns ∙ w.places;
      within = over.within;
      positive = over.positive;
      bounded = over.bounded;
      least = over.lowest;
      unused = λ j h. leveled_zero raised (unsigned_abs (at p k) * d) q.0 q.1 over j (raised_zero j (λ e. omega arith) (w.unused j h));
    }
