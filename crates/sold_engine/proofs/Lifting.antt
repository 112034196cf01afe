-- Bounded weights and levels brought back to the list: no fault. Assumes nothing.
use Rattle.std.proofs.Common.{◌≡◌, ℕ, zero, suc, ◌+◌, ◌*◌, ◌<◌, ◌≤◌, Bool, true, false, cond, ◌&&◌, List, [], ◌∷◌, length, get_or, set, ℤ, pos, ◌+ℤ◌, ◌*ℤ◌, neg_ℤ, nat_abs, Some, None, Ok, sym, refl, ap, ◌∙◌, subst, suc-mul, mul-pos, arith}
use lib.Signed.{lt_z}
use Rattle.std.specs.List.{AllByRecursion as All}
use Rattle.std.proofs.lemmas.Nat.{mul-le}
use Rattle.std.proofs.lemmas.Bool.{cond-true, and_from}
use Rattle.integers.specs.Vectors.{dot, scale}
use Rattle.integers.proofs.Bounds.{mul_near, add_near}
use Rattle.rows.specs.Limits.{largest, near}
use Rattle.rows.specs.Carrying.{Sum}
use Rattle.rows.proofs.Blends.{within_near}
use Rattle.substitution.specs.Reduction.{Kept, at}
use Rattle.substitution.specs.Lifting.{add_terms, carried_weights, before_weight, lifted_weights, solved, completed}
use Rattle.sold_engine.proofs.Bounded.{Bound, most}
use Rattle.sold_engine.proofs.Reaching.{Reach, reach, Reached, neg_near, sub_near, dot_near_two}
use Rattle.sold_engine.proofs.Settling.{set_near, set_bounded}
use Rattle.sold_engine.proofs.Shrinking.{same_itself, terms_some}
use Rattle.sold_engine.proofs.Substituting.{SumBounded, KeptBounded}

-- ---- weights

terms_added : (w u : ℕ) (s : ℤ) (m : ℕ) (ws us : List ℤ) → nat_abs s ≤ m → ((k : ℕ) → nat_abs (get_or ws k (pos 0)) ≤ w) → All (λ x. nat_abs x ≤ u) us → m + length us * (w * u) ≤ largest → (v : ℤ) × (add_terms s ws us ≡ Some v)
terms_added w u s m [] us h p q l = (s, refl)
terms_added w u s m (x ∷ ws) [] h p q l = (s, refl)
terms_added w u s m (x ∷ ws) (y ∷ us) h p q l =
    let term = mul_near x y w u (p 0) q.0 in
    let sum = add_near s (x *ℤ y) m (w * u) h term in
    let left : m + w * u + length us * (w * u) ≤ largest = omega (arith, suc-mul (length us) (w * u)) in
    let one : w * u ≤ largest = omega arith in
    let two : m + w * u ≤ largest = omega arith in
    let ih = terms_added w u (s +ℤ x *ℤ y) (m + w * u) ws us sum (λ k. p (suc k)) q.1 left in
    (ih.0, cond-true (near (x *ℤ y) && near (s +ℤ x *ℤ y)) (add_terms (s +ℤ x *ℤ y) ws us) None (and_from (near (x *ℤ y)) (near (s +ℤ x *ℤ y)) (within_near (x *ℤ y) (omega arith)) (within_near (s +ℤ x *ℤ y) (omega arith))) ∙ ih.1)

carried_near : (b : Bound) (j : ℕ) (rs : List Kept) → All (KeptBounded b) rs → All (λ x. nat_abs x ≤ b.weight) (carried_weights j rs) × (length (carried_weights j rs) ≡ length rs)
carried_near b j [] h = (tt, refl)
carried_near b j (r ∷ rs) h = let ih = carried_near b j rs h.1 in ((h.0.weights j, ih.0), ap suc ih.1)

module _ (b : Bound) (w : ℕ) (ws : List ℤ) (rs : List Kept) (each : (k : ℕ) → nat_abs (get_or ws k (pos 0)) ≤ w) (bounded : All (KeptBounded b) rs) (few : length rs ≤ 10) (small : 10 * (w * b.weight) ≤ largest) where
  pub weights_lifted : (n j : ℕ) → (vs : List ℤ) × (lifted_weights n j ws rs ≡ Ok vs)
  weights_lifted zero j = ([], refl)
  weights_lifted (suc n) j =
      let us = carried_weights j rs in
      let c = carried_near b j rs bounded in
      let l : 0 + length us * (w * b.weight) ≤ largest = omega (arith, c.1, mul-le (length us) (w * b.weight) 10 (w * b.weight) (omega (arith, c.1)) (native.Mathlib.Nat.le_refl (w * b.weight))) in
      let a = terms_added w b.weight (pos 0) 0 ws us (omega arith) each c.0 l in
      let ih = weights_lifted n (j + 1) in
      (a.0 ∷ ih.0, (λ i. before_weight (a.1 i) j (ih.1 i)))

-- ---- levels

-- levels that `from` bounds, with fader k completed by a pivot that b bounds: `to` bounds them. `others` bounds the levels without fader k
pub record Completes (k : ℕ) (b : Bound) (from to : Reach) : Type 0 where
  pub others : Reach
  pub without : (j : ℕ) → (j ≡ k → ⊥) → reach from j ≤ reach others j
  pub here : b.side * from.denominator + (b.first * others.first + b.second * others.second) ≤ reach to k
  pub there : (j : ℕ) → (j ≡ k → ⊥) → most b k * reach from j ≤ reach to j
  pub denominators : most b k * from.denominator ≤ to.denominator
  pub near : (j : ℕ) → reach to j ≤ largest
  pub near_denominator : to.denominator ≤ largest

module _ (k : ℕ) (b : Bound) (from to : Reach) (o : Completes k b from to) (s : Sum) (bounded : SumBounded b s) (solvable : 0 < nat_abs (at s k)) (ns : List ℤ) (d : ℕ) (reached : Reached from ns d) where
  solved_near : nat_abs (solved s k ns d) ≤ reach to k
  solved_near =
      omega (
        arith,
        o.here,
        sub_near (s.side *ℤ pos d) (dot s.coefficients (set ns k (pos 0))) (b.side * from.denominator) (b.first * o.others.first + b.second * o.others.second)
            (mul_near s.side (pos d) b.side from.denominator bounded.side reached.denominator)
            (dot_near_two b.first b.second o.others.first o.others.second s.coefficients (set ns k (pos 0)) bounded.coefficients
            (λ j. set_near ns k (pos 0) j (reach o.others j) (λ n. omega (arith, reached.numerators j, o.without j n)) (λ e. omega arith))),
      )

  signed_near : (t : Bool) → nat_abs (cond t (solved s k ns d) (neg_ℤ (solved s k ns d))) ≤ reach to k
  signed_near true = solved_near
  signed_near false = neg_near (solved s k ns d) (reach to k) solved_near

  pub completed_some : (q : List ℤ × ℕ) × (completed (record { fader = k; sum = s }) ns d ≡ Some q) × Reached to q.0 q.1
  completed_some =
      let v = cond (lt_z (pos 0) (at s k)) (solved s k ns d) (neg_ℤ (solved s k ns d)) in
      let ms = set (scale (pos (nat_abs (at s k))) ns) k v in
      let e = nat_abs (at s k) * d in
      let above : 0 < e = mul-pos solvable reached.above in
      let each : (j : ℕ) → nat_abs (get_or ms j (pos 0)) ≤ reach to j = λ j. set_bounded ns k (nat_abs (at s k)) v j (most b k) (reach from j) (reach to j) (bounded.coefficients k) (reached.numerators j) (o.there j) (λ x. subst (λ (i : ℕ). nat_abs v ≤ reach to i) (sym x) (signed_near (lt_z (pos 0) (at s k)))) in
      let few : e ≤ to.denominator = omega (arith, o.denominators, mul-le (nat_abs (at s k)) d (most b k) from.denominator (bounded.coefficients k) reached.denominator) in
      let q = terms_some ms e ms e above above (same_itself ms e) (λ j. omega (arith, each j, o.near j)) (omega (arith, o.near_denominator)) in
      (q.0, q.1, record { numerators = λ j. omega (arith, q.2.numerators j, each j); above = q.2.above; denominator = omega (arith, q.2.denominator) })
