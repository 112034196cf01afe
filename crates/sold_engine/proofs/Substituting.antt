-- A fader cancelled by a pivot where all numbers are bounded: no fault, and bounds on the new rows. Assumes nothing.
use Rattle.std.proofs.Common.{◌≡◌, ℕ, zero, suc, ◌/◌, ◌<◌, ◌≤◌, Bool, true, false, cond, ltb, List, [], ◌∷◌, length, ℤ, pos, negsuc, neg_ℤ, nat_abs, Some, None, refl, ap, div-le_self, arith}
use lib.Signed.{lt_z}
use Rattle.std.specs.List.{AllByRecursion as All}
use Rattle.std.proofs.lemmas.Bool.{cond-true, ltb-true}
use Rattle.integers.specs.Divisors.{gcd_of}
use Rattle.integers.proofs.Bounds.{abs_neg}
use Rattle.rows.specs.declared.kind.Kind.{Kind}
use Rattle.rows.specs.Carrying.{Sum, fits}
use Rattle.substitution.specs.Reduction.{Kept, pivot_factor, at, cancelled, cancel_one, also, cancel_all}
use Rattle.substitution.specs.Cancelling.{zero_is, own_factor, other_factor, cancelled_gone, turned}
use Rattle.sold_engine.proofs.Bounded.{Bound, Bounded, Grows, bounded_fits, stays_bounded, sum_bounded}

abbrev pub SumBounded : Bound → Sum → Type 0
SumBounded b s = Bounded b s.coefficients s.side s.weights

abbrev pub KeptBounded : Bound → Kept → Type 0
KeptBounded b r = SumBounded b r.sum

factor_near : (a b : ℤ) (g : ℕ) → nat_abs (pivot_factor a b g) ≤ nat_abs a
factor_near (pos zero) b g = by (lt_z (pos 0) b)
  where
    by : (t : Bool) → nat_abs (cond t (pos (0 / g)) (pos (0 / g))) ≤ 0
    by true = div-le_self 0 g
    by false = div-le_self 0 g
factor_near (pos (suc n)) b g = by (lt_z (pos 0) b)
  where
    by : (t : Bool) → nat_abs (cond t (neg_ℤ (pos (suc n / g))) (pos (suc n / g))) ≤ suc n
    by true = omega (arith, abs_neg (suc n / g), div-le_self (suc n) g)
    by false = div-le_self (suc n) g
factor_near (negsuc n) b g = by (lt_z (pos 0) b)
  where
    by : (t : Bool) → nat_abs (cond t (pos (suc n / g)) (neg_ℤ (pos (suc n / g)))) ≤ suc n
    by true = div-le_self (suc n) g
    by false = omega (arith, abs_neg (suc n / g), div-le_self (suc n) g)

module _ (k : ℕ) (a b : Bound) (grows : Grows k a b) (p : Sum) (own : SumBounded a p) (solvable : 0 < nat_abs (at p k)) where
  cancelled_bounded : (s : Sum) → SumBounded a s → 0 < nat_abs (at s k) → SumBounded b (cancelled k p s)
  cancelled_bounded s h some =
      let g = gcd_of (nat_abs (at s k)) (nat_abs (at p k)) in
      sum_bounded k a b grows (pos (own_factor k p s)) (other_factor k p s) s.coefficients s.side s.weights p.coefficients p.side p.weights
      (omega (arith, div-le_self (nat_abs (at p k)) g, own.coefficients k)) (omega (arith, factor_near (at s k) (at p k) g, h.coefficients k))
      (cancelled_gone k p s some solvable) h own

  -- Q is a property of the kind, which stays
  module _ (Q : Kind → Type 0) where
    abbrev Was : Kept → Type 0
    Was r = KeptBounded a r × Q r.kind

    abbrev Is : Kept → Type 0
    Is r = KeptBounded b r × Q r.kind

    one_cancelled : (r : Kept) → Was r → (s : Kept) × (cancel_one k p r ≡ Some s) × Is s
    one_cancelled r h = by (ltb 0 (nat_abs (at r.sum k))) refl
      where
        by : (t : Bool) → ltb 0 (nat_abs (at r.sum k)) ≡ t → (s : Kept) × (cond t (cond (fits (cancelled k p r.sum)) (Some (turned k p r)) None) (Some r) ≡ Some s) × Is s
        by true e =
            let c = cancelled k p r.sum in
            let i = cancelled_bounded r.sum h.0 (ltb-true 0 (nat_abs (at r.sum k)) e) in
            (turned k p r, cond-true (fits c) (Some (turned k p r)) None (bounded_fits b grows.near c.coefficients c.side c.weights i), (i, h.1))
        by false e = (r, refl, (stays_bounded k a b grows r.sum.coefficients r.sum.side r.sum.weights (zero_is (at r.sum k) e) h.0, h.1))

    pub all_cancelled : (rs : List Kept) → All Was rs → (ss : List Kept) × (cancel_all k p rs ≡ Some ss) × All Is ss × (length ss ≡ length rs)
    all_cancelled [] h = ([], refl, tt, refl)
    all_cancelled (r ∷ rs) h =
        let s = one_cancelled r h.0 in
        let ih = all_cancelled rs h.1 in
        (s.0 ∷ ih.0, (λ i. also (s.1 i) (ih.1 i)), (s.2, ih.2), ap suc ih.3)
