-- Fractions in lowest terms, and levels over the least denominator, are within G where the same ones in some other terms are. Assumes nothing.
use Rattle.std.proofs.Common.{◌≡◌, ℕ, zero, suc, ◌/◌, ◌<◌, ◌≤◌, Bool, true, ◌&&◌, eqb, List, [], ◌∷◌, get_or, ℤ, pos, negsuc, ◌*ℤ◌, nat_abs, ◌<ℤ◌, Some, None, sym, refl, ap, ◌∙◌, arith}
use borrow.Author.Differences.{ints}
use Rattle.std.proofs.lemmas.Bool.{and_from, cond-true, cond-false, ne_eqb}
use Rattle.integers.specs.Divisors.{gcd_of, gcd_all}
use Rattle.integers.specs.Fractions.{Same, NoLarger, lowest_numerator, lowest_denominator}
use Rattle.integers.proofs.FractionLaws.{smallest, divided as divided_terms, divided_reduced}
use Rattle.integers.proofs.Inequality.{given, ◌and◌, follows}
use Rattle.integers.proofs.Order.{*ℤ-cancel}
use Rattle.integers.proofs.Ring.{var, ◌⊗◌}
use Rattle.rows.specs.Limits.{largest, EachWithin, near, all_near}
use Rattle.rows.specs.Presets.{divided, least_terms}
use Rattle.rows.proofs.Blends.{within_near, each_all_near}
use Rattle.rows.proofs.Reducing.{quotient_above, reduced_least, reduced_same}
use Rattle.elimination.specs.Levels.{Levels, Limit, lowest, least}

positive_is : (e : ℤ) → pos 0 <ℤ e → (e ≡ pos (nat_abs e)) × (0 < nat_abs e)
positive_is (pos n) h = (refl, omega (arith, ints))
positive_is (negsuc n) h = absurd h.lt

-- the limit is p over q
pub record Equals (l : Limit) (p : ℤ) (q : ℕ) : Type 0 where
  pub positive : 0 < l.denominator
  pub same : l.numerator *ℤ pos q ≡ p *ℤ pos l.denominator

-- a fraction n over d that is p over q too
pub lowest_some : (n : ℤ) (d : ℕ) (strict : Bool) (p : ℤ) (q : ℕ) → 0 < d → 0 < q → n *ℤ pos q ≡ p *ℤ pos d → nat_abs p ≤ largest → q ≤ largest → (l : Limit) × (lowest n d strict ≡ Some l) × Equals l p q
lowest_some n d strict p q hd hq s hp few =
    let m = lowest_numerator n (pos d) in
    let e = lowest_denominator n (pos d) in
    let g = gcd_of (nat_abs n) d in
    let pd : pos 0 <ℤ pos d = omega (arith, ints) in
    let pq : pos 0 <ℤ pos q = omega (arith, ints) in
    let t = divided_terms n (pos d) pd in
    let r = divided_reduced n (pos d) m e g t in
    let small = r.least p (pos q) pq s in
    let whole = positive_is e t.positive in
    let N = var 0 in let D = var 1 in let P = var 2 in let Q = var 3 in let M = var 4 in let E = var 5 in
    let same : m *ℤ pos q ≡ p *ℤ e = *ℤ-cancel (pos d) pd (follows (D ⊗ (M ⊗ Q)) (D ⊗ (P ⊗ E)) (n ∷ pos d ∷ p ∷ pos q ∷ m ∷ e ∷ [])
    (given Q (M ⊗ D) (N ⊗ E) (sym r.same) and given E (N ⊗ Q) (P ⊗ D) s) refl) in (
      record { numerator = m; denominator = nat_abs e; strict = strict },
      cond-true (near m && near e) _ None (and_from (near m) (near e) (within_near m (omega (arith, small.0))) (within_near e (omega (arith, small.1)))),
      record { positive = whole.1; same = same ∙ ap (λ (z : ℤ). p *ℤ z) whole.0 },
    )

-- ---- levels

same_trans : (ns : List ℤ) (d : ℕ) (ms : List ℤ) (e : ℕ) (ps : List ℤ) (q : ℕ) → 0 < e → Same ns d ms e → Same ms e ps q → Same ns d ps q
same_trans [] d [] e [] q h s t = tt
same_trans [] d [] e (p ∷ ps) q h s t = absurd t
same_trans [] d (m ∷ ms) e ps q h s t = absurd s
same_trans (n ∷ ns) d [] e ps q h s t = absurd s
same_trans (n ∷ ns) d (m ∷ ms) e [] q h s t = absurd t
same_trans (n ∷ ns) d (m ∷ ms) e (p ∷ ps) q h s t =
    let N = var 0 in let D = var 1 in let M = var 2 in let E = var 3 in let P = var 4 in let Q = var 5 in
    let pe : pos 0 <ℤ pos e = omega (arith, ints) in (
      *ℤ-cancel (pos e) pe (follows (E ⊗ (N ⊗ Q)) (E ⊗ (P ⊗ D)) (n ∷ pos d ∷ m ∷ pos e ∷ p ∷ pos q ∷ []) (given Q (N ⊗ E) (M ⊗ D) s.0 and given D (M ⊗ Q) (P ⊗ E) t.0) refl),
      same_trans ns d ms e ps q h s.1 t.1,
    )

pub same_itself : (ns : List ℤ) (d : ℕ) → Same ns d ns d
same_itself [] d = tt
same_itself (n ∷ ns) d = (refl, same_itself ns d)

no_larger_at : (ns ps : List ℤ) → NoLarger ns ps → (j : ℕ) → nat_abs (get_or ns j (pos 0)) ≤ nat_abs (get_or ps j (pos 0))
no_larger_at [] [] h j = omega arith
no_larger_at [] (p ∷ ps) h j = absurd h
no_larger_at (n ∷ ns) [] h j = absurd h
no_larger_at (n ∷ ns) (p ∷ ps) h zero = h.0
no_larger_at (n ∷ ns) (p ∷ ps) h (suc j) = no_larger_at ns ps h.1 j

-- levels ms over e that are no larger than ps over q, place by place
pub record Shrunk (ms : List ℤ) (e : ℕ) (ps : List ℤ) (q : ℕ) : Type 0 where
  pub above : 0 < e
  pub numerators : (j : ℕ) → nat_abs (get_or ms j (pos 0)) ≤ nat_abs (get_or ps j (pos 0))
  pub denominator : e ≤ q

-- levels ns over d that are ps over q too
module _ (ns : List ℤ) (d : ℕ) (ps : List ℤ) (q : ℕ) (hd : 0 < d) (hq : 0 < q) (s : Same ns d ps q) (each : EachWithin ps) (few : q ≤ largest) where
  shrunk : Shrunk (divided (gcd_all d ns) ns) (d / gcd_all d ns) ps q
  shrunk =
      let above = quotient_above ns d hd in
      let r = smallest (divided (gcd_all d ns) ns) (d / gcd_all d ns) ps q above hq (reduced_least ns d hd) (same_trans (divided (gcd_all d ns) ns) (d / gcd_all d ns) ns d ps q hd (reduced_same ns d hd) s) in
      record { above = above; numerators = no_larger_at (divided (gcd_all d ns) ns) ps r.0; denominator = r.1 }

  passes : (all_near (divided (gcd_all d ns) ns) && near (pos (d / gcd_all d ns))) ≡ true
  passes =
      and_from (all_near (divided (gcd_all d ns) ns)) (near (pos (d / gcd_all d ns)))
      (each_all_near (divided (gcd_all d ns) ns) (λ k. omega (arith, shrunk.numerators k, each k)))
      (within_near (pos (d / gcd_all d ns)) (omega (arith, shrunk.denominator)))

  pub least_some : (y : Levels) × (least ns d ≡ Some y) × Shrunk y.numerators y.denominator ps q
  least_some = (record { numerators = divided (gcd_all d ns) ns; denominator = d / gcd_all d ns }, cond-true _ _ None passes, shrunk)

  pub terms_some : (y : List ℤ × ℕ) × (least_terms ns d ≡ Some y) × Shrunk y.0 y.1 ps q
  terms_some = ((divided (gcd_all d ns) ns, d / gcd_all d ns), cond-false (eqb d 0) None _ (ne_eqb d 0 (λ z. omega arith)) ∙ cond-true _ _ None passes, shrunk)
