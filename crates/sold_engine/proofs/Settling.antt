-- A fader set where all numbers are bounded: no fault, and bounds on the new levels. Assumes nothing.
use Rattle.std.proofs.Common.{◌≡◌, ℕ, zero, suc, ◌+◌, ◌*◌, ◌<◌, ◌≤◌, Bool, true, ◌&&◌, List, [], ◌∷◌, get_or, set, ℤ, pos, ◌*ℤ◌, neg_ℤ, nat_abs, Some, None, Option, sym, refl, ap, ◌∙◌, subst, le_refl, mul-pos, arith}
use Rattle.std.specs.List.{AllByRecursion as All}
use Rattle.std.proofs.lemmas.Nat.{mul-le}
use Rattle.std.proofs.ByRecursion.{All-weaker, all_kept_by, kept_by_passes}
use Rattle.std.proofs.lemmas.Bool.{false≢true, and_parts, eqb-true}
use Rattle.integers.specs.Fractions.{Same}
use Rattle.integers.specs.Vectors.{dot, scale}
use Rattle.integers.proofs.Bounds.{mul_near}
use Rattle.integers.proofs.Inequality.{given, follows}
use Rattle.integers.proofs.Ring.{var, ◌⊗◌, vanish}
use Rattle.integers.proofs.VectorLaws.{scale_at}
use Rattle.rows.specs.Limits.{largest}
use Rattle.elimination.specs.Table.{Line, coefficient, size, is_positive, is_negative}
use Rattle.elimination.specs.Levels.{Levels, Limit, is_for, above, below, remaining, lowest, upper_limit, lower_limit, also, limits, better_upper, better_lower, first_best, with_level, placed, chosen, set_fader}
use Rattle.elimination.specs.Alls.{both, best_in}
use Rattle.elimination.specs.Blending.{positive_is, negative_is}
use Rattle.sold_engine.proofs.Bounded.{Bound, most}
use Rattle.sold_engine.proofs.Growing.{LineBounded, generation, Held}
use Rattle.sold_engine.proofs.Shrinking.{lowest_some, least_some}
use Rattle.sold_engine.proofs.Reaching.{Reach, reach, Reached, neg_near, sub_near, dot_near_two, Borne, Given, value_some}

-- levels that `from` bounds, with fader k set by rows that b bounds: `to` bounds them.
-- `rest` bounds what a row leaves; the fader's value is at most `value` over `factor` times the denominator
pub record Raises (k : ℕ) (b : Bound) (from to : Reach) : Type 0 where
  pub rest : ℕ
  pub value : ℕ
  pub factor : ℕ
  pub leaves : b.side * from.denominator + (b.first * from.first + b.second * from.second) ≤ rest
  pub single : most b k * (rest + from.denominator) ≤ value
  pub double : 2 * (most b k * rest) ≤ value
  pub some : 1 ≤ factor
  pub single_factor : most b k ≤ factor
  pub double_factor : 2 * (most b k * most b k) ≤ factor
  pub here : value ≤ reach to k
  pub others : (j : ℕ) → (j ≡ k → ⊥) → factor * reach from j ≤ reach to j
  pub denominators : factor * from.denominator ≤ to.denominator
  pub near : (j : ℕ) → reach to j ≤ largest
  pub near_denominator : to.denominator ≤ largest

-- ---- lists of limits

limits_some : (f : Line → Option Limit) (Q : Limit → Type 0) (rs : List Line) → All (λ r. (l : Limit) × (f r ≡ Some l) × Q l) rs → (ls : List Limit) × (limits f rs ≡ Some ls) × All Q ls
limits_some f Q [] h = ([], refl, tt)
limits_some f Q (r ∷ rs) h =
    let l = h.0 in
    let ih = limits_some f Q rs h.1 in
    (l.0 ∷ ih.0, (λ i. also (l.1 i) (ih.1 i)), (l.2, ih.2))

pub best_given : {X : Type 0} (Q : X → Type 0) (better : X → X → Bool) (xs : List X) → All Q xs → Given Q (first_best better xs)
best_given Q better [] h = tt
best_given Q better (x ∷ xs) h = best_in Q better x xs h.0 h.1

-- ---- one number of a list set

pub set_near : (zs : List ℤ) (k : ℕ) (v : ℤ) (j n : ℕ) → ((j ≡ k → ⊥) → nat_abs (get_or zs j (pos 0)) ≤ n) → (j ≡ k → nat_abs v ≤ n) → nat_abs (get_or (set zs k v) j (pos 0)) ≤ n
set_near [] k v j n h i = omega arith
set_near (z ∷ zs) zero v zero n h i = i refl
set_near (z ∷ zs) zero v (suc j) n h i = h (λ e. omega arith)
set_near (z ∷ zs) (suc k) v zero n h i = h (λ e. omega arith)
set_near (z ∷ zs) (suc k) v (suc j) n h i = set_near zs k v j n (λ d. h (λ e. d (omega arith))) (λ e. i (ap suc e))

-- all levels times a factor and one of them set, and its numerator bounded
pub set_bounded : (ns : List ℤ) (k : ℕ) (f : ℕ) (v : ℤ) (j c m n : ℕ) → f ≤ c → nat_abs (get_or ns j (pos 0)) ≤ m → ((j ≡ k → ⊥) → c * m ≤ n) → (j ≡ k → nat_abs v ≤ n) → nat_abs (get_or (set (scale (pos f) ns) k v) j (pos 0)) ≤ n
set_bounded ns k f v j c m n few h o e =
    set_near (scale (pos f) ns) k v j n
    (λ d. subst (λ (z : ℤ). nat_abs z ≤ n) (sym (scale_at (pos f) ns j)) (omega (arith, mul_near (pos f) (get_or ns j (pos 0)) c m few h, o d))) e

same_set : (a b v w : ℤ) (d q : ℕ) → ((n : ℤ) → (a *ℤ n) *ℤ pos q ≡ (b *ℤ n) *ℤ pos d) → v *ℤ pos q ≡ w *ℤ pos d → (ns : List ℤ) (k : ℕ) → Same (set (scale a ns) k v) d (set (scale b ns) k w) q
same_set a b v w d q h e [] k = tt
same_set a b v w d q h e (n ∷ ns) zero = (e, rest ns)
  where
    rest : (ms : List ℤ) → Same (scale a ms) d (scale b ms) q
    rest [] = tt
    rest (m ∷ ms) = (h m, rest ms)
same_set a b v w d q h e (n ∷ ns) (suc k) = (h n, same_set a b v w d q h e ns k)

-- ---- the fader

module _ (k : ℕ) (b : Bound) (from to : Reach) (o : Raises k b from to) (x : Levels) (at : Reached from x.numerators x.denominator) where
  abbrev d : ℕ
  d = x.denominator

  remaining_near : (r : Line) → LineBounded b r → nat_abs (remaining x r) ≤ o.rest
  remaining_near r h =
      omega (
        arith,
        o.leaves,
        sub_near (r.side *ℤ pos d) (dot r.coefficients x.numerators) (b.side * from.denominator) (b.first * from.first + b.second * from.second)
            (mul_near r.side (pos d) b.side from.denominator h.side at.denominator)
            (dot_near_two b.first b.second from.first from.second r.coefficients x.numerators h.coefficients at.numerators),
      )

  value_near : o.value ≤ largest
  value_near = omega (arith, o.here, o.near k)

  single_here : most b k * (o.rest + d) ≤ o.value
  single_here = omega (arith, o.single, mul-le (most b k) (o.rest + d) (most b k) (o.rest + from.denominator) (le_refl (most b k)) (omega (arith, at.denominator)))

  factor_near : o.factor * d ≤ largest
  factor_near = omega (arith, o.denominators, o.near_denominator, mul-le o.factor d o.factor from.denominator (le_refl o.factor) at.denominator)

  limit_some : (r : Line) (n : ℤ) → LineBounded b r → 0 < size k r → nat_abs n ≤ o.rest → (l : Limit) × (lowest n (size k r * d) r.strict ≡ Some l) × Borne d (most b k) o.rest l
  limit_some r n h some small =
      let few = h.coefficients k in
      let inside : o.rest ≤ largest = omega (arith, value_near, single_here, mul-le 1 (o.rest + d) (most b k) (o.rest + d) (omega arith) (le_refl (o.rest + d))) in
      let over : size k r * d ≤ largest = omega (arith, factor_near, mul-le (size k r) d o.factor d (omega (arith, o.single_factor)) (le_refl d)) in
      let above : 0 < size k r * d = mul-pos some at.above in
      let l = lowest_some n (size k r * d) r.strict n (size k r * d) above above refl (omega arith) over in
      (l.0, l.1, record { top = n; times = size k r; some = some; few = few; small = small; is = l.2 })

  -- the value's place in the levels
  placed_some : (v : Limit) → Borne d o.factor o.value v → (y : Levels) × (with_level k x v ≡ Some y) × Reached to y.numerators y.denominator
  placed_some v w =
      let ps = set (scale (pos w.times) x.numerators) k w.top in
      let N = var 0 in let D = var 1 in let V = var 2 in let F = var 3 in let P = var 4 in let T = var 5 in
      let each : (j : ℕ) → nat_abs (get_or ps j (pos 0)) ≤ reach to j = λ j. set_bounded x.numerators k w.times w.top j o.factor (reach from j) (reach to j) w.few (at.numerators j) (o.others j) (λ e. subst (λ (i : ℕ). nat_abs w.top ≤ reach to i) (sym e) (omega (arith, w.small, o.here))) in
      let few : w.times * d ≤ to.denominator = omega (arith, o.denominators, mul-le w.times d o.factor from.denominator w.few at.denominator) in
      let y = least_some (set (scale (pos v.denominator) x.numerators) k (v.numerator *ℤ pos d)) (d * v.denominator) ps (w.times * d) (mul-pos at.above w.is.positive) (mul-pos w.some at.above)
      (same_set (pos v.denominator) (pos w.times) (v.numerator *ℤ pos d) w.top (d * v.denominator) (w.times * d)
      (λ n. vanish ((V ⊗ N) ⊗ (F ⊗ D)) ((F ⊗ N) ⊗ (D ⊗ V)) (n ∷ pos d ∷ pos v.denominator ∷ pos w.times ∷ []) refl)
      (follows ((P ⊗ D) ⊗ (F ⊗ D)) (T ⊗ (D ⊗ V)) (pos 0 ∷ pos d ∷ pos v.denominator ∷ pos w.times ∷ v.numerator ∷ w.top ∷ []) (given D (P ⊗ (F ⊗ D)) (T ⊗ V) w.is.same) refl)
      x.numerators k)
      (λ j. omega (arith, each j, o.near j)) (omega (arith, o.near_denominator)) in
      (y.0, y.1, record { numerators = λ j. omega (arith, y.2.numerators j, each j); above = y.2.above; denominator = omega (arith, y.2.denominator) })

  module _ (g : ℕ → Bound) (n : ℕ) (is : g k ≡ b) (t : List Line) (held : All (Held g n) t) where
    own : (r : Line) → is_for k r.aside ≡ true → Held g n r → LineBounded b r
    own r e h = subst (λ (c : Bound). LineBounded c r) is (by r.aside e h)
      where
        by : (a : Option ℕ) → is_for k a ≡ true → LineBounded (g (generation n a)) r → LineBounded (g k) r
        by None e h = absurd (false≢true e)
        by (Some j) e h = subst (λ (i : ℕ). LineBounded (g i) r) (eqb-true j k e) h

    uppers_some : (ls : List Limit) × (limits (upper_limit k x) (above k t) ≡ Some ls) × All (Borne d (most b k) o.rest) ls
    uppers_some =
        let test : Line → Bool = λ r. is_for k r.aside && is_positive (coefficient r k) in
        limits_some (upper_limit k x) (Borne d (most b k) o.rest) (above k t)
        (All-weaker (λ r. (test r ≡ true) × Held g n r) (λ r. (l : Limit) × (upper_limit k x r ≡ Some l) × Borne d (most b k) o.rest l)
        (λ r h. let p = and_parts (is_for k r.aside) (is_positive (coefficient r k)) h.0 in let i = own r p.0 h.1 in limit_some r (remaining x r) i (positive_is (coefficient r k) p.1).0 (remaining_near r i))
        (above k t) (both (λ r. test r ≡ true) (Held g n) (above k t) (kept_by_passes test t) (all_kept_by test (Held g n) t held)))

    lowers_some : (ls : List Limit) × (limits (lower_limit k x) (below k t) ≡ Some ls) × All (Borne d (most b k) o.rest) ls
    lowers_some =
        let test : Line → Bool = λ r. is_for k r.aside && is_negative (coefficient r k) in
        limits_some (lower_limit k x) (Borne d (most b k) o.rest) (below k t)
        (All-weaker (λ r. (test r ≡ true) × Held g n r) (λ r. (l : Limit) × (lower_limit k x r ≡ Some l) × Borne d (most b k) o.rest l)
        (λ r h. let p = and_parts (is_for k r.aside) (is_negative (coefficient r k)) h.0 in let i = own r p.0 h.1 in limit_some r (neg_ℤ (remaining x r)) i (negative_is (coefficient r k) p.1).0 (neg_near (remaining x r) o.rest (remaining_near r i)))
        (below k t) (both (λ r. test r ≡ true) (Held g n) (below k t) (kept_by_passes test t) (all_kept_by test (Held g n) t held)))

    pub fader_some : (y : Levels) × (set_fader k t x ≡ Some y) × Reached to y.numerators y.denominator
    fader_some =
        let lo = lowers_some in
        let hi = uppers_some in
        let v = value_some d (most b k) o.rest o.factor o.value at.above single_here o.double o.some o.single_factor o.double_factor value_near factor_near
        (first_best better_lower lo.0) (first_best better_upper hi.0) (best_given (Borne d (most b k) o.rest) better_lower lo.0 lo.2) (best_given (Borne d (most b k) o.rest) better_upper hi.0 hi.2) in
        let y = placed_some v.0 v.2 in
        (y.0, (λ i. placed k x (chosen (lo.1 i) (hi.1 i))) ∙ ap (placed k x) v.1 ∙ y.1, y.2)
