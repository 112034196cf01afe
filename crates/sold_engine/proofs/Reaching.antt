-- How large levels may be, what they leave of a row, and how large a level between limits is. Assumes nothing.
use Rattle.std.proofs.Common.{◌≡◌, ℕ, suc, ◌+◌, ◌*◌, ◌<◌, ◌≤◌, Bool, true, false, cond, List, [], ◌∷◌, get_or, ℤ, pos, negsuc, ◌+ℤ◌, ◌-ℤ◌, ◌*ℤ◌, neg_ℤ, nat_abs, Some, None, Option, sym, refl, ap, ◌∙◌, subst, mul-pos, arith}
use borrow.Author.Differences.{ints}
use lib.IntN.{zero-*ℤ, *ℤ-zero}
use Rattle.std.proofs.lemmas.Nat.{mul-le}
use Rattle.integers.specs.Vectors.{dot}
use Rattle.integers.proofs.Bounds.{mul_near, add_near, abs_in, abs_out}
use Rattle.integers.proofs.Inequality.{given, ◌and◌, follows}
use Rattle.integers.proofs.Linear.{linear}
use Rattle.integers.proofs.Ring.{con, var, ◌⊕◌, ◌⊖◌, ◌⊗◌}
use Rattle.integers.proofs.VectorLaws.{dot_none}
use Rattle.rows.specs.Limits.{largest}
use Rattle.elimination.specs.Levels.{Limit, lowest, value}
use Rattle.sold_engine.proofs.Bounded.{two}
use Rattle.sold_engine.proofs.Shrinking.{Equals, lowest_some}

-- ---- levels

-- how large the numerators of faders 0 and 1 and the denominator may be
pub record Reach : Type 0 where
  pub first : ℕ
  pub second : ℕ
  pub denominator : ℕ

abbrev pub reach : Reach → ℕ → ℕ
reach h k = two h.first h.second k

pub record Reached (h : Reach) (ns : List ℤ) (d : ℕ) : Type 0 where
  pub numerators : (j : ℕ) → nat_abs (get_or ns j (pos 0)) ≤ reach h j
  pub above : 0 < d
  pub denominator : d ≤ h.denominator

-- ---- sums of two products

pub neg_near : (a : ℤ) (m : ℕ) → nat_abs a ≤ m → nat_abs (neg_ℤ a) ≤ m
neg_near a m p = abs_in (neg_ℤ a) m (omega (arith, ints, abs_out a m p)) (omega (arith, ints, abs_out a m p))

pub sub_near : (a b : ℤ) (m n : ℕ) → nat_abs a ≤ m → nat_abs b ≤ n → nat_abs (a -ℤ b) ≤ m + n
sub_near a b m n p q = add_near a (neg_ℤ b) m n p (neg_near b n q)

nothing : (z : ℤ) → nat_abs z ≤ 0 → z ≡ pos 0
nothing (pos n) h = ap pos (omega arith)
nothing (negsuc n) h = absurd (omega arith)

dot_two : (xs ns : List ℤ) → ((k : ℕ) → get_or xs (suc (suc k)) (pos 0) ≡ pos 0) → dot xs ns ≡ get_or xs 0 (pos 0) *ℤ get_or ns 0 (pos 0) +ℤ get_or xs 1 (pos 0) *ℤ get_or ns 1 (pos 0)
dot_two [] ns z = omega (arith, linear, zero-*ℤ (get_or ns 0 (pos 0)), zero-*ℤ (get_or ns 1 (pos 0)))
dot_two (x ∷ []) [] z = omega (arith, linear, *ℤ-zero x)
dot_two (x ∷ y ∷ xs) [] z = omega (arith, linear, *ℤ-zero x, *ℤ-zero y)
dot_two (x ∷ []) (n ∷ ns) z = omega (arith, linear, zero-*ℤ (get_or ns 0 (pos 0)))
dot_two (x ∷ y ∷ xs) (n ∷ []) z = omega (arith, linear, *ℤ-zero y)
dot_two (x ∷ y ∷ xs) (n ∷ m ∷ ns) z = omega (arith, linear, dot_none xs ns z)

pub dot_near_two : (a b c d : ℕ) (xs ns : List ℤ) → ((k : ℕ) → nat_abs (get_or xs k (pos 0)) ≤ two a b k) → ((k : ℕ) → nat_abs (get_or ns k (pos 0)) ≤ two c d k) → nat_abs (dot xs ns) ≤ a * c + b * d
dot_near_two a b c d xs ns h i =
    let x = get_or xs 0 (pos 0) in let y = get_or xs 1 (pos 0) in let n = get_or ns 0 (pos 0) in let m = get_or ns 1 (pos 0) in
    subst (λ (z : ℤ). nat_abs z ≤ a * c + b * d) (sym (dot_two xs ns (λ k. nothing (get_or xs (suc (suc k)) (pos 0)) (h (suc (suc k))))))
    (add_near (x *ℤ n) (y *ℤ m) (a * c) (b * d) (mul_near x n a c (h 0) (i 0)) (mul_near y m b d (h 1) (i 1)))

-- ---- limits

-- a limit that is top over times · d, both bounded
pub record Borne (d c r : ℕ) (l : Limit) : Type 0 where
  pub top : ℤ
  pub times : ℕ
  pub some : 0 < times
  pub few : times ≤ c
  pub small : nat_abs top ≤ r
  pub is : Equals l top (times * d)

abbrev pub Given : {X : Type 0} → (X → Type 0) → Option X → Type 0
Given P None = Unit {0}
Given P (Some x) = P x

-- d is the denominator, c bounds the factors and r the tops of the limits, e and v those of the value
module _ (d c r e v : ℕ) (hd : 0 < d) (single : c * (r + d) ≤ v) (double : 2 * (c * r) ≤ v) (one : 1 ≤ e) (single_factor : c ≤ e) (double_factor : 2 * (c * c) ≤ e) (near-value : v ≤ largest) (near_denominator : e * d ≤ largest) where
  -- some fraction that is top over times · d
  found : (n : ℤ) (q : ℕ) (strict : Bool) (top : ℤ) (times : ℕ) → 0 < q → 0 < times → times ≤ e → nat_abs top ≤ v → n *ℤ pos (times * d) ≡ top *ℤ pos q → (l : Limit) × (lowest n q strict ≡ Some l) × Borne d e v l
  found n q strict top times hq some few small s =
      let m : times * d ≤ largest = omega (arith, mul-le times d e d few (native.Mathlib.Nat.le_refl d)) in
      let h = lowest_some n q strict top (times * d) hq (mul-pos some hd) s (omega arith) m in
      (h.0, h.1, record { top = top; times = times; some = some; few = few; small = small; is = h.2 })

  shifted : (times : ℕ) → 0 < times → times ≤ c → r + times * d ≤ v
  shifted times some few = omega (arith, mul-le 1 r c r (omega arith) (native.Mathlib.Nat.le_refl r), mul-le times d c d few (native.Mathlib.Nat.le_refl d), native.Mathlib.Nat.mul-add c r d)

  unshifted : (times : ℕ) → 0 < times → times ≤ c → r ≤ v
  unshifted times some few = omega (arith, shifted times some few)

  -- one limit alone
  module _ (l : Limit) (b : Borne d c r l) where
    abbrev N : ℤ
    N = l.numerator

    abbrev Q : ℤ
    Q = pos l.denominator

    abbrev F : ℤ
    F = pos (b.times * d)

    at_limit : (w : Limit) × (lowest N l.denominator false ≡ Some w) × Borne d e v w
    at_limit = found N l.denominator false b.top b.times b.is.positive b.some (omega (arith, b.few)) (omega (arith, b.small, unshifted b.times b.some b.few)) b.is.same

    above_limit : (w : Limit) × (lowest (N +ℤ Q) l.denominator false ≡ Some w) × Borne d e v w
    above_limit = found (N +ℤ Q) l.denominator false (b.top +ℤ F) b.times b.is.positive b.some (omega (arith, b.few))
        (omega (arith, add_near b.top F r (b.times * d) b.small (native.Mathlib.Nat.le_refl (b.times * d)), shifted b.times b.some b.few))
        (follows ((var 0 ⊕ var 1) ⊗ var 2) ((var 3 ⊕ var 2) ⊗ var 1) (N ∷ Q ∷ F ∷ b.top ∷ []) (given (con (pos 1)) (var 0 ⊗ var 2) (var 3 ⊗ var 1) b.is.same) refl)

    below_limit : (w : Limit) × (lowest (N -ℤ Q) l.denominator false ≡ Some w) × Borne d e v w
    below_limit = found (N -ℤ Q) l.denominator false (b.top -ℤ F) b.times b.is.positive b.some (omega (arith, b.few))
        (omega (arith, sub_near b.top F r (b.times * d) b.small (native.Mathlib.Nat.le_refl (b.times * d)), shifted b.times b.some b.few))
        (follows ((var 0 ⊖ var 1) ⊗ var 2) ((var 3 ⊖ var 2) ⊗ var 1) (N ∷ Q ∷ F ∷ b.top ∷ []) (given (con (pos 1)) (var 0 ⊗ var 2) (var 3 ⊗ var 1) b.is.same) refl)

    pub over : (t : Bool) → (w : Limit) × (lowest (cond t (N +ℤ Q) N) l.denominator false ≡ Some w) × Borne d e v w
    over true = above_limit
    over false = at_limit

    pub under : (t : Bool) → (w : Limit) × (lowest (cond t (N -ℤ Q) N) l.denominator false ≡ Some w) × Borne d e v w
    under true = below_limit
    under false = at_limit

  -- half the sum of two
  half : (l u : Limit) → Borne d c r l → Borne d c r u → (w : Limit) × (value (Some l) (Some u) ≡ Some w) × Borne d e v w
  half l u b a =
      let LN = var 0 in let LD = var 1 in let UN = var 2 in let UD = var 3 in let Lt = var 4 in let LF = var 5 in let UT = var 6 in let UF = var 7 in let D = var 8 in
      found ((l.numerator *ℤ pos u.denominator) +ℤ (u.numerator *ℤ pos l.denominator)) (2 * (l.denominator * u.denominator)) false
      ((b.top *ℤ pos a.times) +ℤ (a.top *ℤ pos b.times)) (2 * (b.times * a.times))
      (omega (arith, mul-pos b.is.positive a.is.positive)) (omega (arith, mul-pos b.some a.some))
      (omega (arith, mul-le b.times a.times c c b.few a.few))
      (omega (arith, add_near (b.top *ℤ pos a.times) (a.top *ℤ pos b.times) (r * c) (r * c) (mul_near b.top (pos a.times) r c b.small a.few) (mul_near a.top (pos b.times) r c a.small b.few), native.Mathlib.Nat.mul_comm c r))
      (follows ((LN ⊗ UD ⊕ UN ⊗ LD) ⊗ (con (pos 2) ⊗ (LF ⊗ UF) ⊗ D)) ((Lt ⊗ UF ⊕ UT ⊗ LF) ⊗ (con (pos 2) ⊗ (LD ⊗ UD)))
      (l.numerator ∷ pos l.denominator ∷ u.numerator ∷ pos u.denominator ∷ b.top ∷ pos b.times ∷ a.top ∷ pos a.times ∷ pos d ∷ [])
      (given (con (pos 2) ⊗ (UD ⊗ UF)) (LN ⊗ (LF ⊗ D)) (Lt ⊗ LD) b.is.same and given (con (pos 2) ⊗ (LD ⊗ LF)) (UN ⊗ (UF ⊗ D)) (UT ⊗ UD) a.is.same) refl)

  pub value_some : (l u : Option Limit) → Given (Borne d c r) l → Given (Borne d c r) u → (w : Limit) × (value l u ≡ Some w) × Borne d e v w
  value_some None None b a = found (pos 0) 1 false (pos 0) 1 (omega arith) (omega arith) one (omega arith) (zero-*ℤ (pos (1 * d)) ∙ sym (zero-*ℤ (pos 1)))
  value_some (Some l) None b a = over l b l.strict
  value_some None (Some u) b a = under u a u.strict
  value_some (Some l) (Some u) b a = half l u b a
