-- Bounds on the numbers of a carried row of a plan with two faders, and those of a sum of two rows. Assumes nothing.
use Rattle.std.proofs.Common.{◌≡◌, ℕ, zero, suc, ◌*◌, ◌≤◌, true, ◌&&◌, List, get_or, ℤ, pos, ◌+ℤ◌, ◌*ℤ◌, nat_abs, sym, ap, ◌∙◌, subst, inl, inr, arith}
use Rattle.std.proofs.lemmas.Bool.{cases_eq, and_from}
use Rattle.integers.specs.Vectors.{add, scale}
use Rattle.integers.proofs.Bounds.{mul_near, add_near}
use Rattle.integers.proofs.VectorLaws.{add_at, scale_at}
use Rattle.rows.specs.Limits.{largest, near, all_near}
use Rattle.rows.proofs.Blends.{within_near, each_all_near}

-- a for fader 0, b for fader 1, and 0 for any other
abbrev pub two : ℕ → ℕ → ℕ → ℕ
two a b zero = a
two a b (suc zero) = b
two a b (suc (suc k)) = 0

-- how large the numbers of a row may be: its coefficients of faders 0 and 1, its side, its weights
pub record Bound : Type 0 where
  pub first : ℕ
  pub second : ℕ
  pub side : ℕ
  pub weight : ℕ

abbrev pub most : Bound → ℕ → ℕ
most b k = two b.first b.second k

pub record Bounded (b : Bound) (cs : List ℤ) (s : ℤ) (ws : List ℤ) : Type 0 where
  pub coefficients : (k : ℕ) → nat_abs (get_or cs k (pos 0)) ≤ most b k
  pub side : nat_abs s ≤ b.side
  pub weights : (k : ℕ) → nat_abs (get_or ws k (pos 0)) ≤ b.weight

pub record Near (b : Bound) : Type 0 where
  pub first : b.first ≤ largest
  pub second : b.second ≤ largest
  pub side : b.side ≤ largest
  pub weight : b.weight ≤ largest

-- fader k leaves the rows that a bounds: b bounds those that do not have it, and the sums of two in which it cancels
pub record Grows (k : ℕ) (a b : Bound) : Type 0 where
  pub stays : (j : ℕ) → (j ≡ k → ⊥) → most a j ≤ most b j
  pub sums : (j : ℕ) → (j ≡ k → ⊥) → 2 * (most a k * most a j) ≤ most b j
  pub side_stays : a.side ≤ b.side
  pub side_sums : 2 * (most a k * a.side) ≤ b.side
  pub weight_stays : a.weight ≤ b.weight
  pub weight_sums : 2 * (most a k * a.weight) ≤ b.weight
  pub near : Near b

-- ---- within G

most_near : (b : Bound) → Near b → (k : ℕ) → most b k ≤ largest
most_near b n zero = n.first
most_near b n (suc zero) = n.second
most_near b n (suc (suc k)) = omega arith

module _ (b : Bound) (n : Near b) (cs : List ℤ) (s : ℤ) (ws : List ℤ) (h : Bounded b cs s ws) where
  pub bounded_fits : (all_near cs && (near s && all_near ws)) ≡ true
  bounded_fits =
      and_from (all_near cs) (near s && all_near ws) (each_all_near cs (λ k. omega (arith, h.coefficients k, most_near b n k)))
      (and_from (near s) (all_near ws) (within_near s (omega (arith, h.side, n.side))) (each_all_near ws (λ k. omega (arith, h.weights k, n.weight))))

-- ---- a row that stays, and a sum of two

sum_near : (m n x y : ℤ) (M B : ℕ) → nat_abs m ≤ M → nat_abs n ≤ M → nat_abs x ≤ B → nat_abs y ≤ B → nat_abs (m *ℤ x +ℤ n *ℤ y) ≤ 2 * (M * B)
sum_near m n x y M B p q h k = omega (arith, add_near (m *ℤ x) (n *ℤ y) (M * B) (M * B) (mul_near m x M B p h) (mul_near n y M B q k))

module _ (k : ℕ) (a b : Bound) (g : Grows k a b) where
  pub stays_bounded : (cs : List ℤ) (s : ℤ) (ws : List ℤ) → get_or cs k (pos 0) ≡ pos 0 → Bounded a cs s ws → Bounded b cs s ws
  stays_bounded cs s ws z h = record {
    coefficients = λ j. elim (cases_eq j k) [
      | inl e ↦ subst (λ (i : ℕ). nat_abs (get_or cs i (pos 0)) ≤ most b i) (sym e) (omega (arith, ap nat_abs z))
      | inr n ↦ omega (arith, h.coefficients j, g.stays j n)
    ];
    side = omega (arith, h.side, g.side_stays);
    weights = λ j. omega (arith, h.weights j, g.weight_stays);
  }

  pub sum_bounded : (m n : ℤ) (cs : List ℤ) (s : ℤ) (ws ds : List ℤ) (t : ℤ) (vs : List ℤ) → nat_abs m ≤ most a k → nat_abs n ≤ most a k
      → get_or (add (scale m cs) (scale n ds)) k (pos 0) ≡ pos 0 → Bounded a cs s ws → Bounded a ds t vs → Bounded b (add (scale m cs) (scale n ds)) (m *ℤ s +ℤ n *ℤ t) (add (scale m ws) (scale n vs))
  sum_bounded m n cs s ws ds t vs p q z h i = record {
    coefficients = λ j. elim (cases_eq j k) [
      | inl e ↦ subst (λ (i : ℕ). nat_abs (get_or (add (scale m cs) (scale n ds)) i (pos 0)) ≤ most b i) (sym e) (omega (arith, ap nat_abs z))
      | inr d ↦ omega (arith, at cs ds j (most a j) (h.coefficients j) (i.coefficients j), g.sums j d)
    ];
    side = omega (arith, sum_near m n s t (most a k) a.side p q h.side i.side, g.side_sums);
    weights = λ j. omega (arith, at ws vs j a.weight (h.weights j) (i.weights j), g.weight_sums);
  }
    where
      at : (xs ys : List ℤ) (j B : ℕ) → nat_abs (get_or xs j (pos 0)) ≤ B → nat_abs (get_or ys j (pos 0)) ≤ B → nat_abs (get_or (add (scale m xs) (scale n ys)) j (pos 0)) ≤ 2 * (most a k * B)
      at xs ys j B c d =
          subst (λ (x : ℤ). nat_abs x ≤ 2 * (most a k * B)) (sym (add_at (scale m xs) (scale n ys) j ∙ (λ l. scale_at m xs j l +ℤ scale_at n ys j l)))
          (sum_near m n (get_or xs j (pos 0)) (get_or ys j (pos 0)) (most a k) B p q c d)
