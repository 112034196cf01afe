-- The sum of two lines in which a fader cancels: its coefficients, and the room that it leaves where it is met. Assumes nothing.
use Rattle.std.specs.Prelude.{◌≡◌, ℕ, zero, suc, ◌*◌, ◌/◌, ◌<◌, ◌≤◌, Bool, true, false, ◌||◌, List, [], ◌∷◌, ℤ, pos, negsuc, ◌+ℤ◌, ◌-ℤ◌, ◌*ℤ◌, neg_ℤ, nat_lt, slice_index_or, unsigned_abs, refl}
use Rattle.std.proofs.Common.{ap, subst₂, ◌∙◌, arith, mul-pos}
use Rattle.std.proofs.Math.Nat.{div-mul_cancel, pos_of_dvd_of_pos}
use Rattle.std.proofs.Math.IntN.{*ℤ-zero, +ℤ_invr}
use Rattle.std.proofs.lemmas.Bool.{false≢true, ltb-true, ltb-false}
use Rattle.integers.specs.Vectors.{dot, add, scale}
use Rattle.integers.specs.Divisors.{gcd_of}
use Rattle.integers.proofs.Laws.{+ℤ-*ℤ, *ℤ-assoc}
use Rattle.integers.proofs.Ring.{var, ◌⊕◌, ◌⊖◌, ◌⊗◌, neg, vanish}
use Rattle.integers.proofs.VectorLaws.{dot_add, dot_scale, add_at, scale_at}
use Rattle.integers.proofs.DivisorLaws.{gcd_of_is_gcd}
use Rattle.elimination.specs.Table.{Line, coefficient, is_positive, is_negative, blend, size, combined}
use Rattle.elimination.specs.Levels.{Levels, remaining}
use Rattle.elimination.specs.Unders.{Under, Held, Across, under_same, under_times}

-- ---- signs

pub positive_is : (a : ℤ) → is_positive a ≡ true → (0 < unsigned_abs a) × (a ≡ pos (unsigned_abs a))
positive_is (pos n) e = (ltb-true 0 n e, refl)
positive_is (negsuc n) e = absurd (false≢true e)

pub negative_is : (a : ℤ) → is_negative a ≡ true → (0 < unsigned_abs a) × (a ≡ neg_ℤ (pos (unsigned_abs a)))
negative_is (pos n) e = absurd (false≢true e)
negative_is (negsuc n) e = (omega arith, refl)

pub zero_is : (a : ℤ) → nat_lt 0 (unsigned_abs a) ≡ false → a ≡ pos 0
zero_is (pos n) e = let h : n ≤ 0 = ltb-false 0 n e in ap pos (omega arith)
zero_is (negsuc n) e = let h : suc n ≤ 0 = ltb-false 0 (suc n) e in absurd (omega arith)

-- ---- the quotients by the common divisor

pub record Parts (a b g : ℕ) : Type 0 where
  pub some : 0 < g
  pub left : a / g * g ≡ a
  pub right : b / g * g ≡ b
  pub left_some : 0 < a / g
  pub right_some : 0 < b / g

pub some_of : (q n g : ℕ) → 0 < n → q * g ≡ n → 0 < q
some_of zero n g p e = absurd (omega arith)
some_of (suc q) n g p e = omega arith

pub parts : (a b : ℕ) → 0 < a → 0 < b → Parts a b (gcd_of a b)
parts a b p q =
    let is = gcd_of_is_gcd a b in
    let g = gcd_of a b in
    let l : a / g * g ≡ a = div-mul_cancel g is.left in
    let r : b / g * g ≡ b = div-mul_cancel g is.right in
    record { some = pos_of_dvd_of_pos is.left p; left = l; right = r; left_some = some_of (a / g) a g p l; right_some = some_of (b / g) b g q r }

crossed : (m n g a b : ℕ) → n * g ≡ a → m * g ≡ b → m * a ≡ n * b
crossed m n g a b e f = omega (arith, ap (λ (t : ℕ). m * t) e, ap (λ (t : ℕ). n * t) f)

-- the fader cancels
pub cancels : (a b : ℤ) (g : ℕ) → is_positive a ≡ true → is_negative b ≡ true → Parts (unsigned_abs a) (unsigned_abs b) g → pos (unsigned_abs b / g) *ℤ a +ℤ pos (unsigned_abs a / g) *ℤ b ≡ pos 0
cancels (negsuc i) b g p q h = absurd (false≢true p)
cancels (pos i) (pos j) g p q h = absurd (false≢true q)
cancels (pos i) (negsuc j) g p q h =
    ap (λ (t : ℕ). pos t +ℤ neg_ℤ (pos (i / g * suc j))) (crossed (suc j / g) (i / g) g i (suc j) h.left h.right) ∙ +ℤ_invr (pos (i / g * suc j))

-- ---- blends

module _ (m n : ℕ) where
  pub dot_sum : (xs ys ns : List ℤ) → dot (add (scale (pos m) xs) (scale (pos n) ys)) ns ≡ pos m *ℤ dot xs ns +ℤ pos n *ℤ dot ys ns
  dot_sum xs ys ns = dot_add (scale (pos m) xs) (scale (pos n) ys) ns ∙ (λ i. dot_scale (pos m) xs ns i +ℤ dot_scale (pos n) ys ns i)

  pub at_sum : (xs ys : List ℤ) (k : ℕ) → slice_index_or (add (scale (pos m) xs) (scale (pos n) ys)) k (pos 0) ≡ pos m *ℤ slice_index_or xs k (pos 0) +ℤ pos n *ℤ slice_index_or ys k (pos 0)
  at_sum xs ys k = add_at (scale (pos m) xs) (scale (pos n) ys) k ∙ (λ i. scale_at (pos m) xs k i +ℤ scale_at (pos n) ys k i)

  pub blend_side : (u l : Line) (d : ℕ) → (blend m n u l).side *ℤ pos d ≡ pos m *ℤ (u.side *ℤ pos d) +ℤ pos n *ℤ (l.side *ℤ pos d)
  blend_side u l d = +ℤ-*ℤ (pos m *ℤ u.side) (pos n *ℤ l.side) (pos d) ∙ (λ i. *ℤ-assoc (pos m) u.side (pos d) i +ℤ *ℤ-assoc (pos n) l.side (pos d) i)

  -- a fader that neither has
  pub blend_lacks : (j : ℕ) (u l : Line) → coefficient u j ≡ pos 0 → coefficient l j ≡ pos 0 → coefficient (blend m n u l) j ≡ pos 0
  blend_lacks j u l e f = at_sum u.coefficients l.coefficients j ∙ (λ i. pos m *ℤ e i +ℤ pos n *ℤ f i) ∙ (λ i. *ℤ-zero (pos m) i +ℤ *ℤ-zero (pos n) i)

-- what two sums leave, with the common divisor and the denominator put back
room : (s : Bool) (x y a b : ℤ) (m n g d p q : ℕ) → 0 < g → 0 < d → n * g ≡ p → m * g ≡ q → Under s (pos m *ℤ x +ℤ pos n *ℤ y) (pos m *ℤ a +ℤ pos n *ℤ b) → Across s (neg_ℤ (b -ℤ y)) (q * d) (a -ℤ x) (p * d)
room s x y a b m n g d p q hg hd ep eq h =
    let X = var 0 in let Y = var 1 in let A = var 2 in let B = var 3 in let M = var 4 in let N = var 5 in let G = var 6 in let D = var 7 in
    subst₂ (λ (i j : ℕ). Across s (neg_ℤ (b -ℤ y)) (j * d) (a -ℤ x) (i * d)) ep eq
    (under_same s (pos (g * d) *ℤ (pos m *ℤ x +ℤ pos n *ℤ y)) (pos (g * d) *ℤ (pos m *ℤ a +ℤ pos n *ℤ b)) (neg_ℤ (b -ℤ y) *ℤ pos (n * g * d)) ((a -ℤ x) *ℤ pos (m * g * d))
    (vanish ((G ⊗ D) ⊗ (M ⊗ A ⊕ N ⊗ B) ⊖ (G ⊗ D) ⊗ (M ⊗ X ⊕ N ⊗ Y)) ((A ⊖ X) ⊗ (M ⊗ G ⊗ D) ⊖ neg (B ⊖ Y) ⊗ (N ⊗ G ⊗ D)) (x ∷ y ∷ a ∷ b ∷ pos m ∷ pos n ∷ pos g ∷ pos d ∷ []) refl)
    (under_times s (g * d) (pos m *ℤ x +ℤ pos n *ℤ y) (pos m *ℤ a +ℤ pos n *ℤ b) (mul-pos hg hd) h))

module _ (k : ℕ) (u l : Line) (p : is_positive (coefficient u k) ≡ true) (q : is_negative (coefficient l k) ≡ true) where
  abbrev pub its : Parts (size k u) (size k l) (gcd_of (size k u) (size k l))
  its = parts (size k u) (size k l) (positive_is (coefficient u k) p).0 (negative_is (coefficient l k) q).0

  pub combined_lacks : coefficient (combined k u l) k ≡ pos 0
  combined_lacks = at_sum (size k l / gcd_of (size k u) (size k l)) (size k u / gcd_of (size k u) (size k l)) u.coefficients l.coefficients k ∙ cancels (coefficient u k) (coefficient l k) (gcd_of (size k u) (size k l)) p q its

  -- the limits of the two leave room
  pub combined_room : (x : Levels) → 0 < x.denominator → Held x.numerators x.denominator (combined k u l) → Across (u.strict || l.strict) (neg_ℤ (remaining x l)) (size k l * x.denominator) (remaining x u) (size k u * x.denominator)
  combined_room x pd h =
      let g = gcd_of (size k u) (size k l) in
      let m = size k l / g in
      let n = size k u / g in
      let d = x.denominator in
      let ns = x.numerators in
      room (u.strict || l.strict) (dot u.coefficients ns) (dot l.coefficients ns) (u.side *ℤ pos d) (l.side *ℤ pos d) m n g d (size k u) (size k l) its.some pd its.left its.right
      (subst₂ (Under (u.strict || l.strict)) (dot_sum m n u.coefficients l.coefficients ns) (blend_side m n u l d) h)
