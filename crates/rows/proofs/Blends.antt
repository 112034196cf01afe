-- Two lists, each times its factor, added: the places of the sum, and the test that all are within G. Assumes nothing.
use Rattle.std.proofs.Common.{◌≡◌, ℕ, zero, suc, ◌*◌, ◌<◌, Bool, true, false, cond, List, [], ◌∷◌, ◌++◌, length, get_or, ℤ, pos, ◌+ℤ◌, ◌*ℤ◌, nat_abs, Some, None, sym, refl, ap, ◌∙◌, arith, w64, SFits}
use Rattle.std.proofs.lemmas.Bool.{leb-true, le-leb, and_parts, and_from, and_left, and_right}
use Rattle.integers.specs.Vectors.{add, scale}
use Rattle.integers.proofs.Bounds.{add_near}
use Rattle.integers.proofs.VectorLaws.{add_at, scale_at, length_add, length_scale}
use Rattle.rows.specs.Limits.{largest, Within, EachWithin, near, all_near, narrowed}
use Rattle.rows.proofs.Fits.{fits_64, product}

-- a test of a number, and the number itself
pub near_within : (z : ℤ) → near z ≡ true → Within z
near_within z e = leb-true (nat_abs z) largest e

pub within_near : (z : ℤ) → Within z → near z ≡ true
within_near z h = le-leb (nat_abs z) largest h

narrowed_by : (z : ℤ) (b : Bool) → near z ≡ b → narrowed z ≡ cond b (Some z) None
narrowed_by z b e = ap (λ (t : Bool). cond t (Some z) None) e

-- what a number in the narrow type was before
pub some_narrowed : (z x : ℤ) → Some x ≡ narrowed z → (near z ≡ true) × (x ≡ z)
some_narrowed z x e = by (near z) refl
  where
    by : (b : Bool) → near z ≡ b → (near z ≡ true) × (x ≡ z)
    by true n = (n, (let h = e ∙ narrowed_by z true n in cc))
    by false n = absurd (let h = e ∙ narrowed_by z false n in let o : ◌≡◌ {A = ℕ} 0 1 = cc in omega arith)

pub none_narrowed : (z : ℤ) → None ≡ narrowed z → near z ≡ false
none_narrowed z e = by (near z) refl
  where
    by : (b : Bool) → near z ≡ b → near z ≡ false
    by true n = absurd (let h = e ∙ narrowed_by z true n in let o : ◌≡◌ {A = ℕ} 0 1 = cc in omega arith)
    by false n = n

-- two products fit the wide type
pub two_products : (m a n b : ℤ) → Within m → Within a → Within n → Within b → SFits w64 (m *ℤ a +ℤ n *ℤ b)
two_products m a n b p q r s =
    fits_64 (m *ℤ a +ℤ n *ℤ b) (omega (arith, add_near (m *ℤ a) (n *ℤ b) (largest * largest) (largest * largest) (product m a p q) (product n b r s)))

-- all numbers within G, place by place
pub all_near_push : (zs : List ℤ) (z : ℤ) → all_near zs ≡ true → near z ≡ true → all_near (zs ++ z ∷ []) ≡ true
all_near_push [] z p q = and_from (near z) true q refl
all_near_push (y ∷ zs) z p q = let h = and_parts (near y) (all_near zs) p in and_from (near y) (all_near (zs ++ z ∷ [])) h.0 (all_near_push zs z h.1 q)

pub all_near_fails : (zs : List ℤ) (i : ℕ) → i < length zs → near (get_or zs i (pos 0)) ≡ false → all_near zs ≡ false
all_near_fails [] i h e = absurd (omega arith)
all_near_fails (z ∷ zs) zero h e = and_left (near z) (all_near zs) e
all_near_fails (z ∷ zs) (suc i) h e = and_right (near z) (all_near zs) (all_near_fails zs i (omega arith) e)

pub all_near_each : (zs : List ℤ) → all_near zs ≡ true → EachWithin zs
all_near_each [] p k = omega arith
all_near_each (z ∷ zs) p zero = near_within z (and_parts (near z) (all_near zs) p).0
all_near_each (z ∷ zs) p (suc k) = all_near_each zs (and_parts (near z) (all_near zs) p).1 k

pub each_all_near : (zs : List ℤ) → EachWithin zs → all_near zs ≡ true
each_all_near [] w = refl
each_all_near (z ∷ zs) w = and_from (near z) (all_near zs) (within_near z (w 0)) (each_all_near zs (λ k. w (suc k)))

-- the sum of multiples of two lists of one length
module _ (m n : ℤ) (xs ys : List ℤ) (e : length xs ≡ length ys) where
  pub blend_length : length (add (scale m xs) (scale n ys)) ≡ length xs
  blend_length = length_add (scale m xs) (scale n ys) (length_scale m xs ∙ e ∙ sym (length_scale n ys)) ∙ length_scale m xs

  pub blend_at : (i : ℕ) → get_or (add (scale m xs) (scale n ys)) i (pos 0) ≡ m *ℤ get_or xs i (pos 0) +ℤ n *ℤ get_or ys i (pos 0)
  blend_at i = add_at (scale m xs) (scale n ys) i ∙ (λ j. scale_at m xs i j +ℤ scale_at n ys i j)
