-- A fader cancelled by the pivot: the factors, and which rows come of which. Assumes nothing.
use Rattle.std.specs.Prelude.{◌≡◌, ℕ, zero, suc, ◌*◌, ◌/◌, ◌<◌, ◌≤◌, Bool, true, false, cond, ◌⊎◌, List, [], ◌∷◌, length, ℤ, pos, negsuc, ◌+ℤ◌, ◌*ℤ◌, neg_ℤ, Some, None, Option, nat_lt, unsigned_abs, refl}
use Rattle.std.proofs.Common.{ap, subst, ◌∙◌, inl, inr, arith}
use Rattle.std.specs.Int.{◌∣◌}
use Rattle.std.proofs.Math.Nat.{div-mul_cancel}
use Rattle.std.specs.List.{AllByRecursion}
use Rattle.std.proofs.lemmas.Bool.{ltb-true, ltb-false, lt-ltb}
use Rattle.integers.specs.Vectors.{scale}
use Rattle.integers.specs.Divisors.{gcd_of}
use Rattle.integers.proofs.DivisorLaws.{gcd_of_is_gcd}
use Rattle.integers.proofs.Inequality.{given, follows}
use Rattle.integers.proofs.Ring.{con, var, ◌⊕◌, ◌⊗◌, neg}
use Rattle.integers.proofs.VectorLaws.{add_at, scale_at}
use Rattle.rows.specs.Carrying.{Sum, fits}
use Rattle.rows.proofs.Alls.{none_some, cond_some}
use Rattle.substitution.specs.Reduction.{Kept, pivot_factor, at, cancelled, cancel_one, also, cancel_all}

pub zero_is : (a : ℤ) → nat_lt 0 (unsigned_abs a) ≡ false → a ≡ pos 0
zero_is (pos n) e = let h : n ≤ 0 = ltb-false 0 n e in ap pos (omega arith)
zero_is (negsuc n) e = let h : suc n ≤ 0 = ltb-false 0 (suc n) e in absurd (omega arith)

-- ---- the factors

crossed : (i j g : ℕ) → g ∣ i → g ∣ j → pos (j / g) *ℤ pos i ≡ pos (i / g) *ℤ pos j
crossed i j g p q = ap pos (by (j / g) (i / g) (div-mul_cancel g p) (div-mul_cancel g q))
  where
    by : (m n : ℕ) → n * g ≡ i → m * g ≡ j → m * i ≡ n * j
    by m n e f = omega (arith, ap (λ (t : ℕ). m * t) e, ap (λ (t : ℕ). n * t) f)

cancels : (a b : ℤ) (g : ℕ) → 0 < unsigned_abs a → 0 < unsigned_abs b → g ∣ unsigned_abs a → g ∣ unsigned_abs b → pos (unsigned_abs b / g) *ℤ a +ℤ pivot_factor a b g *ℤ b ≡ pos 0
cancels (pos zero) b g p q h k = absurd (omega arith)
cancels (pos (suc i)) (pos zero) g p q h k = absurd (omega arith)
cancels (negsuc i) (pos zero) g p q h k = absurd (omega arith)
cancels (pos (suc i)) (pos (suc j)) g p q h k =
    let X = var 0 in let Y = var 1 in let I = var 2 in let J = var 3 in
    ap (λ (t : Bool). pos (suc j / g) *ℤ pos (suc i) +ℤ cond t (neg_ℤ (pos (suc i / g))) (pos (suc i / g)) *ℤ pos (suc j)) (lt-ltb 0 (suc j) q)
    ∙ follows (X ⊗ I ⊕ neg Y ⊗ J) (con (pos 0)) (pos (suc j / g) ∷ pos (suc i / g) ∷ pos (suc i) ∷ pos (suc j) ∷ []) (given (con (pos 1)) (X ⊗ I) (Y ⊗ J) (crossed (suc i) (suc j) g h k)) refl
cancels (negsuc i) (pos (suc j)) g p q h k =
    let X = var 0 in let Y = var 1 in let I = var 2 in let J = var 3 in
    ap (λ (t : Bool). pos (suc j / g) *ℤ negsuc i +ℤ cond t (pos (suc i / g)) (neg_ℤ (pos (suc i / g))) *ℤ pos (suc j)) (lt-ltb 0 (suc j) q)
    ∙ follows (X ⊗ neg I ⊕ Y ⊗ J) (con (pos 0)) (pos (suc j / g) ∷ pos (suc i / g) ∷ pos (suc i) ∷ pos (suc j) ∷ []) (given (con (negsuc 0)) (X ⊗ I) (Y ⊗ J) (crossed (suc i) (suc j) g h k)) refl
cancels (pos (suc i)) (negsuc j) g p q h k =
    let X = var 0 in let Y = var 1 in let I = var 2 in let J = var 3 in
    follows (X ⊗ I ⊕ Y ⊗ neg J) (con (pos 0)) (pos (suc j / g) ∷ pos (suc i / g) ∷ pos (suc i) ∷ pos (suc j) ∷ []) (given (con (pos 1)) (X ⊗ I) (Y ⊗ J) (crossed (suc i) (suc j) g h k)) refl
cancels (negsuc i) (negsuc j) g p q h k =
    let X = var 0 in let Y = var 1 in let I = var 2 in let J = var 3 in
    follows (X ⊗ neg I ⊕ neg Y ⊗ neg J) (con (pos 0)) (pos (suc j / g) ∷ pos (suc i / g) ∷ pos (suc i) ∷ pos (suc j) ∷ []) (given (con (negsuc 0)) (X ⊗ I) (Y ⊗ J) (crossed (suc i) (suc j) g h k)) refl

-- the row's factor and the pivot's
abbrev pub own_factor : ℕ → Sum → Sum → ℕ
own_factor k p s = unsigned_abs (at p k) / gcd_of (unsigned_abs (at s k)) (unsigned_abs (at p k))

abbrev pub other_factor : ℕ → Sum → Sum → ℤ
other_factor k p s = pivot_factor (at s k) (at p k) (gcd_of (unsigned_abs (at s k)) (unsigned_abs (at p k)))

pub own_above : (k : ℕ) (p s : Sum) → 0 < unsigned_abs (at p k) → 0 < own_factor k p s
own_above k p s h = some (own_factor k p s) (div-mul_cancel (gcd_of (unsigned_abs (at s k)) (unsigned_abs (at p k))) (gcd_of_is_gcd (unsigned_abs (at s k)) (unsigned_abs (at p k))).right) h
  where
    some : (q : ℕ) → q * gcd_of (unsigned_abs (at s k)) (unsigned_abs (at p k)) ≡ unsigned_abs (at p k) → 0 < unsigned_abs (at p k) → 0 < q
    some zero e h = absurd (omega arith)
    some (suc q) e h = omega arith

-- a coefficient of the sum
pub cancelled_at : (k : ℕ) (p s : Sum) (j : ℕ) → at (cancelled k p s) j ≡ pos (own_factor k p s) *ℤ at s j +ℤ other_factor k p s *ℤ at p j
cancelled_at k p s j =
    add_at (scale (pos (own_factor k p s)) s.coefficients) (scale (other_factor k p s) p.coefficients) j
    ∙ (λ i. scale_at (pos (own_factor k p s)) s.coefficients j i +ℤ scale_at (other_factor k p s) p.coefficients j i)

-- the fader is gone
pub cancelled_gone : (k : ℕ) (p s : Sum) → 0 < unsigned_abs (at s k) → 0 < unsigned_abs (at p k) → at (cancelled k p s) k ≡ pos 0
cancelled_gone k p s h q =
    let is = gcd_of_is_gcd (unsigned_abs (at s k)) (unsigned_abs (at p k)) in
    cancelled_at k p s k ∙ cancels (at s k) (at p k) (gcd_of (unsigned_abs (at s k)) (unsigned_abs (at p k))) h q is.left is.right

-- ---- which row comes of which

abbrev pub turned : ℕ → Sum → Kept → Kept
turned k p r = record { kind = r.kind; sum = cancelled k p r.sum }

-- a row without the fader stays; any other is cancelled, and its numbers are within G
abbrev pub Becomes : ℕ → Sum → Kept → Kept → Type 0
Becomes k p r s = ((at r.sum k ≡ pos 0) × (r ≡ s)) ⊎ ((0 < unsigned_abs (at r.sum k)) × (fits (cancelled k p r.sum) ≡ true) × (turned k p r ≡ s))

abbrev pub Become : ℕ → Sum → List Kept → List Kept → Type 0
Become k p [] [] = Unit {0}
Become k p [] (s ∷ ss) = ⊥
Become k p (r ∷ rs) [] = ⊥
Become k p (r ∷ rs) (s ∷ ss) = Becomes k p r s × Become k p rs ss

module _ (k : ℕ) (p : Sum) where
  one_becomes : (r s : Kept) → cancel_one k p r ≡ Some s → Becomes k p r s
  one_becomes r s e = by (nat_lt 0 (unsigned_abs (at r.sum k))) refl e
    where
      same : (x y : Kept) → Some x ≡ Some y → x ≡ y
      same x y e = cc

      by : (b : Bool) → nat_lt 0 (unsigned_abs (at r.sum k)) ≡ b → cond b (cond (fits (cancelled k p r.sum)) (Some (turned k p r)) None) (Some r) ≡ Some s → Becomes k p r s
      by true t e = let c = cond_some (fits (cancelled k p r.sum)) (turned k p r) s e in inr (ltb-true 0 (unsigned_abs (at r.sum k)) t, c.0, c.1)
      by false t e = inl (zero_is (at r.sum k) t, same r s e)

  also_some : (o : Option Kept) (m : Option (List Kept)) (ss : List Kept) → also o m ≡ Some ss → (x : Kept) × (xs : List Kept) × (o ≡ Some x) × (m ≡ Some xs) × (x ∷ xs ≡ ss)
  also_some None m ss e = absurd (none_some ss e)
  also_some (Some x) None ss e = absurd (none_some ss e)
  also_some (Some x) (Some xs) ss e = (x, xs, refl, refl, cc)

  pub all_become : (rs ss : List Kept) → cancel_all k p rs ≡ Some ss → Become k p rs ss
  all_become [] ss e = let z : [] ≡ ss = cc in subst (Become k p []) z tt
  all_become (r ∷ rs) ss e =
      let a = also_some (cancel_one k p r) (cancel_all k p rs) ss e in
      subst (Become k p (r ∷ rs)) a.4 (one_becomes r a.0 a.2, all_become rs a.1 a.3)

  -- what holds of the rows before, of those after, and the other way round
  pub become_on : (P Q : Kept → Type 0) → ((r s : Kept) → Becomes k p r s → P r → Q s) → (rs ss : List Kept) → Become k p rs ss → AllByRecursion P rs → AllByRecursion Q ss
  become_on P Q f [] [] b h = tt
  become_on P Q f [] (s ∷ ss) b h = absurd b
  become_on P Q f (r ∷ rs) [] b h = absurd b
  become_on P Q f (r ∷ rs) (s ∷ ss) b h = (f r s b.0 h.0, become_on P Q f rs ss b.1 h.1)

  pub become_back : (P Q : Kept → Type 0) → ((r s : Kept) → Becomes k p r s → Q s → P r) → (rs ss : List Kept) → Become k p rs ss → AllByRecursion Q ss → AllByRecursion P rs
  become_back P Q f [] [] b h = tt
  become_back P Q f [] (s ∷ ss) b h = absurd b
  become_back P Q f (r ∷ rs) [] b h = absurd b
  become_back P Q f (r ∷ rs) (s ∷ ss) b h = (f r s b.0 h.0, become_back P Q f rs ss b.1 h.1)

  pub become_length : (rs ss : List Kept) → Become k p rs ss → length rs ≡ length ss
  become_length [] [] b = refl
  become_length [] (s ∷ ss) b = absurd b
  become_length (r ∷ rs) [] b = absurd b
  become_length (r ∷ rs) (s ∷ ss) b = ap suc (become_length rs ss b.1)
