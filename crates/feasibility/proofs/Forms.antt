-- Linear forms: whether some whole numbers make one form positive and each form of a list at least 0 is decidable.
-- A form is the list of its coefficients, a point is a list of whole numbers, and the value of the form at the point is their `dot`.
-- By induction on the list. With one form r more: a point xs that solves the rest is found, or there is none. If r is negative at xs, then
-- any point ys that solves all gives one where r is 0, a sum of multiples of ys and xs; so the rest is decided for points of that shape. Assumes nothing.
use Rattle.std.proofs.Common.{◌≡◌, zero, suc, ◌⊎◌, List, [], ◌∷◌, ℤ, pos, negsuc, ◌+ℤ◌, ◌*ℤ◌, neg_ℤ, ◌≤ℤ◌, ◌<ℤ◌, sym, refl, ◌∙◌, subst, inl, inr, arith}
use lib.IntN.{*ℤ_comm, zero-*ℤ}
use Rattle.std.specs.List.{AllByRecursion as All}
use Rattle.std.proofs.ByRecursion.{All-weaker}
use Rattle.std.proofs.lemmas.Int.{by_lt_z}
use Rattle.integers.specs.Vectors.{dot, add, scale}
use Rattle.integers.proofs.Laws.{neg-*ℤ}
use Rattle.integers.proofs.Linear.{linear}
use Rattle.integers.proofs.Order.{*ℤ-nonneg, *ℤ-pos}
use Rattle.integers.proofs.VectorLaws.{dot_add, dot_scale, dot_nil}

-- the point makes g positive, and the form of each of the list at least 0
abbrev pub Solves : {A : Type 0} → (A → List ℤ) → List A → List ℤ → List ℤ → Type 0
Solves form fs g xs = (pos 0 <ℤ dot g xs) × All (λ f. pos 0 ≤ℤ dot (form f) xs) fs

-- some point does, or none does
abbrev pub Solved : {A : Type 0} → (A → List ℤ) → List A → List ℤ → Type 0
Solved form fs g = ((xs : List ℤ) × Solves form fs g xs) ⊎ ((xs : List ℤ) → Solves form fs g xs → ⊥)

dot_comm : (xs ys : List ℤ) → dot xs ys ≡ dot ys xs
dot_comm [] [] = refl
dot_comm [] (y ∷ ys) = refl
dot_comm (x ∷ xs) [] = refl
dot_comm (x ∷ xs) (y ∷ ys) = λ i. *ℤ_comm x y i +ℤ dot_comm xs ys i

dot_blend : (m n : ℤ) (xs ys zs : List ℤ) → dot (add (scale m xs) (scale n ys)) zs ≡ m *ℤ dot xs zs +ℤ n *ℤ dot ys zs
dot_blend m n xs ys zs = dot_add (scale m xs) (scale n ys) zs ∙ (λ i. dot_scale m xs zs i +ℤ dot_scale n ys zs i)

-- ---- one form alone

positive : {A : Type 0} (form : A → List ℤ) (g : List ℤ) → Solved form [] g
positive form [] = inr (λ xs h. absurd h.0.lt)
positive form (pos (suc n) ∷ g) = inl (pos 1 ∷ [], (omega (arith, linear, dot_nil g), tt))
positive form (negsuc n ∷ g) = inl (negsuc 0 ∷ [], (omega (arith, linear, dot_nil g), tt))
positive form (pos zero ∷ g) = later (positive form g)
  where
    rest : (x : ℤ) (xs : List ℤ) → dot (pos 0 ∷ g) (x ∷ xs) ≡ dot g xs
    rest x xs = omega (arith, linear, zero-*ℤ x)

    never : ((xs : List ℤ) → Solves form [] g xs → ⊥) → (xs : List ℤ) → Solves form [] (pos 0 ∷ g) xs → ⊥
    never none [] h = absurd h.0.lt
    never none (x ∷ xs) h = none xs (subst (λ (z : ℤ). pos 0 <ℤ z) (rest x xs) h.0, tt)

    later : Solved form [] g → Solved form [] (pos 0 ∷ g)
    later (inl (xs, h)) = inl (pos 0 ∷ xs, (subst (λ (z : ℤ). pos 0 <ℤ z) (sym (rest (pos 0) xs)) h.0, tt))
    later (inr none) = inr (never none)

-- ---- one form more, r, at a point xs

module _ (xs r : List ℤ) where
  -- multiples of ys and xs, added such that r cancels
  abbrev onto : List ℤ → List ℤ
  onto ys = add (scale (neg_ℤ (dot r xs)) ys) (scale (dot r ys) xs)

  -- the form that has at ys the value of f at `onto ys`
  abbrev along : List ℤ → List ℤ
  along f = add (scale (neg_ℤ (dot r xs)) f) (scale (dot f xs) r)

  along_at : (f ys : List ℤ) → dot (along f) ys ≡ neg_ℤ (dot r xs) *ℤ dot f ys +ℤ dot f xs *ℤ dot r ys
  along_at f ys = dot_blend (neg_ℤ (dot r xs)) (dot f xs) f r ys

  along_onto : (f ys : List ℤ) → dot (along f) ys ≡ dot f (onto ys)
  along_onto f ys =
      along_at f ys
      ∙ (λ i. neg_ℤ (dot r xs) *ℤ dot_comm f ys i +ℤ *ℤ_comm (dot_comm f xs i) (dot r ys) i)
      ∙ sym (dot_blend (neg_ℤ (dot r xs)) (dot r ys) ys xs f)
      ∙ dot_comm (onto ys) f

  onto_zero : (ys : List ℤ) → pos 0 ≤ℤ dot r (onto ys)
  onto_zero ys = omega (arith, linear, along_onto r ys, along_at r ys, neg-*ℤ (dot r xs) (dot r ys))

  -- r is negative at xs, and not at ys
  module _ (n : dot r xs <ℤ pos 0) (ys : List ℤ) (p : pos 0 ≤ℤ dot r ys) where
    along_positive : (g : List ℤ) → pos 0 <ℤ dot g xs → pos 0 <ℤ dot g ys → pos 0 <ℤ dot (along g) ys
    along_positive g h k =
        let m : pos 0 <ℤ neg_ℤ (dot r xs) = omega (arith, linear) in
        let i : pos 0 ≤ℤ dot g xs = omega (arith, linear) in
        omega (arith, linear, along_at g ys, *ℤ-pos m k, *ℤ-nonneg i p)

    along_each : {A : Type 0} (form : A → List ℤ) (fs : List A) → All (λ f. pos 0 ≤ℤ dot (form f) xs) fs → All (λ f. pos 0 ≤ℤ dot (form f) ys) fs → All (λ f. pos 0 ≤ℤ dot (along (form f)) ys) fs
    along_each form [] h k = tt
    along_each form (f ∷ fs) h k =
        let m : pos 0 ≤ℤ neg_ℤ (dot r xs) = omega (arith, linear) in
        (omega (arith, linear, along_at (form f) ys, *ℤ-nonneg m k.0, *ℤ-nonneg h.0 p), along_each form fs h.1 k.1)

one_more : {A : Type 0} (form : A → List ℤ) (r : A) (fs : List A) (g xs : List ℤ) → Solves form fs g xs → dot (form r) xs <ℤ pos 0 → Solved (λ f. along xs (form r) (form f)) fs (along xs (form r) g) → Solved form (r ∷ fs) g
one_more form r fs g xs h n (inl (ys, k)) =
    let zs = onto xs (form r) ys in
    let same = λ (f : List ℤ). along_onto xs (form r) f ys in
    let others = All-weaker (λ f. pos 0 ≤ℤ dot (along xs (form r) (form f)) ys) (λ f. pos 0 ≤ℤ dot (form f) zs) (λ f. subst (λ (z : ℤ). pos 0 ≤ℤ z) (same (form f))) fs k.1 in
    inl (zs, (subst (λ (z : ℤ). pos 0 <ℤ z) (same g) k.0, (onto_zero xs (form r) ys, others)))
one_more form r fs g xs h n (inr none) =
    inr (λ ys k. none ys (along_positive xs (form r) n ys k.1.0 g h.0 k.0, along_each xs (form r) n ys k.1.0 form fs h.1 k.1.1))

pub solved : {A : Type 0} (form : A → List ℤ) (fs : List A) (g : List ℤ) → Solved form fs g
solved form [] g = positive form g
solved form (r ∷ fs) g =
    elim (solved form fs g) [
      | inl (xs, h) ↦ by_lt_z (dot (form r) xs) (pos 0)
          (λ n. one_more form r fs g xs h n (solved (λ f. along xs (form r) (form f)) fs (along xs (form r) g)))
          (λ n. inl (xs, (h.0, (n, h.1))))
      | inr none ↦ inr (λ xs h. none xs (h.0, h.1.1))
    ]
