-- The search for a coefficient at a fader that the desk does not have. Assumes nothing.
use Rattle.std.proofs.Common.{◌≡◌, ℕ, ◌+◌, ◌<◌, ◌≤◌, Bool, true, false, cond, ◌&&◌, ltb, leb, List, [], ◌∷◌, ◌++◌, length, get_or, drop, ℤ, pos, negsuc, nat_abs, Some, None, Option, sym, refl, ap, ◌∙◌, subst, arith}
use Rattle.std.proofs.lemmas.List.{at_drop_more, at_drop_all}
use Rattle.std.proofs.lemmas.Bool.{leb-false, ltb-false}
use Rattle.rows.specs.declared.row.Row.{Row}
use Rattle.rows.specs.Rows.{UsedBelow, unused, first_unused}

-- one coefficient further, at which the test is b
pub unused_at : (count k : ℕ) (zs : List ℤ) (b : Bool) → k < length zs → unused count k (get_or zs k (pos 0)) ≡ b → first_unused count k (drop k zs) ≡ cond b (Some k) (first_unused count (k + 1) (drop (k + 1) zs))
unused_at count k zs b h e = at_drop_more (first_unused count k) zs k (pos 0) h ∙ ap (λ (t : Bool). cond t (Some k) (first_unused count (k + 1) (drop (k + 1) zs))) e

pub unused_none : (count k : ℕ) (zs : List ℤ) → length zs ≤ k → first_unused count k (drop k zs) ≡ None
unused_none count k zs h = at_drop_all (first_unused count k) zs k h

-- one row more without a coefficient at a fader that the desk does not have
used_push : (count : ℕ) (rows : List Row) (r : Row) → UsedBelow count rows → ((k : ℕ) → count ≤ k → get_or r.coefficients k (pos 0) ≡ pos 0) → UsedBelow count (rows ++ r ∷ [])
used_push count [] r used new ℕ.zero k q = new k q
used_push count [] r used new (ℕ.suc i) k q = refl
used_push count (x ∷ rows) r used new ℕ.zero k q = used 0 k q
used_push count (x ∷ rows) r used new (ℕ.suc i) k q = used_push count rows r (λ j. used (ℕ.suc j)) new i k q

pub used_more : (count : ℕ) (before after : List Row) (r : Row) → UsedBelow count before → ((k : ℕ) → count ≤ k → get_or r.coefficients k (pos 0) ≡ pos 0) → after ≡ before ++ r ∷ [] → UsedBelow count after
used_more count before after r used new e = subst (UsedBelow count) (sym e) (used_push count before r used new)

some_none : {k : ℕ} → ◌≡◌ {A = Option ℕ} (Some k) None → ⊥
some_none e = let z : ◌≡◌ {A = ℕ} 0 1 = cc in omega arith

zero_size : (a : ℤ) → nat_abs a ≡ 0 → a ≡ pos 0
zero_size (pos n) e = ap (λ (m : ℕ). pos m) e
zero_size (negsuc n) e = absurd (omega arith)

unused_here : (count k : ℕ) (a : ℤ) (o : Option ℕ) → cond (unused count k a) (Some k) o ≡ None → (o ≡ None) × (count ≤ k → a ≡ pos 0)
unused_here count k a o e = by (leb count k) (ltb 0 (nat_abs a)) refl refl e
  where
    by : (x y : Bool) → leb count k ≡ x → ltb 0 (nat_abs a) ≡ y → cond (x && y) (Some k) o ≡ None → (o ≡ None) × (count ≤ k → a ≡ pos 0)
    by true true p q e = absurd (some_none e)
    by true false p q e = (e, λ _. zero_size a (omega (arith, ltb-false 0 (nat_abs a) q)))
    by false y p q e = (e, λ h. absurd (omega (arith, leb-false count k p)))

-- where no such coefficient is found there is none
pub unused_zero : (count k : ℕ) (zs : List ℤ) → first_unused count k zs ≡ None → (j : ℕ) → count ≤ k + j → get_or zs j (pos 0) ≡ pos 0
unused_zero count k [] e j h = refl
unused_zero count k (a ∷ zs) e ℕ.zero h = (unused_here count k a (first_unused count (k + 1) zs) e).1 (omega arith)
unused_zero count k (a ∷ zs) e (ℕ.suc j) h = unused_zero count (k + 1) zs (unused_here count k a (first_unused count (k + 1) zs) e).0 j (omega arith)
