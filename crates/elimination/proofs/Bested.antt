-- The first best of a list by the order of its type, and the best limit of the working. Assumes nothing.
use Rattle.std.proofs.Common.{◌≡◌, ℕ, Bool, true, false, cond, not, List, [], ◌∷◌, map, length, get_or, Some, sym, refl, ap, ◌∙◌, arith}
use Rattle.std.specs.Cmp.{IsStrictWeakOrder}
use Rattle.std.specs.List.{best_of}
use Rattle.std.proofs.lemmas.List.MinMax.{IsStrictWeakOrder-from_at_least, IsFirstBest-from_best_of, IsFirstBest-unique}
use Rattle.std.proofs.lemmas.List.{get_or_default}
use Rattle.integers.specs.Choice.{beats, FirstBest}
use Rattle.elimination.specs.Levels.{Limit, first_best}

not_not : (b : Bool) → not (not b) ≡ b
not_not true = refl
not_not false = refl

cond_to : {X Y : Type 0} (g : X → Y) (b : Bool) (x y : X) → cond b (g x) (g y) ≡ g (cond b x y)
cond_to g true x y = refl
cond_to g false x y = refl

-- things that stand for limits, and are ordered as these are
module _ {X : Type 0} (g : X → Limit) (better : Limit → Limit → Bool)
    (total : (x y : X) → not (better (g y) (g x)) ≡ false → not (better (g x) (g y)) ≡ true)
    (chain : (x y z : X) → not (better (g y) (g x)) ≡ true → not (better (g z) (g y)) ≡ true → not (better (g z) (g x)) ≡ true) where
  abbrev pub no_worse : X → X → Bool
  no_worse x y = not (better (g y) (g x))

  ranks : IsStrictWeakOrder (beats no_worse)
  ranks = IsStrictWeakOrder-from_at_least no_worse total chain

  best_to : (x : X) (xs : List X) → best_of better (g x) (map g xs) ≡ g (best_of (beats no_worse) x xs)
  best_to x [] = refl
  best_to x (y ∷ ys) =
      ap (λ (l : Limit). best_of better l (map g ys)) (ap (λ (b : Bool). cond b (g y) (g x)) (sym (not_not (better (g y) (g x)))) ∙ cond_to g (beats no_worse y x) y x)
      ∙ best_to (cond (beats no_worse y x) y x) ys

  pub one_best : (xs : List X) (b : ℕ) (d : X) → FirstBest no_worse xs b → Some (g (get_or xs b d)) ≡ first_best better (map g xs)
  one_best [] b d f = absurd (omega (arith, f.within))
  one_best (x ∷ xs) b d f =
      let o = IsFirstBest-from_best_of ranks x xs in
      let e = IsFirstBest-unique ranks (x ∷ xs) (length (x ∷ xs)) b o.0 x (f.within, f.none_better, f.first) o.1 in
      ap (λ (y : X). Some (g y)) (get_or_default (x ∷ xs) b d x f.within ∙ ap (λ (k : ℕ). get_or (x ∷ xs) k x) e ∙ o.2)
      ∙ sym (ap Some (best_to x xs))
