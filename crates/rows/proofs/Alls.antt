-- What holds of all elements of lists that are joined or mapped, and tests that give something. Assumes nothing.
use Rattle.std.proofs.Common.{◌≡◌, ℕ, Bool, true, false, cond, List, [], ◌∷◌, ◌++◌, map, Some, None, Option, refl, arith}
use Rattle.std.specs.List.{AllByRecursion as All}

pub unmap : {X Y : Type 0} (P : Y → Type 0) (f : X → Y) (xs : List X) → All P (map f xs) → All (λ x. P (f x)) xs
unmap P f [] p = tt
unmap P f (x ∷ xs) p = (p.0, unmap P f xs p.1)

pub mapped : {X Y : Type 0} (P : Y → Type 0) (f : X → Y) (xs : List X) → All (λ x. P (f x)) xs → All P (map f xs)
mapped P f [] p = tt
mapped P f (x ∷ xs) p = (p.0, mapped P f xs p.1)

pub unjoin : {X : Type 0} (P : X → Type 0) (xs ys : List X) → All P (xs ++ ys) → All P xs × All P ys
unjoin P [] ys p = (tt, p)
unjoin P (x ∷ xs) ys p = let h = unjoin P xs ys p.1 in ((p.0, h.0), h.1)

pub none_some : {X : Type 0} (x : X) → None ≡ Some x → ⊥
none_some x e = let z : ◌≡◌ {A = ℕ} 0 1 = cc in omega arith

pub cond_some : {X : Type 0} (b : Bool) (x y : X) → cond b (Some x) None ≡ Some y → (b ≡ true) × (x ≡ y)
cond_some true x y e = (refl, cc)
cond_some false x y e = absurd (none_some y e)

pub cond_none : {X : Type 0} (b : Bool) (o : Option X) (y : X) → cond b None o ≡ Some y → (b ≡ false) × (o ≡ Some y)
cond_none true o y e = absurd (none_some y e)
cond_none false o y e = (refl, e)
