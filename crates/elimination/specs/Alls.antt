-- What holds of all elements of lists that are filtered or paired, and of the best of them. Assumes nothing.
use Rattle.std.specs.Prelude.{◌≡◌, Bool, true, false, cond, List, [], ◌∷◌, filter, refl}
use Rattle.std.proofs.Common.{sym, ◌∙◌}
use Rattle.std.specs.List.{AllByRecursion, best_of}
use Rattle.std.proofs.lemmas.Bool.{false≢true}

pub both : {X : Type 0} (P Q : X → Type 0) (xs : List X) → AllByRecursion P xs → AllByRecursion Q xs → AllByRecursion (λ x. P x × Q x) xs
both P Q [] p q = tt
both P Q (x ∷ xs) p q = ((p.0, q.0), both P Q xs p.1 q.1)

pub all_is : {X : Type 0} (P : X → Type 0) → ((x : X) → P x) → (xs : List X) → AllByRecursion P xs
all_is P h [] = tt
all_is P h (x ∷ xs) = (h x, all_is P h xs)

-- what a filter keeps, back to what it was kept from
pub unkept : {X : Type 0} (P : X → Type 0) (test : X → Bool) (xs : List X) → AllByRecursion P (filter test xs) → AllByRecursion (λ x. test x ≡ true → P x) xs
unkept P test [] p = tt
unkept {X} P test (x ∷ xs) p = by (test x) refl p (unkept P test xs)
  where
    by : (b : Bool) → test x ≡ b → AllByRecursion P (cond b (x ∷ filter test xs) (filter test xs)) → (AllByRecursion P (filter test xs) → AllByRecursion (λ y. test y ≡ true → P y) xs) → (test x ≡ true → P x) × AllByRecursion (λ y. test y ≡ true → P y) xs
    by true e h rest = (λ _. h.0, rest h.1)
    by false e h rest = (λ t. absurd (false≢true (sym e ∙ t)), rest h)

-- an element of a list is the best of it, so what holds of all holds of the best
pub best_in : {X : Type 0} (P : X → Type 0) (better : X → X → Bool) (x : X) (xs : List X) → P x → AllByRecursion P xs → P (best_of better x xs)
best_in P better x [] h k = h
best_in {X} P better x (y ∷ ys) h k = best_in P better (cond (better y x) y x) ys (by (better y x)) k.1
  where
    by : (b : Bool) → P (cond b y x)
    by true = k.0
    by false = h
