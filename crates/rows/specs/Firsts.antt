-- The first of a list that fails. Assumes nothing.
use Rattle.std.specs.Prelude.{ℕ, zero, suc, List, [], ◌∷◌}

-- P holds of each before the place, and not there
abbrev pub FirstWithout : {X : Type 0} → (X → Type 0) → List X → ℕ → Type 0
FirstWithout P [] i = ⊥
FirstWithout P (x ∷ xs) zero = P x → ⊥
FirstWithout P (x ∷ xs) (suc i) = P x × FirstWithout P xs i
