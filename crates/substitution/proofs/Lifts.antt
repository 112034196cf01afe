-- The weights of the listed rows, one after another. Assumes nothing.
use Rattle.std.proofs.Common.{◌≡◌, ℕ, suc, ◌+◌, ◌-◌, ◌<◌, List, [], ◌∷◌, ◌++◌, length, take, set, ℤ, pos, Some, Ok, Err, Option, Result, sym, refl, ap, ◌∙◌, arith}
use Rattle.std.proofs.lemmas.List.{take_more_set, append_assoc}
use Rattle.engine.specs.declared.fault.Fault.{Fault}
use Rattle.substitution.specs.Reduction.{Kept}
use Rattle.substitution.specs.Lifting.{add_terms, carried_weights, before_weight, lifted_weights}

-- weights before those of a result
abbrev pub behind : List ℤ → Result (List ℤ) Fault → Result (List ℤ) Fault
behind xs (Ok ys) = Ok (xs ++ ys)
behind xs (Err f) = Err f

behind_one : (xs : List ℤ) (w : ℤ) (j : ℕ) (r : Result (List ℤ) Fault) → behind xs (before_weight (Some w) j r) ≡ behind (xs ++ w ∷ []) r
behind_one xs w j (Ok ys) = ap (λ (zs : List ℤ). Ok zs) (sym (append_assoc xs (w ∷ []) ys))
behind_one xs w j (Err f) = refl

module _ (n : ℕ) (ws : List ℤ) (rs : List Kept) where
  -- the weights of the places before j are written
  abbrev pub Lifted : ℕ → List ℤ → Type 0
  Lifted j values = lifted_weights n 0 ws rs ≡ behind (take j values) (lifted_weights (n - j) j ws rs)

  opened : (j : ℕ) → j < n → lifted_weights (n - j) j ws rs ≡ before_weight (add_terms (pos 0) ws (carried_weights j rs)) j (lifted_weights (n - (j + 1)) (j + 1) ws rs)
  opened j h = let e : n - j ≡ suc (n - (j + 1)) = omega arith in ap (λ (m : ℕ). lifted_weights m j ws rs) e

  pub lift_more : (j : ℕ) (values : List ℤ) (w : ℤ) → j < n → j < length values → Some w ≡ add_terms (pos 0) ws (carried_weights j rs) → Lifted j values → Lifted (j + 1) (set values j w)
  lift_more j values w h k e l =
      l
      ∙ ap (behind (take j values)) (opened j h ∙ ap (λ (o : Option ℤ). before_weight o j (lifted_weights (n - (j + 1)) (j + 1) ws rs)) (sym e))
      ∙ behind_one (take j values) w j (lifted_weights (n - (j + 1)) (j + 1) ws rs)
      ∙ ap (λ (xs : List ℤ). behind xs (lifted_weights (n - (j + 1)) (j + 1) ws rs)) (sym (take_more_set values j w k))
