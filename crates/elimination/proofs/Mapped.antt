-- A fault in place of an error, or of a value that is not there: what stood before. Assumes nothing.
use Rattle.std.proofs.Common.{◌≡◌, Some, None, Ok, Err, Option, Result, sym, refl, ◌∙◌, subst}
use Rattle.std.specs.Option.{ok_or}
use Rattle.std.specs.Result.{MatchResult, IsErrAnd}

apart : {X F : Type 0} (x : X) (f : F) → ◌≡◌ {A = Result X F} (Ok x) (Err f) → ⊥
apart x f e = cc

module _ {X E F : Type 0} (P : E → F → Type 0) where
  pub err_before : (r : Result X E) (m : Result X F) (f : F) → MatchResult r (λ y. m ≡ Ok y) (λ d. IsErrAnd m (P d)) → m ≡ Err f → (d : E) × (r ≡ Err d) × P d f
  err_before (Ok y) m f h e = absurd (apart y f (sym h ∙ e))
  err_before (Err d) m f h e = (d, refl, subst (λ (n : Result X F). IsErrAnd n (P d)) e h)

pub fault_given : {X F : Type 0} (o : Option X) (f g : F) → ◌≡◌ {A = Result X F} (Err f) (ok_or o g) → f ≡ g
fault_given None f g e = cc
fault_given (Some x) f g e = absurd (apart x f (sym e))
