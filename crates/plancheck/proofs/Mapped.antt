-- A result whose error was changed. Assumes nothing.
use Rattle.std.proofs.Common.{◌≡◌, Result, Ok, Err, MatchResult, IsErrAnd, sym, ap, ◌∙◌}

-- its value is the one that there was
pub mapped_ok : {A E D : Type 0} (r : Result A E) (s : Result A D) (P : E → D → Type 0) (y : A) → MatchResult r (λ x. s ≡ Ok x) (λ e. IsErrAnd s (P e)) → s ≡ Ok y → r ≡ Ok y
mapped_ok {D = D} (Ok x) s P y h e = let q : ◌≡◌ {A = Result _ D} (Ok x) (Ok y) = sym h ∙ e in let p : x ≡ y = cc in ap Ok p
mapped_ok (Err x) (Ok z) P y h e = absurd h
mapped_ok (Err x) (Err z) P y h e = cc

-- an error that keeps its value
pub mapped_same : {A E : Type 0} (r s : Result A E) (P : E → E → Type 0) → ((e k : E) → P e k → k ≡ e) → MatchResult r (λ x. s ≡ Ok x) (λ e. IsErrAnd s (P e)) → s ≡ r
mapped_same (Ok x) s P same h = h
mapped_same (Err e) (Ok x) P same h = absurd h
mapped_same (Err e) (Err k) P same h = ap Err (same e k h)
