-- A right verdict is exact. Assumes nothing.
use Rattle.std.proofs.Common.{ℕ, List}
use Rattle.rows.specs.Rows.{Constraint}
use Rattle.engine.specs.Verdicts.{Verdict, Verdict.preset, Verdict.clash, Verdict.fault, Right}
use Rattle.engine.specs.Exactness.{Taken, Exact}
use Rattle.rows.proofs.Excluding.{excludes}

pub exact : (count : ℕ) (rows : List Constraint) (v : Verdict) → Right count rows v → Taken v → Exact rows v
exact count rows (preset ns d) r t = record { clashes = ((λ c. absurd c), λ i. i ns d r.0.positive r.1); meets = λ _. (r.0.positive, r.1) }
exact count rows (clash ws) r t = record { clashes = ((λ _. excludes ws rows r), λ _. tt); meets = λ f. absurd (f (excludes ws rows r)) }
exact count rows (fault f) r t = absurd t
