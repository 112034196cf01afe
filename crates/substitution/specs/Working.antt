-- The working of substitution, over the verdict of any engine below. Assumes nothing.
use Rattle.std.specs.Prelude.{ℕ, List, [], map, length, take}
use Rattle.rows.specs.Rows.{Constraint}
use Rattle.engine.specs.Verdicts.{Verdict}
use Rattle.substitution.specs.Reduction.{Kept, Reduced, Reduced.clashing, Reduced.faulty, Reduced.left, kept_rows, reduced}
use Rattle.substitution.specs.Lifting.{lifted}

-- a row as it is handed down
abbrev pub handed_down : Kept → Constraint
handed_down r = record { kind = r.kind; coefficients = r.sum.coefficients; side = r.sum.side }

abbrev pub decided : (ℕ → List Constraint → Verdict) → ℕ → ℕ → Reduced → Verdict
decided below count n (clashing ws) = Verdict.clash (take n ws)
decided below count n (faulty f) = Verdict.fault f
decided below count n (left rs ps) = lifted n rs ps (below count (map handed_down rs))

abbrev pub substitution_verdict : (ℕ → List Constraint → Verdict) → ℕ → List Constraint → Verdict
substitution_verdict below count rows = decided below count (length rows) (reduced (length rows) [] (kept_rows 0 rows) [])
