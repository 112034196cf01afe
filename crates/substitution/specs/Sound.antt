-- That substitution over right verdicts gives right verdicts. Assumes nothing.
use Rattle.std.specs.Prelude.{ℕ, List}
use Rattle.rows.specs.Rows.{Constraint}
use Rattle.engine.specs.Verdicts.{Verdict, Valid, Right}
use Rattle.substitution.specs.Working.{substitution_verdict}

abbrev pub SoundOver : Type 0
SoundOver =
    (below : ℕ → List Constraint → Verdict) → ((count : ℕ) (rows : List Constraint) → Valid count rows → Right count rows (below count rows))
    → (count : ℕ) (rows : List Constraint) → Valid count rows → Right count rows (substitution_verdict below count rows)
