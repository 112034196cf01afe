-- The verdict of the engine as it is sold: substitution over elimination. Assumes nothing.
use Rattle.std.specs.Prelude.{ℕ, List}
use Rattle.rows.specs.Rows.{Constraint}
use Rattle.engine.specs.Verdicts.{Verdict}
use Rattle.elimination.specs.Working.{elimination_verdict}
use Rattle.substitution.specs.Working.{substitution_verdict}

abbrev pub sold_verdict : ℕ → List Constraint → Verdict
sold_verdict = substitution_verdict elimination_verdict
