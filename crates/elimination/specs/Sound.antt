-- That the working's verdict is right. Assumes nothing.
use Rattle.std.specs.Prelude.{ℕ, List}
use Rattle.rows.specs.Rows.{Constraint}
use Rattle.engine.specs.Verdicts.{Valid, Right}
use Rattle.elimination.specs.Working.{elimination_verdict}

abbrev pub Sound : Type 0
Sound = (count : ℕ) (rows : List Constraint) → Valid count rows → Right count rows (elimination_verdict count rows)
