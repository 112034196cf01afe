-- The limits and levels of the program as those of the working. Assumes nothing.
use Rattle.rows.specs.declared.preset.Preset.{Preset}
use Rattle.elimination.specs.declared.limit.Limit.{Limit as Held}
use Rattle.elimination.specs.Levels.{Levels, Limit}

abbrev pub limit_of : Held → Limit
limit_of l = record { numerator = l.numerator; denominator = l.denominator; strict = l.strict }

abbrev pub levels_of : Preset → Levels
levels_of p = record { numerators = p.numerators; denominator = p.denominator }
