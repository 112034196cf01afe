-- The rows and pivots of the program as those of the working. Assumes nothing.
use Rattle.std.specs.Prelude.{ℕ, List, [], ◌∷◌, map, Ok, Err, Result}
use Rattle.engine.specs.declared.fault.Fault.{Fault}
use Rattle.rows.specs.declared.fader.Fader.{Fader}
use Rattle.rows.specs.declared.preset.Preset.{Preset}
use Rattle.rows.specs.Carrying.{numbers_of}
use Rattle.engine.specs.Verdicts.{Verdict}
use Rattle.substitution.specs.declared.kept.Kept.{Kept as Held}
use Rattle.substitution.specs.declared.kept.Pivot.{Pivot as HeldPivot}
use Rattle.substitution.specs.Reduction.{Kept, Pivot}

abbrev pub kept_of : Held → Kept
kept_of h = record { kind = h.kind; sum = numbers_of h.row }

abbrev pub kepts : List Held → List Kept
kepts hs = map kept_of hs

abbrev pub index_of : Fader → ℕ
index_of f = f.index

abbrev pub pivot_of : HeldPivot → Pivot
pivot_of p = record { fader = p.fader.index; sum = numbers_of p.row }

-- the pivots with the last first, before others
abbrev pub latest_first : List HeldPivot → List Pivot → List Pivot
latest_first [] ps = ps
latest_first (p ∷ more) ps = latest_first more (pivot_of p ∷ ps)

-- completed levels as a verdict
abbrev pub level_verdict : Result Preset Fault → Verdict
level_verdict (Ok p) = Verdict.preset p.numerators p.denominator
level_verdict (Err f) = Verdict.fault f
