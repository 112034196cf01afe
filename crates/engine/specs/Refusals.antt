-- The numbers of causes and of refusals, and the numbers that a refusal carries. Assumes nothing.
use Rattle.std.specs.Prelude.{ℕ, List, [], ◌∷◌}
use Rattle.engine.specs.declared.fault.Cause.{Cause}
use Rattle.engine.specs.declared.fault.Cause.TheVariants.{NumberBeyond, TableFull, FormNotTaken, WeightBeyond, Other}
use Rattle.engine.specs.declared.refusal.Refusal.{Refusal}
use Rattle.engine.specs.declared.refusal.Refusal.TheVariants.{BadCount, NoPlan, Full, BadKind, BadCoefficient, BadSide, NoRule, NoSuchRule, AlreadyMuted, AlreadySounding, TooLarge, Feasible, UnknownCommand, CutShort, TooLong, NoAnswer, ShortTable}

abbrev pub cause_number : Cause → ℕ
cause_number NumberBeyond = 1
cause_number TableFull = 2
cause_number FormNotTaken = 3
cause_number WeightBeyond = 4
cause_number (Other n) = n

abbrev pub number : Refusal → ℕ
number BadCount = 1
number NoPlan = 2
number Full = 3
number BadKind = 4
number (BadCoefficient fader) = 5
number BadSide = 6
number NoRule = 7
number NoSuchRule = 8
number AlreadyMuted = 9
number AlreadySounding = 10
number (TooLarge fault) = 11
number Feasible = 12
number UnknownCommand = 13
number CutShort = 14
number TooLong = 15
number NoAnswer = 16
number ShortTable = 17

-- a fader; a fault's layer, cause and index
abbrev pub carries : Refusal → List ℕ
carries BadCount = []
carries NoPlan = []
carries Full = []
carries BadKind = []
carries (BadCoefficient fader) = fader ∷ []
carries BadSide = []
carries NoRule = []
carries NoSuchRule = []
carries AlreadyMuted = []
carries AlreadySounding = []
carries (TooLarge fault) = fault.layer ∷ cause_number fault.cause ∷ fault.index ∷ []
carries Feasible = []
carries UnknownCommand = []
carries CutShort = []
carries TooLong = []
carries NoAnswer = []
carries ShortTable = []
