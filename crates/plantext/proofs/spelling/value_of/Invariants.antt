-- The loop of `value_of`: the value of the digits so far, which are digits. Assumes nothing.
use Rattle.std.proofs.Common.{◌≡◌, take}
use Rattle.std.specs.Str.Parse.{digits_value, AllDigits}
use Rattle.plantext.proofs.spelling.value_of.Given as goal

abbrev pub invariant-loop-b : goal.invariant-loop-b
invariant-loop-b l = (l.n ≡ digits_value 10 (take l.b-index l.digits)) × AllDigits 10 (take l.b-index l.digits)
