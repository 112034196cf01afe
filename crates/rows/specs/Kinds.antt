-- The kinds by their numbers. Assumes nothing.
use Rattle.std.specs.Prelude.{ℕ, zero, suc, Some, None, Option}
use Rattle.rows.specs.declared.kind.Kind.{Kind}
use Rattle.rows.specs.declared.kind.Kind.TheVariants.{AtMost, Below, Equal}

abbrev pub number_of : Kind → ℕ
number_of AtMost = 0
number_of Below = 1
number_of Equal = 2

-- the kind with a number, if one has it
abbrev pub kind_of : ℕ → Option Kind
kind_of zero = Some AtMost
kind_of (suc zero) = Some Below
kind_of (suc (suc zero)) = Some Equal
kind_of (suc (suc (suc n))) = None
