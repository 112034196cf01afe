-- How lines are counted. Assumes nothing.
use Rattle.std.specs.Prelude.{ℕ, ◌+◌, min, Bool, true, false, Ok, Err, Result}
use Rattle.plancheck.specs.declared.complaint.Complaint.{Complaint}
use Rattle.plancheck.specs.declared.outcome.Outcome.{Outcome}
use Rattle.plancheck.specs.declared.outcome.Outcome.TheVariants.{Blank, Desk, Rule, Preset, Clash}
use Rattle.plancheck.specs.declared.verdict.PresetVerdict.TheVariants.{Holds, Unmet}
use Rattle.plancheck.specs.declared.verdict.ClashVerdict.TheVariants.{Holds as Contradicts, Flawed}
use Rattle.plancheck.specs.declared.tally.Tally.{Tally}

-- one more, as far as a counter goes
abbrev pub more : ℕ → ℕ
more n = min (n + 1) 18446744073709551615

abbrev pub one_holds : Tally → Tally
one_holds t = record { holding = more t.holding; failing = t.failing; bad = t.bad }

abbrev pub one_fails : Tally → Tally
one_fails t = record { holding = t.holding; failing = more t.failing; bad = t.bad }

abbrev pub one_bad : Tally → Tally
one_bad t = record { holding = t.holding; failing = t.failing; bad = more t.bad }

-- the counters after a line that came to this
abbrev pub tallied : Result Outcome Complaint → Tally → Tally
tallied (Ok Blank) t = t
tallied (Ok (Desk n)) t = t
tallied (Ok (Rule n)) t = t
tallied (Ok (Preset ns d (Holds g))) t = one_holds t
tallied (Ok (Preset ns d (Unmet i sum))) t = one_fails t
tallied (Ok (Clash ns (Contradicts sum))) t = one_holds t
tallied (Ok (Clash ns (Flawed f sum))) t = one_fails t
tallied (Err e) t = one_bad t

abbrev pub is_blank : Result Outcome Complaint → Bool
is_blank (Ok Blank) = true
is_blank (Ok (Desk n)) = false
is_blank (Ok (Rule n)) = false
is_blank (Ok (Preset ns d verdict)) = false
is_blank (Ok (Clash ns verdict)) = false
is_blank (Err e) = false
