-- The working of the elimination engine, from rows to its verdict. Assumes nothing.
use Rattle.std.specs.Prelude.{ℕ, zero, suc, ◌+◌, Bool, true, false, cond, not, ◌&&◌, ◌||◌, nat_lt, List, [], ◌∷◌, length, take, replicate, pos, Some, None, Ok, Err, count_by, filter, Option, Result, int_lt, slice_set, unsigned_abs}
use Rattle.rows.specs.declared.kind.Kind.{Kind}
use Rattle.rows.specs.declared.kind.Kind.TheVariants.{AtMost, Below, Equal}
use Rattle.engine.specs.declared.fault.Fault.{Fault}
use Rattle.rows.specs.Limits.{faders, most_rows}
use Rattle.rows.specs.Rows.{Constraint}
use Rattle.engine.specs.Verdicts.{Verdict, number_beyond, form_not_taken}
use Rattle.elimination.specs.Table.{Line, stands, all_eliminated}
use Rattle.elimination.specs.Levels.{Levels, first_best, set_fader}

abbrev pub is_equation : Kind → Bool
is_equation AtMost = false
is_equation Below = false
is_equation Equal = true

abbrev pub is_strict : Kind → Bool
is_strict AtMost = false
is_strict Below = true
is_strict Equal = false

-- the place of the first equation, from place i on
abbrev pub first_equation : ℕ → List Constraint → Option ℕ
first_equation i [] = None
first_equation i (r ∷ rows) = cond (is_equation r.kind) (Some i) (first_equation (i + 1) rows)

-- the row at place i of the list, with weight 1 on itself
abbrev pub listed_line : ℕ → Constraint → Line
listed_line i r = record { coefficients = r.coefficients; side = r.side; strict = is_strict r.kind; weights = slice_set (replicate most_rows (pos 0)) i (pos 1); aside = None }

-- the rows of the list, from place i on
abbrev pub carried : ℕ → List Constraint → List Line
carried i [] = []
carried i (r ∷ rows) = listed_line i r ∷ carried (i + 1) rows

-- a standing row that no levels meet: it has no coefficients left
abbrev pub is_false : Line → Bool
is_false r = stands r && (int_lt r.side (pos 0) || (r.strict && not (int_lt (pos 0) r.side)))

-- how many weights are other than 0
abbrev pub support : Line → ℕ
support r = count_by (λ w. nat_lt 0 (unsigned_abs w)) r.weights

-- the false row with the fewest, the first among equals
abbrev pub chosen_false : List Line → Option Line
chosen_false t = first_best (λ x y. nat_lt (support x) (support y)) (filter is_false t)

-- faders set from the highest down, the last one set being fader 0
abbrev pub all_set : ℕ → List Line → Levels → Result Levels Fault
all_set zero t x = Ok x
all_set (suc k) t x = elim (set_fader k t x) [ Some y ↦ all_set k t y | None ↦ Err (number_beyond k) ]

abbrev pub at_rest : Levels
at_rest = record { numerators = replicate faders (pos 0); denominator = 1 }

abbrev pub level_verdict : Result Levels Fault → Verdict
level_verdict (Ok x) = Verdict.preset x.numerators x.denominator
level_verdict (Err f) = Verdict.fault f

-- what an eliminated table says
abbrev pub concluded : ℕ → List Constraint → List Line → Verdict
concluded count rows t = elim (chosen_false t) [
  | Some r ↦ Verdict.clash (take (length rows) r.weights)
  | None ↦ level_verdict (all_set count t at_rest)
]

abbrev pub worked_out : ℕ → List Constraint → Result (List Line) Fault → Verdict
worked_out count rows (Ok t) = concluded count rows t
worked_out count rows (Err f) = Verdict.fault f

-- a row of kind equal is not taken; otherwise all faders are eliminated, and the table then gives a clash or levels
abbrev pub elimination_verdict : ℕ → List Constraint → Verdict
elimination_verdict count rows = elim (first_equation 0 rows) [
  | Some i ↦ Verdict.fault (form_not_taken i)
  | None ↦ worked_out count rows (all_eliminated count 0 (carried 0 rows))
]
