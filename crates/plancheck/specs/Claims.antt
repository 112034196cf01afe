-- What is said of claimed answers. Assumes nothing.
use Rattle.std.specs.Prelude.{◌≡◌, ℕ, zero, suc, ◌<◌, List, [], ◌∷◌, length, take, ℤ, pos, Some, None, Ok, Err, Option, Result}
use Rattle.integers.specs.Vectors.{dot}
use Rattle.integers.specs.Divisors.{IsGcdAll}
use Rattle.rows.specs.Limits.{largest, faders}
use Rattle.rows.specs.Rows.{Constraint, MeetsAll, FirstUnmet}
use Rattle.rows.specs.Clashes.{Clash, column, total}
use Rattle.rows.specs.Clashes.{Flawed as Wrong}
use Rattle.rows.specs.declared.flaw.ClashFlaw.{ClashFlaw}
use Rattle.rows.specs.declared.flaw.ClashFlaw.TheVariants.{TooManyRows, Negative, Column, Total}
use Rattle.plans.specs.Plans.{PlanView}
use Rattle.plans.specs.Sounding.{sounding_rows}
use Rattle.plantext.specs.declared.numbers.Numbers.{Numbers}
use Rattle.plantext.specs.Padding.{padded}
use Rattle.plancheck.specs.declared.complaint.Complaint.{Complaint}
use Rattle.plancheck.specs.declared.complaint.Complaint.TheVariants.{Numerator, Denominator, Weight}
use Rattle.plancheck.specs.declared.complaint.Counted.TheVariants.{Numerators, Weights}
use Rattle.plancheck.specs.declared.verdict.PresetVerdict.{PresetVerdict}
use Rattle.plancheck.specs.declared.verdict.PresetVerdict.TheVariants.{Holds, Unmet}
use Rattle.plancheck.specs.declared.verdict.ClashVerdict.{ClashVerdict}
use Rattle.plancheck.specs.declared.verdict.ClashVerdict.TheVariants.{Holds as Contradicts, Flawed}
use Rattle.plancheck.specs.Widths.{in_width}
use Rattle.plancheck.specs.Numbers.{first_beyond, denominator_of}

-- the coefficients of the row at a place
abbrev pub coefficients_at : List Constraint → ℕ → List ℤ
coefficients_at [] i = []
coefficients_at (r ∷ rows) zero = r.coefficients
coefficients_at (r ∷ rows) (suc i) = coefficients_at rows i

-- what a verdict says of numerators over a denominator
abbrev pub PresetJudged : List ℤ → ℕ → List Constraint → PresetVerdict → Type 0
PresetJudged ns d rows (Holds g) = MeetsAll ns d rows × IsGcdAll d ns g
PresetJudged ns d rows (Unmet i sum) = FirstUnmet ns d rows i × (sum ≡ dot (coefficients_at rows i) ns)

-- the sum that shows a flaw
abbrev pub shown_sum : List ℤ → List Constraint → ClashFlaw → ℤ
shown_sum ws rows TooManyRows = total ws rows
shown_sum ws rows (Negative i) = total ws rows
shown_sum ws rows (Column k) = column ws rows k
shown_sum ws rows Total = total ws rows

-- what a verdict says of weights, of which the rows use as many as they are
abbrev pub ClashJudged : List ℤ → List Constraint → ClashVerdict → Type 0
ClashJudged ws rows (Contradicts t) = Clash (take (length rows) ws) rows × (t ≡ total ws rows)
ClashJudged ws rows (Flawed f t) = Wrong (take (length rows) ws) rows f × (t ≡ shown_sum ws rows f)

abbrev pub denominator_complaint : Option ℕ → Option Complaint
denominator_complaint None = Some Denominator
denominator_complaint (Some n) = None

abbrev pub numerator_complaint : Option ℕ → Option Complaint → Option Complaint
numerator_complaint None other = other
numerator_complaint (Some k) other = Some (Numerator k)

-- numerators and a denominator that no preset has
abbrev pub terms_complaint : List ℤ → ℤ → Option Complaint
terms_complaint zs d = numerator_complaint (first_beyond largest 0 zs) (denominator_complaint (denominator_of d))

abbrev pub weight_complaint : Option ℕ → Option Complaint
weight_complaint None = None
weight_complaint (Some i) = Some (Weight i)

-- weights that no clash has
abbrev pub weights_complaint : List ℤ → Option Complaint
weights_complaint zs = weight_complaint (first_beyond largest 0 zs)

abbrev pub preset_complaint : Numbers → ℤ → PlanView → Option Complaint
preset_complaint ns d v = in_width Numerators v.count ns v.count (terms_complaint (take faders (padded ns)) d)

-- what is replied to a claimed preset: a verdict on its levels, or why the line is bad
abbrev pub PresetChecked : Numbers → ℤ → PlanView → Result PresetVerdict Complaint → Type 0
PresetChecked ns d v (Ok verdict) = (length ns ≡ v.count) × ((n : ℕ) × (d ≡ pos n) × (0 < n) × PresetJudged (take faders (padded ns)) n (sounding_rows v.rules) verdict)
PresetChecked ns d v (Err e) = preset_complaint ns d v ≡ Some e

abbrev pub clash_complaint : Numbers → PlanView → Option Complaint
clash_complaint ns v = in_width Weights v.count ns (length (sounding_rows v.rules)) (weights_complaint (padded ns))

-- what is replied to a claimed clash
abbrev pub ClashChecked : Numbers → PlanView → Result ClashVerdict Complaint → Type 0
ClashChecked ns v (Ok verdict) = (length ns ≡ length (sounding_rows v.rules)) × ClashJudged (padded ns) (sounding_rows v.rules) verdict
ClashChecked ns v (Err e) = clash_complaint ns v ≡ Some e
