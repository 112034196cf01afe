-- What each call that edits a plan does: when it is refused, of several refusals by the first named, and the plan that it leaves.
-- Assumes nothing.
use Rattle.std.specs.Prelude.{◌≡◌, ℕ, zero, suc, ◌+◌, Bool, true, false, cond, ◌||◌, List, [], ◌∷◌, ◌++◌, length, ℤ, Some, None, Ok, Err, Option, Result, ◌==◌, nat_le, nat_lt, unsigned_abs}
use Rattle.std.specs.Bool.{beq}
use Rattle.rows.specs.declared.kind.Kind.{Kind}
use Rattle.rows.specs.declared.row.Row.{Row}
use Rattle.engine.specs.declared.refusal.Refusal.{Refusal}
use Rattle.engine.specs.declared.refusal.Refusal.TheVariants.{NoPlan, Full, BadKind, BadSide, NoRule, NoSuchRule, AlreadyMuted, AlreadySounding}
use Rattle.rows.specs.Kinds.{kind_of}
use Rattle.rows.specs.Limits.{most_rows}
use Rattle.rows.specs.Rows.{Constraint, constraint, unused}
use Rattle.engine.specs.Interface.{Does, first_refusal, refused_if, count_refusal, unused_refusal}
use Rattle.plans.specs.Ranges.{coefficient_range, side_range}
use Rattle.plans.specs.Rules.{RuleView}
use Rattle.plans.specs.Plans.{PlanView}

-- a call that needs an open plan
abbrev pub closed_refusal : PlanView → Option Refusal
closed_refusal v = refused_if (v.count == 0) NoPlan

-- an empty plan in place of the old
abbrev pub after_open : ℕ → PlanView
after_open n = record { count = n; rules = [] }

abbrev pub Opened : {U : Type 0} → ℕ → PlanView → Result U Refusal → PlanView → Type 0
Opened n v r w = Does (count_refusal n) (after_open n) v r w

abbrev pub kind_refusal : Option Kind → Option Refusal
kind_refusal None = Some BadKind
kind_refusal (Some k) = None

-- a coefficient that is out of range, or not 0 at a fader at or above the count
abbrev pub offends : ℕ → ℕ → ℤ → Bool
offends count k a = nat_lt coefficient_range (unsigned_abs a) || unused count k a

-- the lowest such fader, from fader k on
abbrev pub first_offending : ℕ → ℕ → List ℤ → Option ℕ
first_offending count k [] = None
first_offending count k (a ∷ more) = cond (offends count k a) (Some k) (first_offending count (k + 1) more)

abbrev pub side_refusal : ℤ → Option Refusal
side_refusal s = refused_if (nat_lt side_range (unsigned_abs s)) BadSide

-- the numbers of a row, for so many faders
abbrev pub row_refusal : ℕ → List ℤ → ℤ → Option Refusal
row_refusal count cs s = first_refusal (unused_refusal (first_offending count 0 cs)) (side_refusal s)

-- a row that says this, or the refusal
abbrev pub Makes : Option Refusal → Constraint → Result Row Refusal → Type 0
Makes None c (Ok row) = constraint row ≡ c
Makes None c (Err e) = ⊥
Makes (Some refusal) c (Ok row) = ⊥
Makes (Some refusal) c (Err e) = e ≡ refusal

abbrev pub add_refusal : ℕ → List ℤ → ℤ → PlanView → Option Refusal
add_refusal kind cs s v =
    first_refusal (closed_refusal v)
    (first_refusal (refused_if (nat_le most_rows (length v.rules)) Full)
    (first_refusal (kind_refusal (kind_of kind))
    (row_refusal v.count cs s)))

-- the rule that is appended, sounding; a number that is no kind's appends none
abbrev pub new_rule : Option Kind → List ℤ → ℤ → List RuleView
new_rule None cs s = []
new_rule (Some k) cs s = record { row = record { kind = k; coefficients = cs; side = s }; sounds = true } ∷ []

abbrev pub after_add : ℕ → List ℤ → ℤ → PlanView → PlanView
after_add kind cs s v = record { count = v.count; rules = v.rules ++ new_rule (kind_of kind) cs s }

abbrev pub Added : {U : Type 0} → ℕ → List ℤ → ℤ → PlanView → Result U Refusal → PlanView → Type 0
Added kind cs s v r w = Does (add_refusal kind cs s v) (after_add kind cs s v) v r w

-- a list without its last
abbrev pub without_last : List RuleView → List RuleView
without_last [] = []
without_last (r ∷ []) = []
without_last (r ∷ s ∷ more) = r ∷ without_last (s ∷ more)

abbrev pub lift_refusal : PlanView → Option Refusal
lift_refusal v = first_refusal (closed_refusal v) (refused_if (length v.rules == 0) NoRule)

-- the last rule is removed
abbrev pub after_lift : PlanView → PlanView
after_lift v = record { count = v.count; rules = without_last v.rules }

abbrev pub Lifted : {U : Type 0} → PlanView → Result U Refusal → PlanView → Type 0
Lifted v r w = Does (lift_refusal v) (after_lift v) v r w

-- the mark of the rule with this number
abbrev pub mark_at : List RuleView → ℕ → Option Bool
mark_at [] i = None
mark_at (r ∷ more) zero = Some r.sounds
mark_at (r ∷ more) (suc i) = mark_at more i

-- that mark replaced, and nothing else
abbrev pub with_mark : List RuleView → ℕ → Bool → List RuleView
with_mark [] i b = []
with_mark (r ∷ more) zero b = record { row = r.row; sounds = b } ∷ more
with_mark (r ∷ more) (suc i) b = r ∷ with_mark more i b

-- the rule has the mark b that is wanted
abbrev pub already : Bool → Refusal
already true = AlreadySounding
already false = AlreadyMuted

-- b is the mark that is wanted
abbrev pub same_mark_refusal : Bool → Option Bool → Option Refusal
same_mark_refusal b None = Some NoSuchRule
same_mark_refusal b (Some mark) = refused_if (beq mark b) (already b)

abbrev pub mark_refusal : ℕ → Bool → PlanView → Option Refusal
mark_refusal i b v = first_refusal (closed_refusal v) (same_mark_refusal b (mark_at v.rules i))

abbrev pub after_mark : ℕ → Bool → PlanView → PlanView
after_mark i b v = record { count = v.count; rules = with_mark v.rules i b }

-- mute: b is false; sound: b is true
abbrev pub Marked : {U : Type 0} → ℕ → Bool → PlanView → Result U Refusal → PlanView → Type 0
Marked i b v r w = Does (mark_refusal i b v) (after_mark i b v) v r w
