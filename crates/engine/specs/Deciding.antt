-- What a user of an engine gets for a list of rows. Assumes nothing.
use Rattle.std.specs.Prelude.{◌≡◌, ℕ, ◌+◌, ◌<◌, ◌≤◌, List, [], ◌∷◌, length, Some, None, Ok, Err, Option, Result, MatchResult, nat_le, nat_lt}
use Rattle.engine.specs.declared.answer.Answer.{Answer as Kept}
use Rattle.engine.specs.declared.fault.Fault.{Fault}
use Rattle.engine.specs.declared.refusal.Refusal.{Refusal}
use Rattle.engine.specs.declared.refusal.Refusal.TheVariants.{Full, TooLarge, ShortTable}
use Rattle.rows.specs.Limits.{largest, faders, most_rows, EachWithin}
use Rattle.rows.specs.Rows.{Constraint, first_unused}
use Rattle.engine.specs.Verdicts.{Verdict}
use Rattle.engine.specs.Interface.{Answer, View, first_refusal, refused_if, count_refusal, unused_refusal}
use Rattle.engine.specs.States.{Says}

-- why a started engine that holds so many rows refuses one of those that follow
abbrev pub takes_refusal : ℕ → ℕ → List Constraint → Option Refusal
takes_refusal count held [] = None
takes_refusal count held (r ∷ rows) =
    first_refusal (refused_if (nat_le most_rows held) Full)
    (first_refusal (unused_refusal (first_unused count 0 r.coefficients))
    (takes_refusal count (held + 1) rows))

-- why an engine refuses a count or one of the rows
abbrev pub rows_refusal : ℕ → List Constraint → Option Refusal
rows_refusal count rows = first_refusal (count_refusal count) (takes_refusal count 0 rows)

-- an engine that took all the rows and has no answer yet
abbrev pub loaded : ℕ → List Constraint → View
loaded count rows = record { count = count; rows = rows; answer = Answer.none }

abbrev pub Loaded : {U : Type 0} → ℕ → List Constraint → Result U Refusal → View → Type 0
Loaded count rows r w = MatchResult r (λ _. (rows_refusal count rows ≡ None) × (w ≡ loaded count rows)) (λ e. rows_refusal count rows ≡ Some e)

-- a verdict on so many rows as a reply: its answer, or its fault as a refusal
abbrev pub Tells : ℕ → Verdict → Result Kept Refusal → Type 0
Tells n verdict (Ok a) = Says n verdict (Ok a)
Tells n verdict (Err e) = (f : Fault) × (e ≡ TooLarge f) × Says n verdict (Err f)

abbrev pub RepliesAt : Option Refusal → ℕ → Verdict → Result Kept Refusal → Type 0
RepliesAt None n verdict r = Tells n verdict r
RepliesAt (Some refusal) n verdict (Ok a) = ⊥
RepliesAt (Some refusal) n verdict (Err e) = e ≡ refusal

-- what an engine that holds rows says of them: a table of `held` places where `needed` are asked for is refused, and otherwise the verdict
abbrev pub Answers : (ℕ → List Constraint → Verdict) → ℕ → ℕ → View → Result Kept Refusal → Type 0
Answers verdict needed held v r = RepliesAt (refused_if (nat_lt held needed) ShortTable) (length v.rows) (verdict v.count v.rows) r

-- the first refusal that fits: of the count, of a row, of a table of `held` places where `needed` are asked for; and otherwise the verdict
abbrev pub Replies : (ℕ → List Constraint → Verdict) → ℕ → ℕ → List Constraint → ℕ → Result Kept Refusal → Type 0
Replies verdict needed count rows held r =
    RepliesAt (first_refusal (rows_refusal count rows) (refused_if (nat_lt held needed) ShortTable)) (length rows) (verdict count rows) r

-- ---- an answer that can be read: all its numbers are there and within their bounds

-- levels over this denominator
abbrev pub Levels : ℕ → Answer → Type 0
Levels d Answer.none = ⊥
Levels d (Answer.preset ns e) = (e ≡ d) × (length ns ≡ faders) × EachWithin ns × (0 < d) × (d ≤ largest)
Levels d (Answer.clash ws) = ⊥

-- so many weights
abbrev pub Loads : ℕ → Answer → Type 0
Loads n Answer.none = ⊥
Loads n (Answer.preset ns d) = ⊥
Loads n (Answer.clash ws) = (length ws ≡ n) × EachWithin ws

-- an answer to so many rows
abbrev pub Readable : ℕ → Answer → Type 0
Readable n Answer.none = ⊥
Readable n (Answer.preset ns d) = Levels d (Answer.preset ns d)
Readable n (Answer.clash ws) = Loads n (Answer.clash ws)
