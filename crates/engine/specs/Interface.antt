-- What an engine holds, and what each of its calls does. Assumes nothing.
use Rattle.std.specs.Prelude.{◌≡◌, ℕ, Bool, cond, ◌||◌, List, [], ◌∷◌, ◌++◌, length, ℤ, pos, Some, None, Ok, Err, Option, Result, ◌==◌, nat_le, nat_lt, slice_index_or}
use Rattle.engine.specs.declared.refusal.Refusal.{Refusal}
use Rattle.engine.specs.declared.refusal.Refusal.TheVariants.{BadCount, NoPlan, Full, BadCoefficient, TooLarge, NoAnswer, ShortTable}
use Rattle.rows.specs.Limits.{faders, most_rows}
use Rattle.rows.specs.Rows.{Constraint, first_unused}
use Rattle.engine.specs.Verdicts.{Verdict}

-- the last answer: none yet, numerators over a denominator, or a weight for each row
pub data Answer : Type 0 where
  none : Answer
  preset : List ℤ → ℕ → Answer
  clash : List ℤ → Answer

-- what an engine holds: a fader count, 0 before the first start, the rows that it took, and the answer
pub record View : Type 0 where
  pub count : ℕ
  pub rows : List Constraint
  pub answer : Answer

-- what a call replies, v being what stood before it and w after: a refusal leaves everything, and otherwise the new state stands
abbrev pub Does : {V U : Type 0} → Option Refusal → V → V → Result U Refusal → V → Type 0
Does None next v (Ok u) w = w ≡ next
Does None next v (Err e) w = ⊥
Does (Some refusal) next v (Ok u) w = ⊥
Does (Some refusal) next v (Err e) w = (e ≡ refusal) × (w ≡ v)

-- of several refusals, the first that fits
abbrev pub first_refusal : Option Refusal → Option Refusal → Option Refusal
first_refusal (Some e) other = Some e
first_refusal None other = other

abbrev pub refused_if : Bool → Refusal → Option Refusal
refused_if b e = cond b (Some e) None

-- a count that no desk has
abbrev pub count_refusal : ℕ → Option Refusal
count_refusal n = refused_if (n == 0 || nat_lt faders n) BadCount

abbrev pub Started : {U : Type 0} → ℕ → View → Result U Refusal → View → Type 0
Started n v r w = Does (count_refusal n) (record { count = n; rows = []; answer = none }) v r w

abbrev pub unused_refusal : Option ℕ → Option Refusal
unused_refusal None = None
unused_refusal (Some k) = Some (BadCoefficient k)

abbrev pub take_refusal : Constraint → View → Option Refusal
take_refusal row v =
    first_refusal (refused_if (v.count == 0) NoPlan)
    (first_refusal (refused_if (nat_le most_rows (length v.rows)) Full)
    (unused_refusal (first_unused v.count 0 row.coefficients)))

abbrev pub Took : {U : Type 0} → Constraint → View → Result U Refusal → View → Type 0
Took row v r w = Does (take_refusal row v) (record { count = v.count; rows = v.rows ++ row ∷ []; answer = none }) v r w

abbrev pub answered : View → Answer → View
answered v a = record { count = v.count; rows = v.rows; answer = a }

-- a verdict as a reply and as an answer; a fault empties the answer
abbrev pub Settles : {U : Type 0} → Verdict → View → Result U Refusal → View → Type 0
Settles (Verdict.preset ns d) v r w = Does None (answered v (Answer.preset ns d)) v r w
Settles (Verdict.clash ws) v r w = Does None (answered v (Answer.clash ws)) v r w
Settles (Verdict.fault f) v (Ok u) w = ⊥
Settles (Verdict.fault f) v (Err e) w = (e ≡ TooLarge f) × (w ≡ answered v none)

-- a table of `held` places where `needed` are asked for; then a start; then the verdict
abbrev pub decide_refusal : ℕ → ℕ → View → Option Refusal
decide_refusal needed held v = first_refusal (refused_if (nat_lt held needed) ShortTable) (refused_if (v.count == 0) NoPlan)

abbrev pub DecidedAt : {U : Type 0} → Option Refusal → Verdict → View → Result U Refusal → View → Type 0
DecidedAt None verdict v r w = Settles verdict v r w
DecidedAt (Some e) verdict v r w = Does (Some e) v v r w

abbrev pub Decided : {U : Type 0} → (ℕ → List Constraint → Verdict) → ℕ → ℕ → View → Result U Refusal → View → Type 0
Decided verdict needed held v r w = DecidedAt (decide_refusal needed held v) (verdict v.count v.rows) v r w

-- the readings of an answer
abbrev pub numerator_reply : ℕ → Answer → Result ℤ Refusal
numerator_reply k none = Err NoAnswer
numerator_reply k (Answer.preset ns d) = cond (nat_lt k faders) (Ok (slice_index_or ns k (pos 0))) (Err NoAnswer)
numerator_reply k (Answer.clash ws) = Err NoAnswer

abbrev pub denominator_reply : Answer → Result ℕ Refusal
denominator_reply none = Err NoAnswer
denominator_reply (Answer.preset ns d) = Ok d
denominator_reply (Answer.clash ws) = Err NoAnswer

abbrev pub weight_reply : ℕ → View → Result ℤ Refusal
weight_reply i v = elim v.answer [
  | none ↦ Err NoAnswer
  | Answer.preset ns d ↦ Err NoAnswer
  | Answer.clash ws ↦ cond (nat_lt i (length v.rows)) (Ok (slice_index_or ws i (pos 0))) (Err NoAnswer)
]
