-- The answer of the engine below, brought back to the list. Assumes nothing.
use Rattle.std.specs.Prelude.{ℕ, zero, suc, ◌+◌, ◌*◌, min, cond, ◌&&◌, List, [], ◌∷◌, map, set, ℤ, pos, ◌+ℤ◌, ◌-ℤ◌, ◌*ℤ◌, neg_ℤ, Some, None, Ok, Err, Option, Result, int_lt, slice_index_or, slice_set, unsigned_abs}
use Rattle.integers.specs.Vectors.{dot, scale}
use Rattle.engine.specs.declared.fault.Fault.{Fault}
use Rattle.rows.specs.Limits.{near}
use Rattle.rows.specs.Presets.{least_terms}
use Rattle.engine.specs.Verdicts.{Verdict, number_beyond, weight_beyond}
use Rattle.rows.specs.Carrying.{Sum}
use Rattle.substitution.specs.Reduction.{Kept, Pivot, at}

-- a fault from below: its layer one higher, 255 staying
abbrev pub raised : Fault → Fault
raised f = record { layer = min (f.layer + 1) 255; cause = f.cause; index = f.index }

-- ---- weights: for a listed row, the weights below times its weights in the rows handed down, added in order; none where a term or a sum is beyond G
abbrev pub add_terms : ℤ → List ℤ → List ℤ → Option ℤ
add_terms s [] us = Some s
add_terms s (w ∷ ws) [] = Some s
add_terms s (w ∷ ws) (u ∷ us) = cond (near (w *ℤ u) && near (s +ℤ w *ℤ u)) (add_terms (s +ℤ w *ℤ u) ws us) None

-- the weights of the listed row at place j in the rows handed down
abbrev pub carried_weights : ℕ → List Kept → List ℤ
carried_weights j rs = map (λ r. slice_index_or r.sum.weights j (pos 0)) rs

abbrev pub before_weight : Option ℤ → ℕ → Result (List ℤ) Fault → Result (List ℤ) Fault
before_weight None j more = Err (weight_beyond j)
before_weight (Some w) j (Ok ws) = Ok (w ∷ ws)
before_weight (Some w) j (Err f) = Err f

-- so many listed rows, from place j on
abbrev pub lifted_weights : ℕ → ℕ → List ℤ → List Kept → Result (List ℤ) Fault
lifted_weights zero j ws rs = Ok []
lifted_weights (suc n) j ws rs = before_weight (add_terms (pos 0) ws (carried_weights j rs)) j (lifted_weights n (j + 1) ws rs)

abbrev pub weights_verdict : Result (List ℤ) Fault → Verdict
weights_verdict (Ok ws) = Verdict.clash ws
weights_verdict (Err f) = Verdict.fault f

-- ---- levels: the pivot's fader from the others. Both sides are multiplied by the size of its coefficient b
abbrev pub solved : Sum → ℕ → List ℤ → ℕ → ℤ
solved p k ns d = (p.side *ℤ pos d) -ℤ dot p.coefficients (slice_set ns k (pos 0))

abbrev pub completed : Pivot → List ℤ → ℕ → Option (List ℤ × ℕ)
completed p ns d =
    least_terms (set (scale (pos (unsigned_abs (at p.sum p.fader))) ns) p.fader
    (cond (int_lt (pos 0) (at p.sum p.fader)) (solved p.sum p.fader ns d) (neg_ℤ (solved p.sum p.fader ns d))))
    (unsigned_abs (at p.sum p.fader) * d)

-- from the last pivot back
abbrev pub all_completed : List Pivot → List ℤ → ℕ → Verdict
all_completed [] ns d = Verdict.preset ns d
all_completed (p ∷ ps) ns d = elim (completed p ns d) [ Some q ↦ all_completed ps q.0 q.1 | None ↦ Verdict.fault (number_beyond p.fader) ]

-- what the verdict below on the rows handed down says of a list of so many rows
abbrev pub lifted : ℕ → List Kept → List Pivot → Verdict → Verdict
lifted n rs ps (Verdict.preset ns d) = all_completed ps ns d
lifted n rs ps (Verdict.clash ws) = weights_verdict (lifted_weights n 0 ws rs)
lifted n rs ps (Verdict.fault f) = Verdict.fault (raised f)
