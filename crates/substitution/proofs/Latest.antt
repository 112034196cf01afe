-- The pivots from the last one back. Assumes nothing.
use Rattle.std.proofs.Common.{◌≡◌, ℕ, suc, ◌<◌, List, [], ◌∷◌, ◌++◌, length, get_or, take, ℤ, Some, None, Option, sym, refl, ap, ◌∙◌, arith}
use Rattle.std.proofs.lemmas.List.{take_more}
use Rattle.rows.specs.declared.preset.Preset.{Preset}
use Rattle.rows.specs.Presets.{terms_of}
use Rattle.engine.specs.Verdicts.{Verdict, number_beyond}
use Rattle.substitution.specs.declared.kept.Pivot.{Pivot as Held}
use Rattle.substitution.specs.Reduction.{Pivot}
use Rattle.substitution.specs.Lifting.{completed, all_completed}
use Rattle.substitution.specs.Holding.{pivot_of, latest_first}

-- one pivot more is the first
pub latest_push : (ps : List Held) (p : Held) (qs : List Pivot) → latest_first (ps ++ p ∷ []) qs ≡ pivot_of p ∷ latest_first ps qs
latest_push [] p qs = refl
latest_push (q ∷ ps) p qs = latest_push ps p (pivot_of q ∷ qs)

-- the pivot at place k, before those at lower places
module _ (ps : List Held) (j k : ℕ) (p : Held) (e : j ≡ suc k) (h : k < length ps) (at : p ≡ get_or ps k p) (ns : List ℤ) (d : ℕ) where
  opened : all_completed (latest_first (take j ps) []) ns d ≡ all_completed (pivot_of p ∷ latest_first (take k ps) []) ns d
  opened =
      ap (λ (qs : List Pivot). all_completed qs ns d)
      (ap (λ (m : ℕ). latest_first (take m ps) []) (e ∙ omega arith)
      ∙ ap (λ (qs : List Held). latest_first qs []) (take_more ps k p h ∙ ap (λ (x : Held). take k ps ++ x ∷ []) (sym at))
      ∙ latest_push (take k ps) p [])

  abbrev after : Option (List ℤ × ℕ) → Verdict
  after o = elim o [ Some q ↦ all_completed (latest_first (take k ps) []) q.0 q.1 | None ↦ Verdict.fault (number_beyond p.fader.index) ]

  pub completed_some : (next : Preset) → Some (terms_of next) ≡ completed (pivot_of p) ns d → all_completed (latest_first (take k ps) []) next.numerators next.denominator ≡ all_completed (latest_first (take j ps) []) ns d
  completed_some next s = ap after s ∙ sym opened

  pub completed_none : None ≡ completed (pivot_of p) ns d → Verdict.fault (number_beyond p.fader.index) ≡ all_completed (latest_first (take j ps) []) ns d
  completed_none s = ap after s ∙ sym opened
