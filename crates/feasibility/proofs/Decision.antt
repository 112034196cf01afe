-- Every list of rows is feasible or infeasible. Levels ns over d that meet the rows give the point 1, d, ns, where the forms of the rows
-- are at least 0; and a point e, d, ns with e above 0 where they are, and d is at least e, gives levels ns over d that meet the rows. Assumes nothing.
use Rattle.std.proofs.Common.{◌≡◌, ℕ, List, [], ◌∷◌, ℤ, pos, negsuc, ◌*ℤ◌, neg_ℤ, ◌≤ℤ◌, ◌<ℤ◌, ◌∙◌, inl, inr, arith}
use Rattle.std.specs.List.{AllByRecursion as All}
use Rattle.integers.specs.Vectors.{dot, scale}
use Rattle.integers.proofs.Laws.{neg-*ℤ, neg-is-*ℤ}
use Rattle.integers.proofs.Linear.{linear}
use Rattle.integers.proofs.VectorLaws.{dot_scale}
use Rattle.rows.specs.declared.kind.Kind.{Kind}
use Rattle.rows.specs.declared.kind.Kind.TheVariants.{AtMost, Below, Equal}
use Rattle.rows.specs.Rows.{Constraint, Compares, MeetsAll, Feasible}
use Rattle.feasibility.specs.Deciding.{Decidable}
use Rattle.feasibility.proofs.Forms.{Solves, solved}

-- what the side leaves; less e, if the row is strict
abbrev under : Kind → List ℤ → ℤ → List ℤ
under AtMost cs s = pos 0 ∷ s ∷ scale (negsuc 0) cs
under Below cs s = negsuc 0 ∷ s ∷ scale (negsuc 0) cs
under Equal cs s = pos 0 ∷ s ∷ scale (negsuc 0) cs

-- what an equation has above its side; 0 for the other kinds
abbrev over : Kind → List ℤ → ℤ → List ℤ
over AtMost cs s = []
over Below cs s = []
over Equal cs s = pos 0 ∷ neg_ℤ s ∷ cs

abbrev forms : List Constraint → List (List ℤ)
forms [] = []
forms (r ∷ rows) = under r.kind r.coefficients r.side ∷ over r.kind r.coefficients r.side ∷ forms rows

-- d less e
abbrev excess : List ℤ
excess = negsuc 0 ∷ pos 1 ∷ []

abbrev Holds : List ℤ → List ℤ → Type 0
Holds xs f = pos 0 ≤ℤ dot f xs

module _ (cs : List ℤ) (s : ℤ) (ns : List ℤ) (d : ℕ) where
  negated : dot (scale (negsuc 0) cs) ns ≡ neg_ℤ (dot cs ns)
  negated = dot_scale (negsuc 0) cs ns ∙ neg-is-*ℤ (dot cs ns)

  met : (k : Kind) → Compares k (dot cs ns) (s *ℤ pos d) → Holds (pos 1 ∷ pos d ∷ ns) (under k cs s) × Holds (pos 1 ∷ pos d ∷ ns) (over k cs s)
  met AtMost h = (omega (arith, linear, negated), omega (arith, linear))
  met Below h = (omega (arith, linear, negated), omega (arith, linear))
  met Equal h = (omega (arith, linear, negated), omega (arith, linear, neg-*ℤ s (pos d)))

  meets : (k : Kind) (e : ℤ) → pos 0 <ℤ e → Holds (e ∷ pos d ∷ ns) (under k cs s) → Holds (e ∷ pos d ∷ ns) (over k cs s) → Compares k (dot cs ns) (s *ℤ pos d)
  meets AtMost e p h i = omega (arith, linear, negated)
  meets Below e p h i = omega (arith, linear, negated, neg-is-*ℤ e)
  meets Equal e p h i = omega (arith, linear, negated, neg-*ℤ s (pos d))

all_met : (rows : List Constraint) (ns : List ℤ) (d : ℕ) → MeetsAll ns d rows → All (Holds (pos 1 ∷ pos d ∷ ns)) (forms rows)
all_met [] ns d h = tt
all_met (r ∷ rows) ns d h =
    let m = met r.coefficients r.side ns d r.kind h.0 in
    (m.0, (m.1, all_met rows ns d h.1))

all_meet : (rows : List Constraint) (ns : List ℤ) (d : ℕ) (e : ℤ) → pos 0 <ℤ e → All (Holds (e ∷ pos d ∷ ns)) (forms rows) → MeetsAll ns d rows
all_meet [] ns d e p h = tt
all_meet (r ∷ rows) ns d e p h = (meets r.coefficients r.side ns d r.kind e p h.0 h.1.0, all_meet rows ns d e p h.1.1)

-- the levels of a point
levels : (rows : List Constraint) (xs : List ℤ) → Solves (λ f. f) (excess ∷ forms rows) (pos 1 ∷ []) xs → Feasible rows
levels rows [] h = absurd h.0.lt
levels rows (e ∷ []) h = absurd (omega (arith, linear, h.0, h.1.0, neg-is-*ℤ e))
levels rows (e ∷ negsuc n ∷ ns) h = absurd (omega (arith, linear, h.0, h.1.0, neg-is-*ℤ e))
levels rows (e ∷ pos d ∷ ns) h =
    let p : pos 0 <ℤ e = omega (arith, linear, h.0) in
    (ns, d, omega (arith, linear, h.1.0, neg-is-*ℤ e), all_meet rows ns d e p h.1.1)

pub decide : Decidable
decide rows =
    elim (solved (λ f. f) (excess ∷ forms rows) (pos 1 ∷ [])) [
      | inl (xs, h) ↦ inl (levels rows xs h)
      | inr none ↦ inr (λ ns d p m. none (pos 1 ∷ pos d ∷ ns) (omega (arith, linear), (omega (arith, linear), all_met rows ns d m)))
    ]
