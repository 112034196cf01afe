-- Plans whose verdict by the engine as sold is written out. Assumes nothing.
use Rattle.std.specs.Prelude.{◌≡◌, ℕ, List, [], ◌∷◌, ◌++◌, ℤ, pos, negsuc}
use Rattle.std.specs.List.{AllByRecursion}
use Rattle.rows.specs.declared.kind.Kind.{Kind}
use Rattle.rows.specs.declared.kind.Kind.TheVariants.{AtMost, Below, Equal}
use Rattle.rows.specs.Rows.{Constraint}
use Rattle.engine.specs.Verdicts.{Verdict}
use Rattle.sold_engine.specs.Sold.{sold_verdict}

pub record Sample : Type 0 where
  pub count : ℕ
  pub rows : List Constraint
  pub verdict : Verdict

-- a row that has faders 0 and 1 at most
abbrev row : Kind → ℤ → ℤ → ℤ → Constraint
row kind a b side = record { kind = kind; coefficients = a ∷ b ∷ pos 0 ∷ pos 0 ∷ pos 0 ∷ pos 0 ∷ []; side = side }

-- levels of faders 0 and 1
abbrev levels : ℤ → ℤ → ℕ → Verdict
levels a b d = Verdict.preset (a ∷ b ∷ pos 0 ∷ pos 0 ∷ pos 0 ∷ pos 0 ∷ []) d

-- together at most 150, the second below the first and at least 40
abbrev evening : List Constraint
evening = row AtMost (pos 1) (pos 1) (pos 150) ∷ row Below (negsuc 0) (pos 1) (pos 0) ∷ row AtMost (pos 0) (negsuc 0) (negsuc 39) ∷ []

abbrev pub samples : List Sample
samples =
    record { count = 2; rows = evening; verdict = levels (pos 150) (pos 115) 2 }
    -- the first at most 40
    ∷ record { count = 2; rows = evening ++ row AtMost (pos 1) (pos 0) (pos 40) ∷ []; verdict = Verdict.clash (pos 0 ∷ pos 1 ∷ pos 1 ∷ pos 1 ∷ []) }
    -- no rows
    ∷ record { count = 3; rows = []; verdict = levels (pos 0) (pos 0) 1 }
    -- equations: one, and two that contradict each other
    ∷ record { count = 1; rows = row Equal (pos 3) (pos 0) (pos 100) ∷ []; verdict = levels (pos 100) (pos 0) 3 }
    ∷ record { count = 1; rows = row Equal (pos 1) (pos 0) (pos 1) ∷ row Equal (pos 1) (pos 0) (pos 2) ∷ []; verdict = Verdict.clash (pos 1 ∷ negsuc 0 ∷ []) }
    -- below 0 and at least 0; at most 0 and at least 0
    ∷ record { count = 1; rows = row Below (pos 1) (pos 0) (pos 0) ∷ row AtMost (negsuc 0) (pos 0) (pos 0) ∷ []; verdict = Verdict.clash (pos 1 ∷ pos 1 ∷ []) }
    ∷ record { count = 1; rows = row AtMost (pos 1) (pos 0) (pos 0) ∷ row AtMost (negsuc 0) (pos 0) (pos 0) ∷ []; verdict = levels (pos 0) (pos 0) 1 }
    -- one strict limit: 1 beyond it
    ∷ record { count = 1; rows = row Below (pos 1) (pos 0) (pos 5) ∷ []; verdict = levels (pos 4) (pos 0) 1 }
    -- 0 < 0
    ∷ record { count = 1; rows = row Below (pos 0) (pos 0) (pos 0) ∷ []; verdict = Verdict.clash (pos 1 ∷ []) }
    ∷ []

abbrev pub SamplesDecided : Type 0
SamplesDecided = AllByRecursion (λ s. sold_verdict s.count s.rows ≡ s.verdict) samples
