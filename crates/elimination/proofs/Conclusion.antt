-- Where the first equation can stand. Assumes nothing.
use Rattle.std.proofs.Common.{◌≡◌, ℕ, ◌+◌, ◌<◌, Bool, true, false, cond, List, [], ◌∷◌, length, Some, Option, arith}
use Rattle.rows.specs.Rows.{Constraint}
use Rattle.elimination.specs.Working.{first_equation, is_equation}
use Rattle.rows.proofs.Alls.{none_some}

some_same : {x y : ℕ} → ◌≡◌ {A = Option ℕ} (Some x) (Some y) → x ≡ y
some_same e = cc

pub equation_within : (j : ℕ) (rows : List Constraint) (i : ℕ) → first_equation j rows ≡ Some i → i < j + length rows
equation_within j [] i e = absurd (none_some i e)
equation_within j (r ∷ rows) i e = by (equation_within (j + 1) rows i) (is_equation r.kind) e
  where
    by : (first_equation (j + 1) rows ≡ Some i → i < (j + 1) + length rows) → (b : Bool) → cond b (Some j) (first_equation (j + 1) rows) ≡ Some i → i < j + length (r ∷ rows)
    by ih true e = omega (arith, some_same e)
    by ih false e = omega (arith, ih e)
