-- Weights with a flaw are no clash. Assumes nothing.
use Rattle.std.proofs.Common.{◌≤◌, List, length, ℤ, arith}
use Rattle.rows.specs.declared.flaw.ClashFlaw.{ClashFlaw}
use Rattle.rows.specs.declared.flaw.ClashFlaw.TheVariants.{TooManyRows, Negative, Column, Total}
use Rattle.rows.specs.Limits.{most_rows}
use Rattle.rows.specs.Rows.{Constraint}
use Rattle.rows.specs.Clashes.{Clash, Flawed}
use Rattle.rows.proofs.Weighing.{negative_not_weighed, weighed_length}

pub flawed_no_clash : (ws : List ℤ) (rows : List Constraint) (f : ClashFlaw) → length ws ≤ most_rows → Flawed ws rows f → Clash ws rows → ⊥
flawed_no_clash ws rows TooManyRows n f c = omega (arith, weighed_length ws rows c.weighed)
flawed_no_clash ws rows (Negative i) n f c = negative_not_weighed ws rows i f.1 c.weighed
flawed_no_clash ws rows (Column k) n f c = f.1.here (c.columns k)
flawed_no_clash ws rows Total n f c = f.2 c.falsehood
