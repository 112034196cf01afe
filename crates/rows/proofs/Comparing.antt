-- Comparisons of the three kinds: both sides times a number, and both moved alike. Assumes nothing.
use Rattle.std.proofs.Common.{◌≡◌, ℕ, ◌<◌, ℤ, pos, ◌-ℤ◌, ◌*ℤ◌, ap, arith}
use Rattle.integers.proofs.Linear.{linear}
use Rattle.integers.proofs.Order.{*ℤ-mono, *ℤ-mono-<, *ℤ-cancel, *ℤ-cancel-≤, *ℤ-cancel-<}
use Rattle.rows.specs.declared.kind.Kind.{Kind}
use Rattle.rows.specs.declared.kind.Kind.TheVariants.{AtMost, Below, Equal}
use Rattle.rows.specs.Rows.{Compares}

pub compares_times : (k : Kind) (m : ℕ) (a b : ℤ) → 0 < m → Compares k a b → Compares k (pos m *ℤ a) (pos m *ℤ b)
compares_times AtMost m a b p h = *ℤ-mono (pos m) (omega (arith, linear)) h
compares_times Below m a b p h = *ℤ-mono-< (pos m) (omega (arith, linear)) h
compares_times Equal m a b p h = ap (λ (z : ℤ). pos m *ℤ z) h

pub compares_cancel : (k : Kind) (m : ℕ) (a b : ℤ) → 0 < m → Compares k (pos m *ℤ a) (pos m *ℤ b) → Compares k a b
compares_cancel AtMost m a b p h = *ℤ-cancel-≤ (pos m) (omega (arith, linear)) h
compares_cancel Below m a b p h = *ℤ-cancel-< (pos m) (omega (arith, linear)) h
compares_cancel Equal m a b p h = *ℤ-cancel (pos m) (omega (arith, linear)) h

-- only the difference counts
pub compares_same : (k : Kind) (a b c d : ℤ) → b -ℤ a ≡ d -ℤ c → Compares k a b → Compares k c d
compares_same AtMost a b c d e h = omega (arith, linear)
compares_same Below a b c d e h = omega (arith, linear)
compares_same Equal a b c d e h = omega (arith, linear)
