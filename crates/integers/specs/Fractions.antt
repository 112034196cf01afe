-- Fractions over a positive denominator, and what their lowest terms are. Assumes nothing.
use Rattle.std.specs.Prelude.{◌≡◌, ℕ, ◌<◌, ◌≤◌, List, ℤ, pos, ◌*ℤ◌, ◌<ℤ◌, int_div, unsigned_abs}
use Rattle.std.specs.Int.{◌∣◌}
use Rattle.std.specs.List.{AllZip, AllByRecursion}
use Rattle.integers.specs.Divisors.{gcd_of}

-- the numerators ns over d are in lowest terms: no number above 1 divides d and all of ns
abbrev pub Least : List ℤ → ℕ → Type 0
Least ns d = (g : ℕ) → g ∣ d → AllByRecursion (λ n. g ∣ unsigned_abs n) ns → g ≡ 1

-- ns over d and ps over q are the same fractions, place by place
abbrev pub Same : List ℤ → ℕ → List ℤ → ℕ → Type 0
Same ns d ps q = AllZip (λ n p. n *ℤ pos q ≡ p *ℤ pos d) ns ps

-- no numerator is larger in size
abbrev pub NoLarger : List ℤ → List ℤ → Type 0
NoLarger ns ps = AllZip (λ n p. unsigned_abs n ≤ unsigned_abs p) ns ps

-- fractions in lowest terms have no larger numerators and no larger denominator than the same fractions in any other terms
abbrev pub Smallest : Type 0
Smallest = (ns : List ℤ) (d : ℕ) (ps : List ℤ) (q : ℕ) → 0 < d → 0 < q → Least ns d → Same ns d ps q → NoLarger ns ps × (d ≤ q)

-- one fraction: no number above 1 divides both
abbrev pub Lowest : ℤ → ℤ → Type 0
Lowest n d = (g : ℕ) → g ∣ unsigned_abs n → g ∣ unsigned_abs d → g ≡ 1

-- n over d divided by the common divisor of their sizes
abbrev pub lowest_numerator : ℤ → ℤ → ℤ
lowest_numerator n d = int_div n (pos (gcd_of (unsigned_abs n) (unsigned_abs d)))

abbrev pub lowest_denominator : ℤ → ℤ → ℤ
lowest_denominator n d = int_div d (pos (gcd_of (unsigned_abs n) (unsigned_abs d)))

-- m over e is the fraction n over d, and no fraction that equals it, p over q, has a smaller numerator in size or a smaller denominator
pub record Reduced (n d m e : ℤ) : Type 0 where
  pub same : n *ℤ e ≡ m *ℤ d
  pub least : (p q : ℤ) → pos 0 <ℤ q → n *ℤ q ≡ p *ℤ d → (unsigned_abs m ≤ unsigned_abs p) × (unsigned_abs e ≤ unsigned_abs q)
