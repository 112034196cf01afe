-- When a preset is well formed, and how levels are brought to the least denominator. Assumes nothing.
use Rattle.std.specs.Prelude.{◌≡◌, ℕ, ◌/◌, ◌<◌, ◌≤◌, cond, ◌&&◌, List, map, length, ℤ, pos, Some, None, Option, ◌==◌, int_div, slice_index_or}
use Rattle.integers.specs.Divisors.{gcd_all}
use Rattle.integers.specs.Fractions.{Least}
use Rattle.rows.specs.declared.preset.Preset.{Preset}
use Rattle.rows.specs.Limits.{largest, faders, EachWithin, near, all_near}

-- numerators over a denominator, for a desk with so many faders
pub record WellFormed (count : ℕ) (ns : List ℤ) (d : ℕ) : Type 0 where
  pub places : length ns ≡ faders
  pub within : EachWithin ns
  pub positive : 0 < d
  pub bounded : d ≤ largest
  -- the denominator is the least possible
  pub least : Least ns d
  -- a fader that the desk does not have is at 0
  pub unused : (k : ℕ) → count ≤ k → slice_index_or ns k (pos 0) ≡ pos 0

-- numerators and denominator
abbrev pub terms_of : Preset → List ℤ × ℕ
terms_of p = (p.numerators, p.denominator)

-- each number divided, without what remains
abbrev pub divided : ℕ → List ℤ → List ℤ
divided g ns = map (λ n. int_div n (pos g)) ns

-- numerators over the least denominator, if all numbers are then within G and the denominator was not 0
abbrev pub least_terms : List ℤ → ℕ → Option (List ℤ × ℕ)
least_terms ns d =
    cond (d == 0) None
    (cond (all_near (divided (gcd_all d ns) ns) && near (pos (d / gcd_all d ns)))
    (Some (divided (gcd_all d ns) ns, d / gcd_all d ns)) None)
