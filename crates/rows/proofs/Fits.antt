-- Numbers within G and their products fit the machine's types. Assumes nothing.
use Rattle.std.proofs.Common.{ℕ, zero, suc, ◌+◌, ◌*◌, ◌^◌, ◌<◌, ◌≤◌, List, [], ◌∷◌, length, get_or, take, set, replicate, ℤ, pos, ◌+ℤ◌, ◌*ℤ◌, nat_abs, sym, subst, inl, inr, arith, lit≤, w32, w64, SFits}
use mir.Syntax.{w128}
use Rattle.std.proofs.lemmas.Int.{ints}
use Rattle.std.proofs.lemmas.List.{get_or-take, get_or_past, length-take}
use Rattle.std.proofs.lemmas.Bool.{cases_lt}
use Rattle.integers.proofs.Bounds.{mul_near, add_near}
use Rattle.rows.specs.Limits.{largest, Within, EachWithin}

pub fits_32 : (z : ℤ) → Within z → SFits w32 z
fits_32 z h = omega (arith, ints)

pub fits_64 : (z : ℤ) → nat_abs z < 2 ^ 63 → SFits w64 z
fits_64 z h = omega (arith, ints)

pub fits_128 : (z : ℤ) → nat_abs z < 2 ^ 127 → SFits w128 z
fits_128 z h = omega (arith, ints)

pub product : (a b : ℤ) → Within a → Within b → nat_abs (a *ℤ b) ≤ largest * largest
product a b p q = mul_near a b largest largest p q

-- one product more
pub one_more : (s a b : ℤ) (n : ℕ) → nat_abs s ≤ n * (largest * largest) → Within a → Within b → nat_abs (s +ℤ a *ℤ b) ≤ (n + 1) * (largest * largest)
one_more s a b n h p q = omega (arith, add_near s (a *ℤ b) (n * (largest * largest)) (largest * largest) h (product a b p q))

pub zero_within : Within (pos 0)
zero_within = lit≤ tt

-- what is read past the end of a list is 0
pub past_within : (zs : List ℤ) (k : ℕ) → length zs ≤ k → Within (get_or zs k (pos 0))
past_within zs k h = subst Within (sym (get_or_past zs k (pos 0) h)) zero_within

pub within_take : (n : ℕ) (zs : List ℤ) → EachWithin zs → EachWithin (take n zs)
within_take n zs w k = elim (cases_lt k n) [
  | inl h ↦ subst Within (sym (get_or-take n zs k (pos 0) h)) (w k)
  | inr h ↦ past_within (take n zs) k (omega (arith, length-take n zs))
]

pub within_set : (zs : List ℤ) (i : ℕ) (v : ℤ) → EachWithin zs → Within v → EachWithin (set zs i v)
within_set [] i v w h k = w k
within_set (z ∷ zs) zero v w h zero = h
within_set (z ∷ zs) zero v w h (suc k) = w (suc k)
within_set (z ∷ zs) (suc i) v w h zero = w 0
within_set (z ∷ zs) (suc i) v w h (suc k) = within_set zs i v (λ n. w (suc n)) h k

pub zeros_within : (n : ℕ) → EachWithin (replicate n (pos 0))
zeros_within zero k = zero_within
zeros_within (suc n) zero = zero_within
zeros_within (suc n) (suc k) = zeros_within n k
