-- Which numbers are to be compared so that one bound follows from another, by the fader that leaves the rows or is set. Assumes nothing.
use Rattle.std.proofs.Common.{◌≡◌, ℕ, zero, suc, ◌+◌, ◌*◌, ◌≤◌, refl, arith}
use Rattle.rows.specs.Limits.{largest}
use Rattle.sold_engine.proofs.Bounded.{Bound, most, Grows}
use Rattle.sold_engine.proofs.Reaching.{Reach, reach}
use Rattle.sold_engine.proofs.Settling.{Raises}
use Rattle.sold_engine.proofs.Lifting.{Completes}

-- ---- what holds of each fader but one

but_first : (P : ℕ → Type 0) → P 1 → ((j : ℕ) → P (suc (suc j))) → (j : ℕ) → (j ≡ 0 → ⊥) → P j
but_first P p q zero n = absurd (n refl)
but_first P p q (suc zero) n = p
but_first P p q (suc (suc j)) n = q j

but_second : (P : ℕ → Type 0) → P 0 → ((j : ℕ) → P (suc (suc j))) → (j : ℕ) → (j ≡ 1 → ⊥) → P j
but_second P p q zero n = p
but_second P p q (suc zero) n = absurd (n refl)
but_second P p q (suc (suc j)) n = q j

all_faders : (P : ℕ → Type 0) → P 0 → P 1 → ((j : ℕ) → P (suc (suc j))) → (j : ℕ) → P j
all_faders P p r q zero = p
all_faders P p r q (suc zero) = r
all_faders P p r q (suc (suc j)) = q j

-- ---- what is to be compared where fader 0 leaves the rows, and where fader 1 does

abbrev pub RowsGrow : ℕ → ℕ → ℕ → Bound → Bound → Type 0
RowsGrow c o n a b =
    (o ≤ n) × (2 * (c * o) ≤ n) × (a.side ≤ b.side) × (2 * (c * a.side) ≤ b.side) × (a.weight ≤ b.weight) × (2 * (c * a.weight) ≤ b.weight)
    × (b.first ≤ largest) × (b.second ≤ largest) × (b.side ≤ largest) × (b.weight ≤ largest)

pub grows_first : (a b : Bound) → RowsGrow a.first a.second b.second a b → Grows 0 a b
grows_first a b (s, t, u, v, w, x, c, d, e, f) = record {
  stays = but_first (λ j. most a j ≤ most b j) s (λ j. omega arith);
  sums = but_first (λ j. 2 * (most a 0 * most a j) ≤ most b j) t (λ j. omega arith);
  side_stays = u;
  side_sums = v;
  weight_stays = w;
  weight_sums = x;
  near = record { first = c; second = d; side = e; weight = f };
}

pub grows_second : (a b : Bound) → RowsGrow a.second a.first b.first a b → Grows 1 a b
grows_second a b (s, t, u, v, w, x, c, d, e, f) = record {
  stays = but_second (λ j. most a j ≤ most b j) s (λ j. omega arith);
  sums = but_second (λ j. 2 * (most a 1 * most a j) ≤ most b j) t (λ j. omega arith);
  side_stays = u;
  side_sums = v;
  weight_stays = w;
  weight_sums = x;
  near = record { first = c; second = d; side = e; weight = f };
}

-- ---- and where a level is set: c is the coefficient, m and n the numerators of the other fader before and after
abbrev pub LevelsRise : ℕ → ℕ → ℕ → ℕ → ℕ → ℕ → ℕ → Bound → Reach → Reach → Type 0
LevelsRise rest value factor c m n own b from to =
    (b.side * from.denominator + (b.first * from.first + b.second * from.second) ≤ rest) × (c * (rest + from.denominator) ≤ value) × (2 * (c * rest) ≤ value)
    × (1 ≤ factor) × (c ≤ factor) × (2 * (c * c) ≤ factor) × (value ≤ own) × (factor * m ≤ n) × (factor * from.denominator ≤ to.denominator)
    × (to.first ≤ largest) × (to.second ≤ largest) × (to.denominator ≤ largest)

pub raises_first : (rest value factor : ℕ) (b : Bound) (from to : Reach) → LevelsRise rest value factor b.first from.second to.second to.first b from to → Raises 0 b from to
raises_first rest value factor b from to (l, s, d, o, p, q, h, t, e, x, y, z) = record {
  rest = rest;
  value = value;
  factor = factor;
  leaves = l;
  single = s;
  double = d;
  some = o;
  single_factor = p;
  double_factor = q;
  here = h;
  others = but_first (λ j. factor * reach from j ≤ reach to j) t (λ j. omega arith);
  denominators = e;
  near = all_faders (λ j. reach to j ≤ largest) x y (λ j. omega arith);
  near_denominator = z;
}

pub raises_second : (rest value factor : ℕ) (b : Bound) (from to : Reach) → LevelsRise rest value factor b.second from.first to.first to.second b from to → Raises 1 b from to
raises_second rest value factor b from to (l, s, d, o, p, q, h, t, e, x, y, z) = record {
  rest = rest;
  value = value;
  factor = factor;
  leaves = l;
  single = s;
  double = d;
  some = o;
  single_factor = p;
  double_factor = q;
  here = h;
  others = but_second (λ j. factor * reach from j ≤ reach to j) t (λ j. omega arith);
  denominators = e;
  near = all_faders (λ j. reach to j ≤ largest) x y (λ j. omega arith);
  near_denominator = z;
}

pub completes_first : (b : Bound) (from to : Reach)
    → (b.side * from.denominator + (b.first * 0 + b.second * from.second) ≤ to.first) × (b.first * from.second ≤ to.second) × (b.first * from.denominator ≤ to.denominator) × (to.first ≤ largest) × (to.second ≤ largest) × (to.denominator ≤ largest)
    → Completes 0 b from to
completes_first b from to (h, t, d, x, y, z) = record {
  others = record { first = 0; second = from.second; denominator = from.denominator };
  without = but_first (λ j. reach from j ≤ reach (record { first = 0; second = from.second; denominator = from.denominator }) j) (omega arith) (λ j. omega arith);
  here = h;
  there = but_first (λ j. b.first * reach from j ≤ reach to j) t (λ j. omega arith);
  denominators = d;
  near = all_faders (λ j. reach to j ≤ largest) x y (λ j. omega arith);
  near_denominator = z;
}

pub completes_second : (b : Bound) (from to : Reach)
    → (b.side * from.denominator + (b.first * from.first + b.second * 0) ≤ to.second) × (b.second * from.first ≤ to.first) × (b.second * from.denominator ≤ to.denominator) × (to.first ≤ largest) × (to.second ≤ largest) × (to.denominator ≤ largest)
    → Completes 1 b from to
completes_second b from to (h, t, d, x, y, z) = record {
  others = record { first = from.first; second = 0; denominator = from.denominator };
  without = but_second (λ j. reach from j ≤ reach (record { first = from.first; second = 0; denominator = from.denominator }) j) (omega arith) (λ j. omega arith);
  here = h;
  there = but_second (λ j. b.second * reach from j ≤ reach to j) t (λ j. omega arith);
  denominators = d;
  near = all_faders (λ j. reach to j ≤ largest) x y (λ j. omega arith);
  near_denominator = z;
}
