-- Orders that are strict or not, and fractions compared across. Assumes nothing.
use Rattle.std.specs.Prelude.{◌≡◌, ℕ, ◌+◌, ◌*◌, ◌<◌, ◌≤◌, Bool, true, false, List, ℤ, pos, ◌-ℤ◌, ◌*ℤ◌, ◌≤ℤ◌, ◌<ℤ◌}
use Rattle.std.proofs.Common.{arith, mul-le-mul_left}
use Rattle.std.proofs.Math.Nat.{le_of_mul-le-mul_left, lt_of_mul-lt-mul_left}
use borrow.Author.Differences.{up, down, product_is}
use Rattle.integers.proofs.Linear.{linear}
use Rattle.integers.proofs.Order.{*ℤ-mono, *ℤ-mono-<, *ℤ-cancel-≤, *ℤ-cancel-<}
use Rattle.integers.specs.Vectors.{dot}
use Rattle.elimination.specs.Table.{Line}

abbrev pub Under : Bool → ℤ → ℤ → Type 0
Under true a b = a <ℤ b
Under false a b = a ≤ℤ b

-- levels meet a line
abbrev pub Held : List ℤ → ℕ → Line → Type 0
Held ns d r = Under r.strict (dot r.coefficients ns) (r.side *ℤ pos d)

-- 1 where it is strict
abbrev pub ex : Bool → ℕ
ex true = 1
ex false = 0

pub under_out : (s : Bool) (a b : ℤ) → Under s a b → up a + down b + ex s ≤ up b + down a
under_out true a b h = omega (arith, linear)
under_out false a b h = omega (arith, linear)

pub under_in : (s : Bool) (a b : ℤ) → up a + down b + ex s ≤ up b + down a → Under s a b
under_in true a b h = omega (arith, linear)
under_in false a b h = omega (arith, linear)

-- only the difference counts
pub under_same : (s : Bool) (a b c d : ℤ) → b -ℤ a ≡ d -ℤ c → Under s a b → Under s c d
under_same true a b c d e h = omega (arith, linear)
under_same false a b c d e h = omega (arith, linear)

pub under_weaker : (s t : Bool) (a b : ℤ) → ex t ≤ ex s → Under s a b → Under t a b
under_weaker true true a b w h = h
under_weaker true false a b w h = omega (arith, linear)
under_weaker false true a b w h = absurd (omega arith)
under_weaker false false a b w h = h

pub under_times : (s : Bool) (m : ℕ) (a b : ℤ) → 0 < m → Under s a b → Under s (pos m *ℤ a) (pos m *ℤ b)
under_times true m a b p h = *ℤ-mono-< (pos m) (omega (arith, linear)) h
under_times false m a b p h = *ℤ-mono (pos m) (omega (arith, linear)) h

pub under_cancel : (s : Bool) (m : ℕ) (a b : ℤ) → 0 < m → Under s (pos m *ℤ a) (pos m *ℤ b) → Under s a b
under_cancel true m a b p h = *ℤ-cancel-< (pos m) (omega (arith, linear)) h
under_cancel false m a b p h = *ℤ-cancel-≤ (pos m) (omega (arith, linear)) h

-- a/n ≤ b/m and b/m ≤ c/q give a/n ≤ c/q, and so where one is strict
cross_nat : (a a' b b' c c' n m q : ℕ) (s t r : Bool) → 0 < n → 0 < m → 0 < q → ex r ≤ ex s + ex t → a * m + b' * n + ex s ≤ b * n + a' * m → b * q + c' * m + ex t ≤ c * m + b' * q → a * q + c' * n + ex r ≤ c * n + a' * q
cross_nat a a' b b' c c' n m q s t false pn pm pq w h k =
    let z : a * q + c' * n ≤ c * n + a' * q = le_of_mul-le-mul_left {k = m} (omega (arith, mul-le-mul_left q h, mul-le-mul_left n k)) pm in omega arith
cross_nat a a' b b' c c' n m q true t true pn pm pq w h k =
    let z : a * q + c' * n < c * n + a' * q = lt_of_mul-lt-mul_left m (omega (arith, mul-le-mul_left q h, mul-le-mul_left n k)) in omega arith
cross_nat a a' b b' c c' n m q false true true pn pm pq w h k =
    let z : a * q + c' * n < c * n + a' * q = lt_of_mul-lt-mul_left m (omega (arith, mul-le-mul_left q h, mul-le-mul_left n k)) in omega arith
cross_nat a a' b b' c c' n m q false false true pn pm pq w h k = absurd (omega arith)

-- a over n is at most b over m
abbrev pub Across : Bool → ℤ → ℕ → ℤ → ℕ → Type 0
Across s a n b m = Under s (a *ℤ pos m) (b *ℤ pos n)

pub cross : (a : ℤ) (n : ℕ) (b : ℤ) (m : ℕ) (c : ℤ) (q : ℕ) (s t r : Bool) → 0 < n → 0 < m → 0 < q → ex r ≤ ex s + ex t → Across s a n b m → Across t b m c q → Across r a n c q
cross a n b m c q s t r pn pm pq w h k =
    under_in r (a *ℤ pos q) (c *ℤ pos n)
    (omega (
      arith,
      product_is,
      cross_nat (up a) (down a) (up b) (down b) (up c) (down c) n m q s t r pn pm pq w
          (omega (arith, product_is, under_out s (a *ℤ pos m) (b *ℤ pos n) h))
          (omega (arith, product_is, under_out t (b *ℤ pos q) (c *ℤ pos m) k)),
    ))

-- one of two fractions may be written in other terms
pub cross_left : (a : ℤ) (n : ℕ) (b : ℤ) (m : ℕ) (c : ℤ) (q : ℕ) (s : Bool) → 0 < n → 0 < m → 0 < q → a *ℤ pos m ≡ b *ℤ pos n → Across s b m c q → Across s a n c q
cross_left a n b m c q s pn pm pq e h = cross a n b m c q false s s pn pm pq (omega arith) (omega (arith, linear)) h

pub cross_right : (a : ℤ) (n : ℕ) (b : ℤ) (m : ℕ) (c : ℤ) (q : ℕ) (s : Bool) → 0 < n → 0 < m → 0 < q → b *ℤ pos q ≡ c *ℤ pos m → Across s a n b m → Across s a n c q
cross_right a n b m c q s pn pm pq e h = cross a n b m c q s false s pn pm pq (omega arith) h (omega (arith, linear))
