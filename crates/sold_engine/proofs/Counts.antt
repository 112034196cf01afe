-- How many rows a table holds: those that stand, and the pairs of one fader. Assumes nothing.
use Rattle.std.proofs.Common.{◌≡◌, ℕ, zero, suc, ◌+◌, ◌*◌, ◌≤◌, Bool, true, false, cond, not, ◌&&◌, ltb, List, [], ◌∷◌, ◌++◌, map, length, ℤ, pos, negsuc, ◌+ℤ◌, ◌*ℤ◌, nat_abs, ◌≤ℤ◌, is_some, Some, None, filter, Option, refl, ap, arith}
use borrow.Author.Differences.{ints}
use Rattle.std.proofs.lemmas.List.{length-append, length-map}
use Rattle.std.proofs.lemmas.List.Elements.{filter-append}
use Rattle.std.proofs.lemmas.Bool.{false≢true, lt-ltb}
use Rattle.integers.proofs.Ring.{con, var, ◌⊕◌, ◌⊖◌, ◌⊗◌}
use Rattle.integers.proofs.Inequality.{le, square, ◌⊞◌, ◌⊠◌, at_most}
use Rattle.elimination.specs.Table.{Line, coefficient, stands, is_positive, is_negative, uppers, lowers, pairs, set_aside}
use Rattle.elimination.specs.Steps.{sum_of, sums_of}

abbrev pub standing : List Line → ℕ
standing t = length (filter stands t)

abbrev one : Bool → ℕ
one b = cond b 1 0

one_more : {X : Type 0} (b : Bool) (x : X) (xs : List X) → length (cond b (x ∷ xs) xs) ≡ one b + length xs
one_more true x xs = omega arith
one_more false x xs = omega arith

pub kept_few : {X : Type 0} (test : X → Bool) (xs : List X) → length (filter test xs) ≤ length xs
kept_few test [] = omega arith
kept_few {X} test (x ∷ xs) = by (test x) (kept_few test xs)
  where
    by : (b : Bool) → length (filter test xs) ≤ length xs → length (cond b (x ∷ filter test xs) (filter test xs)) ≤ length (x ∷ xs)
    by true h = omega arith
    by false h = omega arith

pairs_length : (us ls : List Line) → length (pairs us ls) ≡ length us * length ls
pairs_length [] ls = omega arith
pairs_length (u ∷ us) ls = omega (arith, length-append (map (λ l. (u, l)) ls) (pairs us ls), length-map {B = Line × Line} ls (λ l. (u, l)), pairs_length us ls, native.Mathlib.Nat.suc-mul (length us) (length ls))

-- a standing row stays, is an upper or is a lower
module _ (k : ℕ) where
  once : (o : Option ℕ) (c : ℤ) → one (not (is_some (cond (not (is_some o) && ltb 0 (nat_abs c)) (Some k) o))) + (one (not (is_some o) && is_positive c) + one (not (is_some o) && is_negative c)) ≤ one (not (is_some o))
  once (Some j) c = omega arith
  once None (pos n) = by (ltb 0 n)
    where
      by : (b : Bool) → one (not (is_some (cond b (Some k) None))) + (one b + one false) ≤ one true
      by true = omega arith
      by false = omega arith
  once None (negsuc n) = by (ltb 0 (suc n)) (lt-ltb 0 (suc n) (omega arith))
    where
      by : (b : Bool) → b ≡ true → one (not (is_some (cond b (Some k) None))) + (one false + one true) ≤ one true
      by true e = omega arith
      by false e = absurd (false≢true e)

  shared_out : (t : List Line) → standing (map (set_aside k) t) + (length (uppers k t) + length (lowers k t)) ≤ standing t
  shared_out [] = omega arith
  shared_out (r ∷ t) =
      omega (
        arith,
        shared_out t,
        once r.aside (coefficient r k),
        one_more (stands (set_aside k r)) (set_aside k r) (filter stands (map (set_aside k) t)),
        one_more (stands r && is_positive (coefficient r k)) r (uppers k t),
        one_more (stands r && is_negative (coefficient r k)) r (lowers k t),
        one_more (stands r) r (filter stands t),
      )

-- ---- numbers of pairs

quarter : (p q m : ℕ) → p + q ≤ m → 4 * (p * q) ≤ m * m
quarter p q m h =
    let P = var 0 in let Q = var 1 in let M = var 2 in
    let sum : (pos p +ℤ pos q) ≤ℤ pos m = omega (arith, ints) in
    let some : pos 0 ≤ℤ ((pos m +ℤ pos p) +ℤ pos q) = omega (arith, ints) in
    let square : (pos 4 *ℤ (pos p *ℤ pos q)) ≤ℤ (pos m *ℤ pos m) = at_most (con (pos 4) ⊗ (P ⊗ Q)) (M ⊗ M) (pos p ∷ pos q ∷ pos m ∷ []) (le (P ⊕ Q) M sum ⊠ le (con (pos 0)) (M ⊕ P ⊕ Q) some ⊞ square (P ⊖ Q)) refl in
    omega (arith, ints)

few_after : (p q r : ℕ) → r + (p + q) ≤ 10 → r + p * q ≤ 25
few_after zero q r h = omega arith
few_after (suc p) zero r h = omega arith
few_after (suc p) (suc q) r h = let f : p + q ≤ 8 = omega arith in omega (arith, quarter p q 8 f)

-- the table after fader k
abbrev pub next : ℕ → List Line → List Line
next k t = map (set_aside k) t ++ sums_of k t

pub next_length : (k : ℕ) (t : List Line) → length (next k t) ≡ length t + length (uppers k t) * length (lowers k t)
next_length k t =
    let ps = pairs (uppers k t) (lowers k t) in
    omega (arith, length-append (map (set_aside k) t) (sums_of k t), length-map t (set_aside k), length-map ps (sum_of k), pairs_length (uppers k t) (lowers k t))

next_standing : (k : ℕ) (t : List Line) → standing (next k t) ≤ standing (map (set_aside k) t) + length (uppers k t) * length (lowers k t)
next_standing k t =
    let ps = pairs (uppers k t) (lowers k t) in
    omega (arith, ap length (filter-append stands (map (set_aside k) t) (sums_of k t)), length-append (filter stands (map (set_aside k) t)) (filter stands (sums_of k t)), kept_few stands (sums_of k t), length-map ps (sum_of k), pairs_length (uppers k t) (lowers k t))

-- the table of at most 10 rows, and the one after it
pub after_first : (k : ℕ) (t : List Line) → length t ≤ 10 → (length (next k t) ≤ 35) × (standing (next k t) ≤ 25)
after_first k t h =
    let p = length (uppers k t) in
    let q = length (lowers k t) in
    let r = standing (map (set_aside k) t) in
    let few : r + (p + q) ≤ 10 = omega (arith, shared_out k t, kept_few stands t) in
    let both : p + q ≤ 10 = omega arith in
    (omega (arith, next_length k t, quarter p q 10 both), omega (arith, next_standing k t, few_after p q r few))

pub after_second : (k : ℕ) (t : List Line) → length t ≤ 35 → standing t ≤ 25 → length (next k t) ≤ 191
after_second k t h s =
    let p = length (uppers k t) in
    let q = length (lowers k t) in
    let both : p + q ≤ 25 = omega (arith, shared_out k t) in
    omega (arith, next_length k t, quarter p q 25 both)
