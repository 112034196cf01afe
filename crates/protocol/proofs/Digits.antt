-- The digits of a number: how many there are, and its last one. Assumes nothing.
use Rattle.std.proofs.Common.{◌≡◌, ℕ, ◌+◌, ◌/◌, ◌%◌, ◌^◌, ◌<◌, ◌≤◌, Bool, true, false, [], ◌∷◌, ◌++◌, length, decimal, ap, ◌∙◌, arith}
use Rattle.std.proofs.lemmas.Fmt.{decimal_digit, decimal_step, length-decimal-le, decimal_nonempty}
use Rattle.std.proofs.lemmas.List.{length_push}
use Rattle.std.specs.Fmt.{sign_text}

pub longer : (n : ℕ) → 10 ≤ n → n < 2 ^ 32 → length (decimal n) ≡ length (decimal (n / 10)) + 1
longer n h fits = ap length (decimal_step n h (omega arith)) ∙ length_push (decimal (n / 10)) (48 + n % 10)

pub last_digit : (n : ℕ) → 10 ≤ n → n < 2 ^ 32 → decimal (n / 10) ++ ((48 + n % 10) ∷ []) ≡ decimal n
last_digit n h fits = rw (decimal_step n h (omega arith))

pub only_digit : (n : ℕ) → n < 10 → (48 + n % 10) ∷ [] ≡ decimal n
only_digit n h =
    let e : n % 10 ≡ n = omega arith in
    rw (decimal_digit n h, e)

pub some : (n : ℕ) → n < 2 ^ 32 → 0 < length (decimal n)
some n fits = decimal_nonempty n (omega arith)

pub at_most_ten : (n : ℕ) → n < 2 ^ 32 → length (decimal n) ≤ 10
at_most_ten n fits = length-decimal-le 10 n (omega arith) (omega arith) (omega arith)

pub at_most_twelve : (negative : Bool) (n : ℕ) → n < 2 ^ 32 → length (32 ∷ (sign_text negative ++ decimal n)) ≤ 12
at_most_twelve true n fits = omega (arith, at_most_ten n fits)
at_most_twelve false n fits = omega (arith, at_most_ten n fits)
