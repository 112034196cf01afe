-- The digits of a number, its value and its sign. Assumes nothing.
use Rattle.std.proofs.Common.{◌≡◌, ℕ, ◌+◌, ◌-◌, ◌*◌, ◌<◌, ◌≤◌, Bool, true, ◌&&◌, List, [], ◌∷◌, length, get_or, take, refl, ap, arith, length-take}
use Rattle.std.proofs.lemmas.Int.Digits.{digits_value_more, digits_more}
use Rattle.std.proofs.lemmas.Str.Parse.{IsNumeralModel, numerals_by_value, tells_all_ascii_digits, tells_digits, digit_at, digits_value_short}
use Rattle.std.proofs.lemmas.Str.{digit_value_digit}
use Rattle.std.specs.Str.Parse.{digits_value, AllDigits}
use Rattle.std.specs.Int.{IsInRange}
use Rattle.std.specs.Char.{is_ascii_digit}
use Rattle.std.specs.List.{list_all}
use Rattle.std.specs.Str.{all_ascii_digits}

pub own : IsNumeralModel (λ ds. all_ascii_digits ds ≡ true) (digits_value 10)
own = numerals_by_value _ tells_all_ascii_digits

-- a byte of digits is a digit
pub digit_in : (ds : List ℕ) (i : ℕ) → all_ascii_digits ds ≡ true → i < length ds → IsInRange 48 57 (get_or ds i 0)
digit_in ds i all h = digit_at ds i (own.to ds all) h

-- the value of at most twelve digits
pub value_small : (ds : List ℕ) (i : ℕ) → AllDigits 10 (take i ds) → i ≤ 12 → digits_value 10 (take i ds) < 1000000000000
value_small ds i all h = digits_value_short (numerals_by_value (AllDigits 10) tells_digits) (take i ds) 12 all (simp length-take (omega arith))

pub value_next : (ds : List ℕ) (i : ℕ) → all_ascii_digits ds ≡ true → i < length ds → digits_value 10 (take (i + 1) ds) ≡ digits_value 10 (take i ds) * 10 + (get_or ds i 0 - 48)
value_next ds i all h = let d = digit_value_digit (get_or ds i 0) (digit_in ds i all h) in omega (arith, digits_value_more 10 ds i h)

pub digits_next : (ds : List ℕ) (i : ℕ) → all_ascii_digits ds ≡ true → i < length ds → AllDigits 10 (take i ds) → AllDigits 10 (take (i + 1) ds)
digits_next ds i all h so =
    let b = digit_in ds i all h in
    let d = digit_value_digit (get_or ds i 0) b in
    digits_more 10 ds i h so (omega arith)

-- the test of each byte
pub all_digits_is : (ds : List ℕ) → list_all is_ascii_digit ds ≡ all_ascii_digits ds
all_digits_is [] = refl
all_digits_is (d ∷ ds) = ap (λ (t : Bool). is_ascii_digit d && t) (all_digits_is ds)
