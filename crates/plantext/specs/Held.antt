-- How the numbers of a statement are held. Assumes nothing.
use Rattle.std.specs.Prelude.{◌≡◌, ◌-◌, ◌≤◌, List, ◌++◌, length, take, drop, replicate, ℤ, pos}
use Rattle.std.proofs.Common.{ap, ◌∙◌, sym, arith, take-append-drop}
use Rattle.std.proofs.lemmas.List.{length-take-le}
use Rattle.plantext.specs.Padding.{padded}
use Rattle.plantext.specs.declared.numbers.Numbers.TheInside.{Inside}

-- the numbers
abbrev pub listed : Inside → List ℤ
listed a = take a.len a.values

-- there are sixteen places, and zeros in those after the numbers
pub record Held (a : Inside) : Type 0 where
  pub room : a.len ≤ 16
  pub size : length a.values ≡ 16
  pub zeros : drop a.len a.values ≡ replicate (16 - a.len) (pos 0)

-- how a list is held
abbrev pub held_so : List ℤ → Inside
held_so zs = record { values = padded zs; len = length zs }

-- no more is held than the numbers tell
pub held_again : (a : Inside) → Held a → held_so (listed a) ≡ a
held_again a h = λ i. record { values = whole i; len = count i }
  where
    count : length (listed a) ≡ a.len
    count = length-take-le a.len a.values (omega (arith, h.room, h.size))

    whole : padded (listed a) ≡ a.values
    whole = ap (λ n. listed a ++ replicate (16 - n) (pos 0)) count ∙ ap (λ zs. listed a ++ zs) (sym h.zeros) ∙ take-append-drop a.len a.values
