-- The tests by which limits are chosen are orders. Assumes nothing.
use Rattle.std.specs.Prelude.{◌≡◌, ◌+◌, ◌≤◌, Bool, true, false, not, ◌&&◌, ◌||◌, ℤ, pos, ◌*ℤ◌, int_lt, refl}
use Rattle.std.proofs.Common.{arith}
use borrow.Author.Differences.{lt-true, lt-false}
use Rattle.std.proofs.lemmas.Bool.{false≢true, not-true, not-false, not_from_false}
use Rattle.integers.proofs.Linear.{linear}
use Rattle.elimination.specs.Levels.{Limit, better_upper, better_lower}
use Rattle.elimination.specs.Limiting.{limit_of}
use Rattle.elimination.specs.Unders.{Under, ex, cross}
use Rattle.elimination.specs.Between.{Proper, compared, denied}
use Rattle.elimination.specs.Orders.{Total, Chain}

-- the test fails where the order denies it
refuted : (a b : ℤ) (s t : Bool) → Under (s && not t) a b → compared a b s t ≡ false
refuted a b s t h = by (int_lt b a) (int_lt a b) s t refl refl h
  where
    by : (x y s t : Bool) → int_lt b a ≡ x → int_lt a b ≡ y → Under (s && not t) a b → (x || (not y && (s && not t))) ≡ false
    by true y true true p q h = absurd (omega (arith, linear, lt-true))
    by true y true false p q h = absurd (omega (arith, linear, lt-true))
    by true y false t p q h = absurd (omega (arith, linear, lt-true))
    by false true s t p q h = refl
    by false false true true p q h = refl
    by false false true false p q h = absurd (omega (arith, linear, lt-false))
    by false false false t p q h = refl

-- not both ways
one_way : (a b : ℤ) (s t : Bool) → compared a b s t ≡ true → compared b a t s ≡ false
one_way a b s t e = by (int_lt b a) (int_lt a b) s t refl refl e
  where
    by : (x y s t : Bool) → int_lt b a ≡ x → int_lt a b ≡ y → (x || (not y && (s && not t))) ≡ true → (y || (not x && (t && not s))) ≡ false
    by true true s t p q e = absurd (omega (arith, linear, lt-true))
    by true false s t p q e = refl
    by false true s t p q e = absurd (false≢true e)
    by false false true true p q e = refl
    by false false true false p q e = refl
    by false false false t p q e = absurd (false≢true e)

-- the strictness of a chain
either : (x y z : Bool) → ex (z && not x) ≤ ex (y && not x) + ex (z && not y)
either true true true = omega arith
either true true false = omega arith
either true false true = omega arith
either true false false = omega arith
either false true true = omega arith
either false true false = omega arith
either false false true = omega arith
either false false false = omega arith

upper_one_way : (x y : Limit) → better_upper x y ≡ true → better_upper y x ≡ false
upper_one_way x y e = one_way (y.numerator *ℤ pos x.denominator) (x.numerator *ℤ pos y.denominator) x.strict y.strict e

lower_one_way : (x y : Limit) → better_lower x y ≡ true → better_lower y x ≡ false
lower_one_way x y e = one_way (x.numerator *ℤ pos y.denominator) (y.numerator *ℤ pos x.denominator) x.strict y.strict e

module _ (x y z : Limit) (px : Proper x) (py : Proper y) (pz : Proper z) where
  upper_chain : better_upper y x ≡ false → better_upper z y ≡ false → better_upper z x ≡ false
  upper_chain p q =
      refuted (x.numerator *ℤ pos z.denominator) (z.numerator *ℤ pos x.denominator) z.strict x.strict
      (cross x.numerator x.denominator y.numerator y.denominator z.numerator z.denominator (y.strict && not x.strict) (z.strict && not y.strict) (z.strict && not x.strict) px py pz (either x.strict y.strict z.strict)
      (denied (x.numerator *ℤ pos y.denominator) (y.numerator *ℤ pos x.denominator) y.strict x.strict p)
      (denied (y.numerator *ℤ pos z.denominator) (z.numerator *ℤ pos y.denominator) z.strict y.strict q))

  lower_chain : better_lower y x ≡ false → better_lower z y ≡ false → better_lower z x ≡ false
  lower_chain p q =
      refuted (z.numerator *ℤ pos x.denominator) (x.numerator *ℤ pos z.denominator) z.strict x.strict
      (cross z.numerator z.denominator y.numerator y.denominator x.numerator x.denominator (z.strict && not y.strict) (y.strict && not x.strict) (z.strict && not x.strict) pz py px (omega (arith, either x.strict y.strict z.strict))
      (denied (z.numerator *ℤ pos y.denominator) (y.numerator *ℤ pos z.denominator) z.strict y.strict q)
      (denied (y.numerator *ℤ pos x.denominator) (x.numerator *ℤ pos y.denominator) y.strict x.strict p))

-- the laws of the choice
module _ (better : Limit → Limit → Bool) where
  total_from : ((x y : Limit) → better x y ≡ true → better y x ≡ false) → Total better
  total_from h x y e = not_from_false (better (limit_of x) (limit_of y)) (h (limit_of y) (limit_of x) (not-false (better (limit_of y) (limit_of x)) e))

  chain_from : ((x y z : Limit) → Proper x → Proper y → Proper z → better y x ≡ false → better z y ≡ false → better z x ≡ false) → Chain better
  chain_from h x y z p q =
      not_from_false (better (limit_of z) (limit_of x))
      (h (limit_of x) (limit_of y) (limit_of z) x.positive y.positive z.positive (not-true (better (limit_of y) (limit_of x)) p) (not-true (better (limit_of z) (limit_of y)) q))

pub uppers_total : Total better_upper
uppers_total = total_from better_upper upper_one_way

pub uppers_chain : Chain better_upper
uppers_chain = chain_from better_upper upper_chain

pub lowers_total : Total better_lower
lowers_total = total_from better_lower lower_one_way

pub lowers_chain : Chain better_lower
lowers_chain = chain_from better_lower lower_chain
