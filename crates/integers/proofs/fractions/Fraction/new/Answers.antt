-- `Fraction::new` divides by the common divisor, which is not 0 and fits. Assumes nothing.
use Rattle.std.proofs.Common.{◌≡◌, ℕ, ℤ, pos, nat_abs, ◌<ℤ◌, ap, ◌∙◌, arith, w64, SFits, to_z}
use lib.Signed.{quot_z}
use Rattle.std.proofs.lemmas.Int.{ints, to_z-of_z, to_z_pos}
use Rattle.integers.specs.Divisors.{gcd_of}
use Rattle.integers.proofs.FractionLaws.{Divided, divided, divided_reduced, quot_fits}
use Rattle.integers.proofs.fractions.Fraction.new.Goals.{After-gcd-shared}
use Rattle.integers.proofs.fractions.Fraction.new.Goals as goal

-- all that is known once the common divisor is there
record Known (n d : ℤ) (g : ℕ) : Type 0 where
  terms : Divided n d (quot_z n (pos g)) (quot_z d (pos g)) g
  is : g ≡ gcd_of (nat_abs n) (nat_abs d)
  fits_n : SFits w64 n
  fits_d : SFits w64 d
  fits_g : SFits w64 (pos g)
  read_g : to_z w64 g ≡ pos g
  fits_m : SFits w64 (quot_z n (pos g))
  fits_e : SFits w64 (quot_z d (pos g))
  above : pos 0 <ℤ d

known : (c : After-gcd-shared) → Known c.args.numerator c.args.denominator c.gcd-shared.result
known c =
    let n = c.args.numerator in
    let d = c.args.denominator in
    let g = c.gcd-shared.result in
    let fn : SFits w64 n = c.ranges.numerator in
    let fd : SFits w64 d = c.ranges.denominator in
    let an : c.unsigned_abs.result ≡ nat_abs n = simp to_z-of_z at c.unsigned_abs.ensures.value in
    let ad : c.unsigned_abs-2.result ≡ nat_abs d = simp to_z-of_z at c.unsigned_abs-2.ensures.value in
    let is : g ≡ gcd_of (nat_abs n) (nat_abs d) = c.gcd-shared.ensures.value ∙ ap (λ (x : ℕ). gcd_of x c.unsigned_abs-2.result) an ∙ ap (gcd_of (nat_abs n)) ad in
    let above : pos 0 <ℤ d = omega (arith, ints) in
    let terms : Divided n d (quot_z n (pos g)) (quot_z d (pos g)) g = rw is (divided n d above) in
    let fg : SFits w64 (pos g) = omega (arith, ints, terms.within) in
    record {
      terms = terms;
      is = is;
      fits_n = fn;
      fits_d = fd;
      fits_g = fg;
      read_g = to_z_pos w64 g fg.sfits;
      fits_m = quot_fits n (pos g) fn (omega (arith, ints));
      fits_e = quot_fits d (pos g) fd (omega (arith, ints));
      above = above;
    }

pub overflow_cast-shared : goal.overflow_cast-shared
overflow_cast-shared c = (known c).fits_g

pub nonzero_div-result : goal.nonzero_div-result
nonzero_div-result c =
    let k = known c in let above = k.terms.above in let fits = k.fits_g in
    search (arith, ints, quot_fits)

pub nonzero_div-result-2 : goal.nonzero_div-result-2
nonzero_div-result-2 c =
    let k = known c in let above = k.terms.above in let fits = k.fits_g in
    search (arith, ints, quot_fits)

pub invariant_of-result : goal.invariant_of-result
invariant_of-result c =
    let k = known c in let fn = k.fits_n in let fd = k.fits_d in let fm = k.fits_m in let fe = k.fits_e in
    record { positive = simp (to_z-of_z, k.read_g) k.terms.positive; lowest = simp (to_z-of_z, k.read_g) k.terms.lowest }

pub returns : goal.returns
returns c =
    let n = c.args.numerator in
    let d = c.args.denominator in
    let k = known (goal.at.returns c).After-gcd-shared in let fn = k.fits_n in let fd = k.fits_d in let fm = k.fits_m in let fe = k.fits_e in
    record {
      value = (k.above, simp (to_z-of_z, k.read_g) (ap (λ (x : ℕ). quot_z n (pos x)) k.is), simp (to_z-of_z, k.read_g) (ap (λ (x : ℕ). quot_z d (pos x)) k.is));
      reduced = simp (to_z-of_z, k.read_g) (divided_reduced n d (quot_z n (pos c.gcd-shared.result)) (quot_z d (pos c.gcd-shared.result)) c.gcd-shared.result k.terms);
    }
