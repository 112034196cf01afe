-- What `gcd` returns is the common divisor, at its end and at a call. Assumes nothing.
use Rattle.std.proofs.Common.{◌≡◌, ℕ, ◌<◌, sym, ap, ◌∙◌, subst, arith}
use Rattle.integers.specs.Divisors.{gcd_of, IsGcd}
use Rattle.integers.proofs.DivisorLaws.{gcd_zero, gcd_step, is_gcd_zero, is_gcd_step}
use Rattle.integers.proofs.divisors.+gcd.Goals as goal

pub returns-then-b-eq0 : goal.returns-then-b-eq0
returns-then-b-eq0 t c =
    let e : c.args.b ≡ 0 = omega arith in
    record { value = sym (ap (gcd_of c.args.a) e ∙ gcd_zero c.args.a); greatest = subst (λ (x : ℕ). IsGcd c.args.a x c.args.a) (sym e) (is_gcd_zero c.args.a) }

pub returns-else-b-eq0 : goal.returns-else-b-eq0
returns-else-b-eq0 t c =
    let h : 0 < c.args.b = omega arith in
    record { value = c.gcd.ensures.value ∙ sym (gcd_step c.args.a c.args.b h); greatest = is_gcd_step c.args.a c.args.b c.gcd.result c.gcd.ensures.greatest }
