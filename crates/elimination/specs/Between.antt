-- The best limits are the tightest, and the value chosen lies within them. Assumes nothing.
use Rattle.std.specs.Prelude.{◌≡◌, ℕ, ◌+◌, ◌*◌, ◌<◌, ◌≤◌, Bool, true, false, cond, not, ◌&&◌, ◌||◌, List, [], ◌∷◌, ℤ, pos, negsuc, ◌+ℤ◌, ◌-ℤ◌, ◌*ℤ◌, ◌<ℤ◌, Some, int_lt, unsigned_abs, refl}
use Rattle.std.proofs.Common.{sym, ap, subst, ◌∙◌, arith, mul-pos}
use borrow.Author.Differences.{lt-true, lt-false}
use Rattle.std.specs.List.{AllByRecursion, best_of}
use Rattle.std.proofs.lemmas.Bool.{false≢true, true≢false}
use Rattle.integers.specs.Fractions.{lowest_numerator, lowest_denominator}
use Rattle.integers.proofs.Laws.{+ℤ-*ℤ, -ℤ-*ℤ}
use Rattle.integers.proofs.Linear.{linear}
use Rattle.integers.proofs.Ring.{con, var, ◌⊕◌, ◌⊖◌, ◌⊗◌, vanish}
use Rattle.integers.proofs.FractionLaws.{divided, divided_reduced}
use Rattle.elimination.specs.Table.{near}
use Rattle.elimination.specs.Levels.{Limit, lowest, better_upper, better_lower, first_best, value}
use Rattle.rows.proofs.Alls.{cond_some}
use Rattle.elimination.specs.Alls.{best_in}
use Rattle.elimination.specs.Unders.{Under, ex, Across, cross, cross_left, cross_right, under_same, under_times, under_weaker}

-- ---- lowest terms

-- l is n over d in other terms
pub record Lowered (n : ℤ) (d : ℕ) (strict : Bool) (l : Limit) : Type 0 where
  pub some : 0 < l.denominator
  pub same : n *ℤ pos l.denominator ≡ l.numerator *ℤ pos d
  pub strictness : l.strict ≡ strict

positive_is : (e : ℤ) → pos 0 <ℤ e → (0 < unsigned_abs e) × (e ≡ pos (unsigned_abs e))
positive_is (pos n) h = (omega (arith, linear), refl)
positive_is (negsuc n) h = absurd h.lt

pub lowered : (n : ℤ) (d : ℕ) (strict : Bool) (l : Limit) → 0 < d → lowest n d strict ≡ Some l → Lowered n d strict l
lowered n d strict l h e =
    let q : pos 0 <ℤ pos d = omega (arith, linear) in
    let f = divided n (pos d) q in
    let m = lowest_numerator n (pos d) in
    let o = lowest_denominator n (pos d) in
    let g = divided_reduced n (pos d) m o _ f in
    let i = positive_is o f.positive in
    let c = (cond_some (near m && near o) (record { numerator = m; denominator = unsigned_abs o; strict = strict }) l e).1 in
    subst (λ (x : Limit). Lowered n d strict x) c
    (record { some = i.0; same = ap (λ (z : ℤ). n *ℤ z) (sym i.1) ∙ g.same; strictness = refl })

-- ---- the best limits

abbrev pub compared : ℤ → ℤ → Bool → Bool → Bool
compared a b s t = int_lt b a || (not (int_lt a b) && (s && not t))

pub told : (a b : ℤ) (s t : Bool) → compared a b s t ≡ true → Under (not s) b a
told a b s t e = by (int_lt b a) (int_lt a b) s t refl refl e
  where
    by : (x y s t : Bool) → int_lt b a ≡ x → int_lt a b ≡ y → (x || (not y && (s && not t))) ≡ true → Under (not s) b a
    by true y true t p q e = omega (arith, linear, lt-true)
    by true y false t p q e = omega (arith, linear, lt-true)
    by false true s t p q e = absurd (false≢true e)
    by false false true t p q e = omega (arith, linear, lt-false)
    by false false false t p q e = absurd (false≢true e)

pub denied : (a b : ℤ) (s t : Bool) → compared a b s t ≡ false → Under (s && not t) a b
denied a b s t e = by (int_lt b a) (int_lt a b) s t refl refl e
  where
    by : (x y s t : Bool) → int_lt b a ≡ x → int_lt a b ≡ y → (x || (not y && (s && not t))) ≡ false → Under (s && not t) a b
    by true y s t p q e = absurd (true≢false e)
    by false y true true p q e = omega (arith, linear, lt-false)
    by false true true false p q e = omega (arith, linear, lt-true)
    by false false true false p q e = absurd (true≢false e)
    by false y false t p q e = omega (arith, linear, lt-false)

one_of : (r s : Bool) → ex r ≤ ex (not s) + ex s
one_of true true = omega arith
one_of true false = omega arith
one_of false s = omega arith

some_of : (s t : Bool) → ex s ≤ ex (s && not t) + ex t
some_of true true = omega arith
some_of true false = omega arith
some_of false t = omega arith

other_of : (s t : Bool) → ex s ≤ ex t + ex (s && not t)
other_of true true = omega arith
other_of true false = omega arith
other_of false t = omega arith

other_one : (r s : Bool) → ex r ≤ ex s + ex (not s)
other_one true true = omega arith
other_one true false = omega arith
other_one false s = omega arith

abbrev pub Proper : Limit → Type 0
Proper l = 0 < l.denominator

-- p over q is within a lower limit, and within an upper one
abbrev pub Above : Limit → ℤ → ℕ → Type 0
Above l p q = Across l.strict l.numerator l.denominator p q

abbrev pub Below : Limit → ℤ → ℕ → Type 0
Below u p q = Across u.strict p q u.numerator u.denominator

module _ (p : ℤ) (q : ℕ) (pq : 0 < q) where
  lower_tight : (x y : Limit) → Proper x → Proper y → better_lower x y ≡ true → Above x p q → Above y p q
  lower_tight x y px py e h = cross y.numerator y.denominator x.numerator x.denominator p q (not x.strict) x.strict y.strict py px pq (one_of y.strict x.strict) (told (x.numerator *ℤ pos y.denominator) (y.numerator *ℤ pos x.denominator) x.strict y.strict e) h

  lower_loose : (x y : Limit) → Proper x → Proper y → better_lower x y ≡ false → Above y p q → Above x p q
  lower_loose x y px py e h = cross x.numerator x.denominator y.numerator y.denominator p q (x.strict && not y.strict) y.strict x.strict px py pq (some_of x.strict y.strict) (denied (x.numerator *ℤ pos y.denominator) (y.numerator *ℤ pos x.denominator) x.strict y.strict e) h

  upper_tight : (x y : Limit) → Proper x → Proper y → better_upper x y ≡ true → Below x p q → Below y p q
  upper_tight x y px py e h = cross p q x.numerator x.denominator y.numerator y.denominator x.strict (not x.strict) y.strict pq px py (other_one y.strict x.strict) h (told (y.numerator *ℤ pos x.denominator) (x.numerator *ℤ pos y.denominator) x.strict y.strict e)

  upper_loose : (x y : Limit) → Proper x → Proper y → better_upper x y ≡ false → Below y p q → Below x p q
  upper_loose x y px py e h = cross p q y.numerator y.denominator x.numerator x.denominator y.strict (x.strict && not y.strict) x.strict pq py px (other_of x.strict y.strict) h (denied (y.numerator *ℤ pos x.denominator) (x.numerator *ℤ pos y.denominator) x.strict y.strict e)

-- what is within the best is within each, for a test by which the better limit is the tighter
module _ (better : Limit → Limit → Bool) (In : Limit → Type 0) (tight : (x y : Limit) → Proper x → Proper y → better x y ≡ true → In x → In y) (loose : (x y : Limit) → Proper x → Proper y → better x y ≡ false → In y → In x) where
  best_within : (l : Limit) (ms : List Limit) → Proper l → AllByRecursion Proper ms → In (best_of better l ms) → AllByRecursion In (l ∷ ms)
  best_within l [] pl pm h = (h, tt)
  best_within l (m ∷ ms) pl pm h = by (better m l) refl (best_within (cond (better m l) m l) ms (kept (better m l)) pm.1 h)
    where
      kept : (b : Bool) → Proper (cond b m l)
      kept true = pm.0
      kept false = pl

      by : (b : Bool) → better m l ≡ b → AllByRecursion In (cond b m l ∷ ms) → AllByRecursion In (l ∷ m ∷ ms)
      by true e k = (tight m l pm.0 pl e k.0, (k.0, k.1))
      by false e k = (k.0, (loose m l pm.0 pl e k.0, k.1))

-- ---- the value

-- a lower and an upper limit leave room
abbrev pub Room : Limit → Limit → Type 0
Room l u = Across (u.strict || l.strict) l.numerator l.denominator u.numerator u.denominator

left_of : (s t : Bool) → ex s ≤ ex (s || t)
left_of true t = omega arith
left_of false t = omega arith

right_of : (s t : Bool) → ex t ≤ ex (s || t)
right_of true true = omega arith
right_of true false = omega arith
right_of false t = omega arith

middle_low : (a b : ℤ) (n m : ℕ) (s : Bool) → 0 < n → Across s a n b m → Across s a n (a *ℤ pos m +ℤ b *ℤ pos n) (2 * (n * m))
middle_low a b n m s pn h =
    let A = var 0 in let B = var 1 in let N = var 2 in let M = var 3 in
    under_same s (pos n *ℤ (a *ℤ pos m)) (pos n *ℤ (b *ℤ pos n)) (a *ℤ pos (2 * (n * m))) ((a *ℤ pos m +ℤ b *ℤ pos n) *ℤ pos n)
    (vanish (N ⊗ (B ⊗ N) ⊖ N ⊗ (A ⊗ M)) ((A ⊗ M ⊕ B ⊗ N) ⊗ N ⊖ A ⊗ (con (pos 2) ⊗ (N ⊗ M))) (a ∷ b ∷ pos n ∷ pos m ∷ []) refl)
    (under_times s n (a *ℤ pos m) (b *ℤ pos n) pn h)

middle_high : (a b : ℤ) (n m : ℕ) (s : Bool) → 0 < m → Across s a n b m → Across s (a *ℤ pos m +ℤ b *ℤ pos n) (2 * (n * m)) b m
middle_high a b n m s pm h =
    let A = var 0 in let B = var 1 in let N = var 2 in let M = var 3 in
    under_same s (pos m *ℤ (a *ℤ pos m)) (pos m *ℤ (b *ℤ pos n)) ((a *ℤ pos m +ℤ b *ℤ pos n) *ℤ pos m) (b *ℤ pos (2 * (n * m)))
    (vanish (M ⊗ (B ⊗ N) ⊖ M ⊗ (A ⊗ M)) (B ⊗ (con (pos 2) ⊗ (N ⊗ M)) ⊖ (A ⊗ M ⊕ B ⊗ N) ⊗ M) (a ∷ b ∷ pos n ∷ pos m ∷ []) refl)
    (under_times s m (a *ℤ pos m) (b *ℤ pos n) pm h)

beyond_low : (s : Bool) (a : ℤ) (n : ℕ) → 0 < n → Across s a n (cond s (a +ℤ pos n) a) n
beyond_low true a n pn = omega (arith, linear, +ℤ-*ℤ a (pos n) (pos n), mul-pos pn pn)
beyond_low false a n pn = omega (arith, linear)

beyond_high : (s : Bool) (b : ℤ) (m : ℕ) → 0 < m → Across s (cond s (b -ℤ pos m) b) m b m
beyond_high true b m pm = omega (arith, linear, -ℤ-*ℤ b (pos m) (pos m), mul-pos pm pm)
beyond_high false b m pm = omega (arith, linear)

pub record Between (v : Limit) (ls us : List Limit) : Type 0 where
  pub some : 0 < v.denominator
  pub low : AllByRecursion (λ l. Above l v.numerator v.denominator) ls
  pub high : AllByRecursion (λ u. Below u v.numerator v.denominator) us

module _ (v : Limit) (pv : 0 < v.denominator) where
  lows : (l : Limit) (ls : List Limit) → Proper l → AllByRecursion Proper ls → Above (best_of better_lower l ls) v.numerator v.denominator → AllByRecursion (λ x. Above x v.numerator v.denominator) (l ∷ ls)
  lows l ls pl ps h = best_within better_lower (λ x. Above x v.numerator v.denominator) (lower_tight v.numerator v.denominator pv) (lower_loose v.numerator v.denominator pv) l ls pl ps h

  highs : (u : Limit) (us : List Limit) → Proper u → AllByRecursion Proper us → Below (best_of better_upper u us) v.numerator v.denominator → AllByRecursion (λ x. Below x v.numerator v.denominator) (u ∷ us)
  highs u us pu ps h = best_within better_upper (λ x. Below x v.numerator v.denominator) (upper_tight v.numerator v.denominator pv) (upper_loose v.numerator v.denominator pv) u us pu ps h

pub between : (ls us : List Limit) (v : Limit) → AllByRecursion Proper ls → AllByRecursion Proper us → AllByRecursion (λ u. AllByRecursion (λ l. Room l u) ls) us → value (first_best better_lower ls) (first_best better_upper us) ≡ Some v → Between v ls us
between [] [] v pl pu f e = record { some = (lowered (pos 0) 1 false v (omega arith) e).some; low = tt; high = tt }
between (l ∷ ls) [] v pl pu f e =
    let b = best_of better_lower l ls in
    let pb : Proper b = best_in Proper better_lower l ls pl.0 pl.1 in
    let n = cond b.strict (b.numerator +ℤ pos b.denominator) b.numerator in
    let o = lowered n b.denominator false v pb e in
    record {
      some = o.some;
      low = lows v o.some l ls pl.0 pl.1 (cross_right b.numerator b.denominator n b.denominator v.numerator v.denominator b.strict pb pb o.some o.same (beyond_low b.strict b.numerator b.denominator pb));
      high = tt;
    }
between [] (u ∷ us) v pl pu f e =
    let b = best_of better_upper u us in
    let pb : Proper b = best_in Proper better_upper u us pu.0 pu.1 in
    let n = cond b.strict (b.numerator -ℤ pos b.denominator) b.numerator in
    let o = lowered n b.denominator false v pb e in
    record {
      some = o.some;
      low = tt;
      high = highs v o.some u us pu.0 pu.1 (cross_left v.numerator v.denominator n b.denominator b.numerator b.denominator b.strict o.some pb pb (sym o.same) (beyond_high b.strict b.numerator b.denominator pb));
    }
between (l ∷ ls) (u ∷ us) v pl pu f e =
    let a = best_of better_lower l ls in
    let b = best_of better_upper u us in
    let pa : Proper a = best_in Proper better_lower l ls pl.0 pl.1 in
    let pb : Proper b = best_in Proper better_upper u us pu.0 pu.1 in
    let g : AllByRecursion (λ x. Room x b) (l ∷ ls) = best_in (λ y. AllByRecursion (λ x. Room x y) (l ∷ ls)) better_upper u us f.0 f.1 in
    let h : Room a b = best_in (λ x. Room x b) better_lower l ls g.0 g.1 in
    let n = a.numerator *ℤ pos b.denominator +ℤ b.numerator *ℤ pos a.denominator in
    let d = 2 * (a.denominator * b.denominator) in
    let pd : 0 < d = omega (arith, mul-pos pa pb) in
    let o = lowered n d false v pd e in
    let lo : Across a.strict a.numerator a.denominator b.numerator b.denominator = under_weaker (b.strict || a.strict) a.strict (a.numerator *ℤ pos b.denominator) (b.numerator *ℤ pos a.denominator) (right_of b.strict a.strict) h in
    let hi : Across b.strict a.numerator a.denominator b.numerator b.denominator = under_weaker (b.strict || a.strict) b.strict (a.numerator *ℤ pos b.denominator) (b.numerator *ℤ pos a.denominator) (left_of b.strict a.strict) h in
    record {
      some = o.some;
      low = lows v o.some l ls pl.0 pl.1 (cross_right a.numerator a.denominator n d v.numerator v.denominator a.strict pa pd o.some o.same (middle_low a.numerator b.numerator a.denominator b.denominator a.strict pa lo));
      high = highs v o.some u us pu.0 pu.1 (cross_left v.numerator v.denominator n d b.numerator b.denominator b.strict o.some pd pb (sym o.same) (middle_high a.numerator b.numerator a.denominator b.denominator b.strict pb hi));
    }
