-- The search for a number that is beyond a bound. Assumes nothing.
use Rattle.std.proofs.Common.{◌≡◌, ℕ, zero, suc, ◌+◌, ◌<◌, ◌≤◌, Bool, true, false, cond, ◌&&◌, ltb, leb, List, [], ◌∷◌, length, get_or, ℤ, pos, negsuc, nat_abs, Some, None, Ok, Err, Option, Result, IfOk, IfErr, sym, refl, ap, ◌∙◌, arith}
use Rattle.std.proofs.lemmas.Bool.{leb-true, ltb-true, and_parts}
use Rattle.std.proofs.lemmas.List.{same_lists, get_or_default}
use Rattle.plancheck.specs.Numbers.{first_beyond, bounded, each_within, denominator_of}
use Rattle.rows.specs.Limits.{largest}

bounded_by : (bound : ℕ) (z : ℤ) (b : Bool) → leb (nat_abs z) bound ≡ b → bounded bound z ≡ cond b (Some z) None
bounded_by bound z b e = ap (λ (t : Bool). cond t (Some z) None) e

pub some_bounded : (bound : ℕ) (z y : ℤ) → Some y ≡ bounded bound z → (leb (nat_abs z) bound ≡ true) × (y ≡ z)
some_bounded bound z y e = by (leb (nat_abs z) bound) refl
  where
    by : (b : Bool) → leb (nat_abs z) bound ≡ b → (leb (nat_abs z) bound ≡ true) × (y ≡ z)
    by true n = (n, (let h = e ∙ bounded_by bound z true n in cc))
    by false n = absurd (let h = e ∙ bounded_by bound z false n in let o : ◌≡◌ {A = ℕ} 0 1 = cc in omega arith)

none_bounded : (bound : ℕ) (z : ℤ) → None ≡ bounded bound z → leb (nat_abs z) bound ≡ false
none_bounded bound z e = by (leb (nat_abs z) bound) refl
  where
    by : (b : Bool) → leb (nat_abs z) bound ≡ b → leb (nat_abs z) bound ≡ false
    by true n = absurd (let h = e ∙ bounded_by bound z true n in let o : ◌≡◌ {A = ℕ} 0 1 = cc in omega arith)
    by false n = n

-- no number is
none_beyond : (bound k : ℕ) (zs : List ℤ) → ((j : ℕ) → j < length zs → (t : ℤ) × (Some t ≡ bounded bound (get_or zs j (pos 0)))) → first_beyond bound k zs ≡ None
none_beyond bound k [] h = refl
none_beyond bound k (z ∷ zs) h =
    let e = (some_bounded bound z (h 0 (omega arith)).0 (h 0 (omega arith)).1).0 in
    rw e (none_beyond bound (k + 1) zs (λ j l. h (suc j) (omega arith)))

-- the number at i is, and none before it
some_beyond : (bound k i : ℕ) (zs : List ℤ) → i < length zs → None ≡ bounded bound (get_or zs i (pos 0)) → ((j : ℕ) → j < i → (t : ℤ) × (Some t ≡ bounded bound (get_or zs j (pos 0)))) → first_beyond bound k zs ≡ Some (k + i)
some_beyond bound k i [] l n h = absurd (omega arith)
some_beyond bound k zero (z ∷ zs) l n h = rw (none_bounded bound z n) (ap Some (let e : k ≡ k + 0 = omega arith in e))
some_beyond bound k (suc i) (z ∷ zs) l n h =
    let e = (some_bounded bound z (h 0 (omega arith)).0 (h 0 (omega arith)).1).0 in
    rw e (some_beyond bound (k + 1) i zs (omega arith) n (λ j m. h (suc j) (omega arith)) ∙ ap Some (let e : k + 1 + i ≡ k + suc i = omega arith in e))

-- what the search found, as a reply
pub refused : (bound : ℕ) (zs : List ℤ) (k : ℕ) → first_beyond bound 0 zs ≡ Some k → Err k ≡ each_within bound zs
refused bound zs k e = rw (each_within, e) refl

pub accepted : (bound : ℕ) (zs all : List ℤ) → first_beyond bound 0 zs ≡ None → all ≡ zs → Ok all ≡ each_within bound zs
accepted bound zs all e same = rw (each_within, e) (ap Ok same)

-- a reply, as what the search found
pub found : (bound : ℕ) (zs : List ℤ) (k : ℕ) → Err k ≡ each_within bound zs → first_beyond bound 0 zs ≡ Some k
found bound zs k e = by (first_beyond bound 0 zs) refl
  where
    by : (o : Option ℕ) → first_beyond bound 0 zs ≡ o → first_beyond bound 0 zs ≡ Some k
    by (Some j) h = h ∙ ap Some (let q : ◌≡◌ {A = Result (List ℤ) ℕ} (Err k) (Err j) = e ∙ sym (refused bound zs j h) in let s : j ≡ k = cc in s)
    by None h = absurd (let q : ◌≡◌ {A = Result (List ℤ) ℕ} (Err k) (Ok zs) = e ∙ sym (accepted bound zs zs h refl) in let o : ◌≡◌ {A = ℕ} 0 1 = cc in omega arith)

pub none_found : (bound : ℕ) (zs all : List ℤ) → Ok all ≡ each_within bound zs → (first_beyond bound 0 zs ≡ None) × (all ≡ zs)
none_found bound zs all e = by (first_beyond bound 0 zs) refl
  where
    by : (o : Option ℕ) → first_beyond bound 0 zs ≡ o → (first_beyond bound 0 zs ≡ None) × (all ≡ zs)
    by (Some j) h = absurd (let q : ◌≡◌ {A = Result (List ℤ) ℕ} (Ok all) (Err j) = e ∙ sym (refused bound zs j h) in let o : ◌≡◌ {A = ℕ} 0 1 = cc in omega arith)
    by None h = (h, (let q : ◌≡◌ {A = Result (List ℤ) ℕ} (Ok all) (Ok zs) = e ∙ sym (accepted bound zs zs h refl) in let s : all ≡ zs = cc in s))

-- where nothing is found, each number is within the bound
pub all_within : (bound k : ℕ) (zs : List ℤ) → first_beyond bound k zs ≡ None → (j : ℕ) → nat_abs (get_or zs j (pos 0)) ≤ bound
all_within bound k [] e j = omega arith
all_within bound k (z ∷ zs) e j = by (leb (nat_abs z) bound) refl (all_within bound (k + 1) zs) j
  where
    by : (b : Bool) → leb (nat_abs z) bound ≡ b → (first_beyond bound (k + 1) zs ≡ None → (j : ℕ) → nat_abs (get_or zs j (pos 0)) ≤ bound) → (j : ℕ) → nat_abs (get_or (z ∷ zs) j (pos 0)) ≤ bound
    by true h more zero = leb-true (nat_abs z) bound h
    by true h more (suc j) = more (sym (ap (λ (t : Bool). cond t (first_beyond bound (k + 1) zs) (Some k)) h) ∙ e) j
    by false h more j = absurd (let q : ◌≡◌ {A = Option ℕ} (Some k) None = sym (ap (λ (t : Bool). cond t (first_beyond bound (k + 1) zs) (Some k)) h) ∙ e in let o : ◌≡◌ {A = ℕ} 0 1 = cc in omega arith)

-- a denominator that was read
pub some_denominator : (z : ℤ) (n : ℕ) → Some n ≡ denominator_of z → (0 < n) × (n ≤ largest)
some_denominator (pos m) n e = by (ltb 0 m && leb m largest) refl
  where
    by : (b : Bool) → (ltb 0 m && leb m largest) ≡ b → (0 < n) × (n ≤ largest)
    by true h =
        let q : ◌≡◌ {A = Option ℕ} (Some n) (Some m) = e ∙ ap (λ (t : Bool). cond t (Some m) None) h in
        let same : n ≡ m = cc in
        let parts = and_parts (ltb 0 m) (leb m largest) h in
        (omega (arith, same, ltb-true 0 m parts.0), omega (arith, same, leb-true m largest parts.1))
    by false h = absurd (let q : ◌≡◌ {A = Option ℕ} (Some n) None = e ∙ ap (λ (t : Bool). cond t (Some m) None) h in let o : ◌≡◌ {A = ℕ} 0 1 = cc in omega arith)
some_denominator (negsuc m) n e = absurd (let o : ◌≡◌ {A = ℕ} 0 1 = cc in omega arith)

-- each number was narrowed by itself
pub each_is : (bound n : ℕ) (zs : List ℤ) (r : Result (List ℤ) ℕ)
    → length zs ≡ n
    → IfOk r (λ all. (length all ≡ n) × ((k : ℕ) (d : ℤ) → k < n → Some (get_or all k d) ≡ bounded bound (get_or zs k (pos 0))))
    → IfErr r (λ k. (k < n) × (None ≡ bounded bound (get_or zs k (pos 0))) × ((j : ℕ) → j < k → (t : ℤ) × (Some t ≡ bounded bound (get_or zs j (pos 0)))))
    → r ≡ each_within bound zs
each_is bound n zs (Err k) size ok err = refused bound zs k (some_beyond bound 0 k zs (omega (arith, size, err.0)) err.1 err.2 ∙ ap Some (let e : 0 + k ≡ k = omega arith in e))
each_is bound n zs (Ok all) size ok err =
    accepted bound zs all
    (none_beyond bound 0 zs (λ j l. (get_or all j (pos 0), ok.1 j (pos 0) (omega (arith, size)))))
    (same_lists all zs (ok.0 ∙ sym size) (λ k d l.
    let e = (some_bounded bound (get_or zs k (pos 0)) (get_or all k d) (ok.1 k d (omega (arith, ok.0)))).1 in
    e ∙ get_or_default zs k (pos 0) d (omega (arith, ok.0, size))))
