-- One turn of the working, with the rows in one list and a place in it. Assumes nothing.
use Rattle.std.proofs.Common.{◌≡◌, ℕ, suc, ◌+◌, ◌<◌, Bool, true, false, ltb, List, [], ◌∷◌, ◌++◌, length, get_or, take, drop, nat_abs, Some, None, Option, sym, refl, ap, ◌∙◌, arith}
use Rattle.std.proofs.lemmas.List.{at_drop_more, take_more, take_at, drop_at, length-take-le}
use Rattle.engine.specs.Verdicts.{number_beyond}
use Rattle.rows.proofs.Alls.{none_some}
use Rattle.substitution.specs.Reduction.{Kept, Pivot, Reduced, Reduced.clashing, Reduced.faulty, is_equation, first_fader, cancel_all, contradiction, reduced}
use Rattle.substitution.proofs.Cancels.{joined, cancel_append, cancel_length}

-- the row r between those before it and those after
module _ (n : ℕ) (before after : List Kept) (r : Kept) (ps : List Pivot) where
  -- it is solved for fader k
  solved_for : ℕ → Option (List Kept) → Option (List Kept) → Reduced
  solved_for k xs ys = elim xs [
    | None ↦ faulty (number_beyond k)
    | Some bs ↦ elim ys [
      | None ↦ faulty (number_beyond k)
      | Some rest ↦ reduced n bs rest (record { fader = k; sum = r.sum } ∷ ps)
    ]
  ]

  by_tests : Bool → Option ℕ → Bool → Reduced
  by_tests q f z = elim q [
    | false ↦ reduced n (before ++ r ∷ []) after ps
    | true ↦ elim f [
      | None ↦ elim z [ true ↦ clashing (contradiction r.sum) | false ↦ reduced n before after ps ]
      | Some k ↦ solved_for k (cancel_all k r.sum before) (cancel_all k r.sum after)
    ]
  ]

  turn : (q : Bool) (f : Option ℕ) (z : Bool) → is_equation r.kind ≡ q → first_fader 0 r.sum.coefficients ≡ f → ltb 0 (nat_abs r.sum.side) ≡ z
      → reduced (suc n) before (r ∷ after) ps ≡ by_tests q f z
  unfolding by_tests solved_for
  turn q f z a b c = λ j. by_tests (a j) (b j) (c j)

  beyond : (k : ℕ) (xs ys : Option (List Kept)) → joined xs ys ≡ None → solved_for k xs ys ≡ faulty (number_beyond k)
  unfolding solved_for
  beyond k None ys e = refl
  beyond k (Some bs) None e = refl
  beyond k (Some bs) (Some rest) e = absurd (none_some (bs ++ rest) (sym e))

  near : (k i : ℕ) (xs ys : Option (List Kept)) (rs : List Kept) → ((bs : List Kept) → xs ≡ Some bs → length bs ≡ i) → joined xs ys ≡ Some rs
      → solved_for k xs ys ≡ reduced n (take i rs) (drop i rs) (record { fader = k; sum = r.sum } ∷ ps)
  unfolding solved_for
  near k i None ys rs l e = absurd (none_some rs e)
  near k i (Some bs) None rs l e = absurd (none_some rs e)
  near k i (Some bs) (Some rest) rs l e =
      let s : bs ++ rest ≡ rs = cc in
      λ j. reduced n ((sym (take_at bs rest i (l bs refl)) ∙ ap (take i) s) j) ((sym (drop_at bs rest i (l bs refl)) ∙ ap (drop i) s) j) (record { fader = k; sum = r.sum } ∷ ps)

-- the row r at place i of the rows that stand
module _ (m n i : ℕ) (rows : List Kept) (r : Kept) (ps : List Pivot) (u : m ≡ suc n) (h : i < length rows) (e : get_or rows i r ≡ r) where
  opened : reduced m (take i rows) (drop i rows) ps ≡ reduced (suc n) (take i rows) (r ∷ drop (i + 1) rows) ps
  opened =
      ap (λ (x : ℕ). reduced x (take i rows) (drop i rows) ps) u
      ∙ at_drop_more (λ (x : List Kept). reduced (suc n) (take i rows) x ps) rows i r h
      ∙ ap (λ (x : Kept). reduced (suc n) (take i rows) (x ∷ drop (i + 1) rows) ps) e

  by : (q : Bool) (f : Option ℕ) (z : Bool) → is_equation r.kind ≡ q → first_fader 0 r.sum.coefficients ≡ f → ltb 0 (nat_abs r.sum.side) ≡ z
      → reduced m (take i rows) (drop i rows) ps ≡ by_tests n (take i rows) (drop (i + 1) rows) r ps q f z
  by q f z a b c = opened ∙ turn n (take i rows) (drop (i + 1) rows) r ps q f z a b c

  pub passed : is_equation r.kind ≡ false → reduced m (take i rows) (drop i rows) ps ≡ reduced n (take (i + 1) rows) (drop (i + 1) rows) ps
  unfolding by_tests
  passed a =
      by false _ _ a refl refl
      ∙ ap (λ (x : List Kept). reduced n x (drop (i + 1) rows) ps) (sym (take_more rows i r h ∙ ap (λ (x : Kept). take i rows ++ x ∷ []) e))

  pub contradicted : is_equation r.kind ≡ true → first_fader 0 r.sum.coefficients ≡ None → ltb 0 (nat_abs r.sum.side) ≡ true
      → reduced m (take i rows) (drop i rows) ps ≡ clashing (contradiction r.sum)
  unfolding by_tests
  contradicted a b c = by true None true a b c

  -- the rows without it
  module _ (rest : List Kept) (w : rest ≡ take i rows ++ drop (i + 1) rows) where
    first_part : length (take i rows) ≡ i
    first_part = length-take-le i rows (omega arith)

    pub emptied : is_equation r.kind ≡ true → first_fader 0 r.sum.coefficients ≡ None → ltb 0 (nat_abs r.sum.side) ≡ false
        → reduced m (take i rows) (drop i rows) ps ≡ reduced n (take i rest) (drop i rest) ps
    unfolding by_tests
    emptied a b c =
        by true None false a b c
        ∙ (λ j. reduced n ((sym (ap (take i) w ∙ take_at (take i rows) (drop (i + 1) rows) i first_part)) j) ((sym (ap (drop i) w ∙ drop_at (take i rows) (drop (i + 1) rows) i first_part)) j) ps)

    pub stopped : (k : ℕ) → is_equation r.kind ≡ true → first_fader 0 r.sum.coefficients ≡ Some k → cancel_all k r.sum rest ≡ None
        → reduced m (take i rows) (drop i rows) ps ≡ faulty (number_beyond k)
    unfolding by_tests
    stopped k a b c =
        by true (Some k) _ a b refl
        ∙ beyond n (take i rows) (drop (i + 1) rows) r ps k (cancel_all k r.sum (take i rows)) (cancel_all k r.sum (drop (i + 1) rows))
        (sym (cancel_append k r.sum (take i rows) (drop (i + 1) rows)) ∙ ap (cancel_all k r.sum) (sym w) ∙ c)

    pub solved : (k : ℕ) (next : List Kept) → is_equation r.kind ≡ true → first_fader 0 r.sum.coefficients ≡ Some k → cancel_all k r.sum rest ≡ Some next
        → reduced m (take i rows) (drop i rows) ps ≡ reduced n (take i next) (drop i next) (record { fader = k; sum = r.sum } ∷ ps)
    unfolding by_tests
    solved k next a b c =
        by true (Some k) _ a b refl
        ∙ near n (take i rows) (drop (i + 1) rows) r ps k i (cancel_all k r.sum (take i rows)) (cancel_all k r.sum (drop (i + 1) rows)) next
        (λ bs e. cancel_length k r.sum (take i rows) bs e ∙ first_part)
        (sym (cancel_append k r.sum (take i rows) (drop (i + 1) rows)) ∙ ap (cancel_all k r.sum) (sym w) ∙ c)
