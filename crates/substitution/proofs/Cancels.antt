-- A fader cancelled in one row after another. Assumes nothing.
use Rattle.std.proofs.Common.{◌≡◌, ℕ, suc, ◌+◌, ◌<◌, List, [], ◌∷◌, ◌++◌, length, get_or, take, drop, set, Some, None, Option, sym, refl, ap, ◌∙◌, arith}
use Rattle.std.proofs.lemmas.List.{map-append, take_more, take_more_set}
use Rattle.rows.specs.Carrying.{Sum}
use Rattle.rows.proofs.Alls.{none_some}
use Rattle.substitution.specs.declared.kept.Kept.{Kept as Held}
use Rattle.substitution.specs.Reduction.{Kept, cancel_one, also, cancel_all}
use Rattle.substitution.specs.Holding.{kept_of, kepts}
use Rattle.substitution.proofs.Places.{split_at, same_at}

-- two lists of rows in one, if both are there
abbrev pub joined : Option (List Kept) → Option (List Kept) → Option (List Kept)
joined None ys = None
joined (Some xs) None = None
joined (Some xs) (Some ys) = Some (xs ++ ys)

also_joined : (o : Option Kept) (xs ys : Option (List Kept)) → also o (joined xs ys) ≡ joined (also o xs) ys
also_joined None xs ys = refl
also_joined (Some r) None ys = refl
also_joined (Some r) (Some xs) None = refl
also_joined (Some r) (Some xs) (Some ys) = refl

none_joined : (ys : Option (List Kept)) → ys ≡ joined (Some []) ys
none_joined None = refl
none_joined (Some ys) = refl

pub cancel_append : (k : ℕ) (p : Sum) (xs ys : List Kept) → cancel_all k p (xs ++ ys) ≡ joined (cancel_all k p xs) (cancel_all k p ys)
cancel_append k p [] ys = none_joined (cancel_all k p ys)
cancel_append k p (x ∷ xs) ys = ap (also (cancel_one k p x)) (cancel_append k p xs ys) ∙ also_joined (cancel_one k p x) (cancel_all k p xs) (cancel_all k p ys)

pub cancel_length : (k : ℕ) (p : Sum) (xs us : List Kept) → cancel_all k p xs ≡ Some us → length us ≡ length xs
cancel_length k p [] us e = let z : us ≡ [] = cc in ap length z
cancel_length k p (x ∷ xs) us e = by (cancel_one k p x) (cancel_all k p xs) (cancel_length k p xs) e
  where
    by : (o : Option Kept) (rs : Option (List Kept)) → ((vs : List Kept) → rs ≡ Some vs → length vs ≡ length xs) → also o rs ≡ Some us → length us ≡ suc (length xs)
    by None rs f e = absurd (none_some us e)
    by (Some r) None f e = absurd (none_some us e)
    by (Some r) (Some rs) f e = let z : us ≡ r ∷ rs = cc in ap length z ∙ ap suc (f rs refl)

-- one turn: the row c at place i of t, which from there on is the list o
module _ (k : ℕ) (p : Sum) (i : ℕ) (o t : List Held) (c : Held) (g : i < length o) (left : drop i t ≡ drop i o) (is : c ≡ get_or t i c) (done : cancel_all k p (kepts (take i o)) ≡ Some (kepts (take i t))) where
  e : get_or o i c ≡ c
  e = sym (same_at i o t left i c (omega arith)) ∙ sym is

  -- it becomes d
  pub cancel_more : (d : Held) → i < length t → cancel_one k p (kept_of c) ≡ Some (kept_of d) → cancel_all k p (kepts (take (i + 1) o)) ≡ Some (kepts (take (i + 1) (set t i d)))
  cancel_more d h r =
      ap (λ (x : List Held). cancel_all k p (kepts x)) (take_more o i c g ∙ ap (λ (x : Held). take i o ++ x ∷ []) e)
      ∙ ap (cancel_all k p) (map-append kept_of (take i o) (c ∷ []))
      ∙ cancel_append k p (kepts (take i o)) (kept_of c ∷ [])
      ∙ (λ j. joined (done j) (also (r j) (Some [])))
      ∙ ap Some (sym (ap kepts (take_more_set t i d h) ∙ map-append kept_of (take i t) (d ∷ [])))

  -- it has a number beyond G
  pub cancel_stops : cancel_one k p (kept_of c) ≡ None → cancel_all k p (kepts o) ≡ None
  cancel_stops r =
      let rest = drop (i + 1) o in
      let s : o ≡ take i o ++ c ∷ rest = split_at o i c g ∙ (λ j. take i o ++ e j ∷ rest) in
      ap (λ (x : List Held). cancel_all k p (kepts x)) s
      ∙ ap (cancel_all k p) (map-append kept_of (take i o) (c ∷ rest))
      ∙ cancel_append k p (kepts (take i o)) (kepts (c ∷ rest))
      ∙ (λ j. joined (done j) (also (r j) (cancel_all k p (kepts rest))))
