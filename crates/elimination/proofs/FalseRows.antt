-- The choice of the first best by a rank over the whole table is the choice among the false rows. Assumes nothing.
use Rattle.std.proofs.Common.{◌≡◌, ℕ, ◌≤◌, Bool, true, false, cond, not, ltb, leb, List, [], ◌∷◌, length, get_or, Some, None, filter, Option, sym, refl, ap, ◌∙◌, arith}
use Rattle.std.specs.Bool.{then_some}
use Rattle.std.specs.Option.{option_map}
use Rattle.std.specs.List.{best_of}
use Rattle.std.proofs.lemmas.List.MinMax.{IsStrictWeakOrder-from_at_least, IsFirstBest-from_best_of, IsFirstBest-unique}
use Rattle.std.proofs.lemmas.List.Sums.{count_by-le-length}
use Rattle.std.proofs.lemmas.Bool.Decides.{nat_tests}
use Rattle.std.proofs.lemmas.Bool.{leb-true, leb-false, le-leb, lt-leb, cond-true, cond-false}
use Rattle.integers.specs.Choice.{beats, FirstBest}
use Rattle.elimination.specs.declared.cell.Cell.{Cell}
use Rattle.elimination.specs.Table.{Line}
use Rattle.elimination.specs.Levels.{first_best}
use Rattle.elimination.specs.Lines.{line, lines}
use Rattle.elimination.specs.Working.{is_false, support, chosen_false}
use Rattle.elimination.specs.Choosing.{rank, not_worse}

-- ---- the place of the first best, and the first best as a fold
pub chosen_is : {X : Type 0} (nw : X → X → Bool) → ((x y : X) → nw x y ≡ false → nw y x ≡ true) → ((x y z : X) → nw x y ≡ true → nw y z ≡ true → nw x z ≡ true)
    → (xs : List X) (b : ℕ) (d : X) → FirstBest nw xs b → first_best (beats nw) xs ≡ Some (get_or xs b d)
chosen_is nw total chain [] b d f = absurd (omega (arith, f.within))
chosen_is nw total chain (a ∷ xs) b d f =
    let o = IsStrictWeakOrder-from_at_least nw total chain in
    let g = IsFirstBest-from_best_of o a xs in
    let e : g.0 ≡ b = IsFirstBest-unique o (a ∷ xs) (length (a ∷ xs)) g.0 b a g.1 (f.within, f.none_better, f.first) in
    ap (λ y. Some y) (sym g.2 ∙ ap (λ (i : ℕ). get_or (a ∷ xs) i a) e ∙ Rattle.std.proofs.lemmas.List.get_or_default (a ∷ xs) b a d f.within)

-- ---- by rank
pub rank_total : (x y : Cell) → not_worse x y ≡ false → not_worse y x ≡ true
rank_total x y e = le-leb (rank (line y)) (rank (line x)) (omega (arith, leb-false (rank (line x)) (rank (line y)) e))

pub rank_chain : (x y z : Cell) → not_worse x y ≡ true → not_worse y z ≡ true → not_worse x z ≡ true
rank_chain x y z e f = le-leb (rank (line x)) (rank (line z)) (omega (arith, leb-true (rank (line x)) (rank (line y)) e, leb-true (rank (line y)) (rank (line z)) f))

support_few : (c : Cell) → support (line c) ≤ 16
support_few c = omega (arith, count_by-le-length (λ w. ltb 0 (lib.IntN.nat_abs w)) c.row.weights, c.row.loads)

-- what a chosen row says
abbrev outcome : Cell → Option Line
outcome c = cond (is_false (line c)) (Some (line c)) None

abbrev fewer : Line → Line → Bool
fewer x y = ltb (support x) (support y)

not_leb : (a b : ℕ) → not (leb a b) ≡ ltb b a
not_leb a b = grind (arith, nat_tests)

rank_false : (c : Cell) → is_false (line c) ≡ true → rank (line c) ≡ support (line c)
rank_false c e = cond-true (is_false (line c)) (support (line c)) 17 e

rank_other : (c : Cell) → is_false (line c) ≡ false → rank (line c) ≡ 17
rank_other c e = cond-false (is_false (line c)) (support (line c)) 17 e

-- whether x is better than a, by whether they are false
better_both : (x a : Cell) → is_false (line x) ≡ true → is_false (line a) ≡ true → beats not_worse x a ≡ fewer (line x) (line a)
better_both x a p q = (λ i. not (leb (rank_false a q i) (rank_false x p i))) ∙ not_leb (support (line a)) (support (line x))

better_other : (x a : Cell) → is_false (line x) ≡ false → beats not_worse x a ≡ false
better_other x a p = by (is_false (line a)) refl
  where
    by : (b : Bool) → is_false (line a) ≡ b → beats not_worse x a ≡ false
    by true q = ap not ((λ i. leb (rank_false a q i) (rank_other x p i)) ∙ le-leb (support (line a)) 17 (omega (arith, support_few a)))
    by false q = ap not ((λ i. leb (rank_other a q i) (rank_other x p i)) ∙ le-leb 17 17 (omega arith))

better_first : (x a : Cell) → is_false (line x) ≡ true → is_false (line a) ≡ false → beats not_worse x a ≡ true
better_first x a p q = ap not ((λ i. leb (rank_other a q i) (rank_false x p i)) ∙ lt-leb 17 (support (line x)) (omega (arith, support_few x)))

-- what is kept of a list
kept_yes : (x : Cell) (xs : List Cell) → is_false (line x) ≡ true → filter is_false (lines (x ∷ xs)) ≡ line x ∷ filter is_false (lines xs)
kept_yes x xs p = cond-true (is_false (line x)) (line x ∷ filter is_false (lines xs)) (filter is_false (lines xs)) p

kept_other : (x : Cell) (xs : List Cell) → is_false (line x) ≡ false → filter is_false (lines (x ∷ xs)) ≡ filter is_false (lines xs)
kept_other x xs p = cond-false (is_false (line x)) (line x ∷ filter is_false (lines xs)) (filter is_false (lines xs)) p

-- the best so far is a false row, or there was none yet
best_step : (x a : Cell) (xs : List Cell) (b : Bool) → beats not_worse x a ≡ b → best_of (beats not_worse) a (x ∷ xs) ≡ best_of (beats not_worse) (cond b x a) xs
best_step x a xs b e = ap (λ (t : Bool). best_of (beats not_worse) (cond t x a) xs) e

from_false : (xs : List Cell) (a : Cell) → is_false (line a) ≡ true → outcome (best_of (beats not_worse) a xs) ≡ Some (best_of fewer (line a) (filter is_false (lines xs)))
from_false [] a p = cond-true (is_false (line a)) (Some (line a)) None p
from_false (x ∷ xs) a p = by (λ y. from_false xs y) (is_false (line x)) refl
  where
    pick : ((y : Cell) → is_false (line y) ≡ true → outcome (best_of (beats not_worse) y xs) ≡ Some (best_of fewer (line y) (filter is_false (lines xs)))) → (b : Bool) → beats not_worse x a ≡ b → is_false (line x) ≡ true → outcome (best_of (beats not_worse) a (x ∷ xs)) ≡ Some (best_of fewer (cond b (line x) (line a)) (filter is_false (lines xs)))
    pick ih true e q = ap outcome (best_step x a xs true e) ∙ ih x q
    pick ih false e q = ap outcome (best_step x a xs false e) ∙ ih a p

    by : ((y : Cell) → is_false (line y) ≡ true → outcome (best_of (beats not_worse) y xs) ≡ Some (best_of fewer (line y) (filter is_false (lines xs)))) → (b : Bool) → is_false (line x) ≡ b → outcome (best_of (beats not_worse) a (x ∷ xs)) ≡ Some (best_of fewer (line a) (filter is_false (lines (x ∷ xs))))
    by ih true q =
        pick ih (beats not_worse x a) refl q
        ∙ ap (λ (t : Bool). Some (best_of fewer (cond t (line x) (line a)) (filter is_false (lines xs)))) (better_both x a q p)
        ∙ ap (λ (l : List Line). Some (best_of fewer (line a) l)) (sym (kept_yes x xs q))
    by ih false q = ap outcome (best_step x a xs false (better_other x a q)) ∙ ih a p ∙ ap (λ (l : List Line). Some (best_of fewer (line a) l)) (sym (kept_other x xs q))

from_other : (xs : List Cell) (a : Cell) → is_false (line a) ≡ false → outcome (best_of (beats not_worse) a xs) ≡ first_best fewer (filter is_false (lines xs))
from_other [] a p = cond-false (is_false (line a)) (Some (line a)) None p
from_other (x ∷ xs) a p = by (from_other xs a p) (is_false (line x)) refl
  where
    by : outcome (best_of (beats not_worse) a xs) ≡ first_best fewer (filter is_false (lines xs)) → (b : Bool) → is_false (line x) ≡ b → outcome (best_of (beats not_worse) a (x ∷ xs)) ≡ first_best fewer (filter is_false (lines (x ∷ xs)))
    by ih true q = ap outcome (best_step x a xs true (better_first x a q p)) ∙ from_false xs x q ∙ ap (first_best fewer) (sym (kept_yes x xs q))
    by ih false q = ap outcome (best_step x a xs false (better_other x a q)) ∙ ih ∙ ap (first_best fewer) (sym (kept_other x xs q))

whole : (xs : List Cell) (a : Cell) → outcome (best_of (beats not_worse) a xs) ≡ chosen_false (lines (a ∷ xs))
whole xs a = by (is_false (line a)) refl
  where
    by : (b : Bool) → is_false (line a) ≡ b → outcome (best_of (beats not_worse) a xs) ≡ chosen_false (lines (a ∷ xs))
    by true p = from_false xs a p ∙ ap (first_best fewer) (sym (kept_yes a xs p))
    by false p = from_other xs a p ∙ ap (first_best fewer) (sym (kept_other a xs p))

-- the filter that keeps a false row
pub kept_outcome : (b : Bool) (c : Cell) (r : Option Cell) → b ≡ is_false (line c) → r ≡ then_some b c → option_map line r ≡ outcome c
kept_outcome b c r e h = ap (option_map line) h ∙ by b ∙ ap (λ (t : Bool). cond t (Some (line c)) None) e
  where
    by : (t : Bool) → option_map line (then_some t c) ≡ cond t (Some (line c)) None
    by true = refl
    by false = refl

-- the row that the place of the first best gives
pub false_chosen : (t : List Cell) (b : ℕ) (c : Cell) → FirstBest not_worse t b → c ≡ get_or t b c → outcome c ≡ chosen_false (lines t)
false_chosen [] b c f e = absurd (omega (arith, f.within))
false_chosen (a ∷ t) b c f e =
    let s = chosen_is not_worse rank_total rank_chain (a ∷ t) b c f in
    let q : best_of (beats not_worse) a t ≡ c = same (s ∙ ap (λ (x : Cell). Some x) (sym e)) in
    ap outcome (sym q) ∙ whole t a
  where
    same : {x y : Cell} → ◌≡◌ {A = Option Cell} (Some x) (Some y) → x ≡ y
    same r = cc
