-- A fader set within the limits of its lines: if the levels meet the lines that stand after the fader's elimination, the new levels meet those that stood before it. Assumes nothing.
use Rattle.std.specs.Prelude.{◌≡◌, ℕ, ◌*◌, ◌<◌, Bool, true, false, ◌&&◌, ◌||◌, ◌⊎◌, List, [], ◌∷◌, map, length, get_or, ℤ, pos, negsuc, neg_ℤ, Some, None, Option, nat_lt, slice_index_or, unsigned_abs, refl}
use Rattle.std.proofs.Common.{sym, subst, subst₂, inl, inr, mul-pos}
use Rattle.std.specs.List.{AllByRecursion}
use Rattle.std.proofs.lemmas.Bool.{and_parts, and_from, cases_Bool}
use Rattle.std.proofs.ByRecursion.{All-weaker, kept_by_passes}
use Rattle.elimination.specs.Table.{Line, coefficient, stands, is_positive, is_negative, uppers, lowers, size, combined, pairs, set_aside}
use Rattle.elimination.specs.Levels.{Levels, Limit, remaining, upper_limit, lower_limit, also, limits, better_upper, better_lower, first_best, value, with_level, placed, chosen}
use Rattle.rows.proofs.Alls.{unmap, none_some}
use Rattle.elimination.specs.Alls.{both, unkept}
use Rattle.elimination.specs.Unders.{Held, Across, cross_left, cross_right}
use Rattle.elimination.specs.Between.{Lowered, lowered, Proper, Above, Below, Room, Between, between}
use Rattle.elimination.specs.Blending.{positive_is, negative_is, zero_is, combined_room}
use Rattle.elimination.specs.Placing.{raised, held_free, held_upper, held_lower, Leveled, leveled, leveled_held}
use Rattle.elimination.specs.Steps.{Upper, Lower, sum_of, sums_of, un_pairs, stands_still}

-- ---- the limits of lines

abbrev pub Limited : (Line → Option Limit) → List Line → List Limit → Type 0
Limited f [] [] = Unit {0}
Limited f [] (l ∷ ls) = ⊥
Limited f (r ∷ rs) [] = ⊥
Limited f (r ∷ rs) (l ∷ ls) = (f r ≡ Some l) × Limited f rs ls

also_some : (o : Option Limit) (p : Option (List Limit)) (ls : List Limit) → also o p ≡ Some ls → (l : Limit) × (ms : List Limit) × (o ≡ Some l) × (p ≡ Some ms) × (l ∷ ms ≡ ls)
also_some None p ls e = absurd (none_some ls e)
also_some (Some l) None ls e = absurd (none_some ls e)
also_some (Some l) (Some ms) ls e = (l, ms, refl, refl, cc)

pub limited : (f : Line → Option Limit) (rs : List Line) (ls : List Limit) → limits f rs ≡ Some ls → Limited f rs ls
limited f [] ls e = let z : [] ≡ ls = cc in subst (Limited f []) z tt
limited f (r ∷ rs) ls e =
    let a = also_some (f r) (limits f rs) ls e in
    subst (Limited f (r ∷ rs)) a.4 (a.2, limited f rs a.1 a.3)

limited_to : (f : Line → Option Limit) (P : Line → Type 0) (Q : Limit → Type 0) → ((r : Line) (l : Limit) → f r ≡ Some l → P r → Q l) → (rs : List Line) (ls : List Limit) → Limited f rs ls → AllByRecursion P rs → AllByRecursion Q ls
limited_to f P Q g [] [] h p = tt
limited_to f P Q g [] (l ∷ ls) h p = absurd h
limited_to f P Q g (r ∷ rs) [] h p = absurd h
limited_to f P Q g (r ∷ rs) (l ∷ ls) h p = (g r l h.0 p.0, limited_to f P Q g rs ls h.1 p.1)

limited_from : (f : Line → Option Limit) (P : Line → Type 0) (Q : Limit → Type 0) → ((r : Line) (l : Limit) → f r ≡ Some l → Q l → P r) → (rs : List Line) (ls : List Limit) → Limited f rs ls → AllByRecursion Q ls → AllByRecursion P rs
limited_from f P Q g [] [] h q = tt
limited_from f P Q g [] (l ∷ ls) h q = absurd h
limited_from f P Q g (r ∷ rs) [] h q = absurd h
limited_from f P Q g (r ∷ rs) (l ∷ ls) h q = (g r l h.0 q.0, limited_from f P Q g rs ls h.1 q.1)

chosen_some : (a b : Option (List Limit)) (v : Limit) → chosen a b ≡ Some v → (ls : List Limit) × (us : List Limit) × (a ≡ Some ls) × (b ≡ Some us) × (value (first_best better_lower ls) (first_best better_upper us) ≡ Some v)
chosen_some None b v e = absurd (none_some v e)
chosen_some (Some ls) None v e = absurd (none_some v e)
chosen_some (Some ls) (Some us) v e = (ls, us, refl, refl, e)

placed_some : (k : ℕ) (x : Levels) (o : Option Limit) (y : Levels) → placed k x o ≡ Some y → (v : Limit) × (o ≡ Some v) × (with_level k x v ≡ Some y)
placed_some k x None y e = absurd (none_some y e)
placed_some k x (Some v) y e = (v, refl, e)

-- ---- lines and their limits

module _ (k : ℕ) (x : Levels) (pd : 0 < x.denominator) where
  upper_some : (u : Line) → Upper k u → 0 < size k u * x.denominator
  upper_some u p = mul-pos (positive_is (coefficient u k) (and_parts (stands u) (is_positive (coefficient u k)) p).1).0 pd

  lower_some : (l : Line) → Lower k l → 0 < size k l * x.denominator
  lower_some l p = mul-pos (negative_is (coefficient l k) (and_parts (stands l) (is_negative (coefficient l k)) p).1).0 pd

  upper_is : (u : Line) (b : Limit) → Upper k u → upper_limit k x u ≡ Some b → Lowered (remaining x u) (size k u * x.denominator) u.strict b
  upper_is u b p e = lowered (remaining x u) (size k u * x.denominator) u.strict b (upper_some u p) e

  lower_is : (l : Line) (a : Limit) → Lower k l → lower_limit k x l ≡ Some a → Lowered (neg_ℤ (remaining x l)) (size k l * x.denominator) l.strict a
  lower_is l a p e = lowered (neg_ℤ (remaining x l)) (size k l * x.denominator) l.strict a (lower_some l p) e

  -- the sum of the two lines is met: their limits leave room
  room_of : (u l : Line) (b a : Limit) → Upper k u → Lower k l → upper_limit k x u ≡ Some b → lower_limit k x l ≡ Some a → Held x.numerators x.denominator (combined k u l) → Room a b
  room_of u l b a p q eb ea h =
      let ub = upper_is u b p eb in
      let la = lower_is l a q ea in
      let s = u.strict || l.strict in
      let pu = upper_some u p in
      let pl = lower_some l q in
      let N = remaining x u in
      let M = neg_ℤ (remaining x l) in
      let n = size k u * x.denominator in
      let m = size k l * x.denominator in
      let i : Across s M m N n = combined_room k u l (and_parts (stands u) (is_positive (coefficient u k)) p).1 (and_parts (stands l) (is_negative (coefficient l k)) q).1 x pd h in
      let j : Across s M m b.numerator b.denominator = cross_right M m N n b.numerator b.denominator s pl pu ub.some ub.same i in
      let o : Across s a.numerator a.denominator b.numerator b.denominator = cross_left a.numerator a.denominator M m b.numerator b.denominator s la.some pl ub.some (sym la.same) j in
      subst₂ (λ (y z : Bool). Across (y || z) a.numerator a.denominator b.numerator b.denominator) (sym ub.strictness) (sym la.strictness) o

  module _ (v : Limit) (pv : 0 < v.denominator) (kl : k < length x.numerators) (unset : get_or x.numerators k (pos 0) ≡ pos 0) where
    upper_held : (u : Line) (b : Limit) → Upper k u → upper_limit k x u ≡ Some b → Below b v.numerator v.denominator → Held (raised k x v) (x.denominator * v.denominator) u
    upper_held u b p e h =
        let ub = upper_is u b p e in
        held_upper k x v pv kl unset u (and_parts (stands u) (is_positive (coefficient u k)) p).1
        (cross_right v.numerator v.denominator b.numerator b.denominator (remaining x u) (size k u * x.denominator) u.strict pv ub.some (upper_some u p) (sym ub.same)
        (subst (λ (s : Bool). Across s v.numerator v.denominator b.numerator b.denominator) ub.strictness h))

    lower_held : (l : Line) (a : Limit) → Lower k l → lower_limit k x l ≡ Some a → Above a v.numerator v.denominator → Held (raised k x v) (x.denominator * v.denominator) l
    lower_held l a p e h =
        let la = lower_is l a p e in
        held_lower k x v pv kl unset l (and_parts (stands l) (is_negative (coefficient l k)) p).1
        (cross_left (neg_ℤ (remaining x l)) (size k l * x.denominator) a.numerator a.denominator v.numerator v.denominator l.strict (lower_some l p) la.some pv la.same
        (subst (λ (s : Bool). Across s a.numerator a.denominator v.numerator v.denominator) la.strictness h))

signs : (z : ℤ) → (is_positive z ≡ true) ⊎ ((is_negative z ≡ true) ⊎ (nat_lt 0 (unsigned_abs z) ≡ false))
signs (pos n) = elim (cases_Bool (nat_lt 0 n)) [ inl e ↦ inl e | inr e ↦ inr (inr e) ]
signs (negsuc n) = inr (inl refl)

-- ---- the step

-- a line that stands is met
abbrev pub Met : Levels → Line → Type 0
Met x r = stands r ≡ true → Held x.numerators x.denominator r

-- y is x with fader k at some value, over the least denominator
pub record Set (k : ℕ) (x y : Levels) : Type 0 where
  pub to : Limit
  pub proper : 0 < to.denominator
  pub leveled : Leveled (raised k x to) (x.denominator * to.denominator) y

abbrev pub found : ℕ → Levels → List Line → Option Limit
found k x t = chosen (limits (lower_limit k x) (lowers k t)) (limits (upper_limit k x) (uppers k t))

pub extends : (k : ℕ) (t : List Line) (x y : Levels) → 0 < x.denominator → k < length x.numerators → slice_index_or x.numerators k (pos 0) ≡ pos 0 → AllByRecursion (Met x) (map (set_aside k) t) → AllByRecursion (Met x) (sums_of k t) → placed k x (found k x t) ≡ Some y → Set k x y × AllByRecursion (Met y) t
extends k t x y pd kl unset old new e =
    let us = uppers k t in
    let ls = lowers k t in
    let a = placed_some k x (found k x t) y e in
    let v = a.0 in
    let c = chosen_some (limits (lower_limit k x) ls) (limits (upper_limit k x) us) v a.1 in
    let as' = c.0 in
    let bs = c.1 in
    let la : Limited (lower_limit k x) ls as' = limited (lower_limit k x) ls as' c.2 in
    let lb : Limited (upper_limit k x) us bs = limited (upper_limit k x) us bs c.3 in
    let isu : AllByRecursion (Upper k) us = kept_by_passes (λ r. stands r && is_positive (coefficient r k)) t in
    let isl : AllByRecursion (Lower k) ls = kept_by_passes (λ r. stands r && is_negative (coefficient r k)) t in
    let met : AllByRecursion (λ u. AllByRecursion (λ l. Met x (combined k u l)) ls) us = un_pairs (λ p. Met x (sum_of k p)) us ls (unmap (Met x) (sum_of k) (pairs us ls) new) in
    let rooms : AllByRecursion (λ b. AllByRecursion (λ a. Room a b) as') bs =
    limited_to (upper_limit k x) (λ u. Upper k u × AllByRecursion (λ l. Met x (combined k u l)) ls) (λ b. AllByRecursion (λ a. Room a b) as')
    (λ u b eb m. limited_to (lower_limit k x) (λ l. Lower k l × Met x (combined k u l)) (λ a. Room a b)
    (λ l a ea n. room_of k x pd u l b a m.0 n.0 eb ea (n.1 refl)) ls as' la (both (Lower k) (λ l. Met x (combined k u l)) ls isl m.1))
    us bs lb (both (Upper k) (λ u. AllByRecursion (λ l. Met x (combined k u l)) ls) us isu met) in
    let o : Between v as' bs = between as' bs v
    (limited_to (lower_limit k x) (Lower k) Proper (λ l a ea p. (lower_is k x pd l a p ea).some) ls as' la isl)
    (limited_to (upper_limit k x) (Upper k) Proper (λ u b eb p. (upper_is k x pd u b p eb).some) us bs lb isu)
    rooms c.4 in
    let New : Line → Type 0 = Held (raised k x v) (x.denominator * v.denominator) in
    let upper : AllByRecursion (λ u. Upper k u → New u) us = limited_from (upper_limit k x) (λ u. Upper k u → New u) (λ b. Below b v.numerator v.denominator) (λ u b eb h p. upper_held k x pd v o.some kl unset u b p eb h) us bs lb o.high in
    let lower : AllByRecursion (λ l. Lower k l → New l) ls = limited_from (lower_limit k x) (λ l. Lower k l → New l) (λ a. Above a v.numerator v.denominator) (λ l a ea h p. lower_held k x pd v o.some kl unset l a p ea h) ls as' la o.low in
    let far : AllByRecursion (λ u. Upper k u → Upper k u → New u) t = unkept (λ u. Upper k u → New u) (λ r. stands r && is_positive (coefficient r k)) t upper in
    let low : AllByRecursion (λ l. Lower k l → Lower k l → New l) t = unkept (λ l. Lower k l → New l) (λ r. stands r && is_negative (coefficient r k)) t lower in
    let still : AllByRecursion (λ r. Met x (set_aside k r)) t = unmap (Met x) (set_aside k) t old in
    let lev = leveled (raised k x v) (x.denominator * v.denominator) y (mul-pos pd o.some) a.2 in
    let all : AllByRecursion (λ r. (Upper k r → Upper k r → New r) × ((Lower k r → Lower k r → New r) × Met x (set_aside k r))) t =
    both (λ u. Upper k u → Upper k u → New u) (λ r. (Lower k r → Lower k r → New r) × Met x (set_aside k r)) t far (both (λ l. Lower k l → Lower k l → New l) (λ r. Met x (set_aside k r)) t low still) in (
      record { to = v; proper = o.some; leveled = lev },
      All-weaker (λ r. (Upper k r → Upper k r → New r) × ((Lower k r → Lower k r → New r) × Met x (set_aside k r))) (Met y)
          (λ r m st. leveled_held (raised k x v) (x.denominator * v.denominator) y lev r (elim (signs (coefficient r k)) [
            | inl p ↦ (let h = and_from (stands r) (is_positive (coefficient r k)) st p in m.0 h h)
            | inr (inl p) ↦ (let h = and_from (stands r) (is_negative (coefficient r k)) st p in m.1.0 h h)
            | inr (inr p) ↦ held_free k x v o.some kl unset r (zero_is (coefficient r k) p) (m.1.1 (stands_still k r st p))
          ]))
          t all,
    )
