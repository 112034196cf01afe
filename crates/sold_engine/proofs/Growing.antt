-- The elimination of a fader where all numbers are bounded: no fault, and bounds on the new table. Assumes nothing.
use Rattle.std.proofs.Common.{◌≡◌, ℕ, ◌+◌, ◌/◌, ◌≤◌, Bool, true, false, cond, not, ◌&&◌, ltb, List, [], ◌∷◌, map, length, pos, is_some, Some, None, Ok, Err, Option, Result, refl, ap, div-le_self, arith}
use Rattle.std.specs.List.{AllByRecursion as All}
use Rattle.std.proofs.ByRecursion.{All-map, All-weaker, all_kept_by, kept_by_passes}
use Rattle.std.proofs.lemmas.List.{length-append, length-map}
use Rattle.std.proofs.lemmas.Bool.{false≢true, and_parts, lt-ltb}
use Rattle.integers.specs.Divisors.{gcd_of}
use Rattle.engine.specs.declared.fault.Fault.{Fault}
use Rattle.engine.specs.Verdicts.{number_beyond, table_full}
use Rattle.elimination.specs.Table.{room, Line, coefficient, stands, is_positive, is_negative, uppers, lowers, size, combined, fits, before, sums, pairs, set_aside, joining, eliminated}
use Rattle.elimination.specs.Alls.{both}
use Rattle.elimination.specs.Blending.{zero_is, combined_lacks}
use Rattle.elimination.specs.Steps.{sum_of, sums_of, Fits, Step, step_all, all_pairs, Upper, Lower}
use Rattle.sold_engine.proofs.Bounded.{Bound, Bounded, Grows, bounded_fits, stays_bounded, sum_bounded}
use Rattle.sold_engine.proofs.Counts.{next}

abbrev pub LineBounded : Bound → Line → Type 0
LineBounded b r = Bounded b r.coefficients r.side r.weights

-- the fader for which a row is set aside; k for a row that stands when fader k is the next
abbrev pub generation : ℕ → Option ℕ → ℕ
generation k None = k
generation k (Some j) = j

-- a row has the bounds of its generation
abbrev pub Held : (ℕ → Bound) → ℕ → Line → Type 0
Held g k r = LineBounded (g (generation k r.aside)) r

pub standing_bounded : (g : ℕ → Bound) (k : ℕ) (r : Line) → stands r ≡ true → Held g k r → LineBounded (g k) r
standing_bounded g k r e h = by r.aside e h
  where
    by : (o : Option ℕ) → not (is_some o) ≡ true → LineBounded (g (generation k o)) r → LineBounded (g k) r
    by None e h = h
    by (Some j) e h = absurd (false≢true e)

-- ---- the sums of pairs

formed : (a b : Bool) (k : ℕ) (c : Line) (rest : Result (List Line) Fault) (rs : List Line) → a ≡ true → b ≡ true → rest ≡ Ok rs → ◌≡◌ {A = Result (List Line) Fault} (elim a [ true ↦ elim b [ true ↦ before c rest | false ↦ Err (number_beyond k) ] | false ↦ Err (table_full k) ]) (Ok (c ∷ rs))
formed true true k c rest rs p q e = ap (before c) e
formed true false k c rest rs p q e = absurd (false≢true q)
formed false b k c rest rs p q e = absurd (false≢true p)

sums_formed : (k held : ℕ) (ps : List (Line × Line)) → held + length ps ≤ room → All (λ p. Fits (sum_of k p)) ps → sums k held ps ≡ Ok (map (sum_of k) ps)
sums_formed k held [] h f = refl
sums_formed k held (p ∷ ps) h f =
    formed (ltb held room) (fits (sum_of k p)) k (sum_of k p) (sums k (held + 1) ps) (map (sum_of k) ps)
    (lt-ltb held room (omega arith)) f.0 (sums_formed k (held + 1) ps (omega arith) f.1)

-- ---- one fader, from generation k to the next one, n

module _ (g : ℕ → Bound) (k n : ℕ) (grows : Grows k (g k) (g n)) where
  aside_held : (r : Line) → Held g k r → Held g n (set_aside k r)
  aside_held r h = by r.aside (ltb 0 (size k r)) refl h
    where
      by : (o : Option ℕ) (b : Bool) → ltb 0 (size k r) ≡ b → LineBounded (g (generation k o)) r → LineBounded (g (generation n (cond (not (is_some o) && b) (Some k) o))) r
      by None true e h = h
      by None false e h = stays_bounded k (g k) (g n) grows r.coefficients r.side r.weights (zero_is (coefficient r k) e) h
      by (Some j) b e h = h

  combined_held : (u l : Line) → Upper k u → Lower k l → Held g k u → Held g k l → LineBounded (g n) (combined k u l)
  combined_held u l p q h i =
      let up = and_parts (stands u) (is_positive (coefficient u k)) p in
      let low = and_parts (stands l) (is_negative (coefficient l k)) q in
      let hu = standing_bounded g k u up.0 h in
      let hl = standing_bounded g k l low.0 i in
      let d = gcd_of (size k u) (size k l) in
      sum_bounded k (g k) (g n) grows (pos (size k l / d)) (pos (size k u / d)) u.coefficients u.side u.weights l.coefficients l.side l.weights
      (omega (arith, div-le_self (size k l) d, hl.coefficients k)) (omega (arith, div-le_self (size k u) d, hu.coefficients k))
      (combined_lacks k u l up.1 low.1) hu hl

  all_fit : (t : List Line) → All (Held g k) t → All (λ p. Fits (sum_of k p)) (pairs (uppers k t) (lowers k t))
  all_fit t h =
      let us = uppers k t in
      let ls = lowers k t in
      let isu : All (λ r. Upper k r × Held g k r) us = both (Upper k) (Held g k) us (kept_by_passes (λ r. stands r && is_positive (coefficient r k)) t) (all_kept_by (λ r. stands r && is_positive (coefficient r k)) (Held g k) t h) in
      let isl : All (λ r. Lower k r × Held g k r) ls = both (Lower k) (Held g k) ls (kept_by_passes (λ r. stands r && is_negative (coefficient r k)) t) (all_kept_by (λ r. stands r && is_negative (coefficient r k)) (Held g k) t h) in
      all_pairs (λ p. Fits (sum_of k p)) us ls
      (All-weaker (λ u. Upper k u × Held g k u) (λ u. All (λ l. Fits (combined k u l)) ls)
      (λ u m. All-weaker (λ l. Lower k l × Held g k l) (λ l. Fits (combined k u l))
      (λ l i. let c = combined k u l in bounded_fits (g n) grows.near c.coefficients c.side c.weights (combined_held u l m.0 i.0 m.1 i.1)) ls isl) us isu)

  pub eliminated_held : (t : List Line) → All (Held g k) t → length (next k t) ≤ room → (eliminated k t ≡ Ok (next k t)) × All (Held g n) (next k t)
  eliminated_held t h few =
      let ps = pairs (uppers k t) (lowers k t) in
      let fit = all_fit t h in
      let s : Step k t (next k t) = record { is = refl; fit = All-map Fits (sum_of k) ps fit } in (
        ap (joining (map (set_aside k) t)) (sums_formed k (length t) ps (omega (arith, length-append (map (set_aside k) t) (sums_of k t), length-map t (set_aside k), length-map ps (sum_of k))) fit),
        step_all (Held g k) (Held g n) k t (next k t) s aside_held (λ u l p q a b f. combined_held u l p q a b) h,
      )
