-- The elimination of one fader: what the new table consists of, and what it keeps. Assumes nothing.
use Rattle.std.specs.Prelude.{◌≡◌, ℕ, suc, ◌+◌, ◌<◌, ◌≤◌, Bool, true, false, cond, not, ◌&&◌, List, [], ◌∷◌, ◌++◌, map, length, ℤ, pos, negsuc, is_some, Some, None, Ok, Err, filter, Option, Result, ◌≢◌, nat_lt, unsigned_abs, refl}
use Rattle.std.proofs.Common.{sym, ap, subst, ◌∙◌, arith}
use Rattle.std.specs.List.{AllByRecursion}
use Rattle.std.proofs.lemmas.Bool.{false≢true, true≢false, and_parts, ltb-false, eq-eqb, ne_eqb}
use Rattle.std.proofs.lemmas.List.{append-nil}
use Rattle.std.proofs.lemmas.List.Elements.{filter-append}
use Rattle.std.proofs.ByRecursion.{All-append, All-map, All-weaker, all_kept_by, kept_by_passes}
use Rattle.engine.specs.declared.fault.Fault.{Fault}
use Rattle.engine.specs.Verdicts.{number_beyond, table_full}
use Rattle.elimination.specs.Table.{room, Line, coefficient, stands, is_positive, is_negative, uppers, lowers, size, combined, fits, before, sums, pairs, set_aside, joining, eliminated}
use Rattle.elimination.specs.Levels.{is_for, above, below}
use Rattle.rows.proofs.Alls.{unmap, unjoin}
use Rattle.elimination.specs.Alls.{both, all_is}

-- ---- the sums of pairs

pub err_ok : {A E : Type 0} (f : E) (x : A) → ◌≡◌ {A = Result A E} (Err f) (Ok x) → ⊥
err_ok f x e = let z : ◌≡◌ {A = Bool} true false = cc in true≢false z

formed : (a b : Bool) (k : ℕ) (c : Line) (rest : Result (List Line) Fault) (new : List Line) → ◌≡◌ {A = Result (List Line) Fault} (elim a [ true ↦ elim b [ true ↦ before c rest | false ↦ Err (number_beyond k) ] | false ↦ Err (table_full k) ]) (Ok new) → (b ≡ true) × (before c rest ≡ Ok new)
formed true true k c rest new e = (refl, e)
formed true false k c rest new e = absurd (err_ok (number_beyond k) new e)
formed false b k c rest new e = absurd (err_ok (table_full k) new e)

before_ok : (c : Line) (rest : Result (List Line) Fault) (new : List Line) → before c rest ≡ Ok new → (rs : List Line) × (rest ≡ Ok rs) × (c ∷ rs ≡ new)
before_ok c (Ok rs) new e = (rs, refl, cc)
before_ok c (Err f) new e = absurd (err_ok f new e)

abbrev pub sum_of : ℕ → Line × Line → Line
sum_of k p = combined k p.0 p.1

abbrev pub sums_of : ℕ → List Line → List Line
sums_of k t = map (sum_of k) (pairs (uppers k t) (lowers k t))

abbrev pub Fits : Line → Type 0
Fits r = fits r ≡ true

pub sums_are : (k held : ℕ) (ps : List (Line × Line)) (new : List Line) → sums k held ps ≡ Ok new → (map (sum_of k) ps ≡ new) × AllByRecursion Fits (map (sum_of k) ps)
sums_are k held [] new e = (cc, tt)
sums_are k held (p ∷ ps) new e =
    let c = sum_of k p in
    let a = formed (nat_lt held room) (fits c) k c (sums k (held + 1) ps) new e in
    let b = before_ok c (sums k (held + 1) ps) new a.1 in
    let ih = sums_are k (held + 1) ps b.0 b.1 in
    (ap (λ (rs : List Line). c ∷ rs) ih.0 ∙ b.2, (a.0, ih.1))

-- the table after fader k: the lines before it, some of them set aside, and the sums
pub record Step (k : ℕ) (t u : List Line) : Type 0 where
  pub is : map (set_aside k) t ++ sums_of k t ≡ u
  pub fit : AllByRecursion Fits (sums_of k t)

joined_ok : (t : List Line) (o : Result (List Line) Fault) (u : List Line) → joining t o ≡ Ok u → (new : List Line) × (o ≡ Ok new) × (t ++ new ≡ u)
joined_ok t (Ok new) u e = (new, refl, cc)
joined_ok t (Err f) u e = absurd (err_ok f u e)

pub step : (k : ℕ) (t u : List Line) → eliminated k t ≡ Ok u → Step k t u
step k t u e =
    let ps = pairs (uppers k t) (lowers k t) in
    let a = joined_ok (map (set_aside k) t) (sums k (length t) ps) u e in
    let b = sums_are k (length t) ps a.0 a.1 in
    record { is = ap (λ (new : List Line). map (set_aside k) t ++ new) b.0 ∙ a.2; fit = b.1 }

-- ---- all pairs

pub all_pairs : (P : Line × Line → Type 0) (us ls : List Line) → AllByRecursion (λ u. AllByRecursion (λ l. P (u, l)) ls) us → AllByRecursion P (pairs us ls)
all_pairs P [] ls h = tt
all_pairs P (u ∷ us) ls h = All-append P (map (λ l. (u, l)) ls) (pairs us ls) (All-map P (λ l. (u, l)) ls h.0) (all_pairs P us ls h.1)

pub un_pairs : (P : Line × Line → Type 0) (us ls : List Line) → AllByRecursion P (pairs us ls) → AllByRecursion (λ u. AllByRecursion (λ l. P (u, l)) ls) us
un_pairs P [] ls h = tt
un_pairs P (u ∷ us) ls h =
    let s = unjoin P (map (λ l. (u, l)) ls) (pairs us ls) h in
    (unmap P (λ l. (u, l)) ls s.0, un_pairs P us ls s.1)

-- a line to be paired
abbrev pub Upper : ℕ → Line → Type 0
Upper k r = (stands r && is_positive (coefficient r k)) ≡ true

abbrev pub Lower : ℕ → Line → Type 0
Lower k r = (stands r && is_negative (coefficient r k)) ≡ true

-- what holds of all lines after a step
pub step_all : (P Q : Line → Type 0) (k : ℕ) (t u : List Line) → Step k t u → ((r : Line) → P r → Q (set_aside k r)) → ((u l : Line) → Upper k u → Lower k l → P u → P l → Fits (combined k u l) → Q (combined k u l)) → AllByRecursion P t → AllByRecursion Q u
step_all P Q k t u s f g h =
    let us = uppers k t in
    let ls = lowers k t in
    let isu : AllByRecursion (Upper k) us = kept_by_passes (λ r. stands r && is_positive (coefficient r k)) t in
    let isl : AllByRecursion (Lower k) ls = kept_by_passes (λ r. stands r && is_negative (coefficient r k)) t in
    let pu : AllByRecursion P us = all_kept_by (λ r. stands r && is_positive (coefficient r k)) P t h in
    let pl : AllByRecursion P ls = all_kept_by (λ r. stands r && is_negative (coefficient r k)) P t h in
    let made : AllByRecursion (λ p. Fits (sum_of k p) → Q (sum_of k p)) (pairs us ls) = all_pairs (λ p. Fits (sum_of k p) → Q (sum_of k p)) us ls
    (All-weaker (λ u. Upper k u × P u) (λ u. AllByRecursion (λ l. Fits (combined k u l) → Q (combined k u l)) ls)
    (λ u m. All-weaker (λ l. Lower k l × P l) (λ l. Fits (combined k u l) → Q (combined k u l)) (λ l n. g u l m.0 n.0 m.1 n.1) ls (both (Lower k) P ls isl pl))
    us (both (Upper k) P us isu pu)) in
    subst (AllByRecursion Q) s.is
    (All-append Q (map (set_aside k) t) (sums_of k t)
    (All-map Q (set_aside k) t (All-weaker P (λ r. Q (set_aside k r)) f t h))
    (All-map Q (sum_of k) (pairs us ls)
    (All-weaker (λ p. (Fits (sum_of k p) → Q (sum_of k p)) × Fits (sum_of k p)) (λ p. Q (sum_of k p)) (λ p m. m.0 m.1) (pairs us ls)
    (both (λ p. Fits (sum_of k p) → Q (sum_of k p)) (λ p. Fits (sum_of k p)) (pairs us ls) made (unmap Fits (sum_of k) (pairs us ls) s.fit)))))

-- ---- standing lines

pub aside_stands : (k : ℕ) (r : Line) → stands (set_aside k r) ≡ true → (stands r ≡ true) × (nat_lt 0 (size k r) ≡ false)
aside_stands k r e = by r.aside (nat_lt 0 (size k r)) e
  where
    by : (o : Option ℕ) (b : Bool) → not (is_some (cond (not (is_some o) && b) (Some k) o)) ≡ true → (not (is_some o) ≡ true) × (b ≡ false)
    by None true e = absurd (false≢true e)
    by None false e = (refl, refl)
    by (Some j) b e = absurd (false≢true e)

pub stands_still : (k : ℕ) (r : Line) → stands r ≡ true → nat_lt 0 (size k r) ≡ false → stands (set_aside k r) ≡ true
stands_still k r e f = by r.aside (nat_lt 0 (size k r)) e f
  where
    by : (o : Option ℕ) (b : Bool) → not (is_some o) ≡ true → b ≡ false → not (is_some (cond (not (is_some o) && b) (Some k) o)) ≡ true
    by None true e f = absurd (true≢false f)
    by None false e f = refl
    by (Some j) b e f = absurd (false≢true e)

-- ---- lines set aside

-- set aside, if at all, for a fader before k
abbrev pub Before : ℕ → Option ℕ → Type 0
Before k None = Unit {0}
Before k (Some j) = j < k

pub before_next : (k : ℕ) (r : Line) → Before k r.aside → Before (suc k) (set_aside k r).aside
before_next k r h = by r.aside (nat_lt 0 (size k r)) h
  where
    by : (o : Option ℕ) (b : Bool) → Before k o → Before (suc k) (cond (not (is_some o) && b) (Some k) o)
    by None true h = omega arith
    by None false h = tt
    by (Some j) b h = omega arith

kept_none : {X : Type 0} (test : X → Bool) (xs : List X) → AllByRecursion (λ x. test x ≡ false) xs → filter test xs ≡ []
kept_none test [] h = refl
kept_none {X} test (x ∷ xs) h = ap (λ (b : Bool). cond b (x ∷ filter test xs) (filter test xs)) h.0 ∙ kept_none test xs h.1

kept_map : {X : Type 0} (f : X → X) (test test' : X → Bool) (xs : List X) → AllByRecursion (λ x. test (f x) ≡ test' x) xs → filter test (map f xs) ≡ map f (filter test' xs)
kept_map f test test' [] h = refl
kept_map {X} f test test' (x ∷ xs) h = ap (λ (b : Bool). cond b (f x ∷ filter test (map f xs)) (filter test (map f xs))) h.0 ∙ by (test' x) (kept_map f test test' xs h.1)
  where
    by : (b : Bool) → filter test (map f xs) ≡ map f (filter test' xs) → cond b (f x ∷ filter test (map f xs)) (filter test (map f xs)) ≡ map f (cond b (x ∷ filter test' xs) (filter test' xs))
    by true e = ap (λ (ys : List X). f x ∷ ys) e
    by false e = e

map_same : {X : Type 0} (f : X → X) (xs : List X) → AllByRecursion (λ x. f x ≡ x) xs → map f xs ≡ xs
map_same f [] h = refl
map_same f (x ∷ xs) h = λ i. h.0 i ∷ map_same f xs h.1 i

unmoved : (k j : ℕ) (c : List ℤ) (s : ℤ) (t : Bool) (w : List ℤ) (o : Option ℕ) → is_for j o ≡ true → set_aside k (record { coefficients = c; side = s; strict = t; weights = w; aside = o }) ≡ record { coefficients = c; side = s; strict = t; weights = w; aside = o }
unmoved k j c s t w None e = absurd (false≢true e)
unmoved k j c s t w (Some i) e = refl

-- the lines set aside for fader j whose coefficient has a sign
module _ (sign : ℤ → Bool) where
  abbrev marked : ℕ → List Line → List Line
  marked j t = filter (λ r. is_for j r.aside && sign (coefficient r j)) t

  -- of the table after a step only the old lines are set aside
  marked_old : (j k : ℕ) (t u : List Line) → Step k t u → marked j u ≡ marked j (map (set_aside k) t)
  marked_old j k t u s =
      let test : Line → Bool = λ r. is_for j r.aside && sign (coefficient r j) in
      ap (marked j) (sym s.is) ∙ filter-append test (map (set_aside k) t) (sums_of k t)
      ∙ ap (λ (rs : List Line). marked j (map (set_aside k) t) ++ rs) (kept_none test (sums_of k t) (All-map (λ r. test r ≡ false) (sum_of k) (pairs (uppers k t) (lowers k t)) (all_is (λ p. test (sum_of k p) ≡ false) (λ p. refl) (pairs (uppers k t) (lowers k t)))))
      ∙ append-nil (marked j (map (set_aside k) t))

  -- a later step leaves them
  marked_later : (j k : ℕ) (t u : List Line) → (k ≢ j) → Step k t u → marked j u ≡ marked j t
  marked_later j k t u n s =
      let test : Line → Bool = λ r. is_for j r.aside && sign (coefficient r j) in
      marked_old j k t u s
      ∙ kept_map (set_aside k) test test t (all_is (λ r. test (set_aside k r) ≡ test r) (λ r. ap (λ (b : Bool). b && sign (coefficient r j)) (by r.aside (nat_lt 0 (size k r)))) t)
      ∙ map_same (set_aside k) (marked j t) (All-weaker (λ r. test r ≡ true) (λ r. set_aside k r ≡ r) (λ r e. unmoved k j r.coefficients r.side r.strict r.weights r.aside (and_parts (is_for j r.aside) (sign (coefficient r j)) e).0) (marked j t) (kept_by_passes test t))
    where
      by : (o : Option ℕ) (b : Bool) → is_for j (cond (not (is_some o) && b) (Some k) o) ≡ is_for j o
      by None true = ne_eqb k j n
      by None false = refl
      by (Some i) b = refl

  -- the step of the fader itself sets aside the standing lines that have it
  marked_now : (k : ℕ) (t u : List Line) → ((z : ℤ) → nat_lt 0 (unsigned_abs z) ≡ false → sign z ≡ false) → AllByRecursion (λ r. Before k r.aside) t → Step k t u → marked k u ≡ map (set_aside k) (filter (λ r. stands r && sign (coefficient r k)) t)
  marked_now k t u z h s =
      let test : Line → Bool = λ r. is_for k r.aside && sign (coefficient r k) in
      marked_old k k t u s
      ∙ kept_map (set_aside k) test (λ r. stands r && sign (coefficient r k)) t
      (All-weaker (λ r. Before k r.aside) (λ r. test (set_aside k r) ≡ (stands r && sign (coefficient r k))) (λ r b. by r.aside (nat_lt 0 (size k r)) (sign (coefficient r k)) b (z (coefficient r k))) t h)
    where
      by : (o : Option ℕ) (b c : Bool) → Before k o → (b ≡ false → c ≡ false) → (is_for k (cond (not (is_some o) && b) (Some k) o) && c) ≡ (not (is_some o) && c)
      by None true c h e = ap (λ (x : Bool). x && c) (eq-eqb k k refl)
      by None false c h e = sym (e refl)
      by (Some j) b c h e = ap (λ (x : Bool). x && c) (ne_eqb j k (λ p. omega arith))

positive_none : (z : ℤ) → nat_lt 0 (unsigned_abs z) ≡ false → is_positive z ≡ false
positive_none (pos n) e = e
positive_none (negsuc n) e = refl

negative_none : (z : ℤ) → nat_lt 0 (unsigned_abs z) ≡ false → is_negative z ≡ false
negative_none (pos n) e = refl
negative_none (negsuc n) e = let h : suc n ≤ 0 = ltb-false 0 (suc n) e in absurd (omega arith)

module _ (j k : ℕ) (t u : List Line) (n : k ≡ j → ⊥) (s : Step k t u) where
  pub above_later : above j u ≡ above j t
  above_later = marked_later is_positive j k t u n s

  pub below_later : below j u ≡ below j t
  below_later = marked_later is_negative j k t u n s

module _ (k : ℕ) (t u : List Line) (h : AllByRecursion (λ r. Before k r.aside) t) (s : Step k t u) where
  pub above_now : above k u ≡ map (set_aside k) (uppers k t)
  above_now = marked_now is_positive k t u positive_none h s

  pub below_now : below k u ≡ map (set_aside k) (lowers k t)
  below_now = marked_now is_negative k t u negative_none h s
