-- A line's weights say how it came from the rows. Assumes nothing.
use Rattle.std.specs.Prelude.{◌≡◌, ℕ, zero, suc, ◌+◌, ◌/◌, ◌<◌, ◌≤◌, Bool, true, false, ◌&&◌, ◌||◌, List, [], ◌∷◌, map, length, get_or, drop, replicate, ℤ, pos, ◌+ℤ◌, ◌*ℤ◌, ◌≤ℤ◌, ◌<ℤ◌, slice_index_or, slice_set, refl}
use Rattle.std.proofs.Common.{sym, ap, subst, ◌∙◌, inl, inr, arith, add-one, lit≤}
use Rattle.std.proofs.Math.IntN.{zero-*ℤ}
use Rattle.std.specs.List.{AllByRecursion}
use Rattle.std.proofs.lemmas.Bool.{false≢true, true≢false, and_parts, cases_eq}
use Rattle.std.proofs.lemmas.List.{length-set, length-replicate, get_or-set_same, get_or-map}
use Rattle.std.proofs.ByRecursion.{All-set}
use Rattle.integers.specs.Vectors.{dot, add, scale}
use Rattle.integers.specs.Divisors.{gcd_of}
use Rattle.integers.proofs.Laws.{one-*ℤ}
use Rattle.integers.proofs.Linear.{linear}
use Rattle.integers.proofs.Order.{*ℤ-nonneg, *ℤ-pos}
use Rattle.integers.proofs.VectorLaws.{dot_none}
use Rattle.rows.specs.declared.kind.Kind.{Kind}
use Rattle.rows.specs.declared.kind.Kind.TheVariants.{AtMost, Below, Equal}
use Rattle.rows.specs.Limits.{most_rows, Within, EachWithin}
use Rattle.rows.specs.Rows.{Constraint}
use Rattle.rows.specs.Clashes.{column, total, Strictly}
use Rattle.engine.specs.Verdicts.{ValidRow}
use Rattle.rows.proofs.Fits.{zero_within}
use Rattle.rows.proofs.Weighing.{strictly_at}
use Rattle.elimination.specs.Table.{Line, coefficient, stands, is_positive, is_negative, blend, size, combined, near, all_near, set_aside}
use Rattle.elimination.specs.Working.{is_strict, carried}
use Rattle.elimination.specs.Blending.{zero_is, dot_sum, at_sum, blend_lacks, its, combined_lacks}
use Rattle.elimination.specs.Placing.{length_scale, all_near_within}
use Rattle.elimination.specs.Steps.{Step, step_all, Upper, Lower, Fits, aside_stands, Before, before_next}

abbrev pub NotNegative : List ℤ → Type 0
NotNegative ws = AllByRecursion (λ w. pos 0 ≤ℤ w) ws

-- the line is the rows times its weights, added
pub record From (rows : List Constraint) (r : Line) : Type 0 where
  pub long : length r.weights ≡ most_rows
  pub not_negative : NotNegative r.weights
  pub within : EachWithin r.weights
  pub columns : (k : ℕ) → column r.weights rows k ≡ coefficient r k
  pub totals : total r.weights rows ≡ r.side
  pub strictly : r.strict ≡ true → Strictly r.weights rows

-- ---- sums of weights

length_add : (n : ℕ) (xs ys : List ℤ) → length xs ≡ n → length ys ≡ n → length (add xs ys) ≡ n
length_add n [] ys p q = q
length_add n (x ∷ xs) [] p q = p
length_add zero (x ∷ xs) (y ∷ ys) p q = absurd (omega arith)
length_add (suc n) (x ∷ xs) (y ∷ ys) p q = ap suc (length_add n xs ys (omega arith) (omega arith))

module _ (m n : ℕ) where
  sum_not_negative : (v w : ℤ) → pos 0 ≤ℤ v → pos 0 ≤ℤ w → pos 0 ≤ℤ (pos m *ℤ v +ℤ pos n *ℤ w)
  sum_not_negative v w h k =
      let a : pos 0 ≤ℤ (pos m *ℤ v) = *ℤ-nonneg {a = pos m} (omega (arith, linear)) h in
      let b : pos 0 ≤ℤ (pos n *ℤ w) = *ℤ-nonneg {a = pos n} (omega (arith, linear)) k in
      omega (arith, linear)

  sums_not_negative : (vs ws : List ℤ) → length vs ≡ length ws → NotNegative vs → NotNegative ws → NotNegative (add (scale (pos m) vs) (scale (pos n) ws))
  sums_not_negative [] [] e h k = tt
  sums_not_negative [] (w ∷ ws) e h k = absurd (omega arith)
  sums_not_negative (v ∷ vs) [] e h k = absurd (omega arith)
  sums_not_negative (v ∷ vs) (w ∷ ws) e h k = (sum_not_negative v w h.0 k.0, sums_not_negative vs ws (omega arith) h.1 k.1)

  strictly_left : (vs ws : List ℤ) (rows : List Constraint) → 0 < m → length vs ≡ length ws → NotNegative ws → Strictly vs rows → Strictly (add (scale (pos m) vs) (scale (pos n) ws)) rows
  strictly_left [] ws rows p e k s = absurd s
  strictly_left (v ∷ vs) ws [] p e k s = absurd s
  strictly_left (v ∷ vs) [] (r ∷ rows) p e k s = absurd (omega arith)
  strictly_left (v ∷ vs) (w ∷ ws) (r ∷ rows) p e k (inl s) =
      let a : pos 0 <ℤ (pos m *ℤ v) = *ℤ-pos {a = pos m} (omega (arith, linear)) s.1 in
      let b : pos 0 ≤ℤ (pos n *ℤ w) = *ℤ-nonneg {a = pos n} (omega (arith, linear)) k.0 in
      inl (s.0, omega (arith, linear))
  strictly_left (v ∷ vs) (w ∷ ws) (r ∷ rows) p e k (inr s) = inr (strictly_left vs ws rows p (omega arith) k.1 s)

  strictly_right : (vs ws : List ℤ) (rows : List Constraint) → 0 < n → length vs ≡ length ws → NotNegative vs → Strictly ws rows → Strictly (add (scale (pos m) vs) (scale (pos n) ws)) rows
  strictly_right vs [] rows p e k s = absurd s
  strictly_right vs (w ∷ ws) [] p e k s = absurd s
  strictly_right [] (w ∷ ws) (r ∷ rows) p e k s = absurd (omega arith)
  strictly_right (v ∷ vs) (w ∷ ws) (r ∷ rows) p e k (inl s) =
      let a : pos 0 <ℤ (pos n *ℤ w) = *ℤ-pos {a = pos n} (omega (arith, linear)) s.1 in
      let b : pos 0 ≤ℤ (pos m *ℤ v) = *ℤ-nonneg {a = pos m} (omega (arith, linear)) k.0 in
      inl (s.0, omega (arith, linear))
  strictly_right (v ∷ vs) (w ∷ ws) (r ∷ rows) p e k (inr s) = inr (strictly_right vs ws rows p (omega arith) k.1 s)

  from_blend : (rows : List Constraint) (u l : Line) → 0 < m → 0 < n → Fits (blend m n u l) → From rows u → From rows l → From rows (blend m n u l)
  from_blend rows u l pm pn fit f g =
      let same : length u.weights ≡ length l.weights = f.long ∙ sym g.long in
      let b = blend m n u l in
      let near-weights = (and_parts (near b.side) (all_near b.weights) (and_parts (all_near b.coefficients) (near b.side && all_near b.weights) fit).1).1 in
      record {
        long = length_add most_rows (scale (pos m) u.weights) (scale (pos n) l.weights) (length_scale (pos m) u.weights ∙ f.long) (length_scale (pos n) l.weights ∙ g.long);
        not_negative = sums_not_negative u.weights l.weights same f.not_negative g.not_negative;
        within = all_near_within b.weights near-weights;
        columns = λ k. dot_sum m n u.weights l.weights (map (λ r. get_or r.coefficients k (pos 0)) rows) ∙ (λ i. pos m *ℤ f.columns k i +ℤ pos n *ℤ g.columns k i) ∙ sym (at_sum m n u.coefficients l.coefficients k);
        totals = dot_sum m n u.weights l.weights (map (λ r. r.side) rows) ∙ (λ i. pos m *ℤ f.totals i +ℤ pos n *ℤ g.totals i);
        strictly = by same u.strict f.strictly;
      }
    where
      by : length u.weights ≡ length l.weights → (s : Bool) → (s ≡ true → Strictly u.weights rows) → (s || l.strict) ≡ true → Strictly (add (scale (pos m) u.weights) (scale (pos n) l.weights)) rows
      by same true h e = strictly_left u.weights l.weights rows pm same g.not_negative (h refl)
      by same false h e = strictly_right u.weights l.weights rows pn same f.not_negative (g.strictly e)

-- ---- the rows themselves

pub zeros_at : (n k : ℕ) → slice_index_or (replicate n (pos 0)) k (pos 0) ≡ pos 0
zeros_at zero k = refl
zeros_at (suc n) zero = refl
zeros_at (suc n) (suc k) = zeros_at n k

abbrev unit : ℕ → ℕ → List ℤ
unit n i = slice_set (replicate n (pos 0)) i (pos 1)

dot_unit : (n i : ℕ) (ys : List ℤ) → i < n → dot (unit n i) ys ≡ slice_index_or ys i (pos 0)
dot_unit zero i ys h = absurd (omega arith)
dot_unit (suc n) zero [] h = refl
dot_unit (suc n) zero (y ∷ ys) h = omega (arith, linear, one-*ℤ y, dot_none (replicate n (pos 0)) ys (zeros_at n))
dot_unit (suc n) (suc i) [] h = refl
dot_unit (suc n) (suc i) (y ∷ ys) h = omega (arith, linear, zero-*ℤ y, dot_unit n i ys (omega arith))

unit_within : (n i : ℕ) → EachWithin (unit n i)
unit_within zero i k = zero_within
unit_within (suc n) zero zero = lit≤ tt
unit_within (suc n) zero (suc k) = subst Within (sym (zeros_at n k)) zero_within
unit_within (suc n) (suc i) zero = zero_within
unit_within (suc n) (suc i) (suc k) = unit_within n i k

zeros_not_negative : (n : ℕ) → NotNegative (replicate n (pos 0))
zeros_not_negative zero = tt
zeros_not_negative (suc n) = (omega (arith, linear), zeros_not_negative n)

place : (rows : List Constraint) (i : ℕ) (r : Constraint) (rest : List Constraint) → drop i rows ≡ r ∷ rest → (i < length rows) × (slice_index_or rows i r ≡ r) × (drop (suc i) rows ≡ rest)
place [] zero r rest e = absurd (let z : ◌≡◌ {A = Bool} true false = cc in true≢false z)
place [] (suc i) r rest e = absurd (let z : ◌≡◌ {A = Bool} true false = cc in true≢false z)
place (x ∷ xs) zero r rest e = (omega arith, cc, cc)
place (x ∷ xs) (suc i) r rest e = let h = place xs i r rest e in (omega arith, h.1, h.2)

strict_below : (k : Kind) → is_strict k ≡ true → k ≡ Below
strict_below AtMost e = absurd (false≢true e)
strict_below Below e = refl
strict_below Equal e = absurd (false≢true e)

-- ---- what the lines of a table keep, before fader k is eliminated

pub record Kept (count : ℕ) (rows : List Constraint) (k : ℕ) (r : Line) : Type 0 where
  pub from : From rows r
  pub unused : (j : ℕ) → count ≤ j → coefficient r j ≡ pos 0
  pub clear : stands r ≡ true → (j : ℕ) → j < k → coefficient r j ≡ pos 0
  pub earlier : Before k r.aside

pub carried_kept : (count : ℕ) (rows : List Constraint) → length rows ≤ most_rows → (i : ℕ) (rest : List Constraint) → drop i rows ≡ rest → AllByRecursion (ValidRow count) rest → AllByRecursion (Kept count rows 0) (carried i rest)
carried_kept count rows short i [] e v = tt
carried_kept count rows short i (r ∷ rest) e v =
    let p = place rows i r rest e in
    let inside : i < most_rows = omega arith in
    let w = unit most_rows i in
    let at_i : (f : Constraint → ℤ) → dot w (map f rows) ≡ f r = λ f. dot_unit most_rows i (map f rows) inside ∙ get_or-map f rows i r (pos 0) p.0 ∙ ap f p.1 in
    let weight : pos 0 <ℤ get_or w i (pos 0) = subst (λ (z : ℤ). pos 0 <ℤ z) (sym (get_or-set_same (replicate most_rows (pos 0)) i (pos 1) (pos 0) (omega (arith, length-replicate most_rows (pos 0))))) (omega (arith, linear)) in
    let own : length w ≡ most_rows = length-set (replicate most_rows (pos 0)) i (pos 1) ∙ length-replicate most_rows (pos 0) in (
      record {
        from = record {
          long = own;
          not_negative = All-set (λ z. pos 0 ≤ℤ z) (replicate most_rows (pos 0)) i (pos 1) (omega (arith, linear)) (zeros_not_negative most_rows);
          within = unit_within most_rows i;
          columns = λ k. at_i (λ c. get_or c.coefficients k (pos 0));
          totals = at_i (λ c. c.side);
          strictly = λ s. strictly_at w rows i r (omega arith) p.0 (ap (λ (c : Constraint). c.kind) p.1 ∙ strict_below r.kind s) weight;
        };
        unused = v.0.unused;
        clear = λ s j h. absurd (omega arith);
        earlier = tt;
      },
      carried_kept count rows short (i + 1) rest (ap (λ (n : ℕ). drop n rows) (add-one i) ∙ p.2) v.1,
    )

-- one step keeps it, and clears fader k
pub kept_step : (count : ℕ) (rows : List Constraint) (k : ℕ) (t u : List Line) → Step k t u → AllByRecursion (Kept count rows k) t → AllByRecursion (Kept count rows (suc k)) u
kept_step count rows k t u s h = step_all (Kept count rows k) (Kept count rows (suc k)) k t u s old new h
  where
    old : (r : Line) → Kept count rows k r → Kept count rows (suc k) (set_aside k r)
    old r f = record {
      from = record { long = f.from.long; not_negative = f.from.not_negative; within = f.from.within; columns = f.from.columns; totals = f.from.totals; strictly = f.from.strictly };
      unused = f.unused;
      clear = λ st j l. let a = aside_stands k r st in elim (cases_eq j k) [ inl e ↦ subst (λ (n : ℕ). coefficient r n ≡ pos 0) (sym e) (zero_is (coefficient r k) a.1) | inr n ↦ f.clear a.0 j (omega arith) ];
      earlier = before_next k r f.earlier;
    }

    new : (u l : Line) → Upper k u → Lower k l → Kept count rows k u → Kept count rows k l → Fits (combined k u l) → Kept count rows (suc k) (combined k u l)
    new u l p q f g fit =
        let pu = and_parts (stands u) (is_positive (coefficient u k)) p in
        let pl = and_parts (stands l) (is_negative (coefficient l k)) q in
        let c = gcd_of (size k u) (size k l) in
        let m = size k l / c in
        let n = size k u / c in
        let i = its k u l pu.1 pl.1 in
        record {
          from = from_blend m n rows u l i.right_some i.left_some fit f.from g.from;
          unused = λ j h. blend_lacks m n j u l (f.unused j h) (g.unused j h);
          clear = λ st j h. elim (cases_eq j k) [ inl e ↦ subst (λ (x : ℕ). coefficient (combined k u l) x ≡ pos 0) (sym e) (combined_lacks k u l pu.1 pl.1) | inr d ↦ blend_lacks m n j u l (f.clear pu.0 j (omega arith)) (g.clear pl.0 j (omega arith)) ];
          earlier = tt;
        }
