-- Every row that stands is the listed rows times its weights, added, and its weights have the signs that its kind asks for. Assumes nothing.
use Rattle.std.specs.Prelude.{◌≡◌, ℕ, zero, suc, ◌+◌, ◌<◌, ◌≤◌, true, ◌&&◌, List, [], ◌∷◌, map, length, drop, replicate, ℤ, pos, ◌+ℤ◌, ◌*ℤ◌, ◌≤ℤ◌, ◌<ℤ◌, slice_index_or, unsigned_abs, refl}
use Rattle.std.proofs.Common.{sym, ap, subst, ◌∙◌, inl, inr, arith, add-one}
use Rattle.std.proofs.Math.IntN.{*ℤ-zero}
use Rattle.std.specs.List.{AllByRecursion}
use Rattle.std.proofs.lemmas.Bool.{and_parts}
use Rattle.std.proofs.lemmas.List.{length-set, length-replicate, get_or-set_same, get_or-map}
use Rattle.integers.specs.Vectors.{dot, add, scale}
use Rattle.integers.proofs.Linear.{linear}
use Rattle.integers.proofs.Order.{*ℤ-nonneg, *ℤ-pos}
use Rattle.integers.proofs.VectorLaws.{dot_add, dot_scale}
use Rattle.rows.specs.declared.kind.Kind.{Kind}
use Rattle.rows.specs.declared.kind.Kind.TheVariants.{AtMost, Below, Equal}
use Rattle.rows.specs.Limits.{most_rows, EachWithin, near, all_near}
use Rattle.rows.specs.Rows.{Constraint}
use Rattle.rows.specs.Clashes.{Weighs, column, total, Strictly}
use Rattle.engine.specs.Verdicts.{ValidRow}
use Rattle.rows.specs.Carrying.{fits}
use Rattle.rows.proofs.Blends.{near_within, all_near_each, blend_length}
use Rattle.rows.proofs.Listing.{unit, dot_unit, unit_within, place}
use Rattle.rows.proofs.Weighing.{strictly_at}
use Rattle.substitution.specs.Reduction.{Kept, at, cancelled, kept_rows}
use Rattle.substitution.specs.Working.{handed_down}
use Rattle.substitution.specs.Cancelling.{own_factor, other_factor, own_above, cancelled_at, turned, Becomes}

-- ---- weights by the kinds of the rows they stand at

-- each may be the weight of its row in a clash
abbrev pub Upward : List ℤ → List Constraint → Type 0
Upward [] rows = Unit {0}
Upward (w ∷ ws) [] = Unit {0}
Upward (w ∷ ws) (r ∷ rows) = Weighs w r.kind × Upward ws rows

-- no inequality has a weight
abbrev pub Idle : ℤ → Kind → Type 0
Idle w AtMost = w ≡ pos 0
Idle w Below = w ≡ pos 0
Idle w Equal = Unit {0}

abbrev pub Even : List ℤ → List Constraint → Type 0
Even [] rows = Unit {0}
Even (w ∷ ws) [] = Unit {0}
Even (w ∷ ws) (r ∷ rows) = Idle w r.kind × Even ws rows

weighs_add : (k : Kind) (x y : ℤ) → Weighs x k → Weighs y k → Weighs (x +ℤ y) k
weighs_add AtMost x y h g = omega (arith, linear)
weighs_add Below x y h g = omega (arith, linear)
weighs_add Equal x y h g = tt

weighs_scale : (k : Kind) (w x : ℤ) → pos 0 ≤ℤ w → Weighs x k → Weighs (w *ℤ x) k
weighs_scale AtMost w x p h = *ℤ-nonneg p h
weighs_scale Below w x p h = *ℤ-nonneg p h
weighs_scale Equal w x p h = tt

idle_add : (k : Kind) (x y : ℤ) → Idle x k → Idle y k → Idle (x +ℤ y) k
idle_add AtMost x y h g = omega (arith, linear)
idle_add Below x y h g = omega (arith, linear)
idle_add Equal x y h g = tt

idle_scale : (k : Kind) (w x : ℤ) → Idle x k → Idle (w *ℤ x) k
idle_scale AtMost w x h = ap (λ (z : ℤ). w *ℤ z) h ∙ *ℤ-zero w
idle_scale Below w x h = ap (λ (z : ℤ). w *ℤ z) h ∙ *ℤ-zero w
idle_scale Equal w x h = tt

idle_weighs : (k : Kind) (x : ℤ) → Idle x k → Weighs x k
idle_weighs AtMost x h = omega (arith, linear)
idle_weighs Below x h = omega (arith, linear)
idle_weighs Equal x h = tt

pub upward_add : (xs ys : List ℤ) (rows : List Constraint) → Upward xs rows → Upward ys rows → Upward (add xs ys) rows
upward_add [] ys rows h g = g
upward_add (x ∷ xs) [] rows h g = h
upward_add (x ∷ xs) (y ∷ ys) [] h g = tt
upward_add (x ∷ xs) (y ∷ ys) (r ∷ rows) h g = (weighs_add r.kind x y h.0 g.0, upward_add xs ys rows h.1 g.1)

pub upward_scale : (w : ℤ) (xs : List ℤ) (rows : List Constraint) → pos 0 ≤ℤ w → Upward xs rows → Upward (scale w xs) rows
upward_scale w [] rows p h = tt
upward_scale w (x ∷ xs) [] p h = tt
upward_scale w (x ∷ xs) (r ∷ rows) p h = (weighs_scale r.kind w x p h.0, upward_scale w xs rows p h.1)

even_add : (xs ys : List ℤ) (rows : List Constraint) → Even xs rows → Even ys rows → Even (add xs ys) rows
even_add [] ys rows h g = g
even_add (x ∷ xs) [] rows h g = h
even_add (x ∷ xs) (y ∷ ys) [] h g = tt
even_add (x ∷ xs) (y ∷ ys) (r ∷ rows) h g = (idle_add r.kind x y h.0 g.0, even_add xs ys rows h.1 g.1)

pub even_scale : (w : ℤ) (xs : List ℤ) (rows : List Constraint) → Even xs rows → Even (scale w xs) rows
even_scale w [] rows h = tt
even_scale w (x ∷ xs) [] h = tt
even_scale w (x ∷ xs) (r ∷ rows) h = (idle_scale r.kind w x h.0, even_scale w xs rows h.1)

pub even_upward : (xs : List ℤ) (rows : List Constraint) → Even xs rows → Upward xs rows
even_upward [] rows h = tt
even_upward (x ∷ xs) [] h = tt
even_upward (x ∷ xs) (r ∷ rows) h = (idle_weighs r.kind x h.0, even_upward xs rows h.1)

-- a weight above 0 at a row of kind below
pub strictly_scale : (w : ℤ) (xs : List ℤ) (rows : List Constraint) → pos 0 <ℤ w → Strictly xs rows → Strictly (scale w xs) rows
strictly_scale w [] rows p s = s
strictly_scale w (x ∷ xs) [] p s = s
strictly_scale w (x ∷ xs) (r ∷ rows) p (inl s) = inl (s.0, *ℤ-pos p s.1)
strictly_scale w (x ∷ xs) (r ∷ rows) p (inr s) = inr (strictly_scale w xs rows p s)

pub strictly_left : (xs ys : List ℤ) (rows : List Constraint) → Strictly xs rows → Upward ys rows → Strictly (add xs ys) rows
strictly_left [] ys rows s u = absurd s
strictly_left (x ∷ xs) [] rows s u = s
strictly_left (x ∷ xs) (y ∷ ys) [] s u = s
strictly_left (x ∷ xs) (y ∷ ys) (r ∷ rows) (inl s) u = let h : pos 0 ≤ℤ y = subst (Weighs y) s.0 u.0 in let g = s.1 in inl (s.0, omega (arith, linear))
strictly_left (x ∷ xs) (y ∷ ys) (r ∷ rows) (inr s) u = inr (strictly_left xs ys rows s u.1)

pub strictly_right : (xs ys : List ℤ) (rows : List Constraint) → Upward xs rows → Strictly ys rows → Strictly (add xs ys) rows
strictly_right [] ys rows u s = s
strictly_right (x ∷ xs) [] rows u s = absurd s
strictly_right (x ∷ xs) (y ∷ ys) [] u s = s
strictly_right (x ∷ xs) (y ∷ ys) (r ∷ rows) u (inl s) = let h : pos 0 ≤ℤ x = subst (Weighs x) s.0 u.0 in let g = s.1 in inl (s.0, omega (arith, linear))
strictly_right (x ∷ xs) (y ∷ ys) (r ∷ rows) u (inr s) = inr (strictly_right xs ys rows u.1 s)

-- ---- the weights of a listed row

zero_idle : (k : Kind) → Idle (pos 0) k
zero_idle AtMost = refl
zero_idle Below = refl
zero_idle Equal = tt

one_weighs : (k : Kind) → Weighs (pos 1) k
one_weighs AtMost = omega (arith, linear)
one_weighs Below = omega (arith, linear)
one_weighs Equal = tt

zeros_even : (n : ℕ) (rows : List Constraint) → Even (replicate n (pos 0)) rows
zeros_even zero rows = tt
zeros_even (suc n) [] = tt
zeros_even (suc n) (r ∷ rows) = (zero_idle r.kind, zeros_even n rows)

pub zeros_upward : (n : ℕ) (rows : List Constraint) → Upward (replicate n (pos 0)) rows
zeros_upward n rows = even_upward (replicate n (pos 0)) rows (zeros_even n rows)

unit_even : (n i : ℕ) (rows : List Constraint) (d : Constraint) → i < length rows → (slice_index_or rows i d).kind ≡ Equal → Even (unit n i) rows
unit_even zero i rows d h e = tt
unit_even (suc n) zero [] d h e = tt
unit_even (suc n) (suc i) [] d h e = tt
unit_even (suc n) zero (r ∷ rows) d h e = (subst (Idle (pos 1)) (sym e) tt, zeros_even n rows)
unit_even (suc n) (suc i) (r ∷ rows) d h e = (zero_idle r.kind, unit_even n i rows d (omega arith) e)

unit_upward : (n i : ℕ) (rows : List Constraint) → Upward (unit n i) rows
unit_upward zero i rows = tt
unit_upward (suc n) zero [] = tt
unit_upward (suc n) (suc i) [] = tt
unit_upward (suc n) zero (r ∷ rows) = (one_weighs r.kind, zeros_upward n rows)
unit_upward (suc n) (suc i) (r ∷ rows) = (idle_weighs r.kind (pos 0) (zero_idle r.kind), unit_upward n i rows)

-- ---- what a row that stands keeps

pub record Traced (count : ℕ) (rows : List Constraint) (r : Kept) : Type 0 where
  pub valid : ValidRow count (handed_down r)
  pub long : length r.sum.weights ≡ most_rows
  pub within : EachWithin r.sum.weights
  pub columns : (k : ℕ) → column r.sum.weights rows k ≡ at r.sum k
  pub totals : total r.sum.weights rows ≡ r.sum.side
  pub even : r.kind ≡ Equal → Even r.sum.weights rows
  pub upward : Upward r.sum.weights rows
  pub strictly : r.kind ≡ Below → Strictly r.sum.weights rows

pub listed_traced : (count : ℕ) (rows : List Constraint) → length rows ≤ most_rows → (i : ℕ) (rest : List Constraint) → drop i rows ≡ rest → AllByRecursion (ValidRow count) rest → AllByRecursion (Traced count rows) (kept_rows i rest)
listed_traced count rows short i [] e v = tt
listed_traced count rows short i (r ∷ rest) e v =
    let p = place rows i r rest e in
    let inside : i < most_rows = omega arith in
    let w = unit most_rows i in
    let at_i : (f : Constraint → ℤ) → dot w (map f rows) ≡ f r = λ f. dot_unit most_rows i (map f rows) inside ∙ get_or-map f rows i r (pos 0) p.0 ∙ ap f p.1 in
    let weight : pos 0 <ℤ slice_index_or w i (pos 0) = subst (λ (z : ℤ). pos 0 <ℤ z) (sym (get_or-set_same (replicate most_rows (pos 0)) i (pos 1) (pos 0) (omega (arith, length-replicate most_rows (pos 0))))) (omega (arith, linear)) in
    let own : length w ≡ most_rows = length-set (replicate most_rows (pos 0)) i (pos 1) ∙ length-replicate most_rows (pos 0) in
    let kind_at : (slice_index_or rows i r).kind ≡ r.kind = ap (λ (c : Constraint). c.kind) p.1 in (
      record {
        valid = record { places = v.0.places; within = v.0.within; bounded = v.0.bounded; unused = v.0.unused };
        long = own;
        within = unit_within most_rows i;
        columns = λ k. at_i (λ c. slice_index_or c.coefficients k (pos 0));
        totals = at_i (λ c. c.side);
        even = λ s. unit_even most_rows i rows r p.0 (kind_at ∙ s);
        upward = unit_upward most_rows i rows;
        strictly = λ s. strictly_at w rows i r (omega arith) p.0 (kind_at ∙ s) weight;
      },
      listed_traced count rows short (i + 1) rest (ap (λ (n : ℕ). drop n rows) (add-one i) ∙ p.2) v.1,
    )

-- the pivot q is an equation with fader k
module _ (count : ℕ) (rows : List Constraint) (k : ℕ) (q : Kept) (equal : q.kind ≡ Equal) (solvable : 0 < unsigned_abs (at q.sum k)) (tq : Traced count rows q) where
  turned_traced : (r : Kept) → fits (cancelled k q.sum r.sum) ≡ true → Traced count rows r → Traced count rows (turned k q.sum r)
  turned_traced r fit t =
      let p = q.sum in
      let s = r.sum in
      let m = pos (own_factor k p s) in
      let n = other_factor k p s in
      let c = cancelled k p s in
      let above : pos 0 <ℤ m = (let h = own_above k p s solvable in omega (arith, linear)) in
      let near_parts = and_parts (all_near c.coefficients) (near c.side && all_near c.weights) fit in
      let near_rest = and_parts (near c.side) (all_near c.weights) near_parts.1 in
      let sum_of : (ys : List ℤ) → dot c.weights ys ≡ m *ℤ dot s.weights ys +ℤ n *ℤ dot p.weights ys = λ ys. dot_add (scale m s.weights) (scale n p.weights) ys ∙ (λ i. dot_scale m s.weights ys i +ℤ dot_scale n p.weights ys i) in
      let other = even_scale n p.weights rows (tq.even equal) in
      let other_up = even_upward (scale n p.weights) rows other in
      record {
        valid = record {
          places = blend_length m n s.coefficients p.coefficients (t.valid.places ∙ sym tq.valid.places) ∙ t.valid.places;
          within = all_near_each c.coefficients near_parts.0;
          bounded = near_within c.side near_rest.0;
          unused = λ j h. cancelled_at k p s j ∙ (λ i. m *ℤ t.valid.unused j h i +ℤ n *ℤ tq.valid.unused j h i) ∙ (λ i. *ℤ-zero m i +ℤ *ℤ-zero n i);
        };
        long = blend_length m n s.weights p.weights (t.long ∙ sym tq.long) ∙ t.long;
        within = all_near_each c.weights near_rest.1;
        columns = λ j. sum_of (map (λ r. slice_index_or r.coefficients j (pos 0)) rows) ∙ (λ i. m *ℤ t.columns j i +ℤ n *ℤ tq.columns j i) ∙ sym (cancelled_at k p s j);
        totals = sum_of (map (λ r. r.side) rows) ∙ (λ i. m *ℤ t.totals i +ℤ n *ℤ tq.totals i);
        even = λ e. even_add (scale m s.weights) (scale n p.weights) rows (even_scale m s.weights rows (t.even e)) other;
        upward = upward_add (scale m s.weights) (scale n p.weights) rows (upward_scale m s.weights rows (omega (arith, linear)) t.upward) other_up;
        strictly = λ e. strictly_left (scale m s.weights) (scale n p.weights) rows (strictly_scale m s.weights rows above (t.strictly e)) other_up;
      }

  pub becomes_traced : (r s : Kept) → Becomes k q.sum r s → Traced count rows r → Traced count rows s
  becomes_traced r s (inl b) t = subst (Traced count rows) b.1 t
  becomes_traced r s (inr b) t = subst (Traced count rows) b.2 (turned_traced r b.1 t)
