-- A clash of the listed rows: from an equation that is false, and from a clash of the rows handed down. Assumes nothing.
use Rattle.std.specs.Prelude.{◌≡◌, ℕ, zero, suc, ◌+◌, ◌<◌, ◌≤◌, Bool, true, false, cond, ◌&&◌, List, [], ◌∷◌, map, length, get_or, take, drop, replicate, ℤ, pos, negsuc, ◌+ℤ◌, ◌*ℤ◌, ◌<ℤ◌, Some, None, Ok, Err, Option, Result, int_lt, slice_index_or, unsigned_abs, refl}
use Rattle.std.proofs.Common.{sym, ap, subst, ◌∙◌, inl, inr, arith}
use Rattle.std.proofs.Math.IntN.{+ℤ_assoc, +ℤ_idl}
use borrow.Author.Differences.{lt-true, lt-false}
use Rattle.std.specs.List.{AllByRecursion}
use Rattle.std.proofs.lemmas.Bool.{and_parts}
use Rattle.std.proofs.lemmas.List.{drop_more, length-replicate}
use Rattle.std.proofs.ByRecursion.{All-weaker}
use Rattle.integers.specs.Vectors.{dot, add, scale}
use Rattle.integers.proofs.Bounds.{abs_mul}
use Rattle.integers.proofs.Laws.{neg-is-*ℤ}
use Rattle.integers.proofs.Linear.{linear}
use Rattle.integers.proofs.VectorLaws.{dot_add, dot_scale, dot_none, add_at, scale_at, length_add, length_scale}
use Rattle.engine.specs.declared.fault.Fault.{Fault}
use Rattle.rows.specs.declared.kind.Kind.{Kind}
use Rattle.rows.specs.declared.kind.Kind.TheVariants.{AtMost, Below, Equal}
use Rattle.rows.specs.Limits.{most_rows, Within, EachWithin, near}
use Rattle.rows.specs.Rows.{Constraint}
use Rattle.rows.specs.Clashes.{Weighs, Weighed, column, total, Strictly, Falsehood, Clash}
use Rattle.engine.specs.Verdicts.{weight_beyond}
use Rattle.rows.proofs.Alls.{none_some}
use Rattle.rows.proofs.Blends.{near_within}
use Rattle.rows.proofs.Fits.{zero_within, within_take}
use Rattle.rows.proofs.Listing.{zeros_at}
use Rattle.rows.proofs.Weighing.{column_used, falsehood_used}
use Rattle.substitution.specs.Reduction.{Kept, at, contradiction}
use Rattle.substitution.specs.Lifting.{add_terms, carried_weights, before_weight, lifted_weights}
use Rattle.substitution.specs.Working.{handed_down}
use Rattle.substitution.specs.Tracing.{Upward, upward_add, upward_scale, even_scale, even_upward, strictly_scale, strictly_left, strictly_right, zeros_upward, Traced}

weighed_used : (ws : List ℤ) (rows : List Constraint) → length rows ≤ length ws → Upward ws rows → Weighed (take (length rows) ws) rows
weighed_used ws [] l h = tt
weighed_used [] (r ∷ rows) l h = absurd (omega arith)
weighed_used (w ∷ ws) (r ∷ rows) l h = (h.0, weighed_used ws rows (omega arith) h.1)

clash_of : (ws : List ℤ) (rows : List Constraint) → length rows ≤ length ws → Upward ws rows → EachWithin (take (length rows) ws) → ((k : ℕ) → column ws rows k ≡ pos 0) → Falsehood ws rows → Clash (take (length rows) ws) rows
clash_of ws rows l up w c f = record {
  weighed = weighed_used ws rows l up;
  within = w;
  columns = λ k. column_used ws rows k ∙ c k;
  falsehood = falsehood_used ws rows f;
}

-- ---- an equation without coefficients whose side is not 0

pub opposite_within : (ws : List ℤ) → EachWithin ws → EachWithin (scale (negsuc 0) ws)
opposite_within ws w k = subst Within (sym (scale_at (negsuc 0) ws k)) (omega (arith, abs_mul (negsuc 0) (slice_index_or ws k (pos 0)), w k))

module _ (count : ℕ) (rows : List Constraint) (short : length rows ≤ most_rows) where
  pub contradiction_clash : (r : Kept) → Traced count rows r → r.kind ≡ Equal → ((k : ℕ) → at r.sum k ≡ pos 0) → 0 < unsigned_abs r.sum.side → Clash (take (length rows) (contradiction r.sum)) rows
  contradiction_clash r t e z n = by (int_lt (pos 0) r.sum.side) refl
    where
      by : (b : Bool) → int_lt (pos 0) r.sum.side ≡ b → Clash (take (length rows) (cond b (scale (negsuc 0) r.sum.weights) r.sum.weights)) rows
      by true p =
          clash_of (scale (negsuc 0) r.sum.weights) rows (omega (arith, length_scale (negsuc 0) r.sum.weights, t.long)) (even_upward (scale (negsuc 0) r.sum.weights) rows (even_scale (negsuc 0) r.sum.weights rows (t.even e)))
          (within_take (length rows) (scale (negsuc 0) r.sum.weights) (opposite_within r.sum.weights t.within))
          (λ k. dot_scale (negsuc 0) r.sum.weights (map (λ c. get_or c.coefficients k (pos 0)) rows) ∙ ap (λ (x : ℤ). negsuc 0 *ℤ x) (t.columns k ∙ z k))
          (inl (omega (arith, linear, lt-true, dot_scale (negsuc 0) r.sum.weights (map (λ c. c.side) rows), neg-is-*ℤ (total r.sum.weights rows), t.totals)))
      by false p =
          clash_of r.sum.weights rows (omega (arith, t.long)) t.upward (within_take (length rows) r.sum.weights t.within) (λ k. t.columns k ∙ z k)
          (inl (subst (λ (x : ℤ). x <ℤ pos 0) (sym t.totals) (negative r.sum.side p n)))
        where
          negative : (x : ℤ) → int_lt (pos 0) x ≡ false → 0 < unsigned_abs x → x <ℤ pos 0
          negative (pos zero) p n = absurd (omega arith)
          negative (pos (suc m)) p n = omega (arith, linear, lt-false)
          negative (negsuc m) p n = omega (arith, linear)

-- ---- the weights below, each times the weights of its row, added

abbrev pub mix : List ℤ → List Kept → List ℤ
mix [] rs = replicate most_rows (pos 0)
mix (w ∷ ws) [] = replicate most_rows (pos 0)
mix (w ∷ ws) (r ∷ rs) = add (scale w r.sum.weights) (mix ws rs)

-- one number of each row
mix_numbers : (f : Constraint → ℤ) (rows : List Constraint) (ws : List ℤ) (rs : List Kept) → AllByRecursion (λ r. dot r.sum.weights (map f rows) ≡ f (handed_down r)) rs → dot (mix ws rs) (map f rows) ≡ dot ws (map f (map handed_down rs))
mix_numbers f rows [] rs h = dot_none (replicate most_rows (pos 0)) (map f rows) (zeros_at most_rows)
mix_numbers f rows (w ∷ ws) [] h = dot_none (replicate most_rows (pos 0)) (map f rows) (zeros_at most_rows)
mix_numbers f rows (w ∷ ws) (r ∷ rs) h =
    dot_add (scale w r.sum.weights) (mix ws rs) (map f rows)
    ∙ (λ i. dot_scale w r.sum.weights (map f rows) i +ℤ mix_numbers f rows ws rs h.1 i)
    ∙ ap (λ (x : ℤ). w *ℤ x +ℤ dot ws (map f (map handed_down rs))) h.0

mix_at : (ws : List ℤ) (rs : List Kept) (j : ℕ) → slice_index_or (mix ws rs) j (pos 0) ≡ dot ws (carried_weights j rs)
mix_at [] rs j = zeros_at most_rows j
mix_at (w ∷ ws) [] j = zeros_at most_rows j
mix_at (w ∷ ws) (r ∷ rs) j =
    add_at (scale w r.sum.weights) (mix ws rs) j
    ∙ (λ i. scale_at w r.sum.weights j i +ℤ mix_at ws rs j i)

module _ (count : ℕ) (rows : List Constraint) where
  mix_length : (ws : List ℤ) (rs : List Kept) → AllByRecursion (Traced count rows) rs → length (mix ws rs) ≡ most_rows
  mix_length [] rs t = length-replicate most_rows (pos 0)
  mix_length (w ∷ ws) [] t = length-replicate most_rows (pos 0)
  mix_length (w ∷ ws) (r ∷ rs) t =
      let own : length (scale w r.sum.weights) ≡ most_rows = length_scale w r.sum.weights ∙ t.0.long in
      length_add (scale w r.sum.weights) (mix ws rs) (own ∙ sym (mix_length ws rs t.1)) ∙ own

  scaled_upward : (k : Kind) (w : ℤ) (r : Kept) → r.kind ≡ k → Weighs w k → Traced count rows r → Upward (scale w r.sum.weights) rows
  scaled_upward AtMost w r e h t = upward_scale w r.sum.weights rows h t.upward
  scaled_upward Below w r e h t = upward_scale w r.sum.weights rows h t.upward
  scaled_upward Equal w r e h t = even_upward (scale w r.sum.weights) rows (even_scale w r.sum.weights rows (t.even e))

  mix_upward : (ws : List ℤ) (rs : List Kept) → AllByRecursion (Traced count rows) rs → Weighed ws (map handed_down rs) → Upward (mix ws rs) rows
  mix_upward [] rs t h = zeros_upward most_rows rows
  mix_upward (w ∷ ws) [] t h = zeros_upward most_rows rows
  mix_upward (w ∷ ws) (r ∷ rs) t h = upward_add (scale w r.sum.weights) (mix ws rs) rows (scaled_upward r.kind w r refl h.0 t.0) (mix_upward ws rs t.1 h.1)

  mix_strictly : (ws : List ℤ) (rs : List Kept) → AllByRecursion (Traced count rows) rs → Weighed ws (map handed_down rs) → Strictly ws (map handed_down rs) → Strictly (mix ws rs) rows
  mix_strictly [] rs t h s = absurd s
  mix_strictly (w ∷ ws) [] t h s = absurd s
  mix_strictly (w ∷ ws) (r ∷ rs) t h (inl s) = strictly_left (scale w r.sum.weights) (mix ws rs) rows (strictly_scale w r.sum.weights rows s.1 (t.0.strictly s.0)) (mix_upward ws rs t.1 h.1)
  mix_strictly (w ∷ ws) (r ∷ rs) t h (inr s) = strictly_right (scale w r.sum.weights) (mix ws rs) rows (scaled_upward r.kind w r refl h.0 t.0) (mix_strictly ws rs t.1 h.1 s)

  mix_columns : (ws : List ℤ) (rs : List Kept) → AllByRecursion (Traced count rows) rs → (k : ℕ) → column (mix ws rs) rows k ≡ column ws (map handed_down rs) k
  mix_columns ws rs t k = mix_numbers (λ c. get_or c.coefficients k (pos 0)) rows ws rs (All-weaker (Traced count rows) (λ r. column r.sum.weights rows k ≡ at r.sum k) (λ r h. h.columns k) rs t)

  mix_total : (ws : List ℤ) (rs : List Kept) → AllByRecursion (Traced count rows) rs → total (mix ws rs) rows ≡ total ws (map handed_down rs)
  mix_total ws rs t = mix_numbers (λ c. c.side) rows ws rs (All-weaker (Traced count rows) (λ r. total r.sum.weights rows ≡ r.sum.side) (λ r h. h.totals) rs t)

  mix_falsehood : (ws : List ℤ) (rs : List Kept) → AllByRecursion (Traced count rows) rs → Weighed ws (map handed_down rs) → Falsehood ws (map handed_down rs) → Falsehood (mix ws rs) rows
  mix_falsehood ws rs t h (inl f) = inl (subst (λ (x : ℤ). x <ℤ pos 0) (sym (mix_total ws rs t)) f)
  mix_falsehood ws rs t h (inr f) = inr (mix_total ws rs t ∙ f.0, mix_strictly ws rs t h f.1)

-- ---- the weights as they are added up

pub terms_sum : (s : ℤ) (ws us : List ℤ) (v : ℤ) → Within s → add_terms s ws us ≡ Some v → (v ≡ s +ℤ dot ws us) × Within v
terms_sum s [] us v h e = let z : s ≡ v = cc in (omega (arith, linear), subst Within z h)
terms_sum s (w ∷ ws) [] v h e = let z : s ≡ v = cc in (omega (arith, linear), subst Within z h)
terms_sum s (w ∷ ws) (u ∷ us) v h e = by (near (w *ℤ u) && near (s +ℤ w *ℤ u)) refl e (terms_sum (s +ℤ w *ℤ u) ws us v)
  where
    by : (b : Bool) → (near (w *ℤ u) && near (s +ℤ w *ℤ u)) ≡ b → cond b (add_terms (s +ℤ w *ℤ u) ws us) None ≡ Some v → (Within (s +ℤ w *ℤ u) → add_terms (s +ℤ w *ℤ u) ws us ≡ Some v → (v ≡ (s +ℤ w *ℤ u) +ℤ dot ws us) × Within v) → (v ≡ s +ℤ (w *ℤ u +ℤ dot ws us)) × Within v
    by true t e ih = let m = ih (near_within (s +ℤ w *ℤ u) (and_parts (near (w *ℤ u)) (near (s +ℤ w *ℤ u)) t).1) e in (m.0 ∙ +ℤ_assoc s (w *ℤ u) (dot ws us), m.1)
    by false t e ih = absurd (none_some v e)

err_ok : (f : Fault) (vs : List ℤ) → ◌≡◌ {A = Result (List ℤ) Fault} (Err f) (Ok vs) → ⊥
err_ok f vs e = let z : ◌≡◌ {A = ℕ} 0 1 = cc in omega arith

before_ok : (o : Option ℤ) (j : ℕ) (m : Result (List ℤ) Fault) (vs : List ℤ) → before_weight o j m ≡ Ok vs → (x : ℤ) × (xs : List ℤ) × (o ≡ Some x) × (m ≡ Ok xs) × (x ∷ xs ≡ vs)
before_ok None j m vs e = absurd (err_ok (weight_beyond j) vs e)
before_ok (Some x) j (Ok xs) vs e = (x, xs, refl, refl, cc)
before_ok (Some x) j (Err f) vs e = absurd (err_ok f vs e)

cons_within : (x : ℤ) (xs : List ℤ) → Within x → EachWithin xs → EachWithin (x ∷ xs)
cons_within x xs h w zero = h
cons_within x xs h w (suc k) = w k

lifted_are : (ws : List ℤ) (rs : List Kept) (n j : ℕ) (vs : List ℤ) → j + n ≤ length (mix ws rs) → lifted_weights n j ws rs ≡ Ok vs → (vs ≡ take n (drop j (mix ws rs))) × EachWithin vs
lifted_are ws rs zero j vs l e = let z : [] ≡ vs = cc in (sym z, subst EachWithin z (λ k. zero_within))
lifted_are ws rs (suc n) j vs l e =
    let b = before_ok (add_terms (pos 0) ws (carried_weights j rs)) j (lifted_weights n (j + 1) ws rs) vs e in
    let x = b.0 in
    let xs = b.1 in
    let s = terms_sum (pos 0) ws (carried_weights j rs) x zero_within b.2 in
    let ih = lifted_are ws rs n (j + 1) xs (omega arith) b.3 in
    let here : x ≡ get_or (mix ws rs) j (pos 0) = s.0 ∙ +ℤ_idl (dot ws (carried_weights j rs)) ∙ sym (mix_at ws rs j) in (
      sym b.4 ∙ (λ i. here i ∷ ih.0 i) ∙ ap (take (suc n)) (sym (drop_more (mix ws rs) j (pos 0) (omega arith))),
      subst EachWithin b.4 (cons_within x xs s.1 ih.1),
    )

pub lifted_clash : (count : ℕ) (rows : List Constraint) → length rows ≤ most_rows → (ws : List ℤ) (rs : List Kept) → AllByRecursion (Traced count rows) rs → Clash ws (map handed_down rs) → (vs : List ℤ) → lifted_weights (length rows) 0 ws rs ≡ Ok vs → Clash vs rows
lifted_clash count rows short ws rs t c vs e =
    let long = mix_length count rows ws rs t in
    let l = lifted_are ws rs (length rows) 0 vs (omega arith) e in
    subst (λ (x : List ℤ). Clash x rows) (sym l.0)
    (clash_of (mix ws rs) rows (omega arith) (mix_upward count rows ws rs t c.weighed) (subst EachWithin l.0 l.1)
    (λ k. mix_columns count rows ws rs t k ∙ c.columns k) (mix_falsehood count rows ws rs t c.weighed c.falsehood))
