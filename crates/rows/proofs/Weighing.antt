-- Weights beside the rows of a list: what a loop over the rows shows of them, place by place. Assumes nothing.
use Rattle.std.proofs.Common.{◌≡◌, ℕ, zero, suc, ◌<◌, ◌≤◌, List, [], ◌∷◌, map, length, get_or, take, ℤ, pos, ◌+ℤ◌, ◌*ℤ◌, ◌<ℤ◌, sym, refl, ap, ◌∙◌, subst, inl, inr, arith}
use lib.IntN.{*ℤ-zero}
use Rattle.std.proofs.lemmas.List.{get_or_past, length-map}
use Rattle.integers.specs.Vectors.{dot}
use Rattle.rows.specs.declared.kind.Kind.TheVariants.{Below}
use Rattle.rows.specs.declared.row.Row.{Row}
use Rattle.rows.specs.Limits.{faders}
use Rattle.rows.specs.Rows.{Constraint, constraints}
use Rattle.rows.specs.Clashes.{Weighed, column, total, Strictly, Falsehood, FirstNegative}

pub negative_not_weighed : (ws : List ℤ) (rows : List Constraint) (i : ℕ) → FirstNegative ws rows i → Weighed ws rows → ⊥
negative_not_weighed [] rows i f all = f
negative_not_weighed (w ∷ ws) [] i f all = f
negative_not_weighed (w ∷ ws) (r ∷ rows) zero f all = f all.0
negative_not_weighed (w ∷ ws) (r ∷ rows) (suc i) f all = negative_not_weighed ws rows i f.1 all.1

pub weighed_length : (ws : List ℤ) (rows : List Constraint) → Weighed ws rows → length ws ≡ length rows
weighed_length [] [] p = refl
weighed_length [] (r ∷ rows) p = absurd p
weighed_length (w ∷ ws) [] p = absurd p
weighed_length (w ∷ ws) (r ∷ rows) p = ap suc (weighed_length ws rows p.1)

-- a row of kind below with a weight above 0 makes it strict
pub strictly_at : (ws : List ℤ) (rows : List Constraint) (i : ℕ) (d : Constraint) → i < length ws → i < length rows → (get_or rows i d).kind ≡ Below → pos 0 <ℤ get_or ws i (pos 0) → Strictly ws rows
strictly_at [] rows i d h k b p = absurd (omega arith)
strictly_at (w ∷ ws) [] i d h k b p = absurd (omega arith)
strictly_at (w ∷ ws) (r ∷ rows) zero d h k b p = inl (b, p)
strictly_at (w ∷ ws) (r ∷ rows) (suc i) d h k b p = inr (strictly_at ws rows i d (omega arith) (omega arith) b p)

-- weights past the rows count nothing
pub dot_take : (ws ys : List ℤ) → dot (take (length ys) ws) ys ≡ dot ws ys
dot_take [] [] = refl
dot_take [] (y ∷ ys) = refl
dot_take (w ∷ ws) [] = refl
dot_take (w ∷ ws) (y ∷ ys) = ap (λ (z : ℤ). w *ℤ y +ℤ z) (dot_take ws ys)

pub column_used : (ws : List ℤ) (rows : List Constraint) (k : ℕ) → column (take (length rows) ws) rows k ≡ column ws rows k
column_used ws rows k =
    let f : Constraint → ℤ = λ r. get_or r.coefficients k (pos 0) in
    ap (λ (n : ℕ). dot (take n ws) (map f rows)) (sym (length-map rows f)) ∙ dot_take ws (map f rows)

pub total_used : (ws : List ℤ) (rows : List Constraint) → total (take (length rows) ws) rows ≡ total ws rows
total_used ws rows =
    let f : Constraint → ℤ = λ r. r.side in
    ap (λ (n : ℕ). dot (take n ws) (map f rows)) (sym (length-map rows f)) ∙ dot_take ws (map f rows)

pub strictly_used : (ws : List ℤ) (rows : List Constraint) → Strictly ws rows → Strictly (take (length rows) ws) rows
strictly_used [] [] s = s
strictly_used [] (r ∷ rows) s = s
strictly_used (w ∷ ws) [] s = s
strictly_used (w ∷ ws) (r ∷ rows) (inl s) = inl s
strictly_used (w ∷ ws) (r ∷ rows) (inr s) = inr (strictly_used ws rows s)

pub strictly_of_used : (ws : List ℤ) (rows : List Constraint) → Strictly (take (length rows) ws) rows → Strictly ws rows
strictly_of_used [] [] s = s
strictly_of_used [] (r ∷ rows) s = s
strictly_of_used (w ∷ ws) [] s = s
strictly_of_used (w ∷ ws) (r ∷ rows) (inl s) = inl s
strictly_of_used (w ∷ ws) (r ∷ rows) (inr s) = inr (strictly_of_used ws rows s)

pub falsehood_used : (ws : List ℤ) (rows : List Constraint) → Falsehood ws rows → Falsehood (take (length rows) ws) rows
falsehood_used ws rows (inl f) = inl (subst (λ (t : ℤ). t <ℤ pos 0) (sym (total_used ws rows)) f)
falsehood_used ws rows (inr f) = inr (total_used ws rows ∙ f.0, strictly_used ws rows f.1)

pub falsehood_of_used : (ws : List ℤ) (rows : List Constraint) → Falsehood (take (length rows) ws) rows → Falsehood ws rows
falsehood_of_used ws rows (inl f) = inl (subst (λ (t : ℤ). t <ℤ pos 0) (total_used ws rows) f)
falsehood_of_used ws rows (inr f) = inr (sym (total_used ws rows) ∙ f.0, strictly_of_used ws rows f.1)

-- no row has a coefficient past the last fader
pub column_past : (ws : List ℤ) (rows : List Row) (k : ℕ) → faders ≤ k → column ws (constraints rows) k ≡ pos 0
column_past [] rows k h = refl
column_past (w ∷ ws) [] k h = refl
column_past (w ∷ ws) (r ∷ rows) k h =
    (λ i. w *ℤ get_or_past r.coefficients k (pos 0) (omega (arith, r.places)) i +ℤ column_past ws rows k h i) ∙ ap (λ (z : ℤ). z +ℤ pos 0) (*ℤ-zero w)
