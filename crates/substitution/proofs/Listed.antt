-- The rows of the list written from place to place. Assumes nothing.
use Rattle.std.proofs.Common.{◌≡◌, ℕ, suc, ◌+◌, ◌<◌, List, [], ◌∷◌, ◌++◌, length, get_or, take, refl, sym, ap, ◌∙◌, arith}
use Rattle.std.proofs.lemmas.List.{take_more, length-map, length-take-le, map-append}
use Rattle.rows.specs.declared.row.Row.{Row}
use Rattle.rows.specs.Rows.{Constraint, constraint, constraints}
use Rattle.rows.specs.Carrying.{listed}
use Rattle.rows.proofs.Firsts.{constraint_at, within_constraints}
use Rattle.substitution.specs.declared.kept.Kept.{Kept as Held}
use Rattle.substitution.specs.Reduction.{Kept, kept_rows}
use Rattle.substitution.specs.Holding.{kept_of, kepts}

-- a listed row at a place
abbrev pub kept_at : ℕ → Constraint → Kept
kept_at i r = record { kind = r.kind; sum = listed i r }

pub kept_rows_push : (xs : List Constraint) (i : ℕ) (r : Constraint) → kept_rows i (xs ++ r ∷ []) ≡ kept_rows i xs ++ kept_at (i + length xs) r ∷ []
kept_rows_push [] i r = ap (λ (n : ℕ). kept_at n r ∷ []) (omega arith)
kept_rows_push (x ∷ xs) i r = ap (λ (t : List Kept). kept_at i x ∷ t) (kept_rows_push xs (i + 1) r ∙ ap (λ (n : ℕ). kept_rows (i + 1) xs ++ kept_at n r ∷ []) (omega arith))

pub kept_length : (i : ℕ) (rows : List Constraint) → length (kept_rows i rows) ≡ length rows
kept_length i [] = refl
kept_length i (r ∷ rows) = ap (λ (n : ℕ). suc n) (kept_length (i + 1) rows)

-- one row more at the end
pub listed_more : (rows : List Row) (t : List Held) (i : ℕ) (r : Row) (c : Held) → i < length rows → r ≡ get_or rows i r → kept_of c ≡ kept_at i (constraint r)
    → kepts t ≡ kept_rows 0 (take i (constraints rows)) → kepts (t ++ c ∷ []) ≡ kept_rows 0 (take (i + 1) (constraints rows))
listed_more rows t i r c h e q s =
    let n : length (take i (constraints rows)) ≡ i = length-take-le i (constraints rows) (omega (arith, length-map rows constraint)) in
    map-append kept_of t (c ∷ [])
    ∙ (λ j. s j ++ q j ∷ [])
    ∙ ap (λ (m : ℕ). kept_rows 0 (take i (constraints rows)) ++ kept_at m (constraint r) ∷ []) (omega arith)
    ∙ sym (kept_rows_push (take i (constraints rows)) 0 (constraint r))
    ∙ ap (kept_rows 0) (sym (take_more (constraints rows) i (constraint r) (within_constraints rows i r h e) ∙ ap (λ (x : Constraint). take i (constraints rows) ++ x ∷ []) (constraint_at rows i r h e)))
