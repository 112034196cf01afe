-- The list of rows, read and written from place to place. Assumes nothing.
use Rattle.std.proofs.Common.{◌≡◌, ℕ, ◌+◌, ◌<◌, cond, List, [], ◌∷◌, ◌++◌, length, get_or, take, set, Some, Option, refl, sym, ap, ◌∙◌, arith}
use Rattle.std.proofs.lemmas.List.{take_more, take_more_set, length-map, map-append}
use Rattle.std.specs.List.{position_from}
use Rattle.rows.specs.declared.row.Row.{Row}
use Rattle.rows.specs.Rows.{Constraint, constraint, constraints}
use Rattle.rows.proofs.Firsts.{constraint_at, within_constraints}
use Rattle.elimination.specs.declared.cell.Cell.{Cell}
use Rattle.elimination.specs.Table.{Line}
use Rattle.elimination.specs.Lines.{line, lines}
use Rattle.elimination.specs.Working.{first_equation, is_equation, listed_line, carried}

-- the place of the first equation, from place i on
pub equation_place : (rows : List Row) (i : ℕ) → position_from (λ r. is_equation r.kind) i rows ≡ first_equation i (constraints rows)
equation_place [] i = refl
equation_place (r ∷ rows) i = ap (λ (o : Option ℕ). cond (is_equation r.kind) (Some i) o) (equation_place rows (i + 1))

-- one row more at the end
carried_push : (xs : List Constraint) (i : ℕ) (r : Constraint) → carried i (xs ++ r ∷ []) ≡ carried i xs ++ listed_line (i + length xs) r ∷ []
carried_push [] i r = ap (λ (n : ℕ). listed_line n r ∷ []) (omega arith)
carried_push (x ∷ xs) i r = ap (λ (t : List Line). listed_line i x ∷ t) (carried_push xs (i + 1) r ∙ ap (λ (n : ℕ). carried (i + 1) xs ++ listed_line n r ∷ []) (omega arith))

pub filled_more : (rows : List Row) (t : List Cell) (i : ℕ) (r : Row) (c : Cell) → i < length rows → i < length t → r ≡ get_or rows i r → line c ≡ listed_line i (constraint r)
    → lines (take i t) ≡ carried 0 (take i (constraints rows)) → lines (take (i + 1) (set t i c)) ≡ carried 0 (take (i + 1) (constraints rows))
filled_more rows t i r c h g e q s =
    let n : length (take i (constraints rows)) ≡ i = Rattle.std.proofs.lemmas.List.length-take-le i (constraints rows) (omega (arith, length-map rows constraint)) in
    ap lines (take_more_set t i c g)
    ∙ map-append line (take i t) (c ∷ [])
    ∙ (λ j. s j ++ q j ∷ [])
    ∙ ap (λ (m : ℕ). carried 0 (take i (constraints rows)) ++ listed_line m (constraint r) ∷ []) (omega arith)
    ∙ sym (carried_push (take i (constraints rows)) 0 (constraint r))
    ∙ ap (carried 0) (sym (take_more (constraints rows) i (constraint r) (within_constraints rows i r h e) ∙ ap (λ (x : Constraint). take i (constraints rows) ++ x ∷ []) (constraint_at rows i r h e)))
