-- One turn of the two loops over pairs. Assumes nothing.
use Rattle.std.proofs.Common.{◌≡◌, ℕ, ◌+◌, ◌<◌, ◌≤◌, true, false, List, ◌++◌, map, length, get_or, take, drop, Ok, Err, Result, sym, ap, ◌∙◌, subst, arith}
use Rattle.std.proofs.lemmas.List.{take-take, take_all, length-map, length-take-le, get_or-map, get_or-take, take-map}
use Rattle.engine.specs.declared.fault.Fault.{Fault}
use Rattle.elimination.specs.declared.cell.Cell.{Cell}
use Rattle.elimination.specs.Table.{Line, room, uppers, lowers, pairs}
use Rattle.elimination.specs.Lines.{line, lines}
use Rattle.elimination.specs.Appends.{Appends, is_upper, pairs_at}
use Rattle.elimination.proofs.Appending.{appends_then, appends_stop}
use Rattle.elimination.proofs.PairLists.{with_each, row_more, row_whole, pairs_next, pairs_same, pairs_whole, place_within}

-- the first rows of a table that was only appended to
pub first_kept : (held m : ℕ) (t u : List Cell) → held ≤ m → take m u ≡ take m t → take held u ≡ take held t
first_kept held m t u h e = sym (take-take held m u h) ∙ ap (take held) e ∙ take-take held m t h

-- the place j of the table and of its first rows
place_same : (k : ℕ) (u : Line) (held j : ℕ) (t v : List Cell) → j < held → take held v ≡ take held t → pairs_at k u (lines v) j ≡ pairs_at k u (lines (take held t)) j
place_same k u held j t v h e =
    ap (λ (x : List Line). map {B = Line × Line} (λ l. (u, l)) (lowers k x))
    (place_within (lines v) (lines (take held t)) j held h (take-map line held v ∙ ap lines (e ∙ sym (take-take held held t (omega arith))) ∙ sym (take-map line held (take held t))))

-- the inner loop, at place j
pub inner_more : (k held m j n : ℕ) (u : Line) (t v : List Cell) (r : Result ℕ Fault) (w : List Cell) → held ≤ m → room ≤ length t → j < held
    → Appends k m (with_each u (lowers k (take j (lines (take held t))))) t (Ok n) v → Appends k n (pairs_at k u (lines v) j) v r w
    → Appends k m (with_each u (lowers k (take (j + 1) (lines (take held t))))) t r w
inner_more k held m j n u t v r w h g l a b =
    subst (λ (ps : List (Line × Line)). Appends k m ps t r w) (sym (row_more k (lines (take held t)) u j))
    (appends_then k m n (with_each u (lowers k (take j (lines (take held t))))) (pairs_at k u (lines (take held t)) j) t v r w g a
    (subst (λ (ps : List (Line × Line)). Appends k n ps v r w) (place_same k u held j t v l (first_kept held m t v h a.3)) b))

-- at its end
pub inner_ends : (k held m j n : ℕ) (u : Line) (t v : List Cell) → held ≤ j → held ≤ length t
    → Appends k m (with_each u (lowers k (take j (lines (take held t))))) t (Ok n) v → Appends k m (with_each u (lowers k (lines (take held t)))) t (Ok n) v
inner_ends k held m j n u t v h g a =
    let l : length (lines (take held t)) ≡ length (take held t) = length-map (take held t) line in
    let s : length (take held t) ≡ held = length-take-le held t g in
    subst (λ (x : List Line). Appends k m (with_each u (lowers k x)) t (Ok n) v) (take_all j (lines (take held t)) (omega arith)) a

-- at a fault
inner_stops : (k held m j : ℕ) (u : Line) (t : List Cell) (f : Fault) (w : List Cell)
    → Appends k m (with_each u (lowers k (take (j + 1) (lines (take held t))))) t (Err f) w → Appends k m (with_each u (lowers k (lines (take held t)))) t (Err f) w
inner_stops k held m j u t f w a =
    let T = lines (take held t) in
    subst (λ (ps : List (Line × Line)). Appends k m ps t (Err f) w) (sym (row_whole k T u j))
    (appends_stop k m (with_each u (lowers k (take j T)) ++ pairs_at k u T j) (with_each u (lowers k (drop (j + 1) T))) t f w w
    (subst (λ (ps : List (Line × Line)). Appends k m ps t (Err f) w) (row_more k T u j) a))

-- the outer loop, at the row c of place i
module _ (k held i m : ℕ) (o t : List Cell) (c : Cell) (g : room ≤ length o) (hr : held ≤ room) (h : i < held)
    (a : Appends k held (pairs (uppers k (take i (lines (take held o)))) (lowers k (lines (take held o)))) o (Ok m) t) (e : c ≡ get_or t i c) where
  same_rows : take held t ≡ take held o
  same_rows = a.3

  in_rows : i < length (lines (take held o))
  in_rows =
      let l : length (lines (take held o)) ≡ length (take held o) = length-map (take held o) line in
      let s : length (take held o) ≡ held = length-take-le held o (omega arith) in
      omega arith

  row_is : get_or (lines (take held o)) i (line c) ≡ line c
  row_is =
      let s : length (take held o) ≡ held = length-take-le held o (omega arith) in
      get_or-map line (take held o) i c (line c) (omega arith) ∙ ap line (ap (λ (x : List Cell). get_or x i c) (sym same_rows) ∙ get_or-take held t i c h ∙ sym e)

  pub outer_row : (r : Result ℕ Fault) (w : List Cell) → is_upper k (line c) ≡ true → Appends k m (with_each (line c) (lowers k (lines (take held t)))) t r w
      → Appends k held (pairs (uppers k (take (i + 1) (lines (take held o)))) (lowers k (lines (take held o)))) o r w
  outer_row r w upper b =
      let T = lines (take held o) in
      subst (λ (ps : List (Line × Line)). Appends k held ps o r w) (sym (pairs_next k T i (line c) in_rows row_is upper))
      (appends_then k held m (pairs (uppers k (take i T)) (lowers k T)) (with_each (line c) (lowers k T)) o t r w g a
      (subst (λ (x : List Cell). Appends k m (with_each (line c) (lowers k (lines x))) t r w) same_rows b))

  pub outer_skips : is_upper k (line c) ≡ false → Appends k held (pairs (uppers k (take (i + 1) (lines (take held o)))) (lowers k (lines (take held o)))) o (Ok m) t
  outer_skips not-upper =
      subst (λ (ps : List (Line × Line)). Appends k held ps o (Ok m) t) (sym (pairs_same k (lines (take held o)) i (line c) in_rows row_is not-upper)) a

  pub outer_stops : (j : ℕ) (f : Fault) (w v : List Cell) → is_upper k (line c) ≡ true → Appends k m (with_each (line c) (lowers k (take (j + 1) (lines (take held t))))) t (Err f) w
      → Appends k held (pairs (uppers k (lines (take held o))) (lowers k (lines (take held o)))) o (Err f) v
  outer_stops j f w v upper b =
      let T = lines (take held o) in
      let row = outer_row (Err f) w upper (inner_stops k held m j (line c) t f w b) in
      subst (λ (ps : List (Line × Line)). Appends k held ps o (Err f) v) (sym (pairs_whole k T i (line c) in_rows row_is upper))
      (appends_stop k held (pairs (uppers k (take i T)) (lowers k T) ++ with_each (line c) (lowers k T)) (pairs (uppers k (drop (i + 1) T)) (lowers k T)) o f w v
      (subst (λ (ps : List (Line × Line)). Appends k held ps o (Err f) w) (pairs_next k T i (line c) in_rows row_is upper) row))
