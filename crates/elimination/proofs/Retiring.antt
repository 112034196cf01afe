-- The first rows of a table set aside one by one, and the table after a stage. Assumes nothing.
use Rattle.std.proofs.Common.{◌≡◌, ℕ, suc, ◌+◌, ◌-◌, ◌<◌, ◌≤◌, List, [], ◌∷◌, ◌++◌, map, length, get_or, take, drop, set, Ok, Err, Result, sym, ap, ◌∙◌, arith}
use Rattle.std.proofs.lemmas.List.{take_more, take_more_set, take-append-drop, take-take, drop-take, drop-drop, drop-set-lt, get_or-drop, map-append, length-map, length-take-le}
use Rattle.engine.specs.declared.fault.Fault.{Fault}
use Rattle.elimination.specs.declared.cell.Cell.{Cell}
use Rattle.elimination.specs.Table.{Line, room, uppers, lowers, pairs, sums, joining, set_aside, eliminated, all_eliminated}
use Rattle.elimination.specs.Lines.{line, lines}
use Rattle.elimination.specs.Appends.{Appends}

-- one turn: the row c at place i becomes d
module _ (f : Line → Line) (i : ℕ) (o t : List Cell) (c d : Cell) (h : i < length t) (g : i < length o)
    (done : lines (take i t) ≡ map f (lines (take i o))) (left : drop i t ≡ drop i o) (e : c ≡ get_or t i c) (r : line d ≡ f (line c)) where
  old_is : get_or o i c ≡ c
  old_is = (ap (λ (x : ℕ). get_or o x c) (omega arith) ∙ sym (get_or-drop i o 0 c)) ∙ ap (λ (x : List Cell). get_or x 0 c) (sym left) ∙ get_or-drop i t 0 c ∙ ap (λ (x : ℕ). get_or t x c) (omega arith) ∙ sym e

  pub retired_more : lines (take (i + 1) (set t i d)) ≡ map f (lines (take (i + 1) o))
  retired_more =
      ap lines (take_more_set t i d h)
      ∙ map-append line (take i t) (d ∷ [])
      ∙ (λ j. done j ++ r j ∷ [])
      ∙ sym (ap (λ (x : List Cell). map f (lines x)) (take_more o i c g ∙ ap (λ (x : Cell). take i o ++ x ∷ []) old_is)
      ∙ ap (map f) (map-append line (take i o) (c ∷ []))
      ∙ map-append f (lines (take i o)) (line c ∷ []))

  pub left_more : drop (i + 1) (set t i d) ≡ drop (i + 1) o
  left_more = drop-set-lt (i + 1) t i d (omega arith) ∙ sym (drop-drop 1 i t) ∙ ap (drop 1) left ∙ drop-drop 1 i o

-- after the sums were appended to o, giving u, and the first rows of u set aside, giving v
module _ (k held m : ℕ) (o u v : List Cell) (hr : held ≤ room) (g : room ≤ length o)
    (a : Appends k held (pairs (uppers k (lines (take held o))) (lowers k (lines (take held o)))) o (Ok m) u)
    (s : lines (take held v) ≡ map (set_aside k) (lines (take held u))) (l : drop held v ≡ drop held u) where
  part_same : drop held (take m v) ≡ drop held (take m u)
  part_same =
      let n : held + (m - held) ≡ m = omega (arith, a.0) in
      ap (λ (x : ℕ). drop held (take x v)) (sym n) ∙ drop-take held (m - held) v ∙ ap (take (m - held)) l ∙ sym (drop-take held (m - held) u) ∙ ap (λ (x : ℕ). drop held (take x u)) n

  pub eliminated_ok : eliminated k (lines (take held o)) ≡ Ok (lines (take m v))
  eliminated_ok =
      let T = lines (take held o) in
      let n : length T ≡ held = length-map (take held o) line ∙ length-take-le held o (omega arith) in
      ap (λ (x : ℕ). joining (map (set_aside k) T) (sums k x (pairs (uppers k T) (lowers k T)))) n
      ∙ ap (joining (map (set_aside k) T)) a.4
      ∙ ap Ok ((λ j. (sym (s ∙ ap (λ (x : List Cell). map (set_aside k) (lines x)) a.3)) j ++ lines (sym part_same j))
      ∙ sym (map-append line (take held v) (drop held (take m v)))
      ∙ ap lines (ap (λ (x : List Cell). x ++ drop held (take m v)) (sym (take-take held m v a.0)) ∙ take-append-drop held (take m v)))

-- the stages, the first of which came to r
after_first : ℕ → ℕ → Result (List Line) Fault → Result (List Line) Fault
after_first m k r = elim r [ Ok u ↦ all_eliminated m (k + 1) u | Err f ↦ Err f ]

stages_by : (count k : ℕ) (t : List Line) (r : Result (List Line) Fault) → k < count → eliminated k t ≡ r → all_eliminated (count - k) k t ≡ after_first (count - (k + 1)) k r
unfolding after_first
stages_by count k t r h e =
    let n : count - k ≡ suc (count - (k + 1)) = omega arith in
    ap (λ (x : ℕ). all_eliminated x k t) n ∙ ap (λ (x : Result (List Line) Fault). after_first (count - (k + 1)) k x) e

pub stage_ok : (count k : ℕ) (t u : List Line) → k < count → eliminated k t ≡ Ok u → all_eliminated (count - k) k t ≡ all_eliminated (count - (k + 1)) (k + 1) u
unfolding after_first
stage_ok count k t u h e = stages_by count k t (Ok u) h e

pub stage_err : (count k : ℕ) (t : List Line) (f : Fault) → k < count → eliminated k t ≡ Err f → all_eliminated (count - k) k t ≡ Err f
unfolding after_first
stage_err count k t f h e = stages_by count k t (Err f) h e
