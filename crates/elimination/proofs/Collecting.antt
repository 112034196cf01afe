-- A loop that collects the limits of the rows that pass a test. Assumes nothing.
use Rattle.std.proofs.Common.{◌≡◌, ℕ, ◌+◌, ◌<◌, Bool, true, false, List, [], ◌∷◌, ◌++◌, length, get_or, drop, Some, None, filter, Option, sym, refl, ap, ◌∙◌, append_assoc}
use Rattle.std.specs.Option.{option_map}
use Rattle.std.proofs.lemmas.List.{at_drop_more}
use Rattle.std.proofs.lemmas.Bool.{cond-true, cond-false}
use Rattle.elimination.specs.declared.cell.Cell.{Cell}
use Rattle.elimination.specs.Table.{Line}
use Rattle.elimination.specs.Lines.{line, lines}
use Rattle.elimination.specs.Levels.{Limit, also, limits}

-- what is found, before what is still to be found
abbrev pub onto : List Limit → Option (List Limit) → Option (List Limit)
onto ls o = option_map (λ ms. ls ++ ms) o

onto_also : (ls : List Limit) (l : Limit) (o : Option (List Limit)) → onto ls (also (Some l) o) ≡ onto (ls ++ l ∷ []) o
onto_also ls l None = refl
onto_also ls l (Some ms) = ap Some (sym (append_assoc ls (l ∷ []) ms))

-- the limits of the rows that pass
module _ (f : Line → Option Limit) (p : Line → Bool) where
  abbrev pub gathered : List Cell → Option (List Limit)
  gathered t = limits f (filter p (lines t))

  taken : (c : Cell) (t : List Cell) → p (line c) ≡ true → gathered (c ∷ t) ≡ also (f (line c)) (gathered t)
  taken c t e = ap (limits f) (cond-true (p (line c)) (line c ∷ filter p (lines t)) (filter p (lines t)) e)

  -- one turn, at the row c of the table
  module _ (t : List Cell) (i : ℕ) (c : Cell) (h : i < length t) (is : c ≡ get_or t i c) where
    next : gathered (drop i t) ≡ gathered (c ∷ drop (i + 1) t)
    next = at_drop_more gathered t i c h ∙ ap (λ (x : Cell). gathered (x ∷ drop (i + 1) t)) (sym is)

    pub passed_over : (ls : List Limit) → p (line c) ≡ false → onto ls (gathered (drop i t)) ≡ onto ls (gathered (drop (i + 1) t))
    passed_over ls e =
        let rest = filter p (lines (drop (i + 1) t)) in
        ap (onto ls) (next ∙ ap (limits f) (cond-false (p (line c)) (line c ∷ rest) rest e))

    pub one_more : (ls : List Limit) (l : Limit) → p (line c) ≡ true → Some l ≡ f (line c) → onto ls (gathered (drop i t)) ≡ onto (ls ++ l ∷ []) (gathered (drop (i + 1) t))
    one_more ls l e s =
        ap (onto ls) (next ∙ taken c (drop (i + 1) t) e ∙ ap (λ (o : Option Limit). also o (gathered (drop (i + 1) t))) (sym s))
        ∙ onto_also ls l (gathered (drop (i + 1) t))
