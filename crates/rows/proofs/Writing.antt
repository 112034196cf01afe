-- A loop that writes a list place by place, each number held against G. Assumes nothing.
use Rattle.std.proofs.Common.{◌≡◌, ℕ, ◌+◌, ◌<◌, true, false, List, [], ◌∷◌, ◌++◌, length, get_or, take, set, ℤ, pos, Some, None, sym, ap, ◌∙◌, arith}
use Rattle.std.proofs.lemmas.List.{take_more_set, take_more}
use Rattle.rows.specs.Limits.{near, all_near, narrowed}
use Rattle.rows.proofs.Blends.{some_narrowed, none_narrowed, all_near_push, all_near_fails}

-- one turn, at the place i of the list that is to be written, where z stands
module _ (whole : List ℤ) (i : ℕ) (z : ℤ) (h : i < length whole) (at : get_or whole i (pos 0) ≡ z) where
  pub failed : None ≡ narrowed z → false ≡ all_near whole
  failed none = sym (all_near_fails whole i h (ap near at ∙ none_narrowed z none))

  pub placed : (out : List ℤ) (y : ℤ) → Some y ≡ narrowed z → length out ≡ length whole → take i out ≡ take i whole → take (i + 1) (set out i y) ≡ take (i + 1) whole
  placed out y s l t =
      take_more_set out i y (omega arith)
      ∙ (λ j. t j ++ ((some_narrowed z y s).1 ∙ sym at) j ∷ [])
      ∙ sym (take_more whole i (pos 0) h)

  pub still_near : (y : ℤ) → Some y ≡ narrowed z → all_near (take i whole) ≡ true → all_near (take (i + 1) whole) ≡ true
  still_near y s a =
      ap all_near (take_more whole i (pos 0) h)
      ∙ all_near_push (take i whole) (get_or whole i (pos 0)) a (ap near at ∙ (some_narrowed z y s).0)
