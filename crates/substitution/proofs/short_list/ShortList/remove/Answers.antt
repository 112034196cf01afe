use Rattle.std.proofs.Common.{◌≡◌, ℕ, ◌+◌, ◌-◌, ◌<◌, ◌≤◌, List, ◌++◌, length, take, drop, sym, ap, ◌∙◌, arith, add-one}
use Rattle.std.specs.List.{remove, copy_within}
use Rattle.std.proofs.lemmas.List.{length-take-le, take-take, drop-take, length-drop}
use Rattle.std.proofs.lemmas.List.Edits.{take-paste}
use Rattle.substitution.proofs.short_list.ShortList.remove.Goals as goal

-- those behind a place, moved up by one
moved_up : {X : Type 0} (xs : List X) (place len : ℕ) → place < len → len ≤ length xs → take (len - 1) (copy_within xs (place + 1) len place) ≡ remove (take len xs) place
moved_up xs place len h l =
    let m = len - (place + 1) in
    let rest = drop (place + 1) xs in
    let few : m ≤ length rest = omega (arith, length-drop (place + 1) xs) in
    let behind : drop (place + 1) (take len xs) ≡ take m rest = ap (λ (k : ℕ). drop (place + 1) (take k xs)) (omega arith) ∙ drop-take (place + 1) m xs in
    ap (λ (k : ℕ). take k (copy_within xs (place + 1) len place)) (omega arith)
    ∙ take-paste xs place rest m (omega arith) few
    ∙ (λ j. sym (take-take place len xs (omega arith)) j ++ (sym behind ∙ ap (λ (k : ℕ). drop k (take len xs)) (add-one place)) j)

-- the same where the places are given by other numbers
moved_from : {X : Type 0} (xs : List X) (from to place len : ℕ) → from ≡ place + 1 → to ≡ place → place < len → len ≤ length xs → take (len - 1) (copy_within xs from len to) ≡ remove (take len xs) place
moved_from xs from to place len e f h l = (λ j. take (len - 1) (copy_within xs (e j) len (f j))) ∙ moved_up xs place len h l

pub returns-clause-rest : goal.returns-clause-rest
returns-clause-rest g c =
    let s = c.self.inside in
    let n : length (take s.len s.items) ≡ s.len = length-take-le s.len s.items (omega (arith, c.self.invariant)) in
    let h : c.args.place < s.len = omega (arith, c.requires, ap length c.self.view_is, n) in
    rw (c.copy_within.ensures.after, ← c.self.view_is) (moved_from s.items _ _ c.args.place s.len (omega (arith, c.requires)) (omega (arith, c.requires)) h (omega (arith, c.self.invariant)))
