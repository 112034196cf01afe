-- Weights set down by rule number, one rule after another. Assumes nothing.
use Rattle.std.proofs.Common.{◌≡◌, ℕ, suc, ◌+◌, ◌-◌, ◌<◌, ◌≤◌, Bool, true, false, List, [], ◌∷◌, ◌++◌, length, get_or, take, drop, set, replicate, ℤ, pos, sym, refl, ap, ◌∙◌, arith}
use Rattle.std.proofs.lemmas.List.{append_assoc, append-nil, length-map, length-drop, take-append-drop, take_more, take_more_set, drop_more, drop-drop, get_or-drop}
use Rattle.rows.specs.Limits.{most_rows}
use Rattle.plans.specs.declared.rule.Rule.{Rule}
use Rattle.plans.specs.Rules.{RuleView, rule_view, rule_views}
use Rattle.plans.specs.Sounding.{sounding_rows}
use Rattle.console.specs.Asking.{spread, padded}

pub length_spread : (rules : List RuleView) (ws : List ℤ) → length (spread rules ws) ≡ length rules
length_spread [] ws = refl
length_spread (r ∷ rules) ws = by r.sounds refl (length_spread rules (drop 1 ws)) (length_spread rules ws)
  where
    by : (b : Bool) → r.sounds ≡ b → length (spread rules (drop 1 ws)) ≡ length rules → length (spread rules ws) ≡ length rules → length (spread (r ∷ rules) ws) ≡ length (r ∷ rules)
    by true e h k = rw e (ap suc h)
    by false e h k = rw e (ap suc k)

-- what is set down so far, and what is still to come
abbrev pub Onward : List Rule → List ℤ → ℕ → ℕ → List ℤ → Type 0
Onward rules ws i place set_down = take i set_down ++ spread (rule_views (drop i rules)) (drop place ws) ≡ spread (rule_views rules) ws

-- nothing is set down from place i on
abbrev pub Clear : ℕ → List ℤ → Type 0
Clear i set_down = (k : ℕ) → i ≤ k → get_or set_down k (pos 0) ≡ pos 0

module _ (rules : List Rule) (ws : List ℤ) (i place : ℕ) (d : Rule) (h : i < length rules) where
  pub spread_sounding : (xs : List ℤ) (w : ℤ) → w ≡ get_or ws place (pos 0) → i < length xs → (get_or rules i d).sounds ≡ true → Onward rules ws i place xs → Onward rules ws (i + 1) (place + 1) (set xs i w)
  spread_sounding xs w read k sounds on =
      let later = spread (rule_views (drop (i + 1) rules)) (drop (place + 1) ws) in
      let first : get_or (drop place ws) 0 (pos 0) ≡ w = get_or-drop place ws 0 (pos 0) ∙ ap (λ (n : ℕ). get_or ws n (pos 0)) (omega arith) ∙ sym read in
      let rest : drop 1 (drop place ws) ≡ drop (place + 1) ws = drop-drop 1 place ws in
      let here : spread (rule_views (drop i rules)) (drop place ws) ≡ w ∷ later =
      ap (λ (rs : List Rule). spread (rule_views rs) (drop place ws)) (drop_more rules i d h) ∙ rw sounds (λ j. first j ∷ spread (rule_views (drop (i + 1) rules)) (rest j)) in
      ap (λ (t : List ℤ). t ++ later) (take_more_set xs i w k)
      ∙ append_assoc (take i xs) (w ∷ []) later
      ∙ ap (λ (t : List ℤ). take i xs ++ t) (sym here)
      ∙ on

  pub spread_muted : (xs : List ℤ) → i < length xs → Clear i xs → (get_or rules i d).sounds ≡ false → Onward rules ws i place xs → Onward rules ws (i + 1) place xs
  spread_muted xs k clear mute on =
      let later = spread (rule_views (drop (i + 1) rules)) (drop place ws) in
      let here : spread (rule_views (drop i rules)) (drop place ws) ≡ pos 0 ∷ later =
      ap (λ (rs : List Rule). spread (rule_views rs) (drop place ws)) (drop_more rules i d h) ∙ rw mute refl in
      ap (λ (t : List ℤ). t ++ later) (take_more xs i (pos 0) k ∙ ap (λ (z : ℤ). take i xs ++ z ∷ []) (clear i (omega arith)))
      ∙ append_assoc (take i xs) (pos 0 ∷ []) later
      ∙ ap (λ (t : List ℤ). take i xs ++ t) (sym here)
      ∙ on

pub all_same : {X : Type 0} (z : X) (xs : List X) → ((k : ℕ) → get_or xs k z ≡ z) → xs ≡ replicate (length xs) z
all_same z [] same = refl
all_same z (x ∷ xs) same = λ j. same 0 j ∷ all_same z xs (λ k. same (suc k)) j

pub spread_whole : (rules : List Rule) (ws xs : List ℤ) (n place : ℕ) → n ≡ length rules → length rules ≤ most_rows → length xs ≡ most_rows → Clear n xs → Onward rules ws n place xs → xs ≡ padded (spread (rule_views rules) ws)
spread_whole rules ws xs n place at few long clear on =
    let none : drop n rules ≡ [] = empty (drop n rules) (omega (arith, length-drop n rules, at)) in
    let front : take n xs ≡ spread (rule_views rules) ws = sym (append-nil (take n xs)) ∙ ap (λ (rs : List Rule). take n xs ++ spread (rule_views rs) (drop place ws)) (sym none) ∙ on in
    let rest : length (drop n xs) ≡ most_rows - length (spread (rule_views rules) ws) = omega (arith, length-drop n xs, long, at, length_spread (rule_views rules) ws, length-map rules rule_view) in
    let back : drop n xs ≡ replicate (length (drop n xs)) (pos 0) = all_same (pos 0) (drop n xs) (λ k. get_or-drop n xs k (pos 0) ∙ clear (n + k) (omega arith)) in
    sym (take-append-drop n xs) ∙ ap (λ (t : List ℤ). t ++ drop n xs) front ∙ ap (λ (t : List ℤ). spread (rule_views rules) ws ++ t) (back ∙ ap (λ (m : ℕ). replicate m (pos 0)) rest)
  where
    empty : (rs : List Rule) → length rs ≡ 0 → rs ≡ []
    empty [] e = refl
    empty (r ∷ rs) e = absurd (omega arith)

-- only the weights of the sounding rules are read
pub spread_taken : (rules : List RuleView) (ws : List ℤ) → spread rules (take (length (sounding_rows rules)) ws) ≡ spread rules ws
spread_taken [] ws = refl
spread_taken (r ∷ rules) ws = by r.sounds refl ws (spread_taken rules)
  where
    by : (b : Bool) → r.sounds ≡ b → (ws : List ℤ) → ((vs : List ℤ) → spread rules (take (length (sounding_rows rules)) vs) ≡ spread rules vs) → spread (r ∷ rules) (take (length (sounding_rows (r ∷ rules))) ws) ≡ spread (r ∷ rules) ws
    by true e [] ih = rw e (ap (λ (more : List ℤ). pos 0 ∷ more) (λ j. spread rules []))
    by true e (w ∷ ws) ih = rw e (ap (λ (more : List ℤ). w ∷ more) (ih ws))
    by false e ws ih = rw e (ap (λ (more : List ℤ). pos 0 ∷ more) (ih ws))
