-- The marks of rules in a walk, and of the rules that it names. Assumes nothing.
use Rattle.std.specs.Prelude.{◌≡◌, ℕ, zero, suc, ◌+◌, Bool, true, false, cond, List, [], ◌∷◌, ◌==◌, slice_index_or}
use Rattle.plans.specs.declared.rule.Rule.{Rule}

abbrev pub with_mark : Rule → Bool → Rule
with_mark r b = record { row = r.row; sounds = b }

-- the mark of the rule with the number i replaced
abbrev pub marked : List Rule → ℕ → Bool → List Rule
marked [] i b = []
marked (r ∷ rules) zero b = with_mark r b ∷ rules
marked (r ∷ rules) (suc i) b = r ∷ marked rules i b

-- each rule that was muted sounds again
abbrev pub restored : List Bool → List Rule → List Rule
restored [] rules = rules
restored (m ∷ muted) [] = []
restored (m ∷ muted) (r ∷ rules) = cond m (with_mark r true) r ∷ restored muted rules

-- so many marks from number i on: 1 at each of the numbers, which ascend, and 0 elsewhere
abbrev pub marks_from : ℕ → ℕ → List ℕ → List ℕ
marks_from zero i numbers = []
marks_from (suc n) i [] = 0 ∷ marks_from n (i + 1) []
marks_from (suc n) i (m ∷ numbers) = cond (m == i) (1 ∷ marks_from n (i + 1) numbers) (0 ∷ marks_from n (i + 1) (m ∷ numbers))

-- the rule with the number i sounds
abbrev pub Sounds : List Rule → ℕ → Type 0
Sounds [] i = ⊥
Sounds (r ∷ rules) zero = r.sounds ≡ true
Sounds (r ∷ rules) (suc i) = Sounds rules i

-- a guard that muted some rules may give the rule with the number i this mark: to be muted it sounds, and to sound again it was muted by the guard
abbrev pub Markable : List Bool → List Rule → ℕ → Bool → Type 0
Markable muted rules i true = slice_index_or muted i false ≡ true
Markable muted rules i false = Sounds rules i
