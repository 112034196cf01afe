-- A total order by a test, and the first among the best of a list. Assumes nothing.
use Rattle.std.specs.Prelude.{◌≡◌, ℕ, ◌<◌, Bool, true, false, not, List, length, slice_index_or}

-- x is better than y: y is worse than x
abbrev pub beats : {X : Type 0} → (X → X → Bool) → X → X → Bool
beats not_worse x y = not (not_worse y x)

-- the place b: nothing in the list is better than what stands there, and that is better than each one before it
pub record FirstBest {X : Type 0} (not_worse : X → X → Bool) (xs : List X) (b : ℕ) : Type 0 where
  pub within : b < length xs
  pub none_better : (k : ℕ) (d : X) → k < length xs → beats not_worse (slice_index_or xs k d) (slice_index_or xs b d) ≡ false
  pub first : (k : ℕ) (d : X) → k < b → beats not_worse (slice_index_or xs b d) (slice_index_or xs k d) ≡ true
