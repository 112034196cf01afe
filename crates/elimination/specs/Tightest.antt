-- The limits of one fader in a table, and the best of them: on a side that is given by what distinguishes it, and on the two sides. Assumes nothing.
use Rattle.std.specs.Prelude.{ℕ, ◌*◌, Bool, ◌&&◌, List, map, take, ℤ, filter, Option}
use Rattle.std.specs.Option.{option_map}
use Rattle.rows.specs.declared.preset.Preset.{Preset}
use Rattle.elimination.specs.declared.cell.Cell.{Cell}
use Rattle.elimination.specs.declared.found.Found.{Found}
use Rattle.elimination.specs.Table.{Line, coefficient, size}
use Rattle.elimination.specs.Lines.{lines}
use Rattle.elimination.specs.Levels.{Levels, Limit, is_for, remaining, lowest, above, below, upper_limit, lower_limit, limits, better_upper, better_lower, first_best}
use Rattle.elimination.specs.Limiting.{limit_of, levels_of}

-- the limit whose numerator is made of what the row's side leaves for the fader
abbrev pub limit_by : (ℤ → ℤ) → ℕ → Levels → Line → Option Limit
limit_by turned k x r = lowest (turned (remaining x r)) (size k r * x.denominator) r.strict

-- a row that is set aside for fader k, with a coefficient that limits it
abbrev pub bounds_by : (ℤ → Bool) → ℕ → Line → Bool
bounds_by test k r = is_for k r.aside && test (coefficient r k)

-- the limits on a side, in table order, if all are within G
abbrev pub limits_by : (ℤ → Bool) → (ℤ → ℤ) → ℕ → Preset → List Cell → Option (List Limit)
limits_by test turned k p t = limits (limit_by turned k (levels_of p)) (filter (bounds_by test k) (lines t))

-- the best of them, if there is any
abbrev pub best_by : (ℤ → Bool) → (ℤ → ℤ) → (Limit → Limit → Bool) → ℕ → Preset → List Cell → Option (Option Limit)
best_by test turned better k p t = option_map (first_best better) (limits_by test turned k p t)

-- the limits from above and from below, in table order, if all are within G
abbrev pub upper_limits : ℕ → Preset → List Cell → Option (List Limit)
upper_limits k p t = limits (upper_limit k (levels_of p)) (above k (lines t))

abbrev pub lower_limits : ℕ → Preset → List Cell → Option (List Limit)
lower_limits k p t = limits (lower_limit k (levels_of p)) (below k (lines t))

-- the best of them, if there is any
abbrev pub best_upper : ℕ → Preset → List Cell → Option (Option Limit)
best_upper k p t = option_map (first_best better_upper) (upper_limits k p t)

abbrev pub best_lower : ℕ → Preset → List Cell → Option (Option Limit)
best_lower k p t = option_map (first_best better_lower) (lower_limits k p t)

-- the limits that are found, in order
abbrev pub found_limits : {S : Type 0} → Found S → List Limit
found_limits f = map (λ b. limit_of b.limit) (take f.count f.limits.now)
