-- That the box as sold never says too large on a small plan. Assumes nothing.
use Rattle.std.specs.Prelude.{◌≡◌, List, ◌∷◌, ◌++◌, length, slice_index_or}
use Rattle.plans.specs.Plans.{no_plan}
use Rattle.plans.specs.Sounding.{sounding_rows}
use Rattle.console.specs.declared.command.Command.{Command}
use Rattle.console.specs.declared.command.Command.TheVariants.{Ask, Blame}
use Rattle.console.specs.Replies.{Reply}
use Rattle.console.specs.Runs.{plan_after}
use Rattle.console.specs.Law.{IsTooLarge}
use Rattle.sold_engine.specs.SmallPlans.{Small}

-- neither Ask nor Blame, where the sounding rules that the commands before it left are small
abbrev pub NeverLarge : Command → List Command → List Reply → Type 0
NeverLarge c cs rs =
    (before later : List Command) → cs ≡ before ++ c ∷ later → Small (plan_after no_plan before).count (sounding_rows (plan_after no_plan before).rules)
    → IsTooLarge (slice_index_or rs (length before) Reply.done) → ⊥

pub record SmallLaw (cs : List Command) (rs : List Reply) : Type 0 where
  pub ask : NeverLarge Ask cs rs
  pub blame : NeverLarge Blame cs rs
