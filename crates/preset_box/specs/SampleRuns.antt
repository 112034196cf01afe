-- Runs whose replies by the box as sold are written out. Assumes nothing.
use Rattle.std.specs.Prelude.{◌≡◌, ℕ, List, [], ◌∷◌, ℤ, pos, negsuc, None}
use Rattle.std.specs.List.{AllByRecursion}
use Rattle.plans.specs.Plans.{no_plan}
use Rattle.console.specs.declared.command.Command.{Command}
use Rattle.console.specs.declared.command.Command.TheVariants.{Open, Add, Ask, Blame}
use Rattle.console.specs.Replies.{Reply}
use Rattle.console.specs.Exact.{replies}
use Rattle.sold_engine.specs.Sold.{sold_verdict}

pub record Sample : Type 0 where
  pub commands : List Command
  pub replied : List Reply

-- a rule that has faders 0 and 1 at most, by the number of its kind
abbrev rule : ℕ → ℤ → ℤ → ℤ → Command
rule kind a b side = Add kind (a ∷ b ∷ pos 0 ∷ pos 0 ∷ pos 0 ∷ pos 0 ∷ []) side

abbrev pub samples : List Sample
samples =
    -- together at most 150, the second below the first and at least 40; then the first at most 40
    record {
      commands = Open 2 ∷ rule 0 (pos 1) (pos 1) (pos 150) ∷ rule 1 (negsuc 0) (pos 1) (pos 0) ∷ rule 0 (pos 0) (negsuc 0) (negsuc 39) ∷ Ask ∷ rule 0 (pos 1) (pos 0) (pos 40) ∷ Ask ∷ Blame ∷ [];
      replied = Reply.done ∷ Reply.done ∷ Reply.done ∷ Reply.done ∷ Reply.preset (pos 150 ∷ pos 115 ∷ []) 2 ∷ Reply.done ∷ Reply.clash (pos 0 ∷ pos 1 ∷ pos 1 ∷ pos 1 ∷ []) ∷ Reply.blamed (1 ∷ 2 ∷ 3 ∷ []) ∷ [];
    }
    -- no rules
    ∷ record { commands = Open 3 ∷ Ask ∷ []; replied = Reply.done ∷ Reply.preset (pos 0 ∷ pos 0 ∷ pos 0 ∷ []) 1 ∷ [] }
    -- equations: one, and two that contradict each other
    ∷ record { commands = Open 1 ∷ rule 2 (pos 3) (pos 0) (pos 100) ∷ Ask ∷ []; replied = Reply.done ∷ Reply.done ∷ Reply.preset (pos 100 ∷ []) 3 ∷ [] }
    ∷ record { commands = Open 1 ∷ rule 2 (pos 1) (pos 0) (pos 1) ∷ rule 2 (pos 1) (pos 0) (pos 2) ∷ Ask ∷ []; replied = Reply.done ∷ Reply.done ∷ Reply.done ∷ Reply.clash (pos 1 ∷ negsuc 0 ∷ []) ∷ [] }
    -- below 0 and at least 0; at most 0 and at least 0
    ∷ record { commands = Open 1 ∷ rule 1 (pos 1) (pos 0) (pos 0) ∷ rule 0 (negsuc 0) (pos 0) (pos 0) ∷ Ask ∷ []; replied = Reply.done ∷ Reply.done ∷ Reply.done ∷ Reply.clash (pos 1 ∷ pos 1 ∷ []) ∷ [] }
    ∷ record { commands = Open 1 ∷ rule 0 (pos 1) (pos 0) (pos 0) ∷ rule 0 (negsuc 0) (pos 0) (pos 0) ∷ Ask ∷ []; replied = Reply.done ∷ Reply.done ∷ Reply.done ∷ Reply.preset (pos 0 ∷ []) 1 ∷ [] }
    -- one strict limit: 1 beyond it
    ∷ record { commands = Open 1 ∷ rule 1 (pos 1) (pos 0) (pos 5) ∷ Ask ∷ []; replied = Reply.done ∷ Reply.done ∷ Reply.preset (pos 4 ∷ []) 1 ∷ [] }
    -- 0 < 0
    ∷ record { commands = Open 1 ∷ rule 1 (pos 0) (pos 0) (pos 0) ∷ Ask ∷ []; replied = Reply.done ∷ Reply.done ∷ Reply.clash (pos 1 ∷ []) ∷ [] }
    ∷ []

abbrev pub SamplesReplied : Type 0
SamplesReplied = AllByRecursion (λ s. replies sold_verdict None no_plan s.commands ≡ s.replied) samples
