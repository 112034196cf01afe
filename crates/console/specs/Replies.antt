-- What a reply says. Assumes nothing.
use Rattle.std.specs.Prelude.{ℕ, ◌+◌, cond, List, [], ◌∷◌, map, take, ℤ, ◌==◌}
use Rattle.engine.specs.declared.refusal.Refusal.{Refusal}
use Rattle.console.specs.declared.reply.Reply.{Reply as Sent}
use Rattle.console.specs.declared.reply.Reply.TheVariants.{Done, Preset, Clash, Blamed, Refused}

-- a reply: a level for each fader, over one denominator; a weight for each rule; the numbers of rules; or why the call was refused
pub data Reply : Type 0 where
  done : Reply
  preset : List ℤ → ℕ → Reply
  clash : List ℤ → Reply
  blamed : List ℕ → Reply
  refused : Refusal → Reply

-- the numbers that are marked, from number i on
abbrev pub marked_numbers : ℕ → List ℕ → List ℕ
marked_numbers i [] = []
marked_numbers i (m ∷ marks) = cond (m == 0) (marked_numbers (i + 1) marks) (i ∷ marked_numbers (i + 1) marks)

abbrev pub reply_view : Sent → Reply
reply_view Done = done
reply_view (Preset n ns d) = preset (take n ns) d
reply_view (Clash n ws) = clash (take n ws)
reply_view (Blamed marks) = blamed (marked_numbers 0 marks)
reply_view (Refused e) = refused e

abbrev pub reply_views : List Sent → List Reply
reply_views rs = map reply_view rs
