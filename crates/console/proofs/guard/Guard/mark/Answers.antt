-- What `mark` leaves to show. Assumes nothing.
use Rattle.std.proofs.Common.{◌≡◌, ℕ, ◌<◌, Bool, true, false, not, List, length, set, refl, ap, ◌∙◌, arith}
use Rattle.plans.specs.declared.rule.Rule.{Rule}
use Rattle.console.specs.Marks.{marked, restored, Markable}
use Rattle.console.proofs.Restoring.{marked_set, mute_kept, sound_kept}
use Rattle.console.proofs.guard.Guard.mark.Goals as goal

kept : (muted : List Bool) (rules : List Rule) (i : ℕ) (sounds : Bool) → i < length muted → Markable muted rules i sounds → restored (set muted i (not sounds)) (marked rules i sounds) ≡ restored muted rules
kept muted rules i true h m = sound_kept muted rules i h m
kept muted rules i false h m = mute_kept muted rules i h m

pub returns : goal.returns
returns c =
    let s = c.args.self.now in
    let i = c.args.i in
    let marks = marked_set s.rules.now i _ c.args.sounds c.requires.within.0 in
    record {
      same = refl;
      marks = marks;
      muted = refl;
      back = ap (λ (rs : List Rule). restored (set s.muted i (not c.args.sounds)) rs) marks ∙ kept s.muted s.rules.now i c.args.sounds (omega arith) c.requires.other;
    }
