-- What `walk` leaves to show. Assumes nothing.
use Rattle.std.proofs.Common.{◌≡◌, ◌+◌, ◌<◌, Bool, true, false, List, length, get_or, set, sym, ap, ◌∙◌, subst, arith, rules}
use Rattle.std.proofs.lemmas.List.{length-set, get_or-set_same}
use Rattle.std.proofs.lemmas.Result.{err_from_is_err_and}
use Rattle.engine.specs.Verdicts.{Valid}
use Rattle.plans.specs.declared.rule.Rule.{Rule}
use Rattle.plans.specs.Rules.{rule_views}
use Rattle.plans.specs.Sounding.{sounding_rows}
use Rattle.rows.specs.Limits.{most_rows}
use Rattle.console.specs.Marks.{marked, marks_from}
use Rattle.console.specs.Walks.{numbered, numbers_of}
use Rattle.console.proofs.Feeding.{read_sounds}
use Rattle.console.proofs.Restoring.{sounds_at, length_marked}
use Rattle.console.proofs.Numbering.{marked_back}
use Rattle.console.proofs.Trying.{from_here, pass_muted, still_valid, walk_over, turn_said, turn_fault, names_fault, names_final}
use Rattle.console.proofs.blaming.walk.Goals as goal
use Rattle.console.proofs.blaming.walk.Goals.{then-rule+in_ok-rest+then-not-is_clash, then-rule+in_ok-rest+else-not-is_clash, else-rule}

-- the mark of a rule that was read off the guard
seen : (rules lent : List Rule) (i : _) (rule : Rule) (b : Bool) → lent ≡ rules → rule ≡ get_or lent i rule → rule.sounds ≡ b → (get_or rules i rule).sounds ≡ b
seen rules lent i rule b same read e = ap (λ (rs : List Rule). (get_or rs i rule).sounds) (sym same) ∙ read_sounds lent i rule b read e

pub mark-requires : goal.mark-requires
mark-requires g c =
    let l = c.loop-number in
    let rule = c.index-rules-number.result in
    let h : l.number < length l.guard.rules.now = omega (arith, l.invariant.0, c.loop-number-test.true) in
    record {
      within = (h, omega (arith, c.loop-number-test.true, c.requires.few));
      other = sounds_at l.guard.rules.now l.number rule h (seen l.guard.rules.now c.rules.result.now l.number rule true c.rules.ensures c.index-rules-number.is c.if-rule.true);
    }

pub decide_sounding-requires : goal.decide_sounding-requires
decide_sounding-requires g c =
    let l = c.loop-number in
    let rule = c.index-rules-number.result in
    let rules = l.guard.rules.now in
    let h : l.number < length rules = omega (arith, l.invariant.0, c.loop-number-test.true) in
    let e = seen rules c.rules.result.now l.number rule true c.rules.ensures c.index-rules-number.is c.if-rule.true in
    subst (λ (rs : List Rule). Valid c.args.count (sounding_rows (rule_views rs))) (sym (c.rules-then-rule.ensures ∙ c.mark.ensures.marks))
    (still_valid (g.E.Engine.verdict c.args.count) rules l.number rule h c.args.count e l.invariant.4)

pub returns-in_err-rest : goal.returns-in_err-rest
returns-in_err-rest g c =
    let l = c.loop-number in
    let rule = c.index-rules-number.result in
    let rules = l.guard.rules.now in
    let h : l.number < length rules = omega (arith, l.invariant.0, c.loop-number-test.true) in
    let e = seen rules c.rules.result.now l.number rule true c.rules.ensures c.index-rules-number.is c.if-rule.true in
    let p = err_from_is_err_and c.from_residual.result c.from_residual.ensures.1 in
    let t = turn_fault g.E.Engine.verdict g.E.Engine.cells (length l.table) c.args.count rules l.number rule h e c.rules-then-rule.result.now (c.rules-then-rule.ensures ∙ c.mark.ensures.marks) c.in_err-rest.field-0.0 (omega (arith, c.requires.room, l.auto.table)) c.in_err-rest.ensures in
    record {
      rules =
          let m = c.mark.ensures in
          let name = sym (m.same ∙ l.invariant.3) in
          let back = c.drop-guard.ensures ∙ m.back ∙ l.invariant.2 in
          grind (arith, name, back);
      names = rw (p.1, p.2) (names_fault (Unit {0}) _ t.0 c.in_err-rest.field-0.0 c.args.marks.now (sym l.invariant.5 ∙ t.2) t.1);
    }

pub mark-requires-then-not-is_clash : goal.mark-requires-then-not-is_clash
mark-requires-then-not-is_clash g c =
    let l = c.loop-number in
    let i = l.number in
    let m = c.mark.ensures in
    record {
      within = (omega (arith, ap length m.marks, length_marked l.guard.rules.now i false, l.invariant.0, c.loop-number-test.true), omega (arith, c.loop-number-test.true, c.requires.few));
      other = ap (λ (ms : List Bool). get_or ms i false) m.muted ∙ get_or-set_same l.guard.muted i true false (omega (arith, l.invariant.1, c.loop-number-test.true, c.requires.few));
    }

pub loop-number-preserved : goal.loop-number-preserved
loop-number-preserved g c =
    let l = c.loop-number in
    let i = l.number in
    let rule = c.index-rules-number.result in
    let rules = l.guard.rules.now in
    let verdict = g.E.Engine.verdict in
    let count = c.args.count in
    let h : i < length rules = omega (arith, l.invariant.0, c.loop-number-test.true) in
    elim c.if-rule.branch [
      | then-rule+in_ok-rest+then-not-is_clash w ↦
          let e = seen rules c.rules.result.now i rule true c.rules.ensures c.index-rules-number.is w.if-rule.true in
          let m = w.mark.ensures in
          let s = w.mark-then-not-is_clash.ensures in
          let same = s.marks ∙ ap (λ (rs : List Rule). marked rs i true) m.marks ∙ marked_back rules i rule e in
          let turn = turn_said verdict g.E.Engine.cells (length l.table) count rules i rule h e w.rules-then-rule.result.now (w.rules-then-rule.ensures ∙ m.marks) w.in_ok-rest.rest false w.in_ok-rest.ensures (sym w.is_clash.ensures ∙ w.if-not-is_clash.true) in
          rw w.guard-is (
            ap length same ∙ l.invariant.0,
            ap length (s.muted ∙ ap (λ (ms : List Bool). set ms i false) m.muted) ∙ length-set _ i false ∙ length-set l.guard.muted i true ∙ l.invariant.1,
            s.back ∙ m.back ∙ l.invariant.2,
            s.same ∙ m.same ∙ l.invariant.3,
            subst (λ (rs : List Rule). Valid count (sounding_rows (rule_views rs))) (sym same) l.invariant.4,
            ap (λ (rs : List Rule). from_here (verdict count) rs (i + 1)) same ∙ sym turn ∙ l.invariant.5,
          )
      | then-rule+in_ok-rest+else-not-is_clash w ↦
          let e = seen rules c.rules.result.now i rule true c.rules.ensures c.index-rules-number.is w.if-rule.true in
          let m = w.mark.ensures in
          let turn = turn_said verdict g.E.Engine.cells (length l.table) count rules i rule h e w.rules-then-rule.result.now (w.rules-then-rule.ensures ∙ m.marks) w.in_ok-rest.rest true w.in_ok-rest.ensures (sym w.is_clash.ensures ∙ w.if-not-is_clash.false) in
          rw w.guard-is (
            ap length m.marks ∙ length_marked rules i false ∙ l.invariant.0,
            ap length m.muted ∙ length-set l.guard.muted i true ∙ l.invariant.1,
            m.back ∙ l.invariant.2,
            m.same ∙ l.invariant.3,
            subst (λ (rs : List Rule). Valid count (sounding_rows (rule_views rs))) (sym m.marks) (still_valid (verdict count) rules i rule h count e l.invariant.4),
            ap (λ (rs : List Rule). from_here (verdict count) rs (i + 1)) m.marks ∙ sym turn ∙ l.invariant.5,
          )
      | else-rule w ↦
          let e = seen rules c.rules.result.now i rule false c.rules.ensures c.index-rules-number.is w.if-rule.false in
          rw w.guard-is (l.invariant.0, l.invariant.1, l.invariant.2, l.invariant.3, l.invariant.4, pass_muted (verdict count) rules i rule h e ∙ l.invariant.5)
    ]

pub returns : goal.returns
returns g c =
    let l = c.loop-number in
    let rules = l.guard.rules.now in
    record {
      rules = let name = sym l.invariant.3 in let back = c.drop-guard-2.ensures ∙ l.invariant.2 in grind (arith, name, back);
      names = names_final _ _ c.args.marks.now c.marks_of.result (sym l.invariant.5 ∙ walk_over (g.E.Engine.verdict c.args.count) rules l.number (omega (arith, l.invariant.0, c.loop-number-test.false))) (c.marks_of.ensures ∙ ap (λ (rs : List Rule). marks_from most_rows 0 (numbers_of (numbered 0 (rule_views rs)))) c.rules-2.ensures);
    }
