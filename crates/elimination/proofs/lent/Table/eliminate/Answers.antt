use Rattle.std.proofs.Common.{ℕ, take, Ok, sym, ap, ◌∙◌}
use Rattle.elimination.specs.Lines.{lines}
use Rattle.elimination.proofs.Retiring.{eliminated_ok}
use Rattle.elimination.proofs.lent.Table.eliminate.Goals as goal

pub returns : goal.returns
returns c =
    let s = c.args.self.now in
    let a = c.append_pairs.new.self in
    let r = c.retire.new.self in
    eliminated_ok c.args.fader.index s.held a.held s.cells.now a.cells.now r.cells.now s.few s.places c.in_ok-append_pairs.ensures c.retire.ensures.aside c.retire.ensures.rest
    ∙ ap (λ (n : ℕ). Ok (lines (take n r.cells.now))) (sym c.retire.ensures.held)
