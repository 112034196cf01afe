use Rattle.std.proofs.Common.{◌≡◌, ℕ, ◌+◌, true, false, List, get_or, set, Ok, Err, Option, sym, ap, ◌∙◌, subst, arith}
use Rattle.std.proofs.lemmas.Result.{err_from_is_err_and}
use Rattle.std.specs.Option.{MatchOption}
use Rattle.std.specs.Result.{result_ok}
use Rattle.engine.specs.declared.fault.Fault.{Fault}
use Rattle.elimination.specs.declared.cell.Cell.{Cell}
use Rattle.elimination.specs.Table.{Line, sums, fits, combined}
use Rattle.elimination.specs.Lines.{line}
use Rattle.elimination.specs.Appends.{Appends}
use Rattle.elimination.proofs.Appending.{appends_none, appends_one, appends_full, appends_beyond, pairs_at_is}
use Rattle.elimination.proofs.Mapped.{fault_given}
use Rattle.elimination.proofs.lent.Table.append_pair.Goals as goal

pub returns-then-not-stands_on : goal.returns-then-not-stands_on
returns-then-not-stands_on c =
    let t = c.args.self.now.cells.now in
    let e = pairs_at_is c.args.fader.index (line c.args.upper.now) t c.args.j (get_or c.args.self.now.cells.now c.args.j c.index-self-j.result) false (omega (arith, c.requires.place, c.args.self.now.few, c.args.self.now.places)) (ap (λ (y : Cell). get_or c.args.self.now.cells.now c.args.j y) c.index-self-j.is) (sym c.stands_on.ensures ∙ c.if-not-stands_on.true) in
    subst (λ (ps : List (Line × Line)). Appends c.args.fader.index c.args.self.now.held ps t (Ok c.args.self.now.held) t) (sym e) (appends_none c.args.fader.index c.args.self.now.held t c.args.self.now.few)

pub returns-then-end-ge-ROOM : goal.returns-then-end-ge-ROOM
returns-then-end-ge-ROOM c =
    let t = c.args.self.now.cells.now in
    let k = c.args.fader.index in
    let u = line c.args.upper.now in
    let l = line (get_or c.args.self.now.cells.now c.args.j c.index-self-j.result) in
    let e = pairs_at_is k u t c.args.j (get_or c.args.self.now.cells.now c.args.j c.index-self-j.result) true (omega (arith, c.requires.place, c.args.self.now.few, c.args.self.now.places)) (ap (λ (y : Cell). get_or c.args.self.now.cells.now c.args.j y) c.index-self-j.is) (sym c.stands_on.ensures ∙ c.if-not-stands_on.false) in
    ap (sums k c.args.self.now.held) e ∙ appends_full k c.args.self.now.held u l t t c.if-end-ge-ROOM.true ∙ ap (λ (f : Fault). Err f) (sym c.new.ensures)

-- the sum of the two rows, or that it does not fit
module _ (k : ℕ) (u l : Line) where
  abbrev Sum : Option Cell → Type 0
  Sum o = MatchOption o (fits (combined k u l) ≡ false) (λ r. (fits (combined k u l) ≡ true) × (line r ≡ combined k u l))

pub returns : goal.returns
returns c =
    let t = c.args.self.now.cells.now in
    let k = c.args.fader.index in
    let u = line c.args.upper.now in
    let l = line (get_or c.args.self.now.cells.now c.args.j c.index-self-j.result) in
    let x = c.in_ok-self.field-0 in
    let e = pairs_at_is k u t c.args.j (get_or c.args.self.now.cells.now c.args.j c.index-self-j.result) true (omega (arith, c.requires.place, c.args.self.now.few, c.args.self.now.places)) (ap (λ (y : Cell). get_or c.args.self.now.cells.now c.args.j y) c.index-self-j.is) (sym c.stands_on.ensures ∙ c.if-not-stands_on.false) in
    let s = subst (Sum k u l) (c.ok_or.ensures.ok_part ∙ ap result_ok c.in_ok-self.was) c.sum_of.ensures in
    subst (λ (ps : List (Line × Line)). Appends k c.args.self.now.held ps t (Ok (c.args.self.now.held + 1)) (set t c.args.self.now.held x)) (sym e)
    (appends_one k c.args.self.now.held u l t x c.if-end-ge-ROOM.false c.args.self.now.places s.0 s.1)

pub returns-in_err-self : goal.returns-in_err-self
returns-in_err-self c =
    let t = c.args.self.now.cells.now in
    let k = c.args.fader.index in
    let u = line c.args.upper.now in
    let l = line (get_or c.args.self.now.cells.now c.args.j c.index-self-j.result) in
    let e = pairs_at_is k u t c.args.j (get_or c.args.self.now.cells.now c.args.j c.index-self-j.result) true (omega (arith, c.requires.place, c.args.self.now.few, c.args.self.now.places)) (ap (λ (y : Cell). get_or c.args.self.now.cells.now c.args.j y) c.index-self-j.is) (sym c.stands_on.ensures ∙ c.if-not-stands_on.false) in
    let n = c.ok_or.ensures.ok_part ∙ ap result_ok c.in_err-self.was in
    let f = fault_given c.sum_of.result c.in_err-self.field-0.0 c.new-2.result (sym c.in_err-self.was ∙ c.ok_or.ensures.value) in
    let p = err_from_is_err_and c.from_residual.result c.from_residual.ensures.1 in
    rw (p.1, p.2) (ap (sums k c.args.self.now.held) e ∙ appends_beyond k c.args.self.now.held u l t t c.if-end-ge-ROOM.false (subst (Sum k u l) n c.sum_of.ensures) ∙ ap (λ (x : Fault). Err x) (sym (f ∙ c.new-2.ensures)))
