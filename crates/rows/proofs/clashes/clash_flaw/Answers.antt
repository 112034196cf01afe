use Rattle.std.proofs.Common.{length, sym, ◌∙◌, arith}
use Rattle.std.proofs.lemmas.List.{length-map}
use Rattle.std.proofs.lemmas.Bool.Decides.{not_from_Decides}
use Rattle.rows.specs.Rows.{constraint, constraints}
use Rattle.rows.proofs.Fits.{within_take}
use Rattle.rows.proofs.Weighing.{column_used, falsehood_used, falsehood_of_used}
use Rattle.rows.proofs.clashes.clash_flaw.Goals as goal

pub returns-then-rows-gt-ROWS : goal.returns-then-rows-gt-ROWS
returns-then-rows-gt-ROWS c = omega (arith, length-map c.args.rows.now constraint)

pub returns-in-Some : goal.returns-in-Some
returns-in-Some c = (omega (arith, length-map c.args.rows.now constraint), c.in-Some.ensures)

pub returns-in-Some-first_column : goal.returns-in-Some-first_column
returns-in-Some-first_column c =
    let f = c.in-Some-first_column.ensures in
    let same = column_used c.args.weights.now.values (constraints c.args.rows.now) in
    (c.in_default.ensures, record { here = λ e. f.here (sym (same c.in-Some-first_column.k) ∙ e); before = λ j h. same j ∙ f.before j h })

pub returns-then-is_falsehood : goal.returns-then-is_falsehood
returns-then-is_falsehood c =
    let w = c.args.weights.now in
    let rs = constraints c.args.rows.now in
    record {
      weighed = c.in_default.ensures;
      within = within_take (length rs) w.values w.within;
      columns = λ k. column_used w.values rs k ∙ c.in_default-first_column.ensures k;
      falsehood = falsehood_used w.values rs (c.is_falsehood.ensures.0 c.if-is_falsehood.true);
    }

pub returns-else-is_falsehood : goal.returns-else-is_falsehood
returns-else-is_falsehood c =
    let w = c.args.weights.now in
    let rs = constraints c.args.rows.now in
    (c.in_default.ensures, (λ k. column_used w.values rs k ∙ c.in_default-first_column.ensures k), λ f. not_from_Decides c.is_falsehood.result c.is_falsehood.ensures c.if-is_falsehood.false (falsehood_of_used w.values rs f))
