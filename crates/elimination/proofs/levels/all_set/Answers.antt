use Rattle.std.proofs.Common.{◌≡◌, ℕ, suc, ◌-◌, List, Some, None, Err, Option, Result, sym, ap, ◌∙◌, arith, rules}
use Rattle.std.proofs.lemmas.Result.{err_from_is_err_and}
use Rattle.std.specs.Option.{option_map}
use Rattle.std.specs.Result.{result_ok, result_map_both as mapped_ok}
use Rattle.engine.specs.declared.fault.Fault.{Fault}
use Rattle.engine.specs.Verdicts.{number_beyond}
use Rattle.rows.specs.declared.preset.Preset.{Preset}
use Rattle.elimination.specs.declared.limit.Beyond.{Beyond}
use Rattle.elimination.specs.Table.{Line}
use Rattle.elimination.specs.Lines.{lines}
use Rattle.elimination.specs.Levels.{Levels, set_fader}
use Rattle.elimination.specs.Working.{all_set}
use Rattle.elimination.specs.Limiting.{levels_of}
use Rattle.elimination.proofs.Mapped.{err_before}
use Rattle.elimination.proofs.levels.all_set.Goals as goal

-- what a fader's setting says, as the levels of the working
abbrev said : Result Preset Beyond → Option Levels
said r = option_map levels_of (result_ok r)

-- one fader more
module _ (j k : ℕ) (t : List Line) (x : Levels) (r : Result Preset Beyond) (e : j ≡ suc k) (s : said r ≡ set_fader k t x) where
  set_none : (d : Beyond) → r ≡ Err d → Err (number_beyond k) ≡ all_set j t x
  set_none d h =
      ap (λ (o : Option Levels). elim o [ Some z ↦ all_set k t z | None ↦ Err (number_beyond k) ]) (sym (ap said h) ∙ s) ∙ sym (ap (λ (m : ℕ). all_set m t x) e)

pub returns-in_err-levels : goal.returns-in_err-levels
returns-in_err-levels c =
    let h = err_before _ c.set_fader.result c.map_err.result c.in_err-levels.field-0.0 c.map_err.ensures.cases c.in_err-levels.was in
    let p = err_from_is_err_and c.from_residual.result c.from_residual.ensures.1 in
    let k = c.loop-index.index-counter - 1 in
    let q = h.2 in
    let f : c.in_err-levels.field-0.0 ≡ number_beyond k = search rules in
    ap (mapped_ok levels_of (λ (x : Fault). x)) (p.1 ∙ ap Err (p.2 ∙ f))
    ∙ set_none c.loop-index.index-counter k (lines c.args.table.now) (levels_of c.loop-index.levels) c.set_fader.result (omega arith) c.set_fader.ensures h.0 h.1
    ∙ c.loop-index.invariant
