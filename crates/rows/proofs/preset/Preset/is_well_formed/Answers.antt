use Rattle.std.proofs.Common.{◌≡◌, ℕ, ◌-◌, ◌≤◌, get_or, pos, sym, ap, ◌∙◌, inl, inr, arith, rules}
use Rattle.std.proofs.lemmas.Iterator.{cases_from_all, YieldsList-from_slice}
use Rattle.std.proofs.lemmas.Iterator.Adapters.{YieldsList-from_skip}
use Rattle.std.proofs.lemmas.List.{get_or_past, get_or-drop, length-drop}
use Rattle.std.proofs.lemmas.Bool.{cases_lt, eqb-true, eq-eqb}
use borrow.Author.Tests.{tests}
use Rattle.std.proofs.iter.runs.Made.{chains}
use Rattle.rows.proofs.preset.Preset.is_well_formed.Goals as goal

pub returns-then-all : goal.returns-then-all
returns-then-all c =
    let p = c.args.self.now in
    let s = c.shared_divisor.result in
    let all = cases_from_all _ _ _ (λ x. x ≡ pos 0) (λ x. x ≡ pos 0 → ⊥) c.all.ensures.ran (YieldsList-from_skip c.args.count (YieldsList-from_slice p.numerators (search rules)) c.skip.ensures.count) (λ x q k. search (rules, tests)) (λ x q k. search (rules, tests)) in
    let each = rw c.if-all.true at all in
    let z : (k : ℕ) → c.args.count ≤ k → get_or p.numerators k (pos 0) ≡ pos 0 = λ k h. elim (cases_lt k 6) [ inl l ↦ sym (get_or-drop c.args.count p.numerators (k - c.args.count) (pos 0) ∙ ap (λ (i : ℕ). get_or p.numerators i (pos 0)) (omega arith)) ∙ each (k - c.args.count) (pos 0) (omega arith) (omega (arith, length-drop c.args.count p.numerators, p.places)) | inr g ↦ get_or_past p.numerators k (pos 0) (omega (arith, p.places)) ] in (
      (λ e. record {
        places = p.places;
        within = p.within;
        positive = p.positive;
        bounded = p.bounded;
        least = c.shared_divisor.ensures.least.0 (eqb-true s 1 e);
        unused = z;
      }),
      λ w. eq-eqb s 1 (c.shared_divisor.ensures.least.1 w.least),
    )

pub returns-else-all : goal.returns-else-all
returns-else-all c = search (rules, chains)
