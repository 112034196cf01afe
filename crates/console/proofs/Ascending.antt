-- The numbers of a walk ascend, so that they can be read back off their marks. Assumes nothing.
use Rattle.std.proofs.Common.{◌≡◌, ℕ, zero, suc, ◌+◌, ◌<◌, ◌≤◌, Bool, true, false, cond, eqb, List, [], ◌∷◌, ◌++◌, length, Ok, Err, Result, sym, refl, ap, subst, arith}
use Rattle.std.proofs.lemmas.List.{append_assoc, append-nil, map-append}
use Rattle.std.proofs.lemmas.Bool.{eqb-true, eqb-false}
use Rattle.rows.specs.Rows.{Constraint}
use Rattle.engine.specs.declared.fault.Fault.{Fault}
use Rattle.engine.specs.Verdicts.{Verdict}
use Rattle.plans.specs.Rules.{RuleView}
use Rattle.console.specs.Marks.{marks_from}
use Rattle.console.specs.Replies.{marked_numbers}
use Rattle.console.specs.Walks.{numbered, rows_of, numbers_of, tried, walked}

-- from lo up, and all below hi
abbrev pub Ascends : ℕ → ℕ → List ℕ → Type 0
Ascends lo hi [] = Unit {0}
Ascends lo hi (n ∷ ns) = (lo ≤ n) × (n < hi) × Ascends (n + 1) hi ns

ascends_from : (lo lower hi : ℕ) (ns : List ℕ) → lower ≤ lo → Ascends lo hi ns → Ascends lower hi ns
ascends_from lo lower hi [] h a = tt
ascends_from lo lower hi (n ∷ ns) h a = (omega (arith, h, a.0), a.1, a.2)

ascends_without : (lo hi : ℕ) (ns ms : List ℕ) (n : ℕ) → Ascends lo hi (ns ++ n ∷ ms) → Ascends lo hi (ns ++ ms)
ascends_without lo hi [] ms n a = ascends_from (n + 1) lo hi ms (omega (arith, a.0)) a.2
ascends_without lo hi (k ∷ ns) ms n a = (a.0, a.1, ascends_without (k + 1) hi ns ms n a.2)

numbered_ascends : (i hi : ℕ) (rules : List RuleView) → i + length rules ≤ hi → Ascends i hi (numbers_of (numbered i rules))
numbered_ascends i hi [] h = tt
numbered_ascends i hi (r ∷ rules) h = by r.sounds refl (numbered_ascends (i + 1) hi rules (omega arith))
  where
    by : (b : Bool) → r.sounds ≡ b → Ascends (i + 1) hi (numbers_of (numbered (i + 1) rules)) → Ascends i hi (numbers_of (numbered i (r ∷ rules)))
    by true e a = rw e (omega arith, omega arith, a)
    by false e a = rw e (ascends_from (i + 1) i hi (numbers_of (numbered (i + 1) rules)) (omega arith) a)

Final : ℕ → ℕ → Result (List (ℕ × Constraint)) Fault → Type 0
Final lo hi (Ok final) = Ascends lo hi (numbers_of final)
Final lo hi (Err f) = Unit {0}

walk_ascends : (verdict : List Constraint → Verdict) (lo hi : ℕ) (kept untried : List (ℕ × Constraint)) → Ascends lo hi (numbers_of (kept ++ untried)) → Final lo hi (walked verdict kept untried)
unfolding Final
walk_ascends verdict lo hi kept [] a = subst (λ (ps : List (ℕ × Constraint)). Ascends lo hi (numbers_of ps)) (append-nil kept) a
walk_ascends verdict lo hi kept (p ∷ untried) a =
    let out : Ascends lo hi (numbers_of (kept ++ untried)) =
    subst (Ascends lo hi) (sym (map-append (λ q. q.0) kept untried)) (ascends_without lo hi (numbers_of kept) (numbers_of untried) p.0 (subst (Ascends lo hi) (map-append (λ q. q.0) kept (p ∷ untried)) a)) in
    by (verdict (rows_of (kept ++ untried)))
    (walk_ascends verdict lo hi (kept ++ p ∷ []) untried (subst (λ (ps : List (ℕ × Constraint)). Ascends lo hi (numbers_of ps)) (sym (append_assoc kept (p ∷ []) untried)) a))
    (walk_ascends verdict lo hi kept untried out)
  where
    by : (v : Verdict) → Final lo hi (walked verdict (kept ++ p ∷ []) untried) → Final lo hi (walked verdict kept untried) → Final lo hi (tried v (walked verdict (kept ++ p ∷ []) untried) (walked verdict kept untried))
    by (Verdict.preset ns d) stay go = stay
    by (Verdict.clash ws) stay go = go
    by (Verdict.fault f) stay go = tt

read_back : (n i : ℕ) (ns : List ℕ) → Ascends i (i + n) ns → marked_numbers i (marks_from n i ns) ≡ ns
read_back zero i [] a = refl
read_back zero i (m ∷ ns) a = absurd (omega (arith, a.0, a.1))
read_back (suc n) i [] a = read_back n (i + 1) [] tt
read_back (suc n) i (m ∷ ns) a =
    by (eqb m i) refl (λ e. read_back n (i + 1) ns (subst (λ (k : ℕ). Ascends k (i + 1 + n) ns) (ap (λ (t : ℕ). t + 1) e) (subst (λ (hi : ℕ). Ascends (m + 1) hi ns) (omega arith) a.2)))
    (λ e. read_back n (i + 1) (m ∷ ns) (above a.0 e, omega (arith, a.1), subst (λ (hi : ℕ). Ascends (m + 1) hi ns) (omega arith) a.2))
  where
    above : i ≤ m → (m ≡ i → ⊥) → i + 1 ≤ m
    above h e = omega (arith, h, e)

    by : (b : Bool) → eqb m i ≡ b → (m ≡ i → marked_numbers (i + 1) (marks_from n (i + 1) ns) ≡ ns) → ((m ≡ i → ⊥) → marked_numbers (i + 1) (marks_from n (i + 1) (m ∷ ns)) ≡ m ∷ ns)
        → marked_numbers i (cond b (1 ∷ marks_from n (i + 1) ns) (0 ∷ marks_from n (i + 1) (m ∷ ns))) ≡ m ∷ ns
    by true e same other = λ j. sym (eqb-true m i e) j ∷ same (eqb-true m i e) j
    by false e same other = other (eqb-false m i e)

-- the numbers of the rules still in at the end of a walk
pub walk_read_back : (verdict : List Constraint → Verdict) (n : ℕ) (rules : List RuleView) (final : List (ℕ × Constraint)) → length rules ≤ n → walked verdict [] (numbered 0 rules) ≡ Ok final → marked_numbers 0 (marks_from n 0 (numbers_of final)) ≡ numbers_of final
unfolding Final
walk_read_back verdict n rules final h e =
    let a : Final 0 n (Ok final) = subst (Final 0 n) e (walk_ascends verdict 0 n [] (numbered 0 rules) (numbered_ascends 0 n rules (omega (arith, h)))) in
    read_back n 0 (numbers_of final) (subst (λ (hi : ℕ). Ascends 0 hi (numbers_of final)) (omega arith) a)
