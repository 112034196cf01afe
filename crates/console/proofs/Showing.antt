-- A clash of the sounding rules, set down by rule number, is a clash of all the rules. Assumes nothing.
use Rattle.std.proofs.Common.{◌≡◌, ℕ, zero, suc, Bool, true, false, cond, List, [], ◌∷◌, map, get_or, drop, ℤ, pos, ◌+ℤ◌, ◌*ℤ◌, ◌<ℤ◌, sym, refl, ap, ◌∙◌, subst, inl, inr, arith}
use Rattle.std.proofs.lemmas.Int.{ints}
use Rattle.integers.specs.Vectors.{dot}
use Rattle.rows.specs.declared.kind.Kind.{Kind}
use Rattle.rows.specs.declared.kind.Kind.TheVariants.{AtMost, Below, Equal}
use Rattle.rows.specs.Limits.{Within, EachWithin}
use Rattle.rows.specs.Rows.{Constraint}
use Rattle.rows.specs.Clashes.{Weighs, Weighed, total, Strictly, Falsehood, Clash}
use Rattle.plans.specs.Rules.{RuleView}
use Rattle.plans.specs.Sounding.{sounding_rows}
use Rattle.console.specs.Asking.{spread}
use Rattle.console.specs.Law.{all_rows}

-- a rule sounds or is muted
by_mark : (r : RuleView) (P : Type 0) → (r.sounds ≡ true → P) → (r.sounds ≡ false → P) → P
by_mark r P yes-case no-case = go r.sounds refl
  where
    go : (b : Bool) → r.sounds ≡ b → P
    go true e = yes-case e
    go false e = no-case e

weighs_zero : (k : Kind) → Weighs (pos 0) k
weighs_zero AtMost = omega (arith, ints)
weighs_zero Below = omega (arith, ints)
weighs_zero Equal = tt

weighed_spread : (rules : List RuleView) (ws : List ℤ) → Weighed ws (sounding_rows rules) → Weighed (spread rules ws) (all_rows rules)
weighed_spread [] ws h = tt
weighed_spread (r ∷ rules) ws h = by_mark r _ (λ e. rw e (sounding ws (λ vs. weighed_spread rules vs) (subst (Weighed ws) (ap (λ (b : Bool). cond b (r.row ∷ sounding_rows rules) (sounding_rows rules)) e) h))) (λ e. rw e (weighs_zero r.row.kind, weighed_spread rules ws (subst (Weighed ws) (ap (λ (b : Bool). cond b (r.row ∷ sounding_rows rules) (sounding_rows rules)) e) h)))
  where
    sounding : (ws : List ℤ) → ((vs : List ℤ) → Weighed vs (sounding_rows rules) → Weighed (spread rules vs) (all_rows rules)) → Weighed ws (r.row ∷ sounding_rows rules) → Weighed (get_or ws 0 (pos 0) ∷ spread rules (drop 1 ws)) (r.row ∷ all_rows rules)
    sounding [] ih h = absurd h
    sounding (w ∷ ws) ih h = (h.0, ih ws h.1)

-- sums over the rules are sums over the sounding ones
dot_spread : (f : Constraint → ℤ) (rules : List RuleView) (ws : List ℤ) → dot (spread rules ws) (map f (all_rows rules)) ≡ dot ws (map f (sounding_rows rules))
dot_spread f [] [] = refl
dot_spread f [] (w ∷ ws) = refl
dot_spread f (r ∷ rules) ws = by_mark r _ (λ e. rw e (sounding ws (dot_spread f rules))) (λ e. rw e (ap (λ (t : ℤ). pos 0 *ℤ f r.row +ℤ t) (dot_spread f rules ws) ∙ omega (arith, ints)))
  where
    sounding : (ws : List ℤ) → ((vs : List ℤ) → dot (spread rules vs) (map f (all_rows rules)) ≡ dot vs (map f (sounding_rows rules)))
        → dot (get_or ws 0 (pos 0) ∷ spread rules (drop 1 ws)) (f r.row ∷ map f (all_rows rules)) ≡ dot ws (f r.row ∷ map f (sounding_rows rules))
    sounding [] ih = ap (λ (t : ℤ). pos 0 *ℤ f r.row +ℤ t) (ih []) ∙ omega (arith, ints)
    sounding (w ∷ ws) ih = ap (λ (t : ℤ). w *ℤ f r.row +ℤ t) (ih ws)

strictly_spread : (rules : List RuleView) (ws : List ℤ) → Strictly ws (sounding_rows rules) → Strictly (spread rules ws) (all_rows rules)
strictly_spread [] [] h = h
strictly_spread [] (w ∷ ws) h = h
strictly_spread (r ∷ rules) ws h =
    by_mark r _ (λ e. rw e (sounding ws (strictly_spread rules) (subst (Strictly ws) (ap (λ (b : Bool). cond b (r.row ∷ sounding_rows rules) (sounding_rows rules)) e) h)))
    (λ e. rw e (inr (strictly_spread rules ws (subst (Strictly ws) (ap (λ (b : Bool). cond b (r.row ∷ sounding_rows rules) (sounding_rows rules)) e) h))))
  where
    sounding : (ws : List ℤ) → ((vs : List ℤ) → Strictly vs (sounding_rows rules) → Strictly (spread rules vs) (all_rows rules)) → Strictly ws (r.row ∷ sounding_rows rules) → Strictly (get_or ws 0 (pos 0) ∷ spread rules (drop 1 ws)) (r.row ∷ all_rows rules)
    sounding [] ih h = absurd h
    sounding (w ∷ ws) ih (inl here) = inl here
    sounding (w ∷ ws) ih (inr later) = inr (ih ws later)

within_spread : (rules : List RuleView) (ws : List ℤ) → EachWithin ws → EachWithin (spread rules ws)
within_spread [] ws h k = omega arith
within_spread (r ∷ rules) ws h k = by_mark r _ (λ e. rw e (sounding k (within_spread rules (drop 1 ws) (rest ws h)))) (λ e. rw e (muted k (within_spread rules ws h)))
  where
    rest : (ws : List ℤ) → EachWithin ws → EachWithin (drop 1 ws)
    rest [] h k = h k
    rest (w ∷ ws) h k = h (suc k)

    sounding : (k : ℕ) → EachWithin (spread rules (drop 1 ws)) → Within (get_or (get_or ws 0 (pos 0) ∷ spread rules (drop 1 ws)) k (pos 0))
    sounding zero ih = h 0
    sounding (suc k) ih = ih k

    muted : (k : ℕ) → EachWithin (spread rules ws) → Within (get_or (pos 0 ∷ spread rules ws) k (pos 0))
    muted zero ih = omega arith
    muted (suc k) ih = ih k

pub clash_spread : (rules : List RuleView) (ws : List ℤ) → Clash ws (sounding_rows rules) → Clash (spread rules ws) (all_rows rules)
clash_spread rules ws c = record {
  weighed = weighed_spread rules ws c.weighed;
  within = within_spread rules ws c.within;
  columns = λ k. dot_spread (λ r. get_or r.coefficients k (pos 0)) rules ws ∙ c.columns k;
  falsehood = false_still c.falsehood;
}
  where
    same : total (spread rules ws) (all_rows rules) ≡ total ws (sounding_rows rules)
    same = dot_spread (λ r. r.side) rules ws

    false_still : Falsehood ws (sounding_rows rules) → Falsehood (spread rules ws) (all_rows rules)
    false_still (inl below) = inl (subst (λ (t : ℤ). t <ℤ pos 0) (sym same) below)
    false_still (inr (zero-total, strict)) = inr (same ∙ zero-total, strictly_spread rules ws strict)
