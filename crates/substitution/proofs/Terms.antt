-- Terms added one after another, each held against G. Assumes nothing.
use Rattle.std.proofs.Common.{◌≡◌, ℕ, ◌+◌, ◌<◌, Bool, true, false, cond, ◌&&◌, List, [], ◌∷◌, length, get_or, drop, ℤ, pos, ◌+ℤ◌, ◌*ℤ◌, nat_abs, Some, None, Option, sym, refl, ap, ◌∙◌, subst, arith, w32, SFits}
use Rattle.std.proofs.lemmas.List.{drop_more}
use Rattle.std.proofs.lemmas.Bool.{leb-true}
use Rattle.rows.specs.Limits.{largest, Within, near, narrowed}
use Rattle.rows.proofs.Fits.{fits_32}
use Rattle.rows.proofs.Alls.{none_some}
use Rattle.rows.proofs.Blends.{some_narrowed}
use Rattle.substitution.specs.declared.kept.Kept.{Kept as Held}
use Rattle.substitution.specs.Lifting.{add_terms, carried_weights}
use Rattle.substitution.specs.Holding.{kepts}

pub term_fits : (z t : ℤ) → Some t ≡ narrowed z → SFits w32 t
term_fits z t e =
    let n = some_narrowed z t e in
    fits_32 t (subst Within (sym n.1) (leb-true (nat_abs z) largest n.0))

-- one term more, as the program adds it
abbrev pub with_term : ℤ → ℤ → ℤ → Option ℤ
with_term s w u = cond (near (w *ℤ u) && near (s +ℤ w *ℤ u)) (Some (s +ℤ w *ℤ u)) None

pub term_some : (s w u t : ℤ) → Some t ≡ narrowed (w *ℤ u) → narrowed (s +ℤ t) ≡ with_term s w u
term_some s w u t e =
    let n = some_narrowed (w *ℤ u) t e in
    ap (λ (z : ℤ). narrowed (s +ℤ z)) n.1 ∙ ap (λ (b : Bool). cond (b && near (s +ℤ w *ℤ u)) (Some (s +ℤ w *ℤ u)) None) (sym n.0)

still_none : (b : Bool) (x : ℤ) (o : Option ℤ) → None ≡ cond b (Some x) None → None ≡ cond b o None
still_none true x o e = absurd (none_some x e)
still_none false x o e = refl

same : {x y : ℤ} → ◌≡◌ {A = Option ℤ} (Some x) (Some y) → x ≡ y
same e = cc

goes_on : (b : Bool) (x t : ℤ) (F : ℤ → Option ℤ) → Some t ≡ cond b (Some x) None → cond b (F x) None ≡ F t
goes_on true x t F e = ap F (sym (same e))
goes_on false x t F e = absurd (none_some t (sym e))

-- the terms from place i on
module _ (ws us : List ℤ) (i : ℕ) (h : i < length ws) (k : i < length us) (s : ℤ) where
  abbrev W : ℤ
  W = get_or ws i (pos 0)

  abbrev U : ℤ
  U = get_or us i (pos 0)

  opened : add_terms s (drop i ws) (drop i us) ≡ cond (near (W *ℤ U) && near (s +ℤ W *ℤ U)) (add_terms (s +ℤ W *ℤ U) (drop (i + 1) ws) (drop (i + 1) us)) None
  opened = λ j. add_terms s (drop_more ws i (pos 0) h j) (drop_more us i (pos 0) k j)

  pub terms_none : None ≡ with_term s W U → None ≡ add_terms s (drop i ws) (drop i us)
  terms_none e = still_none (near (W *ℤ U) && near (s +ℤ W *ℤ U)) (s +ℤ W *ℤ U) (add_terms (s +ℤ W *ℤ U) (drop (i + 1) ws) (drop (i + 1) us)) e ∙ sym opened

  pub terms_some : (t : ℤ) → Some t ≡ with_term s W U → add_terms s (drop i ws) (drop i us) ≡ add_terms t (drop (i + 1) ws) (drop (i + 1) us)
  terms_some t e = opened ∙ goes_on (near (W *ℤ U) && near (s +ℤ W *ℤ U)) (s +ℤ W *ℤ U) t (λ z. add_terms z (drop (i + 1) ws) (drop (i + 1) us)) e

-- the weight of a listed row in the row at place i
pub carried_at : (rows : List Held) (i place : ℕ) (r : Held) → i < length rows → r ≡ get_or rows i r → get_or (carried_weights place (kepts rows)) i (pos 0) ≡ get_or r.row.weights place (pos 0)
carried_at [] i place r h e = absurd (omega arith)
carried_at (x ∷ rows) ℕ.zero place r h e = ap (λ (y : Held). get_or y.row.weights place (pos 0)) (sym e)
carried_at (x ∷ rows) (ℕ.suc i) place r h e = carried_at rows i place r (omega arith) e

pub carried_length : (rows : List Held) (place : ℕ) → length (carried_weights place (kepts rows)) ≡ length rows
carried_length [] place = refl
carried_length (x ∷ rows) place = ap (λ (n : ℕ). ℕ.suc n) (carried_length rows place)
