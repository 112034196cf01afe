-- A clash excludes all levels. Assumes nothing.
use Rattle.std.proofs.Common.{◌≡◌, ℕ, ◌⊎◌, List, [], ◌∷◌, get_or, ℤ, pos, ◌+ℤ◌, ◌*ℤ◌, ◌≤ℤ◌, ◌<ℤ◌, refl, ap, ◌∙◌, subst, inl, inr, arith}
use lib.IntN.{*ℤ-zero, zero-*ℤ, *ℤ_comm}
use lib.Signed.{≤ℤ_refl}
use Rattle.integers.specs.Vectors.{dot, add, scale}
use Rattle.integers.proofs.Laws.{+ℤ-*ℤ, *ℤ-assoc}
use Rattle.integers.proofs.Order.{*ℤ-mono, *ℤ-mono-<}
use Rattle.integers.proofs.Linear.{linear}
use Rattle.integers.proofs.VectorLaws.{dot_add, dot_scale, add_at, scale_at, dot_none}
use Rattle.rows.specs.declared.kind.Kind.{Kind}
use Rattle.rows.specs.declared.kind.Kind.TheVariants.{AtMost, Below, Equal}
use Rattle.rows.specs.Rows.{Constraint, Compares, MeetsAll}
use Rattle.rows.specs.Clashes.{Weighs, Weighed, column, total, Strictly, Excludes}

-- the weighted sum of the rows' coefficients
abbrev mix : List ℤ → List Constraint → List ℤ
mix [] rows = []
mix (w ∷ ws) [] = []
mix (w ∷ ws) (r ∷ rows) = add (scale w r.coefficients) (mix ws rows)

mix_at : (ws : List ℤ) (rows : List Constraint) (k : ℕ) → get_or (mix ws rows) k (pos 0) ≡ column ws rows k
mix_at [] rows k = refl
mix_at (w ∷ ws) [] k = refl
mix_at (w ∷ ws) (r ∷ rows) k = add_at (scale w r.coefficients) (mix ws rows) k ∙ (λ i. scale_at w r.coefficients k i +ℤ mix_at ws rows k i)

-- a weight times a row that is met
weighs : (k : Kind) (w u v : ℤ) → Weighs w k → Compares k u v → (w *ℤ u) ≤ℤ (w *ℤ v)
weighs AtMost w u v p h = *ℤ-mono w p h
weighs Below w u v p h = *ℤ-mono w p (omega (arith, linear))
weighs Equal w u v p h = subst (λ (t : ℤ). (w *ℤ u) ≤ℤ (w *ℤ t)) h (≤ℤ_refl (w *ℤ u))

module _ (ns : List ℤ) (d : ℕ) where
  -- one row more, and the sum of the others, which are met
  joined : (w : ℤ) (ws : List ℤ) (r : Constraint) (rows : List Constraint) → dot (mix (w ∷ ws) (r ∷ rows)) ns ≡ w *ℤ dot r.coefficients ns +ℤ dot (mix ws rows) ns
  joined w ws r rows = dot_add (scale w r.coefficients) (mix ws rows) ns ∙ ap (λ (z : ℤ). z +ℤ dot (mix ws rows) ns) (dot_scale w r.coefficients ns)

  sides : (w : ℤ) (ws : List ℤ) (r : Constraint) (rows : List Constraint) → total (w ∷ ws) (r ∷ rows) *ℤ pos d ≡ w *ℤ (r.side *ℤ pos d) +ℤ total ws rows *ℤ pos d
  sides w ws r rows = +ℤ-*ℤ (w *ℤ r.side) (total ws rows) (pos d) ∙ ap (λ (z : ℤ). z +ℤ total ws rows *ℤ pos d) (*ℤ-assoc w r.side (pos d))

  -- the rows' sum is at most the sides' sum
  summed : (ws : List ℤ) (rows : List Constraint) → Weighed ws rows → MeetsAll ns d rows → dot (mix ws rows) ns ≤ℤ (total ws rows *ℤ pos d)
  summed [] rows p m = omega (arith, linear, zero-*ℤ (pos d))
  summed (w ∷ ws) [] p m = absurd p
  summed (w ∷ ws) (r ∷ rows) p m =
      let h = weighs r.kind w (dot r.coefficients ns) (r.side *ℤ pos d) p.0 m.0 in
      let ih = summed ws rows p.1 m.1 in
      omega (arith, linear, joined w ws r rows, sides w ws r rows)

  -- and below it if a weight above 0 stands at a row of kind below
  strictly : (ws : List ℤ) (rows : List Constraint) → Weighed ws rows → MeetsAll ns d rows → Strictly ws rows → dot (mix ws rows) ns <ℤ (total ws rows *ℤ pos d)
  strictly [] rows p m s = absurd s
  strictly (w ∷ ws) [] p m s = absurd s
  strictly (w ∷ ws) (r ∷ rows) p m (inl s) =
      let b : dot r.coefficients ns <ℤ (r.side *ℤ pos d) = subst (λ (k : Kind). Compares k (dot r.coefficients ns) (r.side *ℤ pos d)) s.0 m.0 in
      let h : (w *ℤ dot r.coefficients ns) <ℤ (w *ℤ (r.side *ℤ pos d)) = *ℤ-mono-< w s.1 b in
      let ih = summed ws rows p.1 m.1 in
      omega (arith, linear, joined w ws r rows, sides w ws r rows)
  strictly (w ∷ ws) (r ∷ rows) p m (inr s) =
      let h = weighs r.kind w (dot r.coefficients ns) (r.side *ℤ pos d) p.0 m.0 in
      let ih = strictly ws rows p.1 m.1 s in
      omega (arith, linear, joined w ws r rows, sides w ws r rows)

pub excludes : Excludes
excludes ws rows c ns d p m =
    let e : dot (mix ws rows) ns ≡ pos 0 = dot_none (mix ws rows) ns (λ k. mix_at ws rows k ∙ c.columns k) in
    let q : pos 0 <ℤ pos d = omega (arith, linear) in
    let T = total ws rows in
    let by : ((T <ℤ pos 0) ⊎ ((T ≡ pos 0) × Strictly ws rows)) → ⊥ = elim [
      | inl f ↦ (let h = *ℤ-mono-< (pos d) q f in let s = summed ns d ws rows c.weighed m in omega (arith, linear, *ℤ_comm (pos d) T, *ℤ-zero (pos d)))
      | inr f ↦ (let s = strictly ns d ws rows c.weighed m f.1 in omega (arith, linear, ap (λ (t : ℤ). t *ℤ pos d) f.0, zero-*ℤ (pos d)))
    ] in
    by c.falsehood
