-- The tables from the rows up to the last fader, and the way back from the last table to the rows. Assumes nothing.
use Rattle.std.specs.Prelude.{◌≡◌, ℕ, zero, suc, ◌+◌, ◌*◌, ◌<◌, ◌≤◌, List, [], ◌∷◌, map, pos, Some, None, Ok, Err, Option, Result, slice_index_or, refl}
use Rattle.std.proofs.Common.{sym, ap, subst, ◌∙◌, arith}
use Rattle.std.specs.List.{AllByRecursion}
use Rattle.std.proofs.ByRecursion.{All-weaker}
use Rattle.engine.specs.declared.fault.Fault.{Fault}
use Rattle.rows.specs.Rows.{Constraint}
use Rattle.rows.specs.Presets.{WellFormed}
use Rattle.engine.specs.Verdicts.{Valid, number_beyond}
use Rattle.elimination.specs.Table.{Line, uppers, lowers, set_aside, eliminated, all_eliminated}
use Rattle.elimination.specs.Levels.{Levels, above, below, upper_limit, lower_limit, also, limits, placed, chosen, set_fader}
use Rattle.elimination.specs.Working.{carried, all_set}
use Rattle.rows.proofs.Alls.{unjoin}
use Rattle.elimination.specs.Placing.{raised, raised_length, raised_zero, leveled_length, leveled_zero}
use Rattle.elimination.specs.Steps.{err_ok, Step, step, sums_of, Before, above_now, below_now, above_later, below_later}
use Rattle.elimination.specs.Setting.{Met, Set, found, extends}
use Rattle.elimination.specs.Tracing.{Kept, carried_kept, kept_step}

-- ---- the tables, one for each fader

abbrev pub Stages : List Constraint → ℕ → List Line → Type 0
Stages rows zero t = carried 0 rows ≡ t
Stages rows (suc k) t = (s : List Line) × Stages rows k s × Step k s t

next_ok : (o : Result (List Line) Fault) (m k : ℕ) (f : List Line) → ◌≡◌ {A = Result (List Line) Fault} (elim o [ Ok u ↦ all_eliminated m (k + 1) u | Err g ↦ Err g ]) (Ok f) → (u : List Line) × (o ≡ Ok u) × (all_eliminated m (k + 1) u ≡ Ok f)
next_ok (Ok u) m k f e = (u, refl, e)
next_ok (Err g) m k f e = absurd (err_ok g f e)

stages_on : (rows : List Constraint) (m k : ℕ) (t f : List Line) → Stages rows k t → all_eliminated m k t ≡ Ok f → Stages rows (k + m) f
stages_on rows zero k t f s e =
    let p : k ≡ k + 0 = omega arith in
    let q : t ≡ f = cc in
    subst (λ (n : ℕ). Stages rows n f) p (subst (Stages rows k) q s)
stages_on rows (suc m) k t f s e =
    let a = next_ok (eliminated k t) m k f e in
    let u = a.0 in
    let p : suc k ≡ k + 1 = omega arith in
    let q : k + 1 + m ≡ k + suc m = omega arith in
    subst (λ (n : ℕ). Stages rows n f) q (stages_on rows m (k + 1) u f (subst (λ (n : ℕ). Stages rows n u) p (t, s, step k t u a.1)) a.2)

pub stages : (rows : List Constraint) (count : ℕ) (f : List Line) → all_eliminated count 0 (carried 0 rows) ≡ Ok f → Stages rows count f
stages rows count f e =
    let p : 0 + count ≡ count = omega arith in
    subst (λ (n : ℕ). Stages rows n f) p (stages_on rows count 0 (carried 0 rows) f refl e)

pub stages_kept : (count : ℕ) (rows : List Constraint) → Valid count rows → (k : ℕ) (t : List Line) → Stages rows k t → AllByRecursion (Kept count rows k) t
stages_kept count rows v zero t s = subst (AllByRecursion (Kept count rows 0)) s (carried_kept count rows v.short 0 rows refl v.each)
stages_kept count rows v (suc k) t s = kept_step count rows k s.0 t s.2 (stages_kept count rows v k s.0 s.1)

-- ---- the limits that the last table sets for a fader

-- the lines of f set aside for the faders before k are those of t
abbrev pub Later : ℕ → List Line → List Line → Type 0
Later k t f = (j : ℕ) → j < k → (above j f ≡ above j t) × (below j f ≡ below j t)

later_before : (k : ℕ) (s t f : List Line) → Step k s t → Later (suc k) t f → Later k s f
later_before k s t f p h j l =
    let n : k ≡ j → ⊥ = λ e. omega arith in
    ((h j (omega arith)).0 ∙ above_later j k s t n p, (h j (omega arith)).1 ∙ below_later j k s t n p)

upper_limits : (k : ℕ) (x : Levels) (rs : List Line) → limits (upper_limit k x) (map (set_aside k) rs) ≡ limits (upper_limit k x) rs
upper_limits k x [] = refl
upper_limits k x (r ∷ rs) = ap (also (upper_limit k x r)) (upper_limits k x rs)

lower_limits : (k : ℕ) (x : Levels) (rs : List Line) → limits (lower_limit k x) (map (set_aside k) rs) ≡ limits (lower_limit k x) rs
lower_limits k x [] = refl
lower_limits k x (r ∷ rs) = ap (also (lower_limit k x r)) (lower_limits k x rs)

pub set_fader_is : (k : ℕ) (s t f : List Line) (x : Levels) → AllByRecursion (λ r. Before k r.aside) s → Step k s t → Later (suc k) t f → set_fader k f x ≡ placed k x (found k x s)
set_fader_is k s t f x b p h =
    let lo : limits (lower_limit k x) (below k f) ≡ limits (lower_limit k x) (lowers k s) = ap (limits (lower_limit k x)) ((h k (omega arith)).1 ∙ below_now k s t b p) ∙ lower_limits k x (lowers k s) in
    let hi : limits (upper_limit k x) (above k f) ≡ limits (upper_limit k x) (uppers k s) = ap (limits (upper_limit k x)) ((h k (omega arith)).0 ∙ above_now k s t b p) ∙ upper_limits k x (uppers k s) in
    λ i. placed k x (chosen (lo i) (hi i))

-- ---- the way back

-- levels of which the faders below k are not set yet
pub record Good (count k : ℕ) (x : Levels) : Type 0 where
  pub formed : WellFormed count x.numerators x.denominator
  pub unset : (j : ℕ) → j < k → slice_index_or x.numerators j (pos 0) ≡ pos 0

good_set : (count k : ℕ) (x y : Levels) → k < count → Good count (suc k) x → Set k x y → Good count k y
good_set count k x y l g s =
    let v = s.to in
    let o = s.leveled in
    let ns = raised k x v in
    let d = x.denominator * v.denominator in
    record {
      formed = record {
        places = leveled_length ns d y o ∙ raised_length k x v ∙ g.formed.places;
        within = o.within;
        positive = o.positive;
        bounded = o.bounded;
        least = o.lowest;
        unused = λ j h. leveled_zero ns d y o j (raised_zero k x v j (λ e. omega arith) (g.formed.unused j h));
      };
      unset = λ j h. leveled_zero ns d y o j (raised_zero k x v j (λ e. omega arith) (g.unset j (omega arith)));
    }

next_set : (o : Option Levels) (k : ℕ) (f : List Line) (y : Levels) → ◌≡◌ {A = Result Levels Fault} (elim o [ Some z ↦ all_set k f z | None ↦ Err (number_beyond k) ]) (Ok y) → (z : Levels) × (o ≡ Some z) × (all_set k f z ≡ Ok y)
next_set None k f y e = absurd (err_ok (number_beyond k) y e)
next_set (Some z) k f y e = (z, refl, e)

module _ (count : ℕ) (rows : List Constraint) (valid : Valid count rows) where
  pub back : (k : ℕ) (t f : List Line) → Stages rows k t → Later k t f → k ≤ count → (x : Levels) → Good count k x → AllByRecursion (Met x) t → (y : Levels) → all_set k f x ≡ Ok y → Good count 0 y × AllByRecursion (Met y) (carried 0 rows)
  back zero t f s l c x g m y e =
      let p : x ≡ y = cc in
      (subst (Good count 0) p g, subst (λ (z : Levels). AllByRecursion (Met z) (carried 0 rows)) p (subst (AllByRecursion (Met x)) (sym s) m))
  back (suc k) t f s l c x g m y e =
      let b = s.0 in
      let p = s.2 in
      let kept = stages_kept count rows valid k b s.1 in
      let early = All-weaker (Kept count rows k) (λ r. Before k r.aside) (λ r h. h.earlier) b kept in
      let a = next_set (set_fader k f x) k f y e in
      let parts = unjoin (Met x) (map (set_aside k) b) (sums_of k b) (subst (AllByRecursion (Met x)) (sym p.is) m) in
      let n = extends k b x a.0 g.formed.positive (omega (arith, g.formed.places, valid.few)) (g.unset k (omega arith)) parts.0 parts.1 (sym (set_fader_is k b t f x early p l) ∙ a.1) in
      back k b f s.1 (later_before k b t f p l) (omega arith) a.0 (good_set count k x a.0 c g n.0) n.1 y a.2
