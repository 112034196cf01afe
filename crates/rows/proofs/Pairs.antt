-- Weights beside rows, pair by pair: what a chain over a `zip` of both finds. Assumes nothing.
use Rattle.std.proofs.Common.{◌≡◌, ℕ, zero, suc, ◌<◌, ◌≤◌, Bool, true, false, List, [], ◌∷◌, length, take, ℤ, pos, ◌<ℤ◌, Option, Some, None, inl, inr, refl, sym, subst, arith, w32, to_z, of_z}
use Rattle.std.specs.Option.{MatchOption}
use Rattle.std.specs.Bool.{MatchBool, Decides}
use Rattle.std.specs.List.{AllWithin, HoldsAt, zip}
use Rattle.std.proofs.lemmas.Bool.{false≢true}
use Rattle.std.proofs.lemmas.Int.{to_z-of_z}
use Rattle.rows.specs.declared.kind.Kind.TheVariants.{Below}
use Rattle.rows.specs.declared.row.Row.{Row}
use Rattle.rows.specs.Limits.{Within, EachWithin}
use Rattle.rows.specs.Rows.{constraints}
use Rattle.rows.specs.Clashes.{Weighs, Weighed, Strictly, FirstNegative}
use Rattle.rows.proofs.Fits.{fits_32}

-- a weight as the code reads it
abbrev read : ℤ → ℤ
read w = to_z w32 (of_z w32 w)

read_is : (w : ℤ) → Within w → read w ≡ w
read_is w h = to_z-of_z w32 w (fits_32 w h)

-- the row makes the sum strict by the weight
abbrev pub Strict : ℤ × Row → Type 0
Strict p = (p.1.kind ≡ Below) × (pos 0 <ℤ to_z w32 (of_z w32 p.0))

strictly_from : (ws : List ℤ) (rows : List Row) → EachWithin ws → (k : ℕ) → k < length (zip ws rows) → HoldsAt Strict (zip ws rows) k → Strictly ws (constraints rows)
strictly_from [] rows e k h here = absurd (omega arith)
strictly_from (w ∷ ws) [] e k h here = absurd (omega arith)
strictly_from (w ∷ ws) (r ∷ rows) e zero h here = let p = here (w, r) in inl (p.0, subst (λ z. pos 0 <ℤ z) (read_is w (e 0)) p.1)
strictly_from (w ∷ ws) (r ∷ rows) e (suc k) h here = inr (strictly_from ws rows (λ j. e (suc j)) k (omega arith) here)

not_strictly : (ws : List ℤ) (rows : List Row) → EachWithin ws → AllWithin (λ p. Strict p → ⊥) (zip ws rows) 0 (length (zip ws rows)) → Strictly ws (constraints rows) → ⊥
not_strictly [] rows e none s = s
not_strictly (w ∷ ws) [] e none s = s
not_strictly (w ∷ ws) (r ∷ rows) e none (inl s) = none 0 (w, r) (omega arith) (omega arith) (s.0, subst (λ z. pos 0 <ℤ z) (sym (read_is w (e 0))) s.1)
not_strictly (w ∷ ws) (r ∷ rows) e none (inr s) = not_strictly ws rows (λ j. e (suc j)) (λ k d l h. none (suc k) d (omega arith) (omega arith)) s

pub strictly_decides : (ws : List ℤ) (rows : List Row) → EachWithin ws → (b : Bool) → MatchBool b ((k : ℕ) × (k < length (zip ws rows)) × HoldsAt Strict (zip ws rows) k) (AllWithin (λ p. Strict p → ⊥) (zip ws rows) 0 (length (zip ws rows))) → Decides b (Strictly ws (constraints rows))
strictly_decides ws rows e true m = ((λ _. strictly_from ws rows e m.0 m.1 m.2), λ _. refl)
strictly_decides ws rows e false m = ((λ h. absurd (false≢true h)), λ s. absurd (not_strictly ws rows e m s))

-- the row may have the weight
abbrev pub MayWeigh : ℤ × Row → Type 0
MayWeigh p = Weighs (to_z w32 (of_z w32 p.0)) p.1.kind

all_weighed : (ws : List ℤ) (rows : List Row) → length rows ≤ length ws → EachWithin ws → AllWithin MayWeigh (zip ws rows) 0 (length (zip ws rows)) → Weighed (take (length rows) ws) (constraints rows)
all_weighed [] [] h e all = tt
all_weighed [] (r ∷ rows) h e all = absurd (omega arith)
all_weighed (w ∷ ws) [] h e all = tt
all_weighed (w ∷ ws) (r ∷ rows) h e all = (subst (λ z. Weighs z r.kind) (read_is w (e 0)) (all 0 (w, r) (omega arith) (omega arith)), all_weighed ws rows (omega arith) (λ j. e (suc j)) (λ k d l m. all (suc k) d (omega arith) (omega arith)))

negative_from : (ws : List ℤ) (rows : List Row) → EachWithin ws → (i : ℕ) → i < length (zip ws rows) → HoldsAt (λ p. MayWeigh p → ⊥) (zip ws rows) i → AllWithin MayWeigh (zip ws rows) 0 i → FirstNegative (take (length rows) ws) (constraints rows) i
negative_from [] rows e i h here before = absurd (omega arith)
negative_from (w ∷ ws) [] e i h here before = absurd (omega arith)
negative_from (w ∷ ws) (r ∷ rows) e zero h here before = λ p. here (w, r) (subst (λ z. Weighs z r.kind) (sym (read_is w (e 0))) p)
negative_from (w ∷ ws) (r ∷ rows) e (suc i) h here before = (subst (λ z. Weighs z r.kind) (read_is w (e 0)) (before 0 (w, r) (omega arith) (omega arith)), negative_from ws rows (λ j. e (suc j)) i (omega arith) here (λ k d l m. before (suc k) d (omega arith) (omega arith)))

pub first_negative_found : (ws : List ℤ) (rows : List Row) → length rows ≤ length ws → EachWithin ws → (r : Option ℕ)
    → MatchOption r (AllWithin MayWeigh (zip ws rows) 0 (length (zip ws rows))) (λ i. (i < length (zip ws rows)) × HoldsAt (λ p. MayWeigh p → ⊥) (zip ws rows) i × AllWithin MayWeigh (zip ws rows) 0 i)
    → MatchOption r (Weighed (take (length rows) ws) (constraints rows)) (FirstNegative (take (length rows) ws) (constraints rows))
first_negative_found ws rows h e None m = all_weighed ws rows h e m
first_negative_found ws rows h e (Some i) m = negative_from ws rows e i m.0 m.1 m.2
