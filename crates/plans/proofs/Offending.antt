-- The search for a coefficient that a rule may not have. Assumes nothing.
use Rattle.std.proofs.Common.{◌≡◌, ℕ, zero, suc, ◌+◌, ◌<◌, ◌≤◌, Bool, true, false, cond, ltb, leb, List, [], ◌∷◌, length, get_or, drop, ℤ, pos, nat_abs, Some, None, Option, refl, ap, ◌∙◌, inl, inr, arith}
use Rattle.std.proofs.lemmas.List.{at_drop_more, at_drop_all}
use Rattle.std.proofs.lemmas.Int.{ints}
use Rattle.std.proofs.lemmas.Bool.{and_cases, or_parts, leb-false, ltb-false}
use Rattle.engine.specs.declared.refusal.Refusal.{Refusal}
use Rattle.rows.specs.Rows.{unused}
use Rattle.engine.specs.Interface.{first_refusal, unused_refusal}
use Rattle.plans.specs.Ranges.{coefficient_range}
use Rattle.plans.specs.Edits.{offends, first_offending, row_refusal, side_refusal}

-- one coefficient further, at which the test is b
pub offending_at : (count k : ℕ) (zs : List ℤ) (b : Bool) → k < length zs → offends count k (get_or zs k (pos 0)) ≡ b → first_offending count k (drop k zs) ≡ cond b (Some k) (first_offending count (k + 1) (drop (k + 1) zs))
offending_at count k zs b h e = at_drop_more (first_offending count k) zs k (pos 0) h ∙ ap (λ (t : Bool). cond t (Some k) (first_offending count (k + 1) (drop (k + 1) zs))) e

pub offending_none : (count k : ℕ) (zs : List ℤ) → length zs ≤ k → first_offending count k (drop k zs) ≡ None
offending_none count k zs h = at_drop_all (first_offending count k) zs k h

-- the search went past j
past_one : (b : Bool) (j : ℕ) (later : Option ℕ) → cond b (Some j) later ≡ None → (b ≡ false) × (later ≡ None)
past_one true j later h = let z : ◌≡◌ {A = ℕ} 0 1 = cc in absurd (omega arith)
past_one false j later h = (refl, h)

-- a coefficient that may stand at a fader that the desk does not have
unused_zero : (count j : ℕ) (z : ℤ) → offends count j z ≡ false → count ≤ j → z ≡ pos 0
unused_zero count j z h q = elim (and_cases (leb count j) (ltb 0 (nat_abs z)) (or_parts (ltb coefficient_range (nat_abs z)) (unused count j z) h).1) [
  | inl e ↦ absurd (omega (arith, leb-false count j e))
  | inr e ↦ let small = ltb-false 0 (nat_abs z) e in omega (arith, ints)
]

zero_above : (count j : ℕ) (zs : List ℤ) → first_offending count j zs ≡ None → (k : ℕ) → count ≤ j + k → get_or zs k (pos 0) ≡ pos 0
zero_above count j [] h k q = refl
zero_above count j (z ∷ zs) h zero q = unused_zero count j z (past_one (offends count j z) j (first_offending count (j + 1) zs) h).0 (omega arith)
zero_above count j (z ∷ zs) h (suc k) q = zero_above count (j + 1) zs (past_one (offends count j z) j (first_offending count (j + 1) zs) h).1 k (omega arith)

none_offends : (o : Option ℕ) (other : Option Refusal) → first_refusal (unused_refusal o) other ≡ None → o ≡ None
none_offends None other h = refl
none_offends (Some k) other h = let z : ◌≡◌ {A = ℕ} 0 1 = cc in absurd (omega arith)

-- the coefficients of a row that is not refused
pub row_used : (count : ℕ) (zs : List ℤ) (s : ℤ) → row_refusal count zs s ≡ None → (k : ℕ) → count ≤ k → get_or zs k (pos 0) ≡ pos 0
row_used count zs s h k q = zero_above count 0 zs (none_offends (first_offending count 0 zs) (side_refusal s) h) k (omega arith)
