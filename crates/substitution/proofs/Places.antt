-- Lists worked on from place to place, and numbers told from 0. Assumes nothing.
use Rattle.std.proofs.Common.{◌≡◌, ℕ, ◌+◌, ◌-◌, ◌<◌, ◌≤◌, true, false, ltb, List, [], ◌∷◌, ◌++◌, length, get_or, take, drop, set, ℤ, pos, negsuc, ◌-ℤ◌, ◌*ℤ◌, nat_abs, sym, ap, ◌∙◌, inl, inr, arith, w32, to_z, of_z}
use Rattle.std.proofs.lemmas.List.{take_more, take_more_set, take-append-drop, drop_more, drop-drop, drop-set-lt, get_or-drop}
use Rattle.std.proofs.lemmas.Int.{to_z-of_z}
use Rattle.std.proofs.lemmas.Bool.{cases_Bool}
use Rattle.integers.specs.Vectors.{scale}
use Rattle.integers.proofs.Linear.{linear}
use Rattle.integers.proofs.Laws.{neg-is-*ℤ}
use Rattle.integers.proofs.VectorLaws.{scale_at, length_scale}
use Rattle.rows.specs.Limits.{Within}
use Rattle.rows.proofs.Fits.{fits_32}
use Rattle.substitution.specs.Cancelling.{zero_is}

-- ---- a number, by its bits

pub bits_are : (z : ℤ) → Within z → to_z w32 (of_z w32 z) ≡ z
bits_are z w = to_z-of_z w32 z (fits_32 z w)

pub none_by_bits : (z : ℤ) → Within z → of_z w32 z ≡ 0 → ltb 0 (nat_abs z) ≡ false
none_by_bits z w e = ap (λ (x : ℤ). ltb 0 (nat_abs x)) (sym (bits_are z w) ∙ ap (to_z w32) e)

pub some_by_bits : (z : ℤ) → (of_z w32 z ≡ 0 → ⊥) → ltb 0 (nat_abs z) ≡ true
some_by_bits z n = elim (cases_Bool (ltb 0 (nat_abs z))) [ inl t ↦ t | inr f ↦ absurd (n (ap (of_z w32) (zero_is z f))) ]

-- ---- numbers negated

pub minus_is : (z : ℤ) → pos 0 -ℤ z ≡ negsuc 0 *ℤ z
minus_is z = omega (arith, linear, neg-is-*ℤ z)

-- one place more, at which z stands
pub negated_more : (zs out : List ℤ) (i : ℕ) (z : ℤ) → i < length zs → i < length out → z ≡ negsuc 0 *ℤ get_or zs i (pos 0) → take i out ≡ take i (scale (negsuc 0) zs) → take (i + 1) (set out i z) ≡ take (i + 1) (scale (negsuc 0) zs)
negated_more zs out i z h g e s =
    take_more_set out i z g
    ∙ (λ j. s j ++ (e ∙ sym (scale_at (negsuc 0) zs i)) j ∷ [])
    ∙ sym (take_more (scale (negsuc 0) zs) i (pos 0) (omega (arith, length_scale (negsuc 0) zs)))

-- ---- lists

pub split_at : {X : Type 0} (xs : List X) (i : ℕ) (d : X) → i < length xs → xs ≡ take i xs ++ get_or xs i d ∷ drop (i + 1) xs
split_at xs i d h = sym (take-append-drop i xs) ∙ ap (λ (t : List _). take i xs ++ t) (drop_more xs i d h)

-- t is o from place i on: what stands there, and what stays after a write
module _ {X : Type 0} (i : ℕ) (o t : List X) (left : drop i t ≡ drop i o) where
  pub same_at : (n : ℕ) (d : X) → i ≤ n → get_or t n d ≡ get_or o n d
  same_at n d h =
      let e : i + (n - i) ≡ n = omega arith in
      ap (λ (x : ℕ). get_or t x d) (sym e) ∙ sym (get_or-drop i t (n - i) d) ∙ ap (λ (x : List X). get_or x (n - i) d) left ∙ get_or-drop i o (n - i) d ∙ ap (λ (x : ℕ). get_or o x d) e

  pub left_more : (d : X) → drop (i + 1) (set t i d) ≡ drop (i + 1) o
  left_more d = drop-set-lt (i + 1) t i d (omega arith) ∙ sym (drop-drop 1 i t) ∙ ap (drop 1) left ∙ drop-drop 1 i o
