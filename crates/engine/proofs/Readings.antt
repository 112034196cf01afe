-- An answer that is read number by number. Assumes nothing.
use Rattle.std.proofs.Common.{◌≡◌, ℕ, ◌+◌, ◌<◌, ◌≤◌, ltb, List, [], ◌∷◌, ◌++◌, length, get_or, take, set, ℤ, pos, Ok, Err, Result, sym, refl, ap, ◌∙◌, arith}
use Rattle.std.proofs.lemmas.List.{take_more, take_more_set}
use Rattle.std.proofs.lemmas.Bool.{cond-true, lt-ltb}
use Rattle.rows.specs.Limits.{largest, faders, EachWithin}
use Rattle.engine.specs.Interface.{Answer, View, numerator_reply, weight_reply}
use Rattle.engine.specs.Deciding.{Levels, Loads}
use Rattle.engine.proofs.StateRows.{weight_at}

abbrev pub numerators_in : Answer → List ℤ
numerators_in Answer.none = []
numerators_in (Answer.preset ns d) = ns
numerators_in (Answer.clash ws) = []

abbrev pub weights_in : Answer → List ℤ
weights_in Answer.none = []
weights_in (Answer.preset ns d) = []
weights_in (Answer.clash ws) = ws

-- one number more stands where it belongs
pub front_more : (xs ys : List ℤ) (i : ℕ) (z : ℤ) → i < length xs → i < length ys → take i xs ≡ take i ys → z ≡ get_or ys i (pos 0) → take (i + 1) (set xs i z) ≡ take (i + 1) ys
front_more xs ys i z h l e v = take_more_set xs i z h ∙ (λ j. e j ++ v j ∷ []) ∙ sym (take_more ys i (pos 0) l)

ok_err : {X Y : Type 0} (x : X) (y : Y) → Ok x ≡ Err y → ⊥
ok_err x y e = let z : ◌≡◌ {A = ℕ} 0 1 = cc in omega arith

pub ok_same : {X Y : Type 0} (x y : X) → ◌≡◌ {A = Result X Y} (Ok x) (Ok y) → x ≡ y
ok_same x y e = cc

-- ---- levels

module _ (d : ℕ) where
  pub level_read : (a : Answer) (k : ℕ) → Levels d a → k < faders → numerator_reply k a ≡ Ok (get_or (numerators_in a) k (pos 0))
  level_read Answer.none k l h = absurd l
  level_read (Answer.preset ns e) k l h = cond-true (ltb k faders) _ _ (lt-ltb k faders h)
  level_read (Answer.clash ws) k l h = absurd l

  pub levels_places : (a : Answer) → Levels d a → length (numerators_in a) ≡ faders
  levels_places Answer.none l = absurd l
  levels_places (Answer.preset ns e) l = l.1
  levels_places (Answer.clash ws) l = absurd l

  pub levels_within : (a : Answer) → Levels d a → EachWithin (numerators_in a)
  levels_within Answer.none l = absurd l
  levels_within (Answer.preset ns e) l = l.2
  levels_within (Answer.clash ws) l = absurd l

  pub levels_denominator : (a : Answer) → Levels d a → (0 < d) × (d ≤ largest)
  levels_denominator Answer.none l = absurd l
  levels_denominator (Answer.preset ns e) l = (l.3, l.4)
  levels_denominator (Answer.clash ws) l = absurd l

  pub levels_whole : (a : Answer) → Levels d a → Answer.preset (numerators_in a) d ≡ a
  levels_whole Answer.none l = absurd l
  levels_whole (Answer.preset ns e) l = ap (λ (x : ℕ). Answer.preset ns x) (sym l.0)
  levels_whole (Answer.clash ws) l = absurd l

-- ---- weights

pub load_read : (n : ℕ) (v : View) (i : ℕ) → Loads n v.answer → length v.rows ≡ n → i < n → weight_reply i v ≡ Ok (get_or (weights_in v.answer) i (pos 0))
load_read n v i l r h = by v.answer refl l
  where
    by : (a : Answer) → v.answer ≡ a → Loads n a → weight_reply i v ≡ Ok (get_or (weights_in a) i (pos 0))
    by Answer.none e l = absurd l
    by (Answer.preset ns d) e l = absurd l
    by (Answer.clash ws) e l = weight_at i v ws e ∙ cond-true (ltb i (length v.rows)) _ _ (lt-ltb i (length v.rows) (omega (arith, r, h)))

pub loads_places : (n : ℕ) (a : Answer) → Loads n a → length (weights_in a) ≡ n
loads_places n Answer.none l = absurd l
loads_places n (Answer.preset ns d) l = absurd l
loads_places n (Answer.clash ws) l = l.0

pub loads_within : (n : ℕ) (a : Answer) → Loads n a → EachWithin (weights_in a)
loads_within n Answer.none l = absurd l
loads_within n (Answer.preset ns d) l = absurd l
loads_within n (Answer.clash ws) l = l.1

pub loads_whole : (n : ℕ) (a : Answer) → Loads n a → Answer.clash (weights_in a) ≡ a
loads_whole n Answer.none l = absurd l
loads_whole n (Answer.preset ns d) l = absurd l
loads_whole n (Answer.clash ws) l = refl

-- ---- which of the two is held
