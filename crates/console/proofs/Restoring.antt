-- What a guard mutes it restores. Assumes nothing.
use Rattle.std.proofs.Common.{◌≡◌, ℕ, zero, suc, ◌<◌, ◌≤◌, Bool, true, false, cond, List, [], ◌∷◌, length, get_or, take, set, sym, refl, ap, ◌∙◌, arith}
use Rattle.plans.specs.declared.rule.Rule.{Rule}
use Rattle.console.specs.Marks.{with_mark, marked, restored, Sounds}

-- one mark written
pub marked_set : (rules : List Rule) (i : ℕ) (d : Rule) (b : Bool) → i < length rules → set rules i (with_mark (get_or rules i d) b) ≡ marked rules i b
marked_set [] i d b h = absurd (omega arith)
marked_set (r ∷ rules) zero d b h = refl
marked_set (r ∷ rules) (suc i) d b h = ap (λ (more : List Rule). r ∷ more) (marked_set rules i d b (omega arith))

pub length_marked : (rules : List Rule) (i : ℕ) (b : Bool) → length (marked rules i b) ≡ length rules
length_marked [] i b = refl
length_marked (r ∷ rules) zero b = refl
length_marked (r ∷ rules) (suc i) b = ap suc (length_marked rules i b)

pub sounds_at : (rules : List Rule) (i : ℕ) (d : Rule) → i < length rules → (get_or rules i d).sounds ≡ true → Sounds rules i
sounds_at [] i d h e = absurd (omega arith)
sounds_at (r ∷ rules) zero d h e = e
sounds_at (r ∷ rules) (suc i) d h e = sounds_at rules i d (omega arith) e

-- ---- the loop that restores
-- a rule that was not muted
pub restored_skips : (muted : List Bool) (rules : List Rule) (i : ℕ) → get_or muted i false ≡ false → restored (take (suc i) muted) rules ≡ restored (take i muted) rules
restored_skips [] rules zero e = refl
restored_skips [] rules (suc i) e = refl
restored_skips (m ∷ muted) [] zero e = refl
restored_skips (m ∷ muted) (r ∷ rules) zero e = ap (λ (b : Bool). cond b (with_mark r true) r ∷ rules) e
restored_skips (m ∷ muted) [] (suc i) e = refl
restored_skips (m ∷ muted) (r ∷ rules) (suc i) e = ap (λ (more : List Rule). cond m (with_mark r true) r ∷ more) (restored_skips muted rules i e)

-- past the end of the rules
pub restored_all : (muted : List Bool) (rules : List Rule) (i : ℕ) → length rules ≤ i → restored (take i muted) rules ≡ restored muted rules
restored_all [] rules zero h = refl
restored_all [] rules (suc i) h = refl
restored_all (m ∷ muted) [] zero h = refl
restored_all (m ∷ muted) [] (suc i) h = refl
restored_all (m ∷ muted) (r ∷ rules) zero h = absurd (omega arith)
restored_all (m ∷ muted) (r ∷ rules) (suc i) h = ap (λ (more : List Rule). cond m (with_mark r true) r ∷ more) (restored_all muted rules i (omega arith))

-- a rule that was muted
restored_more : (muted : List Bool) (rules : List Rule) (i : ℕ) → i < length rules → get_or muted i false ≡ true → restored (take (suc i) muted) rules ≡ marked (restored (take i muted) rules) i true
restored_more [] rules zero h e = absurd (let z : ◌≡◌ {A = ℕ} 0 1 = cc in omega arith)
restored_more [] rules (suc i) h e = absurd (let z : ◌≡◌ {A = ℕ} 0 1 = cc in omega arith)
restored_more (m ∷ muted) [] zero h e = absurd (omega arith)
restored_more (m ∷ muted) (r ∷ rules) zero h e = ap (λ (b : Bool). cond b (with_mark r true) r ∷ rules) e
restored_more (m ∷ muted) [] (suc i) h e = absurd (omega arith)
restored_more (m ∷ muted) (r ∷ rules) (suc i) h e = ap (λ (more : List Rule). cond m (with_mark r true) r ∷ more) (restored_more muted rules i (omega arith) e)

length_restored : (muted : List Bool) (rules : List Rule) → length (restored muted rules) ≡ length rules
length_restored [] rules = refl
length_restored (m ∷ muted) [] = refl
length_restored (m ∷ muted) (r ∷ rules) = ap suc (length_restored muted rules)

pub restored_turn : (muted : List Bool) (rules now after : List Rule) (i : ℕ) (d : Rule) → now ≡ restored (take i muted) rules → after ≡ set now i (with_mark (get_or now i d) true) → i < length rules → get_or muted i false ≡ true → after ≡ restored (take (suc i) muted) rules
restored_turn muted rules now after i d inv is h e =
    is ∙ ap (λ (rs : List Rule). set rs i (with_mark (get_or rs i d) true)) inv
    ∙ marked_set (restored (take i muted) rules) i d true (omega (arith, length_restored (take i muted) rules, h))
    ∙ sym (restored_more muted rules i h e)

-- ---- what is done to one rule is taken back
mute_back : (b : Bool) (r : Rule) → r.sounds ≡ true → cond b (with_mark r true) r ≡ with_mark r true
mute_back true r e = refl
mute_back false r e = ap (with_mark r) e

pub mute_kept : (muted : List Bool) (rules : List Rule) (i : ℕ) → i < length muted → Sounds rules i → restored (set muted i true) (marked rules i false) ≡ restored muted rules
mute_kept [] rules i h e = absurd (omega arith)
mute_kept (m ∷ muted) [] i h e = absurd e
mute_kept (m ∷ muted) (r ∷ rules) zero h e = ap (λ (x : Rule). x ∷ restored muted rules) (sym (mute_back m r e))
mute_kept (m ∷ muted) (r ∷ rules) (suc i) h e = ap (λ (more : List Rule). cond m (with_mark r true) r ∷ more) (mute_kept muted rules i (omega arith) e)

pub sound_kept : (muted : List Bool) (rules : List Rule) (i : ℕ) → i < length muted → get_or muted i false ≡ true → restored (set muted i false) (marked rules i true) ≡ restored muted rules
sound_kept [] rules i h e = absurd (omega arith)
sound_kept (m ∷ muted) [] i h e = nothing (set (m ∷ muted) i false)
  where
    nothing : (ms : List Bool) → restored ms [] ≡ []
    nothing [] = refl
    nothing (m ∷ ms) = refl
sound_kept (m ∷ muted) (r ∷ rules) zero h e = ap (λ (b : Bool). cond b (with_mark r true) r ∷ restored muted rules) (sym e)
sound_kept (m ∷ muted) (r ∷ rules) (suc i) h e = ap (λ (more : List Rule). cond m (with_mark r true) r ∷ more) (sound_kept muted rules i (omega arith) e)
