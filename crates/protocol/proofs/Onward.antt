-- Commands that are read one by one, and the reading of all bytes. Assumes nothing.
use Rattle.std.proofs.Common.{◌≡◌, ℕ, zero, suc, ◌+◌, ◌-◌, ◌<◌, ◌≤◌, min, Bool, true, false, cond, eqb, ltb, List, [], ◌∷◌, ◌++◌, length, get_or, take, drop, set, IfOk, Some, None, Ok, Err, Option, Result, sym, refl, ap, ◌∙◌, inl, inr, append_assoc, append-nil, arith, length-drop}
use Rattle.std.proofs.lemmas.List.{take_more_set, drop-set-lt, drop-drop}
use Rattle.std.proofs.lemmas.Bool.{lt-ltb, le-ltb, cases_lt}
use Rattle.console.specs.declared.command.Command.{Command}
use Rattle.engine.specs.declared.refusal.Refusal.{Refusal}
use Rattle.engine.specs.declared.refusal.Refusal.TheVariants.{TooLong}
use Rattle.protocol.specs.Bytes.{most_bytes, taken, told, first, followed, reading, parsed_into, parsed, Reads}

-- the commands cs, and then what is read of the rest
abbrev pub after : List Command → List Command × Option Refusal → List Command × Option Refusal
after cs r = (cs ++ r.0, r.1)

-- ---- one command further
pub reading_next : (n : ℕ) (bs : List ℕ) (c : Command) (rest : List ℕ) → 0 < n → 0 < length bs → first bs ≡ Ok (c, rest) → reading n bs ≡ after (c ∷ []) (reading (n - 1) rest)
reading_next n [] c rest room some is = absurd (omega arith)
reading_next zero (b ∷ bs) c rest room some is = absurd (omega arith)
reading_next (suc n) (b ∷ bs) c rest room some is =
    let e : n ≡ suc n - 1 = omega arith in
    ap (followed (reading n)) is ∙ ap (λ m. after (c ∷ []) (reading m rest)) e

pub reading_stops : (n : ℕ) (bs : List ℕ) (e : Refusal) → 0 < n → 0 < length bs → first bs ≡ Err e → reading n bs ≡ ([], Some e)
reading_stops n [] e room some is = absurd (omega arith)
reading_stops zero (b ∷ bs) e room some is = absurd (omega arith)
reading_stops (suc n) (b ∷ bs) e room some is = ap (followed (reading n)) is

pub reading_full : (n : ℕ) (bs : List ℕ) → n ≡ 0 → 0 < length bs → reading n bs ≡ ([], Some TooLong)
reading_full n [] none some = absurd (omega arith)
reading_full zero (b ∷ bs) none some = refl
reading_full (suc n) (b ∷ bs) none some = absurd (omega arith)

pub reading_ends : (n : ℕ) (bs : List ℕ) → length bs ≡ 0 → reading n bs ≡ ([], None)
reading_ends n [] none = refl
reading_ends n (b ∷ bs) none = absurd (omega arith)

-- the same after k commands in n places ws, of which r is the reading of all
module _ (n k : ℕ) (ws : List Command) (bs : List ℕ) (r : List Command × Option Refusal) (so : after (take k ws) (reading (n - k) bs) ≡ r) where
  pub onward_next : (c : Command) (rest : List ℕ) → k < n → n ≡ length ws → 0 < length bs → first bs ≡ Ok (c, rest) → after (take (k + 1) (set ws k c)) (reading (n - (k + 1)) rest) ≡ r
  onward_next c rest room long some is =
      let e : n - k - 1 ≡ n - (k + 1) = omega arith in
      rw (take_more_set ws k c (omega arith), append_assoc)
      (ap (after (take k ws)) (sym (reading_next (n - k) bs c rest (omega arith) some is ∙ ap (λ m. after (c ∷ []) (reading m rest)) e)) ∙ so)

  pub onward_stops : (e : Option Refusal) → reading (n - k) bs ≡ ([], e) → (take k ws, e) ≡ r
  onward_stops e is = ap (λ cs. (cs, e)) (sym (append-nil (take k ws))) ∙ ap (after (take k ws)) (sym is) ∙ so

-- the places after the first k + 1 are as they were
pub kept_next : (ws vs : List Command) (k : ℕ) (c : Command) → drop k ws ≡ drop k vs → drop (k + 1) (set ws k c) ≡ drop (k + 1) vs
kept_next ws vs k c same = drop-set-lt (k + 1) ws k c (omega arith) ∙ sym (drop-drop 1 k ws) ∙ ap (drop 1) same ∙ drop-drop 1 k vs

-- ---- room for as many commands as there are bytes is room enough
record Shorter (bs : List ℕ) (r : Result (Command × List ℕ) Refusal) : Type 0 where
  shorter : IfOk r (λ p. length p.1 < length bs)

either : (bs : List ℕ) (b : Bool) (x y : Result (Command × List ℕ) Refusal) → Shorter bs x → Shorter bs y → Shorter bs (cond b x y)
either bs true x y p q = p
either bs false x y p q = q

taken_shorter : (n : ℕ) (c : Command) (bs : List ℕ) → 0 < n → 0 < length bs → Shorter bs (taken n c bs)
taken_shorter n c bs some full = either bs (ltb (length bs) n) _ _ (record { shorter = tt }) (record { shorter = simp length-drop (omega arith) })

told_shorter : (op : ℕ) (bs : List ℕ) → 0 < length bs → Shorter bs (told op bs)
told_shorter op bs full =
    either bs (eqb op 1) _ _ (taken_shorter 2 _ bs (omega arith) full)
    (either bs (eqb op 2) _ _ (taken_shorter 18 _ bs (omega arith) full)
    (either bs (eqb op 3) _ _ (taken_shorter 1 _ bs (omega arith) full)
    (either bs (eqb op 4) _ _ (taken_shorter 2 _ bs (omega arith) full)
    (either bs (eqb op 5) _ _ (taken_shorter 2 _ bs (omega arith) full)
    (either bs (eqb op 6) _ _ (taken_shorter 1 _ bs (omega arith) full)
    (either bs (eqb op 7) _ _ (taken_shorter 1 _ bs (omega arith) full) (record { shorter = tt })))))))

first_shorter : (bs : List ℕ) → 0 < length bs → Shorter bs (first bs)
first_shorter bs full = either bs (eqb (length bs) 0) _ _ (record { shorter = tt }) (told_shorter (get_or bs 0 0) bs full)

pub reading_room : (m n : ℕ) (bs : List ℕ) → length bs ≤ m → length bs ≤ n → reading m bs ≡ reading n bs
reading_room m n [] p q = refl
reading_room zero n (b ∷ bs) p q = absurd (omega arith)
reading_room (suc m) zero (b ∷ bs) p q = absurd (omega arith)
reading_room (suc m) (suc n) (b ∷ bs) p q = go (first (b ∷ bs)) (first_shorter (b ∷ bs) (omega arith)).shorter (reading_room m n)
  where
    go : (r : Result (Command × List ℕ) Refusal) → IfOk r (λ x. length x.1 < length (b ∷ bs)) → ((rest : List ℕ) → length rest ≤ m → length rest ≤ n → reading m rest ≡ reading n rest) → followed (reading m) r ≡ followed (reading n) r
    go (Ok x) short same = ap (after (x.0 ∷ [])) (same x.1 (omega arith) (omega arith))
    go (Err e) short same = refl

pub parsed_room : (n : ℕ) (bs : List ℕ) → min most_bytes (length bs) ≤ n → parsed_into n bs ≡ parsed bs
parsed_room n bs enough =
    elim (cases_lt most_bytes (length bs)) [
      | inl long ↦ rw (lt-ltb most_bytes (length bs) long)
      | inr short ↦ rw (le-ltb most_bytes (length bs) short) (reading_room n (length bs) bs (omega arith) (omega arith))
    ]

-- bytes that are not too many are read, and the others are not
pub parsed_short : (n : ℕ) (bs : List ℕ) → length bs ≤ most_bytes → reading n bs ≡ parsed_into n bs
parsed_short n bs short = rw (le-ltb most_bytes (length bs) short)

pub parsed_long : (n : ℕ) (bs : List ℕ) → most_bytes < length bs → ([], Some TooLong) ≡ parsed_into n bs
parsed_long n bs long = rw (lt-ltb most_bytes (length bs) long)

pub reads_from : (bs : List ℕ) (vs ws : List Command) (k : ℕ) (e : Option Refusal) → k ≤ length vs → (take k ws, e) ≡ parsed_into (length vs) bs → drop k ws ≡ drop k vs → Reads bs vs ws k e
reads_from bs vs ws k e in-room so same = record { within = in-room; read = so; whole = λ enough. so ∙ parsed_room (length vs) bs enough; kept = same }
