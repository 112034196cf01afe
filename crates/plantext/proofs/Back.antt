-- A statement is what its text says. Assumes nothing.
use Rattle.std.proofs.Common.{◌≡◌, ℕ, suc, ◌+◌, ◌<◌, true, not, ◌&&◌, eqb, List, [], ◌∷◌, ◌++◌, map, length, ℤ, pos, negsuc, Ok, Result, decimal, sym, refl, ap, ◌∙◌, append-nil, arith}
use mathlib.Core.List.{map-append}
use Rattle.std.proofs.lemmas.Fmt.{decimal_nonempty, digits_decimal, digits_value-decimal, length-decimal-le}
use Rattle.std.proofs.ByRecursion.{All-append, All-map, All-weaker}
use Rattle.std.proofs.lemmas.Str.Parse.{tells_all_ascii_digits}
use Rattle.std.proofs.lemmas.Bool.{ne_eqb, le-ltb, le-leb, and_from}
use Rattle.std.specs.Int.{IsInRange}
use Rattle.std.specs.Fmt.{signed_decimal}
use Rattle.std.specs.List.{AllByRecursion as All}
use Rattle.std.specs.Str.{all_ascii_digits}
use Rattle.plantext.specs.Cuts.{dark}
use Rattle.plantext.specs.Grammar.{◌and_then◌, all_known, front_numbers, after_numbers, held, statement, statement_of}
use Rattle.plantext.specs.Spelling.{digits_word, minus, word_of}
use Rattle.plantext.specs.Writes.{mark, spelt, written, Small, Proper, ReadsBack}
use Rattle.rows.specs.declared.kind.Kind.{Kind}
use Rattle.rows.specs.declared.kind.Kind.TheVariants.{AtMost, Below, Equal}
use Rattle.plantext.specs.declared.statement.Statement.{Statement}
use Rattle.plantext.specs.declared.statement.Statement.TheVariants.{Blank, Faders as FadersIs, Rule, Preset as PresetIs, Clash as ClashIs}
use Rattle.plantext.specs.declared.word.Misspelling.{Misspelling}
use Rattle.plantext.specs.declared.word.Word.{Word}
use Rattle.plantext.specs.declared.word.Word.TheVariants.{Faders, Preset, Clash, Compare, Slash, Number}
use Rattle.plantext.proofs.Spaced.{plain, Whole, words_of_spaced}
use Rattle.plantext.proofs.Spelt.{own}

-- ---- one number
plain_digit : (d : ℕ) → IsInRange 48 57 d → (dark d && not (eqb d 35)) ≡ true
plain_digit d h = rw (ne_eqb d 32 (omega arith), ne_eqb d 9 (omega arith), ne_eqb d 13 (omega arith), ne_eqb d 35 (omega arith))

plain_digits : (ds : List ℕ) → all_ascii_digits ds ≡ true → plain ds ≡ true
plain_digits [] all = refl
plain_digits (d ∷ ds) all = let p = tells_all_ascii_digits.parts d ds all in and_from _ _ (plain_digit d p.0) (plain_digits ds p.1)

whole_signed : (z : ℤ) → Small z → Whole (signed_decimal z)
whole_signed (pos n) h = record { some = decimal_nonempty n (omega arith); bytes = plain_digits (decimal n) (digits_decimal own n (omega arith)) }
whole_signed (negsuc n) h = record { some = omega arith; bytes = plain_digits (decimal (suc n)) (digits_decimal own (suc n) (omega arith)) }

-- at most twelve digits of the number n, after a sign
digits_are : (s : ℕ → ℤ) (n : ℕ) → n < 1000000000000 → digits_word s (decimal n) ≡ Ok (Number (s n))
digits_are s n h =
    let some = decimal_nonempty n (omega arith) in
    let short = length-decimal-le 12 n (omega arith) h (omega arith) in
    rw (ne_eqb (length (decimal n)) 0 (omega arith), digits_decimal own n (omega arith), le-ltb 12 (length (decimal n)) short, digits_value-decimal own n (omega arith))

-- bytes that begin with a digit are none of the fixed words
word_of_digits : (ds : List ℕ) → all_ascii_digits ds ≡ true → 0 < length ds → word_of ds ≡ digits_word pos ds
word_of_digits [] all some = absurd (omega arith)
word_of_digits (d ∷ ds) all some =
    let h = (tells_all_ascii_digits.parts d ds all).0 in
    rw (ne_eqb d 102 (omega arith), ne_eqb d 112 (omega arith), ne_eqb d 99 (omega arith), ne_eqb d 60 (omega arith), ne_eqb d 61 (omega arith), ne_eqb d 47 (omega arith), ne_eqb d 45 (omega arith), ne_eqb d 43 (omega arith))

word_of_signed : (z : ℤ) → Small z → word_of (signed_decimal z) ≡ Ok (Number z)
word_of_signed (pos n) h = word_of_digits (decimal n) (digits_decimal own n (omega arith)) (decimal_nonempty n (omega arith)) ∙ digits_are pos n h
word_of_signed (negsuc n) h = digits_are minus (suc n) h

-- ---- numbers in a row
abbrev number : ℤ → Result Word Misspelling
number z = Ok (Number z)

words_of_numbers : (zs : List ℤ) → All Small zs → map word_of (map signed_decimal zs) ≡ map number zs
words_of_numbers [] a = refl
words_of_numbers (z ∷ zs) a = λ i. word_of_signed z a.0 i ∷ words_of_numbers zs a.1 i

whole_numbers : (zs : List ℤ) → All Small zs → All Whole (map signed_decimal zs)
whole_numbers zs a = All-map Whole signed_decimal zs (All-weaker Small (λ z. Whole (signed_decimal z)) whole_signed zs a)

known_front : (n : ℕ) (zs : List ℤ) (ws : List (Result Word Misspelling)) → ((m : ℕ) → all_known m ws ≡ Ok tt) → all_known n (map number zs ++ ws) ≡ Ok tt
known_front n [] ws h = h n
known_front n (z ∷ zs) ws h = known_front (n + 1) zs ws h

numbers_front : (zs : List ℤ) (ws : List (Result Word Misspelling)) → front_numbers (map number zs ++ ws) ≡ zs ++ front_numbers ws
numbers_front [] ws = refl
numbers_front (z ∷ zs) ws = ap (λ x. z ∷ x) (numbers_front zs ws)

after_front : (zs : List ℤ) (ws : List (Result Word Misspelling)) → after_numbers (map number zs ++ ws) ≡ after_numbers ws
after_front [] ws = refl
after_front (z ∷ zs) ws = after_front zs ws

held_proper : (ns : List ℤ) → Proper ns → held ns ≡ Ok ns
held_proper ns h = rw (le-leb (length ns) 16 h.room)

-- ---- a statement
whole_mark : (c : Kind) → Whole (mark c)
whole_mark AtMost = record { some = omega arith; bytes = refl }
whole_mark Below = record { some = omega arith; bytes = refl }
whole_mark Equal = record { some = omega arith; bytes = refl }

word_of_mark : (c : Kind) → word_of (mark c) ≡ Ok (Compare c)
word_of_mark AtMost = refl
word_of_mark Below = refl
word_of_mark Equal = refl

statement_rule : (zs : List ℤ) (c : Kind) (side : ℤ) → statement (map number zs ++ (Ok (Compare c) ∷ number side ∷ [])) ≡ (held zs and_then λ ns. Ok (Rule ns c side))
statement_rule [] c side = refl
statement_rule (z ∷ zs) c side = rw (numbers_front zs (Ok (Compare c) ∷ number side ∷ []), after_front zs (Ok (Compare c) ∷ number side ∷ []), append-nil zs)

-- a text of words that are known is what they say
said : (s : Statement) (ws : List (Result Word Misspelling)) → All Whole (spelt s) → map word_of (spelt s) ≡ ws → all_known 0 ws ≡ Ok tt → statement ws ≡ Ok s → statement_of (written s) ≡ Ok s
said s ws whole e k h = ap (λ vs. all_known 0 vs and_then λ _. statement vs) (words_of_spaced (spelt s) whole ∙ e) ∙ rw k h

pub reads_back : ReadsBack
reads_back Blank h = said Blank [] tt refl refl refl
reads_back (FadersIs n) h =
    said (FadersIs n) (Ok Faders ∷ number n ∷ []) (record { some = omega arith; bytes = refl }, (whole_signed n h, tt)) (λ i. Ok Faders ∷ word_of_signed n h i ∷ []) refl refl
reads_back (Rule ns c side) h =
    let zs = ns in
    let small = h.0.small in
    said (Rule ns c side) (map number zs ++ (Ok (Compare c) ∷ number side ∷ []))
    (All-append Whole (map signed_decimal zs) _ (whole_numbers zs small) (whole_mark c, (whole_signed side h.1, tt)))
    (map-append word_of (map signed_decimal zs) _ ∙ (λ i. words_of_numbers zs small i ++ (word_of_mark c i ∷ word_of_signed side h.1 i ∷ [])))
    (known_front 0 zs (Ok (Compare c) ∷ number side ∷ []) (λ _. refl))
    (statement_rule zs c side ∙ ap (λ r. r and_then λ ms. Ok (Rule ms c side)) (held_proper ns h.0))
reads_back (PresetIs ns d) h =
    let zs = ns in
    let small = h.0.small in
    let end = Ok Slash ∷ number d ∷ [] in
    said (PresetIs ns d) (Ok Preset ∷ (map number zs ++ (Ok Slash ∷ number d ∷ [])))
    (record { some = omega arith; bytes = refl }, All-append Whole (map signed_decimal zs) _ (whole_numbers zs small) (record { some = omega arith; bytes = refl }, (whole_signed d h.1, tt)))
    (ap (λ x. Ok Preset ∷ x) (map-append word_of (map signed_decimal zs) _ ∙ (λ i. words_of_numbers zs small i ++ (Ok Slash ∷ word_of_signed d h.1 i ∷ []))))
    (known_front 1 zs (Ok Slash ∷ number d ∷ []) (λ _. refl))
    (rw (numbers_front zs end, after_front zs end, append-nil zs) (ap (λ r. r and_then λ ms. Ok (PresetIs ms d)) (held_proper ns h.0)))
reads_back (ClashIs ns) h =
    let zs = ns in
    said (ClashIs ns) (Ok Clash ∷ (map number zs ++ []))
    (record { some = omega arith; bytes = refl }, whole_numbers zs h.small)
    (ap (λ x. Ok Clash ∷ x) (words_of_numbers zs h.small ∙ sym (append-nil _)))
    (known_front 1 zs [] (λ _. refl))
    (rw (numbers_front zs [], after_front zs [], append-nil zs) (ap (λ r. r and_then λ ms. Ok (ClashIs ms)) (held_proper ns h)))
