-- What command bytes say: a byte that tells the command, then its operands, big-endian. Assumes nothing.
use Rattle.std.specs.Prelude.{◌≡◌, ℕ, zero, suc, ◌+◌, ◌*◌, ◌≤◌, min, cond, List, [], ◌∷◌, length, take, drop, ℤ, pos, ◌-ℤ◌, Some, None, Ok, Err, Option, Result, ◌==◌, nat_lt, slice_index}
use Rattle.console.specs.declared.command.Command.{Command}
use Rattle.console.specs.declared.command.Command.TheVariants.{Open, Add, Lift, Mute, Sound, Ask, Blame}
use Rattle.engine.specs.declared.refusal.Refusal.{Refusal}
use Rattle.engine.specs.declared.refusal.Refusal.TheVariants.{UnknownCommand, CutShort, TooLong}

-- the most bytes that are read
abbrev pub most_bytes : ℕ
most_bytes = 4096

-- the number that the bits n are in two's complement, where n is below 2h
abbrev pub signed_value : ℕ → ℕ → ℤ
signed_value h n = cond (nat_lt n h) (pos n) (pos n -ℤ pos (2 * h))

abbrev pub two_bytes : ℕ → ℕ → ℤ
two_bytes a b = signed_value 32768 (a * 256 + b)

abbrev pub four_bytes : ℕ → ℕ → ℕ → ℕ → ℤ
four_bytes a b c d = signed_value 2147483648 (a * 16777216 + b * 65536 + c * 256 + d)

-- the number of two bytes from the place i on
abbrev pub pair : List ℕ → ℕ → ℤ
pair bs i = two_bytes (slice_index bs i) (slice_index bs (i + 1))

-- the rule that the bytes of an Add say
abbrev pub added : List ℕ → Command
added bs =
    Add (slice_index bs 1) (pair bs 2 ∷ pair bs 4 ∷ pair bs 6 ∷ pair bs 8 ∷ pair bs 10 ∷ pair bs 12 ∷ [])
    (four_bytes (slice_index bs 14) (slice_index bs 15) (slice_index bs 16) (slice_index bs 17))

-- the command c of the first n bytes, and the bytes after them
abbrev pub taken : ℕ → Command → List ℕ → Result (Command × List ℕ) Refusal
taken n c bs = cond (nat_lt (length bs) n) (Err CutShort) (Ok (c, drop n bs))

-- the command that the byte op tells
abbrev pub told : ℕ → List ℕ → Result (Command × List ℕ) Refusal
told op bs =
    cond (op == 1) (taken 2 (Open (slice_index bs 1)) bs)
    (cond (op == 2) (taken 18 (added bs) bs)
    (cond (op == 3) (taken 1 Lift bs)
    (cond (op == 4) (taken 2 (Mute (slice_index bs 1)) bs)
    (cond (op == 5) (taken 2 (Sound (slice_index bs 1)) bs)
    (cond (op == 6) (taken 1 Ask bs)
    (cond (op == 7) (taken 1 Blame bs)
    (Err UnknownCommand)))))))

-- the first command, and the bytes after it
abbrev pub first : List ℕ → Result (Command × List ℕ) Refusal
first bs = cond (length bs == 0) (Err CutShort) (told (slice_index bs 0) bs)

-- the commands and the refusal that a first command gives, and f of the bytes after it
abbrev pub followed : (List ℕ → List Command × Option Refusal) → Result (Command × List ℕ) Refusal → List Command × Option Refusal
followed f (Ok p) = (p.0 ∷ (f p.1).0, (f p.1).1)
followed f (Err e) = ([], Some e)

-- at most n commands, one after another, and the refusal where reading stops before the end of the bytes
abbrev pub reading : ℕ → List ℕ → List Command × Option Refusal
reading n [] = ([], None)
reading zero (b ∷ bs) = ([], Some TooLong)
reading (suc n) (b ∷ bs) = followed (reading n) (first (b ∷ bs))

-- the same of bytes that may be too many, with room for n commands
abbrev pub parsed_into : ℕ → List ℕ → List Command × Option Refusal
parsed_into n bs = cond (nat_lt most_bytes (length bs)) ([], Some TooLong) (reading n bs)

-- all commands of the bytes, each of which takes a byte at least, and the refusal where reading stops
abbrev pub parsed : List ℕ → List Command × Option Refusal
parsed bs = parsed_into (length bs) bs

-- the first k of the places ws hold the commands of the bytes, and e tells where reading stopped; the other places are as they were in vs
pub record Reads (bs : List ℕ) (vs ws : List Command) (k : ℕ) (e : Option Refusal) : Type 0 where
  pub within : k ≤ length vs
  pub read : (take k ws, e) ≡ parsed_into (length vs) bs
  pub whole : min most_bytes (length bs) ≤ length vs → (take k ws, e) ≡ parsed bs
  pub kept : drop k ws ≡ drop k vs
