-- The first command of bytes whose first one is known. Assumes nothing.
use Rattle.std.proofs.Common.{◌≡◌, ℕ, ◌-◌, ◌<◌, ◌≤◌, List, length, get_or, take, drop, Ok, ◌∙◌, arith}
use Rattle.std.proofs.lemmas.List.{take_rest}
use Rattle.std.proofs.lemmas.Bool.{ne_eqb, le-ltb}
use Rattle.console.specs.declared.command.Command.{Command}
use Rattle.protocol.specs.Bytes.{taken, told, first}

pub first_told : (bs : List ℕ) (op : ℕ) → 0 < length bs → get_or bs 0 0 ≡ op → first bs ≡ told op bs
first_told bs op some is = rw (ne_eqb (length bs) 0 (omega arith), is)

-- bytes enough, with the rest as a slice pattern has it
pub taken_whole : (n : ℕ) (c : Command) (bs : List ℕ) → n ≤ length bs → taken n c bs ≡ Ok (c, take (length bs - n) (drop n bs))
taken_whole n c bs enough = rw (le-ltb (length bs) n enough, take_rest bs n)

pub first_taken : (op n : ℕ) (c : Command) (bs : List ℕ) → 0 < n → n ≤ length bs → get_or bs 0 0 ≡ op → told op bs ≡ taken n c bs → first bs ≡ Ok (c, take (length bs - n) (drop n bs))
first_taken op n c bs some enough is tells = first_told bs op (omega arith) is ∙ tells ∙ taken_whole n c bs enough
