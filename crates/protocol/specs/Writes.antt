-- The bytes of a command, and that commands are what their own bytes say. Assumes nothing.
use Rattle.std.specs.Prelude.{◌≡◌, ℕ, suc, ◌-◌, ◌*◌, ◌/◌, ◌%◌, ◌<◌, ◌≤◌, List, [], ◌∷◌, ◌++◌, length, ℤ, pos, negsuc, None}
use Rattle.std.specs.Int.Signed.{mag}
use Rattle.std.specs.List.{flat_map, AllByRecursion}
use Rattle.console.specs.declared.command.Command.{Command}
use Rattle.console.specs.declared.command.Command.TheVariants.{Open, Add, Lift, Mute, Sound, Ask, Blame}
use Rattle.rows.specs.Limits.{faders}
use Rattle.protocol.specs.Bytes.{most_bytes, parsed}

-- the two's complement of a number from -h to h - 1
abbrev pub bits_of : ℕ → ℤ → ℕ
bits_of h (pos n) = n
bits_of h (negsuc n) = 2 * h - suc n

-- a number below 256 * 256 as two bytes, the higher one first
abbrev pub high_low : ℕ → List ℕ
high_low n = n / 256 ∷ n % 256 ∷ []

abbrev pub coefficient_bytes : ℤ → List ℕ
coefficient_bytes z = high_low (bits_of 32768 z)

abbrev pub side_bytes : ℤ → List ℕ
side_bytes z = high_low (bits_of 2147483648 z / 65536) ++ high_low (bits_of 2147483648 z % 65536)

abbrev pub bytes_of : Command → List ℕ
bytes_of (Open count) = 1 ∷ count ∷ []
bytes_of (Add kind zs side) = 2 ∷ kind ∷ (flat_map coefficient_bytes zs ++ side_bytes side)
bytes_of Lift = 3 ∷ []
bytes_of (Mute number) = 4 ∷ number ∷ []
bytes_of (Sound number) = 5 ∷ number ∷ []
bytes_of Ask = 6 ∷ []
bytes_of Blame = 7 ∷ []

-- a byte
abbrev pub Byte : ℕ → Type 0
Byte n = n < 256

-- a number from -h to h - 1
abbrev pub Below : ℕ → ℤ → Type 0
Below h z = mag z < h

-- the numbers of a command are in the range of their types
abbrev pub InRange : Command → Type 0
InRange (Open count) = Byte count
InRange (Add kind zs side) = Byte kind × (length zs ≡ faders) × AllByRecursion (Below 32768) zs × Below 2147483648 side
InRange Lift = Unit {0}
InRange (Mute number) = Byte number
InRange (Sound number) = Byte number
InRange Ask = Unit {0}
InRange Blame = Unit {0}

-- the bytes of commands are bytes and, where they are not too many, are read as these commands and no refusal
pub record ReadBack (cs : List Command) : Type 0 where
  pub bytes : AllByRecursion Byte (flat_map bytes_of cs)
  pub back : length (flat_map bytes_of cs) ≤ most_bytes → parsed (flat_map bytes_of cs) ≡ (cs, None)

abbrev pub ReadsBack : Type 0
ReadsBack = (cs : List Command) → AllByRecursion InRange cs → ReadBack cs
