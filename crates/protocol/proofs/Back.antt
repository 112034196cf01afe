-- Commands are what their own bytes say. Assumes nothing.
use Rattle.std.proofs.Common.{◌≡◌, ℕ, suc, ◌+◌, ◌-◌, ◌*◌, ◌/◌, ◌%◌, ◌<◌, ◌≤◌, List, [], ◌∷◌, ◌++◌, length, drop, ℤ, pos, negsuc, None, Ok, sym, refl, ap, ◌∙◌, arith, length-append}
use Rattle.std.proofs.ByRecursion.{All-append}
use Rattle.std.proofs.lemmas.Int.{ints}
use Rattle.std.proofs.lemmas.Bool.{lt-ltb, le-ltb}
use Rattle.std.specs.List.{flat_map, AllByRecursion as All}
use Rattle.console.specs.declared.command.Command.{Command}
use Rattle.console.specs.declared.command.Command.TheVariants.{Open, Add, Lift, Mute, Sound, Ask, Blame}
use Rattle.protocol.specs.Bytes.{signed_value, two_bytes, four_bytes, taken, first, reading}
use Rattle.protocol.specs.Writes.{bits_of, coefficient_bytes, side_bytes, bytes_of, Byte, Below, InRange, ReadsBack}
use Rattle.protocol.proofs.FirstCommand.{first_told}
use Rattle.protocol.proofs.Onward.{after, reading_next, parsed_short}

-- ---- numbers
bits_back : (h : ℕ) (z : ℤ) → Below h z → signed_value h (bits_of h z) ≡ z
bits_back h (pos n) b = rw (lt-ltb n h b)
bits_back h (negsuc n) b = rw (le-ltb (2 * h - suc n) h (omega arith)) (omega (arith, ints))

bits_below : (h : ℕ) (z : ℤ) → Below h z → bits_of h z < 2 * h
bits_below h (pos n) b = omega arith
bits_below h (negsuc n) b = omega arith

coefficient_back : (z : ℤ) → Below 32768 z → two_bytes (bits_of 32768 z / 256) (bits_of 32768 z % 256) ≡ z
coefficient_back z b =
    let n : ℕ = bits_of 32768 z in
    let e : n / 256 * 256 + n % 256 ≡ n = omega arith in
    ap (signed_value 32768) e ∙ bits_back 32768 z b

side_back : (z : ℤ) → Below 2147483648 z → four_bytes (bits_of 2147483648 z / 65536 / 256) (bits_of 2147483648 z / 65536 % 256) (bits_of 2147483648 z % 65536 / 256) (bits_of 2147483648 z % 65536 % 256) ≡ z
side_back z b =
    let n : ℕ = bits_of 2147483648 z in
    let e : n / 65536 / 256 * 16777216 + n / 65536 % 256 * 65536 + n % 65536 / 256 * 256 + n % 65536 % 256 ≡ n = omega arith in
    ap (signed_value 2147483648) e ∙ bits_back 2147483648 z b

-- ---- one command
-- the command c of n bytes, with more bytes after them
first_back : (op n : ℕ) (c : Command) (bs rest : List ℕ) → n ≤ length bs → drop n bs ≡ rest → first bs ≡ taken n c bs → first bs ≡ Ok (c, rest)
first_back op n c bs rest enough so is = is ∙ rw (le-ltb (length bs) n enough) (ap (λ x. Ok (c, x)) so)

module _ (kind : ℕ) (a b c d e f side : ℤ) (rest : List ℕ) (pa : Below 32768 a) (pb : Below 32768 b) (pc : Below 32768 c) (pd : Below 32768 d) (pe : Below 32768 e) (pf : Below 32768 f) (ps : Below 2147483648 side) where
  add_back : first (bytes_of (Add kind (a ∷ b ∷ c ∷ d ∷ e ∷ f ∷ []) side) ++ rest) ≡ Ok (Add kind (a ∷ b ∷ c ∷ d ∷ e ∷ f ∷ []) side, rest)
  add_back =
      let bs : List ℕ = bytes_of (Add kind (a ∷ b ∷ c ∷ d ∷ e ∷ f ∷ []) side) ++ rest in
      first_back 2 18 _ bs rest (omega arith) refl
      (first_told bs 2 (omega arith) refl ∙ (λ i. taken 18 (Add kind (coefficient_back a pa i ∷ coefficient_back b pb i ∷ coefficient_back c pc i ∷ coefficient_back d pd i ∷ coefficient_back e pe i ∷ coefficient_back f pf i ∷ []) (side_back side ps i)) bs))

pub command_back : (c : Command) (rest : List ℕ) → InRange c → first (bytes_of c ++ rest) ≡ Ok (c, rest)
command_back (Open n) rest h = first_back 1 2 _ (1 ∷ n ∷ rest) rest (omega arith) refl (first_told (1 ∷ n ∷ rest) 1 (omega arith) refl)
command_back Lift rest h = first_back 3 1 _ (3 ∷ rest) rest (omega arith) refl (first_told (3 ∷ rest) 3 (omega arith) refl)
command_back (Mute n) rest h = first_back 4 2 _ (4 ∷ n ∷ rest) rest (omega arith) refl (first_told (4 ∷ n ∷ rest) 4 (omega arith) refl)
command_back (Sound n) rest h = first_back 5 2 _ (5 ∷ n ∷ rest) rest (omega arith) refl (first_told (5 ∷ n ∷ rest) 5 (omega arith) refl)
command_back Ask rest h = first_back 6 1 _ (6 ∷ rest) rest (omega arith) refl (first_told (6 ∷ rest) 6 (omega arith) refl)
command_back Blame rest h = first_back 7 1 _ (7 ∷ rest) rest (omega arith) refl (first_told (7 ∷ rest) 7 (omega arith) refl)
command_back (Add k [] s) rest h = absurd (omega arith)
command_back (Add k (a ∷ []) s) rest h = absurd (omega arith)
command_back (Add k (a ∷ b ∷ []) s) rest h = absurd (omega arith)
command_back (Add k (a ∷ b ∷ c ∷ []) s) rest h = absurd (omega arith)
command_back (Add k (a ∷ b ∷ c ∷ d ∷ []) s) rest h = absurd (omega arith)
command_back (Add k (a ∷ b ∷ c ∷ d ∷ e ∷ []) s) rest h = absurd (omega arith)
command_back (Add k (a ∷ b ∷ c ∷ d ∷ e ∷ f ∷ g ∷ zs) s) rest h = absurd (omega arith)
command_back (Add k (a ∷ b ∷ c ∷ d ∷ e ∷ f ∷ []) s) rest h =
    let p = h.2 in
    add_back k a b c d e f s rest p.0 p.1.0 p.1.1.0 p.1.1.1.0 p.1.1.1.1.0 p.1.1.1.1.1.0 h.3

-- its bytes are bytes
coefficients_bytes : (zs : List ℤ) → All (Below 32768) zs → All Byte (flat_map coefficient_bytes zs)
coefficients_bytes [] h = tt
coefficients_bytes (z ∷ zs) h =
    let b = bits_below 32768 z h.0 in
    (omega arith, (omega arith, coefficients_bytes zs h.1))

command_bytes : (c : Command) → InRange c → All Byte (bytes_of c)
command_bytes (Open n) h = (omega arith, (h, tt))
command_bytes (Add k zs s) h =
    let b = bits_below 2147483648 s h.3 in
    (omega arith, (h.0, All-append Byte (flat_map coefficient_bytes zs) (side_bytes s) (coefficients_bytes zs h.2) (omega arith, (omega arith, (omega arith, (omega arith, tt))))))
command_bytes Lift h = (omega arith, tt)
command_bytes (Mute n) h = (omega arith, (h, tt))
command_bytes (Sound n) h = (omega arith, (h, tt))
command_bytes Ask h = (omega arith, tt)
command_bytes Blame h = (omega arith, tt)

bytes_some : (c : Command) → 0 < length (bytes_of c)
bytes_some (Open n) = omega arith
bytes_some (Add k zs s) = omega arith
bytes_some Lift = omega arith
bytes_some (Mute n) = omega arith
bytes_some (Sound n) = omega arith
bytes_some Ask = omega arith
bytes_some Blame = omega arith

-- ---- all commands
commands_bytes : (cs : List Command) → All InRange cs → All Byte (flat_map bytes_of cs)
commands_bytes [] h = tt
commands_bytes (c ∷ cs) h = All-append Byte (bytes_of c) (flat_map bytes_of cs) (command_bytes c h.0) (commands_bytes cs h.1)

reading_back : (cs : List Command) (n : ℕ) → All InRange cs → length (flat_map bytes_of cs) ≤ n → reading n (flat_map bytes_of cs) ≡ (cs, None)
reading_back [] n h room = refl
reading_back (c ∷ cs) n h room =
    let rest : List ℕ = flat_map bytes_of cs in
    let some = bytes_some c in
    let long = length-append (bytes_of c) rest in
    reading_next n (bytes_of c ++ rest) c rest (omega arith) (omega arith) (command_back c rest h.0) ∙ ap (after (c ∷ [])) (reading_back cs (n - 1) h.1 (omega arith))

pub reads_back : ReadsBack
reads_back cs h = record {
  bytes = commands_bytes cs h;
  back = λ short. sym (parsed_short (length (flat_map bytes_of cs)) (flat_map bytes_of cs) short) ∙ reading_back cs (length (flat_map bytes_of cs)) h (omega arith);
}
