-- What `read_command` leaves to show. Assumes nothing.
use Rattle.std.proofs.Common.{◌≡◌, get_or, refl, arith, rules, ltb-false}
use Rattle.protocol.proofs.FirstCommand.{first_taken}
use Rattle.protocol.proofs.bytes.read_command.Goals as goal

pub returns-in-1 : goal.returns-in-1
returns-in-1 c =
    let is : get_or c.args.bytes.now 0 0 ≡ 1 = elim c.in-1-1.branch [ goal.then-bytes-lt18+in-1-1 w ↦ omega arith | goal.else-bytes-lt18+in-1-1 w ↦ omega arith ] in
    first_taken 1 2 _ c.args.bytes.now (omega arith) (omega (arith, ltb-false)) is refl

pub returns-in-2 : goal.returns-in-2
returns-in-2 c = first_taken 2 18 _ c.args.bytes.now (omega arith) (omega (arith, ltb-false)) (omega arith) (search rules)

pub returns-in-4 : goal.returns-in-4
returns-in-4 c =
    let is : get_or c.args.bytes.now 0 0 ≡ 4 = elim c.in-4-1.branch [ goal.then-bytes-lt18+in-4-1 w ↦ omega arith | goal.else-bytes-lt18+in-4-1 w ↦ omega arith ] in
    first_taken 4 2 _ c.args.bytes.now (omega arith) (omega (arith, ltb-false)) is refl

pub returns-in-5 : goal.returns-in-5
returns-in-5 c =
    let is : get_or c.args.bytes.now 0 0 ≡ 5 = elim c.in-5-1.branch [ goal.then-bytes-lt18+in-5-1 w ↦ omega arith | goal.else-bytes-lt18+in-5-1 w ↦ omega arith ] in
    first_taken 5 2 _ c.args.bytes.now (omega arith) (omega (arith, ltb-false)) is refl

pub returns-in-3 : goal.returns-in-3
returns-in-3 c =
    let is : get_or c.args.bytes.now 0 0 ≡ 3 = elim c.in-3-1.branch [
      | goal.then-bytes-lt2+in-3-1 w ↦ omega arith
      | goal.else-bytes-lt2+then-bytes-lt18+in-3-1 w ↦ omega arith
      | goal.else-bytes-lt2+else-bytes-lt18+in-3-1 w ↦ omega arith
    ] in
    first_taken 3 1 _ c.args.bytes.now (omega arith) (omega (arith, ltb-false)) is refl

pub returns-in-6 : goal.returns-in-6
returns-in-6 c =
    let is : get_or c.args.bytes.now 0 0 ≡ 6 = elim c.in-6-1.branch [
      | goal.then-bytes-lt2+in-6-1 w ↦ omega arith
      | goal.else-bytes-lt2+then-bytes-lt18+in-6-1 w ↦ omega arith
      | goal.else-bytes-lt2+else-bytes-lt18+in-6-1 w ↦ omega arith
    ] in
    first_taken 6 1 _ c.args.bytes.now (omega arith) (omega (arith, ltb-false)) is refl

pub returns-in-7 : goal.returns-in-7
returns-in-7 c =
    let is : get_or c.args.bytes.now 0 0 ≡ 7 = elim c.in-7-1.branch [
      | goal.then-bytes-lt2+in-7-1 w ↦ omega arith
      | goal.else-bytes-lt2+then-bytes-lt18+in-7-1 w ↦ omega arith
      | goal.else-bytes-lt2+else-bytes-lt18+in-7-1 w ↦ omega arith
    ] in
    first_taken 7 1 _ c.args.bytes.now (omega arith) (omega (arith, ltb-false)) is refl
