-- What `read_commands` leaves to show. Assumes nothing.
use Rattle.std.proofs.Common.{◌≡◌, ℕ, ◌-◌, ◌≤◌, List, [], length, take, drop, Option, refl, ◌∙◌, arith, ltb-false, ltb-true, true-eqb, false-eqb}
use Rattle.console.specs.declared.command.Command.{Command}
use Rattle.engine.specs.declared.refusal.Refusal.{Refusal}
use Rattle.protocol.specs.Bytes.{most_bytes, reading, Reads}
use Rattle.protocol.proofs.Onward.{after, onward_next, onward_stops, kept_next, reading_stops, reading_full, reading_ends, parsed_short, parsed_long, reads_from}
use Rattle.protocol.proofs.bytes.read_commands.Goals as goal

pub returns-then-bytes-gt-MOST_BYTES : goal.returns-then-bytes-gt-MOST_BYTES
returns-then-bytes-gt-MOST_BYTES c =
    let vs = c.args.commands.now in
    reads_from c.args.bytes.now vs vs 0 _ (omega arith) (parsed_long (length vs) c.args.bytes.now (omega (arith, ltb-true))) refl

-- reading stops with e after k commands
stops : (bs : List ℕ) (vs ws : List Command) (k : ℕ) (rest : List ℕ) (e : Option Refusal) → length bs ≤ most_bytes
    → (after (take k ws) (reading (length vs - k) rest) ≡ reading (length vs) bs) × (k ≤ length vs) × (drop k ws ≡ drop k vs) → reading (length vs - k) rest ≡ ([], e) → Reads bs vs ws k e
stops bs vs ws k rest e short inv is =
    reads_from bs vs ws k e inv.1 (onward_stops (length vs) k ws rest (reading (length vs) bs) inv.0 e is ∙ parsed_short (length vs) bs short) inv.2

pub returns-then-count-commands : goal.returns-then-count-commands
returns-then-count-commands c =
    let l = c.loop-rest in
    stops c.args.bytes.now c.args.commands.now l.commands l.count l.rest.now _ (omega (arith, ltb-false)) l.invariant
    (reading_full _ l.rest.now (omega arith) (omega (arith, false-eqb _ 0 c.loop-rest-test.ensures)))

pub returns-in-Err : goal.returns-in-Err
returns-in-Err c =
    let l = c.loop-rest in
    stops c.args.bytes.now c.args.commands.now l.commands l.count l.rest.now _ (omega (arith, ltb-false)) l.invariant
    (reading_stops _ l.rest.now _ (omega arith) (omega (arith, false-eqb _ 0 c.loop-rest-test.ensures)) c.in-Err.ensures)

pub returns : goal.returns
returns c =
    let l = c.loop-rest in
    stops c.args.bytes.now c.args.commands.now l.commands l.count l.rest.now _ (omega (arith, ltb-false)) l.invariant
    (reading_ends _ l.rest.now (true-eqb _ 0 c.loop-rest-test.ensures))

pub loop-rest-preserved : goal.loop-rest-preserved
loop-rest-preserved c =
    let l = c.loop-rest in (
      onward_next (length c.args.commands.now) l.count l.commands l.rest.now _ l.invariant.0 _ _ (omega arith) (omega arith) (omega (arith, false-eqb _ 0 c.loop-rest-test.ensures)) c.in-Ok.ensures,
      omega arith,
      kept_next l.commands c.args.commands.now l.count _ l.invariant.2,
    )
