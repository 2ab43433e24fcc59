use Rattle.std.proofs.Common.{rules, ℕ, List, Some, sym, ap, ◌∙◌, subst, arith}
use Rattle.amo_packet.specs.declared.layout.TheConstants.{NEWEST_VERSION}
use Rattle.amo_packet.specs.Grammar.{Spells}
use Rattle.amo_world.specs.declared.event.Event.{Event}
use Rattle.amo_packet.proofs.Spellings.{Spells-unique}
use Rattle.amo_journal.specs.declared.version.Version.{Version}
use Rattle.amo_journal.specs.Version.{newest}
use Rattle.amo_run.specs.Engine.{Advances, told_of}
use Rattle.amo_run.specs.Versions.{version_of}
use Rattle.amo_run.proofs.Turning.{brings_to, with_advances}
use Rattle.amo_run.proofs.engine.turn_with.Goals as goal

pub returns-in-Ok-turn-clause-advances : goal.returns-in-Ok-turn-clause-advances
returns-in-Ok-turn-clause-advances g c =
    let spelt : Spells (newest c.args.version) c.args.bytes.now c.in-Ok-copied.packet = rw c.in-Ok-copied.ensures.ok c.in-Ok.ensures.found in
    let first : Spells (newest (version_of c.args.pump.now)) c.args.bytes.now c.in-Ok-copied.packet = subst (λ (version : Version). Spells (newest version) c.args.bytes.now c.in-Ok-copied.packet) c.requires.version spelt in
    subst (λ (l : List (ℕ × Event)). Advances c.args.book.now c.args.pass.now c.turn.new.pass c.args.pump.now c.turn.new.self l)
    (sym (c.turn_of-in-Ok-turn.ensures.told ∙ ap (λ (n : ℕ). told_of n (Some c.in-Ok-copied.packet) c.in-Ok-turn.turned) c.number-number.ensures.number))
    (with_advances c.args.book.now c.args.pump.now c.turn.new.self c.args.pass.now c.turn.new.pass g.W.Words.to_come NEWEST_VERSION c.args.now c.args.bytes.now c.args.out.now c.turn.new.out c.in-Ok-copied.packet c.in-Ok-turn.turned
    c.requires.works (c.turn.ensures.station.1, c.turn.ensures.station.0) (λ i. omega (arith, c.type_inv.bytes i)) first
    (λ q s. c.in-Ok-copied.ensures.ok ∙ Spells-unique (newest c.args.version) NEWEST_VERSION c.args.bytes.now _ q c.in-Ok.ensures.found s) c.in-Ok-turn.ensures.turned c.turn_of-in-Ok-turn.ensures.small)

pub returns-in-Err-clause-memory : goal.returns-in-Err-clause-memory
returns-in-Err-clause-memory g c = λ short.
    let brought = c.in-Err.ensures.memory short in
    let ours = c.if-not-is_of.ensures.0 (search rules) in
    brings_to (newest c.args.version) c.args.address.side c.args.address.streams.now c.args.bytes.now _ brought.0 c.in-Ok.ensures.found
    (Spells-unique (newest c.args.version) NEWEST_VERSION c.args.bytes.now _ brought.0 c.in-Ok.ensures.found brought.2) brought.4 ours.0 ours.1
