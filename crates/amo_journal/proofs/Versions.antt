-- What has a line in a journal of version 1 has one in a journal of version 2.
use Rattle.std.proofs.Common.{◌≡◌, ◌↔◌, ℕ, ◌≤◌, ◌≢◌, Bool, true, false, not, IsTrue, refl, arith}
use Rattle.amo_object.specs.declared.step.End.{End}
use Rattle.amo_object.specs.declared.step.End.TheVariants.{Sender, Receiver}
use Rattle.amo_core.specs.declared.act.Act.{Act}
use Rattle.amo_core.specs.declared.act.Act.TheVariants as act
use Rattle.amo_packet.specs.declared.packet.OwnedPacket.{OwnedPacket}
use Rattle.amo_packet.specs.declared.packet.OwnedBody.{OwnedBody}
use Rattle.amo_packet.specs.declared.packet.OwnedBody.TheVariants as body
use Rattle.amo_packet.specs.Grammar.{version_of}
use Rattle.amo_world.specs.declared.event.Event.{Event}
use Rattle.amo_journal.specs.declared.numbered.Numbered.{Numbered}
use Rattle.amo_journal.specs.declared.version.Version.{Version}
use Rattle.amo_journal.specs.declared.version.Version.TheVariants.{One, Two}
use Rattle.amo_journal.specs.Journal.{CanSpell, HasAct, InRange, IsPacketOf, TellsOfBatch}
use Rattle.amo_journal.specs.Version.{HasBatches}

pub two_at_most : (b : OwnedBody) → version_of b ≤ 2
two_at_most (body.NeedUid jd) = omega arith
two_at_most (body.Accept jd id) = omega arith
two_at_most (body.Send id m) = omega arith
two_at_most (body.Ack id got) = omega arith
two_at_most (body.Cleanup id) = omega arith
two_at_most (body.Batch id b) = omega arith

pub packet_in_two : (version : Version) (stream : ℕ) (p : OwnedPacket) → IsPacketOf version stream p → IsPacketOf Two stream p
packet_in_two version stream p known = record { version_is = two_at_most p.body; spellable = known.spellable; bytes = known.bytes; stream = known.stream }

pub act_in_two : (version : Version) (side : End) (stream : ℕ) (a : Act) → HasAct version side stream a → HasAct Two side stream a
act_in_two version Sender stream (act.Put m) known = known
act_in_two version Receiver stream (act.Put m) known = absurd known
act_in_two version Sender stream act.Ack known = tt
act_in_two version Receiver stream act.Ack known = absurd known
act_in_two version Sender stream act.Get known = absurd known
act_in_two version Receiver stream act.Get known = tt
act_in_two version Sender stream (act.Start word) known = known
act_in_two version Receiver stream (act.Start word) known = absurd known
act_in_two version Sender stream (act.Batch word) known = (tt, known.1)
act_in_two version Receiver stream (act.Batch word) known = absurd known
act_in_two version Sender stream act.Resend known = tt
act_in_two version Receiver stream act.Resend known = tt
act_in_two version Sender stream (act.Deliver p word) known = (packet_in_two version stream p known.0, known.1)
act_in_two version Receiver stream (act.Deliver p word) known = (packet_in_two version stream p known.0, known.1)
act_in_two version Sender stream act.Crash known = tt
act_in_two version Receiver stream act.Crash known = tt
act_in_two version Sender stream act.Recover known = tt
act_in_two version Receiver stream act.Recover known = tt

pub in_two : (version : Version) (e : Event) → CanSpell version e → CanSpell Two e
in_two version e known = record { pass = known.pass; stream = known.stream; act = act_in_two version e.side e.stream e.act known.act; reply = known.reply }

pub line_in_two : (version : Version) (line : Numbered) → InRange version line → InRange Two line
line_in_two version line known = (known.0, in_two version line.event known.1)

one_at_most : (b : OwnedBody) → version_of b ≢ 2 → version_of b ≤ 1
one_at_most (body.NeedUid jd) other = omega arith
one_at_most (body.Accept jd id) other = omega arith
one_at_most (body.Send id m) other = omega arith
one_at_most (body.Ack id got) other = omega arith
one_at_most (body.Cleanup id) other = omega arith
one_at_most (body.Batch id b) other = absurd (other refl)

packet_in_one : (stream : ℕ) (p : OwnedPacket) → IsPacketOf Two stream p → version_of p.body ≢ 2 → IsPacketOf One stream p
packet_in_one stream p known other = record { version_is = one_at_most p.body other; spellable = known.spellable; bytes = known.bytes; stream = known.stream }

act_in_one : (side : End) (stream : ℕ) (a : Act) → HasAct Two side stream a → (TellsOfBatch a → ⊥) → HasAct One side stream a
act_in_one Sender stream (act.Put m) known none = known
act_in_one Receiver stream (act.Put m) known none = absurd known
act_in_one Sender stream act.Ack known none = tt
act_in_one Receiver stream act.Ack known none = absurd known
act_in_one Sender stream act.Get known none = absurd known
act_in_one Receiver stream act.Get known none = tt
act_in_one Sender stream (act.Start word) known none = known
act_in_one Receiver stream (act.Start word) known none = absurd known
act_in_one side stream (act.Batch word) known none = absurd (none tt)
act_in_one Sender stream act.Resend known none = tt
act_in_one Receiver stream act.Resend known none = tt
act_in_one Sender stream (act.Deliver p word) known none = (packet_in_one stream p known.0 none, known.1)
act_in_one Receiver stream (act.Deliver p word) known none = (packet_in_one stream p known.0 none, known.1)
act_in_one Sender stream act.Crash known none = tt
act_in_one Receiver stream act.Crash known none = tt
act_in_one Sender stream act.Recover known none = tt
act_in_one Receiver stream act.Recover known none = tt

-- what tells of no batch has a line in either version
without_batch : (version : Version) (e : Event) → CanSpell Two e → (TellsOfBatch e.act → ⊥) → CanSpell version e
without_batch One e known none = record { pass = known.pass; stream = known.stream; act = act_in_one e.side e.stream e.act known.act none; reply = known.reply }
without_batch Two e known none = known

act_of_one : (side : End) (stream : ℕ) (a : Act) → HasAct One side stream a → TellsOfBatch a → ⊥
act_of_one Sender stream (act.Batch word) known tells = absurd known.0
act_of_one Receiver stream (act.Batch word) known tells = absurd known
act_of_one Sender stream (act.Deliver p word) known tells = omega (arith, known.0.version_is, tells)
act_of_one Receiver stream (act.Deliver p word) known tells = omega (arith, known.0.version_is, tells)
act_of_one side stream (act.Put m) known tells = tells
act_of_one side stream act.Ack known tells = tells
act_of_one side stream act.Get known tells = tells
act_of_one side stream (act.Start word) known tells = tells
act_of_one side stream act.Resend known tells = tells
act_of_one side stream act.Crash known tells = tells
act_of_one side stream act.Recover known tells = tells

-- and what tells of one has none in version 1
tells_of_none : (version : Version) (e : Event) → (HasBatches version → ⊥) → CanSpell version e → TellsOfBatch e.act → ⊥
tells_of_none One e none known tells = act_of_one e.side e.stream e.act known.act tells
tells_of_none Two e none known tells = none tt

pub in_newest : (version : Version) (e : Event) → HasBatches version → CanSpell Two e → CanSpell version e
in_newest One e has known = absurd has
in_newest Two e has known = known

pub in_oldest : (version : Version) (e : Event) (told : Bool) → (HasBatches version → ⊥) → CanSpell Two e → IsTrue told ↔ TellsOfBatch e.act → IsTrue (not told) ↔ CanSpell version e
in_oldest version e true none known tells = ((λ is. let both : false ≡ true = is in cc), (λ can. absurd (tells_of_none version e none can (tells.0 refl))))
in_oldest version e false none known tells = ((λ is. without_batch version e known (λ t. let both : false ≡ true = tells.1 t in cc)), (λ can. refl))
