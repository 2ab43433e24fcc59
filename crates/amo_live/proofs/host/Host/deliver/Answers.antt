use Rattle.std.proofs.Common.{◌≡◌, sym, ap, subst, ◌∙◌, arith}
use Rattle.amo_packet.specs.declared.packet.OwnedPacket.{OwnedPacket}
use Rattle.amo_packet.specs.Grammar.{Spells}
use Rattle.amo_journal.specs.Version.{newest}
use Rattle.amo_book.specs.Pass.{mine}
use Rattle.amo_live.specs.Host.{word_for}
use Rattle.amo_live.proofs.Onwards.{begins_whole}
use Rattle.amo_live.proofs.Suiting.{deliver_suits, word_small}
use Rattle.amo_live.proofs.host.Host.deliver.Goals as goal

pub returns-in_default-copied-clause-begun : goal.returns-in_default-copied-clause-begun
returns-in_default-copied-clause-begun g c = begins_whole g.S.Sink.written c.args.self.now.journal (mine c.args.self.now.pass) c.requires.0

pub attempt-requires-clause-suits : goal.attempt-requires-clause-suits
attempt-requires-clause-suits g c =
    let h = c.args.self.now in let p = c.in-Ok-copied.packet in let word = c.word_for-word.result in
    let spelt : Spells (newest h.journal.version) c.args.bytes.now p = subst (λ (q : OwnedPacket). Spells (newest h.journal.version) c.args.bytes.now q) (sym c.in-Ok-copied.ensures.ok) c.in-Ok.ensures.found in
    let of : p.stream ≡ c.in-Ok.packet.stream = ap (λ (q : OwnedPacket). q.stream) c.in-Ok-copied.ensures.ok in
    let is : word ≡ word_for p.body c.args.word = c.word_for-word.ensures ∙ ap (λ (q : OwnedPacket). word_for q.body c.args.word) (sym c.in-Ok-copied.ensures.ok) in
    deliver_suits h.journal.version h.side c.in-Ok.packet.stream c.args.bytes.now p word c.args.word (λ i. omega (arith, c.type_inv.bytes i)) spelt of is (word_small p.body word c.args.word is c.ranges.word.fits)
