use Rattle.std.proofs.Common.{◌≡◌, ◌∙◌, refl, sym, rules, ap}
use Rattle.amo_live.specs.Host.{HostState}
use Rattle.amo_live.specs.Service.{shown_by, spelling_of, words_of}
use Rattle.amo_live.specs.declared.service.Setup.{Setup}
use Rattle.amo_live.proofs.Fresh.{bears_as, bears_on}
use Rattle.amo_live.proofs.Lined.{life_as, life_on}
use Rattle.amo_live.proofs.Showing.{shows_as, shows_on}
use Rattle.amo_live.proofs.service.Service.take_by.Goals as goal

pub datagrams-preserved : goal.datagrams-preserved
datagrams-preserved g c =
    let so_far = c.datagrams.invariant in
    let spelling = spelling_of c.args.self.now in
    let first = c.args.self.now.host.pass in
    let asked = c.next_datagram.new.self in
    let middle = c.datagrams.self.host.pass in
    let last = c.deliver.new.self.host.pass in
    let old = shown_by c.args.self.now in
    let before = shown_by c.datagrams.self in
    let new = shown_by c.deliver.new.self in
    let listened = c.next_datagram.ensures.listened in
    let pass : asked.host.pass ≡ middle = ap (λ (host : HostState g.row.L.Denot g.row.S.Denot). host.pass) listened.0 in
    let spelt : spelling_of asked ≡ spelling = ap (λ (setup : Setup). setup.spelling) listened.3 ∙ so_far.spelling in
    record {
      noted = search rules;
      life = let j = c.datagrams.self.host.journal in let k = c.deliver.new.self.host.journal in
          let journal : asked.host.journal ≡ j = ap (λ (host : HostState g.row.L.Denot g.row.S.Denot). host.journal) listened.0 in
          life_on first middle last c.args.self.now.host.journal j k so_far.life (life_as asked.host.pass last middle last asked.host.journal k j k (sym pass) refl (sym journal) refl c.deliver.ensures.life);
      moved = search rules;
      streams = search rules;
      shown = shows_on spelling first middle last old before new so_far.shown
          (shows_as (spelling_of asked) spelling asked.host.pass last middle last (shown_by asked) new before new (sym spelt) (sym pass) refl (sym listened.2) refl c.in_ok-deliver.ensures.shown);
      spelling = c.deliver.ensures.spelling ∙ spelt;
      words = let had = words_of c.datagrams.self in let has = words_of c.deliver.new.self in
          bears_on (words_of c.args.self.now) had has first middle last so_far.words (bears_as (words_of asked) has had has asked.host.pass last middle last (sym listened.4) refl (sym pass) refl c.in_ok-deliver.ensures.words);
    }
