use Rattle.std.proofs.Common.{◌≡◌, OnOk, ap, subst, sym}
use Rattle.amo_live.specs.Service.{words_of}
use Rattle.amo_live.specs.Words.{BearsNew}
use Rattle.amo_live.proofs.Fresh.{start_is_new}
use Rattle.amo_live.proofs.service.Service.start_anew.Goals as goal

pub returns-clause-words : goal.returns-clause-words
returns-clause-words g c =
    let old = c.args.self.now in let host = c.start.new.self.host in let first = words_of old in let drawn = g.W.Lineage.is_drawn in
    let words : words_of c.start.new.self ≡ c.draw.new.words = ap (λ s. s.words) c.start.ensures.same in
    subst (λ (w : g.row.W.Denot). OnOk c.start.result (BearsNew drawn first w old.host.pass host.pass)) (sym words)
    (start_is_new drawn old.host host first c.draw.new.words c.args.stream c.in_ok-word.word old.setup.batch old.host.journal.version c.start.result c.in_ok-word.ensures.new c.in_ok-word.ensures.stays c.start.ensures.did)
