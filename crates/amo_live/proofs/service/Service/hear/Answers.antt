use Rattle.std.proofs.Common.{◌≡◌, ◌∙◌, refl, ap}
use Rattle.std.proofs.lemmas.Result.{on_ok_weaker}
use Rattle.amo_live.specs.Service.{shown_by, spelling_of, words_of}
use Rattle.amo_live.proofs.Fresh.{bears_as, bears_on}
use Rattle.amo_live.proofs.Showing.{shows_after, shows_as}
use Rattle.amo_live.proofs.service.Service.hear.Goals as goal

pub returns-clause-shown : goal.returns-clause-shown
returns-clause-shown g c =
    let old = c.args.self.now in let got = c.get_unread.new.self in let taken = c.take_datagrams.new.self in let heard = c.hear_peer.new.self in let new = c.catch_up.new.self in
    let spelling = spelling_of old in
    let spelt : spelling_of taken ≡ spelling = c.take_datagrams.ensures.spelling ∙ c.get_unread.ensures.spelling in
    let first = shows_after spelling (spelling_of got) old.host.pass got.host.pass taken.host.pass (shown_by old) (shown_by got) (shown_by taken) c.get_unread.ensures.spelling c.in_ok-get_unread.ensures.shown c.in_ok-take_datagrams.ensures.shown in
    let to_heard = shows_as spelling spelling old.host.pass taken.host.pass old.host.pass heard.host.pass (shown_by old) (shown_by taken) (shown_by old) (shown_by heard) refl refl c.hear_peer.ensures.pass refl c.hear_peer.ensures.shown.0 first in
    let same : spelling_of heard ≡ spelling = ap (λ s. s.spelling) c.hear_peer.ensures.shown.1 ∙ spelt in
    on_ok_weaker c.catch_up.result (λ two. shows_after spelling (spelling_of heard) old.host.pass heard.host.pass new.host.pass (shown_by old) (shown_by heard) (shown_by new) same to_heard two) c.catch_up.ensures.shown

pub returns-clause-words : goal.returns-clause-words
returns-clause-words g c =
    let old = c.args.self.now in let got = c.get_unread.new.self in let taken = c.take_datagrams.new.self in let heard = c.hear_peer.new.self in let new = c.catch_up.new.self in
    let first = bears_on (words_of old) (words_of got) (words_of taken) old.host.pass got.host.pass taken.host.pass c.in_ok-get_unread.ensures.words c.in_ok-take_datagrams.ensures.words in
    let to_heard = bears_as (words_of old) (words_of taken) (words_of old) (words_of heard) old.host.pass taken.host.pass old.host.pass heard.host.pass refl c.hear_peer.ensures.words refl c.hear_peer.ensures.pass first in
    on_ok_weaker c.catch_up.result (λ two. bears_on (words_of old) (words_of heard) (words_of new) old.host.pass heard.host.pass new.host.pass to_heard two) c.catch_up.ensures.words
