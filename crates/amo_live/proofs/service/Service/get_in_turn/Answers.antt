use Rattle.std.proofs.Common.{ap, refl}
use Rattle.amo_live.specs.Service.{shown_by, spelling_of, words_of}
use Rattle.amo_live.proofs.Fresh.{bears_as}
use Rattle.amo_live.proofs.Showing.{shows_as}
use Rattle.amo_live.proofs.service.Service.get_in_turn.Goals as goal

pub returns-clause-shown : goal.returns-clause-shown
returns-clause-shown g c =
    let old = c.args.self.now in let made = c.get_held.new.self in let new = c.move_on.new.self in
    shows_as (spelling_of old) (spelling_of old) old.host.pass made.host.pass old.host.pass new.host.pass (shown_by old) (shown_by made) (shown_by old) (shown_by new) refl refl (ap (λ s. s.host.pass) c.move_on.ensures) refl
    (ap (λ s. shown_by s) c.move_on.ensures) c.in_ok-get_held.ensures.shown

pub returns-clause-words : goal.returns-clause-words
returns-clause-words g c =
    let old = c.args.self.now in let made = c.get_held.new.self in let new = c.move_on.new.self in
    bears_as (words_of old) (words_of made) (words_of old) (words_of new) old.host.pass made.host.pass old.host.pass new.host.pass refl (ap (λ s. words_of s) c.move_on.ensures) refl (ap (λ s. s.host.pass) c.move_on.ensures) c.in_ok-get_held.ensures.words
