use Rattle.std.proofs.Common.{◌∙◌, refl, rules}
use Rattle.amo_live.specs.Service.{shown_by, spelling_of, words_of}
use Rattle.amo_live.proofs.Fresh.{bears_none, bears_on, resend_bears}
use Rattle.amo_live.proofs.Lined.{life_itself, life_on}
use Rattle.amo_live.proofs.Showing.{resend_shows, shows_after, shows_idle, shows_on}
use Rattle.amo_live.proofs.service.Service.get_all.Goals as goal

pub returns-then-not-branch-clause-shown : goal.returns-then-not-branch-clause-shown
returns-then-not-branch-clause-shown g c =
    let so_far = c.messages.invariant in
    shows_after (spelling_of c.args.self.now) (spelling_of c.messages.self) c.args.self.now.host.pass c.messages.self.host.pass c.get.new.self.host.pass
    (shown_by c.args.self.now) (shown_by c.messages.self) (shown_by c.get.new.self) so_far.spelling so_far.shown c.in_ok-get.ensures.shown

pub messages-preserved : goal.messages-preserved
messages-preserved g c =
    let so_far = c.messages.invariant in
    record {
      noted = search rules;
      life = life_on c.args.self.now.host.pass c.messages.self.host.pass c.get.new.self.host.pass c.args.self.now.host.journal c.messages.self.host.journal c.get.new.self.host.journal so_far.life c.get.ensures.life;
      moved = search rules;
      streams = c.get.ensures.streams ∙ so_far.streams;
      shown = shows_after (spelling_of c.args.self.now) (spelling_of c.messages.self) c.args.self.now.host.pass c.messages.self.host.pass c.get.new.self.host.pass
          (shown_by c.args.self.now) (shown_by c.messages.self) (shown_by c.get.new.self) so_far.spelling so_far.shown c.in_ok-get.ensures.shown;
      spelling = c.get.ensures.spelling ∙ so_far.spelling;
      words = bears_on (words_of c.args.self.now) (words_of c.messages.self) (words_of c.get.new.self) c.args.self.now.host.pass c.messages.self.host.pass c.get.new.self.host.pass so_far.words c.in_ok-get.ensures.words;
    }

pub returns-clause-shown : goal.returns-clause-shown
returns-clause-shown g c =
    let so_far = c.messages.invariant in
    let spelling = spelling_of c.args.self.now in
    let first = c.args.self.now.host.pass in let middle = c.messages.self.host.pass in
    let old = shown_by c.args.self.now in let before = shown_by c.messages.self in
    shows_on spelling first middle c.resend.new.self.pass old before before so_far.shown
    (resend_shows c.messages.self.host c.resend.new.self spelling c.args.stream c.in_ok-resend.field-0 before before c.in_ok-resend.ensures.did refl)

pub returns-then-not-branch-clause-words : goal.returns-then-not-branch-clause-words
returns-then-not-branch-clause-words g c =
    bears_on (words_of c.args.self.now) (words_of c.messages.self) (words_of c.get.new.self) c.args.self.now.host.pass c.messages.self.host.pass c.get.new.self.host.pass c.messages.invariant.words c.in_ok-get.ensures.words

pub returns-clause-words : goal.returns-clause-words
returns-clause-words g c =
    let words = words_of c.messages.self in let middle = c.messages.self.host.pass in
    bears_on (words_of c.args.self.now) words words c.args.self.now.host.pass middle c.resend.new.self.pass c.messages.invariant.words
    (bears_none words words middle c.resend.new.self.pass refl (resend_bears c.messages.self.host c.resend.new.self c.args.stream c.in_ok-resend.field-0 c.in_ok-resend.ensures.did))

pub messages-init : goal.messages-init
messages-init g c =
    let old = c.args.self.now in
    record {
      noted = c.requires;
      life = life_itself old.host.pass old.host.journal;
      moved = (refl, λ none. refl);
      streams = refl;
      shown = shows_idle (spelling_of old) old.host.pass old.host.pass (shown_by old) (shown_by old) refl refl;
      spelling = refl;
      words = bears_none (words_of old) (words_of old) old.host.pass old.host.pass refl refl;
    }

pub returns-then-has_enough-clause-shown : goal.returns-then-has_enough-clause-shown
returns-then-has_enough-clause-shown g c =
    let old = c.args.self.now in
    shows_idle (spelling_of old) old.host.pass old.host.pass (shown_by old) (shown_by old) refl refl
