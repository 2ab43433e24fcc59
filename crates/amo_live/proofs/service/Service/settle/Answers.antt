use Rattle.std.proofs.Common.{◌≡◌, refl, rules}
use Rattle.amo_object.specs.declared.step.End.TheVariants.{Sender}
use Rattle.amo_core.specs.declared.act.Act.TheVariants as act
use Rattle.amo_book.specs.Calls.{ack_answer}
use Rattle.amo_live.specs.Service.{shown_by, spelling_of, words_of}
use Rattle.amo_live.proofs.Fresh.{bears_as, bears_none, call_bears}
use Rattle.amo_lines.specs.Spelt.{word_of}
use Rattle.amo_live.specs.Shown.{told_answer}
use Rattle.amo_live.proofs.Showing.{ack_shows, shows_as, unknown_shows}
use Rattle.amo_live.proofs.service.Service.settle.Goals as goal

pub returns-in_default-2-clause-shown : goal.returns-in_default-2-clause-shown
returns-in_default-2-clause-shown g c =
    let known = rw c.in_default-2.is at c.in_ok-was_got.ensures.known in
    let old = shown_by c.args.self.now in
    unknown_shows (spelling_of c.args.self.now) c.args.self.now.host.pass c.get_ack.new.self.pass c.args.end.stream old old c.in_default-2.field-0 known refl

pub returns-clause-shown : goal.returns-clause-shown
returns-clause-shown g c =
    let spelling = spelling_of c.args.self.now in
    let first = c.args.self.now.host.pass in
    let last = c.note_answer.new.self.host.pass in
    let old = shown_by c.args.self.now in
    let new = shown_by c.note_answer.new.self in
    let pass : last ≡ c.get_ack.new.self.pass = search rules in
    let known = rw c.in-Ok.is at c.in_ok-was_got.ensures.known in
    let told : new ≡ told_answer spelling c.args.end.stream (word_of c.in-Ok.was_got) old = search rules in
    shows_as spelling spelling first c.get_ack.new.self.pass first last old new old new refl refl pass refl refl
    (ack_shows spelling first c.get_ack.new.self.pass c.args.end.stream old new c.in-Ok.was_got c.in-Ok.field-0-1 known told)

pub returns-in_default-2-clause-words : goal.returns-in_default-2-clause-words
returns-in_default-2-clause-words g c =
    let old = words_of c.args.self.now in let first = c.args.self.now.host.pass in
    bears_none old old first c.get_ack.new.self.pass refl (call_bears first c.get_ack.new.self.pass Sender c.args.end.stream act.Ack (ack_answer c.in_ok-was_got.field-0) refl c.in_ok-was_got.ensures.known)

pub returns-clause-words : goal.returns-clause-words
returns-clause-words g c =
    let old = words_of c.args.self.now in let first = c.args.self.now.host.pass in
    let pass : c.note_answer.new.self.host.pass ≡ c.get_ack.new.self.pass = search rules in
    let words : words_of c.note_answer.new.self ≡ old = search rules in
    bears_as old old old (words_of c.note_answer.new.self) first c.get_ack.new.self.pass first c.note_answer.new.self.host.pass refl words refl pass
    (bears_none old old first c.get_ack.new.self.pass refl (call_bears first c.get_ack.new.self.pass Sender c.args.end.stream act.Ack (ack_answer c.in_ok-was_got.field-0) refl c.in_ok-was_got.ensures.known))
