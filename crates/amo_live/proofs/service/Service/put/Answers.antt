use Rattle.std.proofs.Common.{◌≡◌, ℕ, refl, ap, ◌∙◌, rules, subst}
use Rattle.amo_object.specs.declared.step.End.TheVariants.{Sender}
use Rattle.amo_core.specs.declared.act.Act.TheVariants as act
use Rattle.amo_book.specs.Calls.{put_answer}
use Rattle.amo_lines.specs.declared.lines.Spelling.{Spelling}
use Rattle.amo_live.specs.Service.{shown_by, spelling_of, words_of}
use Rattle.amo_live.proofs.Fresh.{bears_as, bears_none, bears_on, call_bears}
use Rattle.amo_live.specs.Shown.{BeginsWithPut, told_put}
use Rattle.amo_live.proofs.Showing.{begins_with, put_shows, refused_shows, shows_as, shows_on}
use Rattle.amo_live.proofs.service.Service.put.Goals as goal

pub returns-in-Err-clause-shown : goal.returns-in-Err-clause-shown
returns-in-Err-clause-shown g c =
    let grown = rw c.in-Err.is at c.in_ok-fault.ensures.put in
    let old = shown_by c.args.self.now in
    refused_shows (spelling_of c.args.self.now) c.args.self.now.host.pass c.put.new.self.pass c.args.stream c.args.named.message c.in-Err.fault old old grown refl

pub returns-in_ok-begin-in-Ok-clause-shown : goal.returns-in_ok-begin-in-Ok-clause-shown
returns-in_ok-begin-in-Ok-clause-shown g c =
    let grown = rw c.in-Ok.is at c.in_ok-fault.ensures.put in
    let spelling = spelling_of c.args.self.now in
    let first = c.args.self.now.host.pass in
    let old = shown_by c.args.self.now in
    let told = shown_by c.tell_put.new.self in
    let new = shown_by c.begin.new.self in
    let same : shown_by c.owe.new.self ≡ old = search rules in
    let spelt : spelling_of c.owe.new.self ≡ spelling = search rules in
    let put : told ≡ told_put spelling c.args.stream c.args.named.id c.next_line-line.result old =
    c.in_ok-tell_put-in-Ok.ensures.told ∙ (ap (λ (s : Spelling). told_put s c.args.stream c.args.named.id c.next_line-line.result (shown_by c.owe.new.self)) spelt ∙ ap (told_put spelling c.args.stream c.args.named.id c.next_line-line.result) same) in
    let one = put_shows spelling first c.put.new.self.pass c.args.stream c.args.named.message c.in-Ok.field-0 c.args.named.id c.next_line-line.result old told grown put in
    let last : spelling ≡ spelling_of c.tell_put.new.self = search rules in
    let pass : c.put.new.self.pass ≡ c.tell_put.new.self.host.pass = search rules in
    shows_on spelling first c.put.new.self.pass c.begin.new.self.host.pass old told new one
    (shows_as (spelling_of c.tell_put.new.self) spelling c.tell_put.new.self.host.pass c.begin.new.self.host.pass c.put.new.self.pass c.begin.new.self.host.pass told new told new last pass refl refl refl c.in_ok-begin-in-Ok.ensures.shown)

pub returns-in_ok-begin-in-Ok-clause-told : goal.returns-in_ok-begin-in-Ok-clause-told
returns-in_ok-begin-in-Ok-clause-told g c =
    let spelling = spelling_of c.args.self.now in
    let old = shown_by c.args.self.now in
    let told = shown_by c.tell_put.new.self in
    let new = shown_by c.begin.new.self in
    let same : shown_by c.owe.new.self ≡ old = search rules in
    let spelt : spelling_of c.owe.new.self ≡ spelling = search rules in
    let put : told ≡ told_put spelling c.args.stream c.args.named.id c.next_line-line.result old =
    c.in_ok-tell_put-in-Ok.ensures.told ∙ (ap (λ (s : Spelling). told_put s c.args.stream c.args.named.id c.next_line-line.result (shown_by c.owe.new.self)) spelt ∙ ap (told_put spelling c.args.stream c.args.named.id c.next_line-line.result) same) in
    subst (λ (n : ℕ). BeginsWithPut spelling c.args.stream c.args.named.id n old new) c.next_line-line.ensures
    (begins_with spelling (spelling_of c.tell_put.new.self) c.args.stream c.args.named.id c.next_line-line.result c.tell_put.new.self.host.pass c.begin.new.self.host.pass old told new put c.in_ok-begin-in-Ok.ensures.shown)

pub returns-in-Err-clause-words : goal.returns-in-Err-clause-words
returns-in-Err-clause-words g c =
    let old = words_of c.args.self.now in let first = c.args.self.now.host.pass in
    bears_none old old first c.put.new.self.pass refl (call_bears first c.put.new.self.pass Sender c.args.stream (act.Put c.args.named.message) (put_answer c.in_ok-fault.field-0) refl c.in_ok-fault.ensures.put)

pub returns-in_ok-begin-in-Ok-clause-words : goal.returns-in_ok-begin-in-Ok-clause-words
returns-in_ok-begin-in-Ok-clause-words g c =
    let old = words_of c.args.self.now in let first = c.args.self.now.host.pass in
    let owed = words_of c.tell_put.new.self in let new = words_of c.begin.new.self in
    let words : owed ≡ old = search rules in
    let pass : c.tell_put.new.self.host.pass ≡ c.put.new.self.pass = search rules in
    bears_on old owed new first c.tell_put.new.self.host.pass c.begin.new.self.host.pass
    (bears_as old old old owed first c.put.new.self.pass first c.tell_put.new.self.host.pass refl words refl pass
    (bears_none old old first c.put.new.self.pass refl (call_bears first c.put.new.self.pass Sender c.args.stream (act.Put c.args.named.message) (put_answer c.in_ok-fault.field-0) refl c.in_ok-fault.ensures.put)))
    c.in_ok-begin-in-Ok.ensures.words
