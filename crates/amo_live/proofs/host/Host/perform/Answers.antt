use Rattle.std.proofs.Common.{◌≡◌, ◌∙◌, ap, sym, subst}
use Rattle.amo_core.specs.Summary.{summary_of}
use Rattle.amo_book.specs.Pass.{automaton_after, mine}
use Rattle.amo_host.specs.AtStream.{HasMode}
use Rattle.amo_live.specs.declared.unanswered.Step.{Step}
use Rattle.amo_live.specs.Host.{HostState, IsBegun, IsNoted, IsWhole, MayNotStart}
use Rattle.amo_live.specs.Unanswered.{step_of, stepped}
use Rattle.amo_live.proofs.NotedLines.{did_around, performed_noted, with_kept, with_other}
use Rattle.amo_live.proofs.Onwards.{begins_whole}
use Rattle.amo_live.proofs.host.Host.perform.Goals as goal

pub returns-in-Ok-None-clause-waits : goal.returns-in-Ok-None-clause-waits
returns-in-Ok-None-clause-waits g c = λ begins.
    subst (λ (x : HostState g.row.L.Denot g.row.S.Denot). MayNotStart x c.args.stream) c.travelling.ensures.same (rw c.in-Ok-None.field-0-is at (c.in-Ok-None.ensures.waits begins))

pub returns-in-Ok-keep_step-clause-did : goal.returns-in-Ok-keep_step-clause-did
returns-in-Ok-keep_step-clause-did g c =
    did_around c.args.self.now c.travelling.new.self c.note_act.new.self c.meet.new.self c.keep_step.new.self c.args.stream c.args.act c.in-Ok-Some.mode c.travelling.ensures.same c.meet.ensures.same c.keep_step.ensures.same
    (rw c.in-Ok-Some.field-0-is at c.in-Ok-Some.ensures.did)

pub returns-in-Ok-keep_step-clause-noted : goal.returns-in-Ok-keep_step-clause-noted
returns-in-Ok-keep_step-clause-noted g c =
    let t = c.travelling.new.self in let n = c.note_act.new.self in let m = c.meet.new.self in let k = c.keep_step.new.self in
    let before = c.mode_of-before.result in let now = c.in-Ok-Some.mode in let messages = c.in-Ok.messages in
    let same = c.travelling.ensures.same in
    let after : k ≡ with_kept (with_other n m.other) k.unanswered = c.keep_step.ensures.same ∙ ap (λ (x : HostState g.row.L.Denot g.row.S.Denot). with_kept x k.unanswered) c.meet.ensures.same in
    let kept : k.unanswered ≡ stepped (step_of before now) c.args.stream messages n.journal.last n.unanswered =
    c.in-Ok-keep_step.ensures.kept ∙ (ap (λ (s : Step). stepped s c.args.stream messages m.journal.last m.unanswered) c.step_of.ensures
    ∙ ap (λ (x : HostState g.row.L.Denot g.row.S.Denot). stepped (step_of before now) c.args.stream messages x.journal.last x.unanswered) c.meet.ensures.same) in
    subst (λ (x : HostState g.row.L.Denot g.row.S.Denot). IsNoted g.S.Sink.written x) (sym after)
    (performed_noted g.S.Sink.written t n c.args.stream c.args.act before now messages (subst (λ (x : HostState g.row.L.Denot g.row.S.Denot). IsNoted g.S.Sink.written x) (sym same) c.requires.noted)
    c.in-Ok-Some.ensures.noted c.in-Ok-Some.ensures.stays (rw c.in-Ok-Some.field-0-is at c.in-Ok-Some.ensures.did) (rw c.in-Ok-Some.field-0-is at c.in-Ok-Some.ensures.found) (rw c.in-Ok-Some.field-0-is at c.in-Ok-Some.ensures.last)
    (subst IsWhole (ap (λ (x : HostState g.row.L.Denot g.row.S.Denot). x.pass) c.meet.ensures.same) c.meet.ensures.whole)
    (λ known has. c.mode_of-before.ensures.only known (subst (λ (x : HostState g.row.L.Denot g.row.S.Denot). HasMode x.pump.host c.args.stream known) same has))
    (λ sends. subst (λ (x : HostState g.row.L.Denot g.row.S.Denot). messages ≡ (summary_of (automaton_after x.side c.args.stream x.pass.seen)).held) (sym same) (c.in-Ok.ensures.sends sends))
    (λ sends. c.in-Ok.ensures.whole sends) c.requires.suits.0 k.unanswered kept c.in-Ok-Some.ensures.kept)

pub returns-in-Err-keep_step-clause-begun : goal.returns-in-Err-keep_step-clause-begun
returns-in-Err-keep_step-clause-begun g c =
    let n = c.note_act.new.self in let m = c.meet.new.self in let k = c.keep_step.new.self in
    let after : k ≡ with_kept (with_other n m.other) k.unanswered = c.keep_step.ensures.same ∙ ap (λ (x : HostState g.row.L.Denot g.row.S.Denot). with_kept x k.unanswered) c.meet.ensures.same in
    subst (λ (x : HostState g.row.L.Denot g.row.S.Denot). IsBegun g.S.Sink.written x) (sym after) (begins_whole g.S.Sink.written n.journal (mine n.pass) c.in-Ok-Some.ensures.noted)
