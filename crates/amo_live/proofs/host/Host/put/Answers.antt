use Rattle.std.proofs.Common.{◌≡◌, ◌∙◌, ap, sym, subst}
use Rattle.amo_book.specs.Calls.{put_answer}
use Rattle.amo_book.specs.Pass.{mine}
use Rattle.amo_live.specs.Host.{HostState, IsBegun, IsNoted, IsWhole}
use Rattle.amo_live.specs.OpenLines.{with_put}
use Rattle.amo_live.proofs.NotedLines.{put_noted, with_kept, with_other}
use Rattle.amo_live.proofs.Onwards.{begins_whole}
use Rattle.amo_live.proofs.host.Host.put.Goals as goal

pub returns-in-Ok-keep_put-clause-noted : goal.returns-in-Ok-keep_put-clause-noted
returns-in-Ok-keep_put-clause-noted g c =
    let n = c.note_put.new.self in let m = c.meet.new.self in let k = c.keep_put.new.self in let answer = put_answer c.in-Ok.answer in
    let after : k ≡ with_kept (with_other n m.other) k.unanswered = c.keep_put.ensures.same ∙ ap (λ (x : HostState g.row.L.Denot g.row.S.Denot). with_kept x k.unanswered) c.meet.ensures.same in
    let kept : k.unanswered ≡ with_put answer c.args.stream n.journal.last n.unanswered =
    c.in-Ok-keep_put.ensures.kept ∙ ap (λ (x : HostState g.row.L.Denot g.row.S.Denot). with_put answer c.args.stream x.journal.last x.unanswered) c.meet.ensures.same in
    subst (λ (x : HostState g.row.L.Denot g.row.S.Denot). IsNoted g.S.Sink.written x) (sym after)
    (put_noted g.S.Sink.written c.args.self.now n c.args.stream c.args.message answer c.requires c.in-Ok.ensures.noted c.in-Ok.ensures.stays.0 c.in-Ok.ensures.put
    (subst IsWhole (ap (λ (x : HostState g.row.L.Denot g.row.S.Denot). x.pass) c.meet.ensures.same) c.meet.ensures.whole) c.in-Ok.ensures.last k.unanswered kept c.in-Ok.ensures.kept)

pub returns-in-Err-keep_put-clause-begun : goal.returns-in-Err-keep_put-clause-begun
returns-in-Err-keep_put-clause-begun g c =
    let n = c.note_put.new.self in let m = c.meet.new.self in let k = c.keep_put.new.self in
    let after : k ≡ with_kept (with_other n m.other) k.unanswered = c.keep_put.ensures.same ∙ ap (λ (x : HostState g.row.L.Denot g.row.S.Denot). with_kept x k.unanswered) c.meet.ensures.same in
    subst (λ (x : HostState g.row.L.Denot g.row.S.Denot). IsBegun g.S.Sink.written x) (sym after) (begins_whole g.S.Sink.written n.journal (mine n.pass) c.in-Ok.ensures.noted)
