use Rattle.std.proofs.Common.{◌∷◌, ◌++◌, [], subst}
use Rattle.std.proofs.lemmas.Result.{on_ok_weaker}
use Rattle.amo_world.specs.declared.event.Event.{Event}
use Rattle.amo_telling.specs.Outcomes.{by}
use Rattle.amo_telling.specs.Told.{HasTold}
use Rattle.amo_telling.proofs.LineByLine.{puts_nothing, same_event}
use Rattle.amo_telling.proofs.PutLines.{nothing_put}
use Rattle.amo_telling.proofs.puts.tell_line.Goals as goal

pub returns-then-not-may_put : goal.returns-then-not-may_put
returns-then-not-may_put c = λ event line past long told.
    nothing_put (by c.args.report.choice c.args.report.doubts.now) c.args.listing c.args.counts.now c.args.text.now.items past told event
    (puts_nothing c.args.version c.args.number event c.args.line.now line (c.may_put.ensures c.if-not-may_put.true))

pub unreachable-requires : goal.unreachable-requires
unreachable-requires c =
    let (event, line) = c.requires.line in
    (rw c.in-None.is at c.in_ok-read.ensures) (record { number = c.args.number; event = event }) line.0 line.1

pub returns : goal.returns
returns c =
    let read = rw c.in-Some.is at c.in_ok-read.ensures in
    on_ok_weaker c.tell_event.result (λ told event line past long so_far.
    subst (λ (e : Event). HasTold (by c.args.report.choice c.args.report.doubts.now) c.args.listing c.tell_event.new.counts c.tell_event.new.text.items (past ++ e ∷ []))
    (same_event c.args.version c.args.number event c.args.line.now c.in-Some.read line read) (told past long so_far)) c.tell_event.ensures
