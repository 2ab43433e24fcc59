use Rattle.std.proofs.Common.{◌≡◌, ℕ, List, ◌++◌, ◌∙◌, ap, subst, arith}
use Rattle.std.specs.Io.KnownBytes.{Appends}
use Rattle.std.proofs.lemmas.Result.{err_from_is_err_and}
use Rattle.amo_text.specs.Sink.{AppendsFront}
use Rattle.amo_journal.specs.Journal.{line_text}
use Rattle.amo_journal.specs.Version.{heading}
use Rattle.amo_journal.proofs.Written.{text_from, journal_of, heading_written, begun_in_heading, begun_here, more_written, begun_in_line, all_written}
use Rattle.amo_journal.proofs.writing.write_events.Goals as goal

pub returns-in_err-write_all-clause-begun : goal.returns-in_err-write_all-clause-begun
returns-in_err-write_all-clause-begun g c =
    let p = err_from_is_err_and c.from_residual.result c.from_residual.ensures.1 in
    let events = c.args.events.now in
    rw p.1 (
      heading c.args.version ++ text_from 0 events,
      journal_of c.args.version events (omega arith) c.requires,
      begun_in_heading c.args.version _ _ events (subst (AppendsFront (g.W.Sink.written c.args.sink.now) (g.W.Sink.written c.write_all.new.sink)) c.heading.ensures c.in_err-write_all.ensures.fault),
    )

pub loop-number-init : goal.loop-number-init
loop-number-init g c = record {
  written = heading_written c.args.version _ _ c.args.events.now (subst (Appends (g.W.Sink.written c.args.sink.now) (g.W.Sink.written c.write_all.new.sink)) c.heading.ensures c.in_ok-write_all.ensures.ok);
  calm = c.in_ok-write_all.ensures.calm;
}

pub returns-in_err-push_line-clause-begun : goal.returns-in_err-push_line-clause-begun
returns-in_err-push_line-clause-begun g c =
    let p = err_from_is_err_and c.from_residual-in_err-push_line.result c.from_residual-in_err-push_line.ensures.1 in
    let events = c.args.events.now in
    rw p.1 (
      heading c.args.version ++ text_from 0 events,
      journal_of c.args.version events (omega arith) c.requires,
      begun_here c.args.version _ _ (g.W.Sink.written c.loop-number.sink) events c.loop-number.number c.loop-number.invariant.written,
    )

pub returns-in_err-write_all-2-clause-begun : goal.returns-in_err-write_all-2-clause-begun
returns-in_err-write_all-2-clause-begun g c =
    let p = err_from_is_err_and c.from_residual-in_err-write_all-2.result c.from_residual-in_err-write_all-2.ensures.1 in
    let events = c.args.events.now in
    let line = line_text (record { number = c.loop-number.number; event = c.index-events-number.result }) in
    let text : c.as_slice.result.now ≡ line = c.as_slice.ensures.value ∙ c.in_ok-push_line.ensures ∙ ap (λ (t : List ℕ). t ++ line) c.clear.ensures.items in
    rw p.1 (
      heading c.args.version ++ text_from 0 events,
      journal_of c.args.version events (omega arith) c.requires,
      begun_in_line c.args.version _ _ _ events c.loop-number.number c.loop-number.invariant.written c.index-events-number.result c.loop-number-test.true c.index-events-number.is
          (subst (AppendsFront (g.W.Sink.written c.loop-number.sink) (g.W.Sink.written c.write_all-in-loop-number.new.sink)) text c.in_err-write_all-2.ensures.fault),
    )

pub loop-number-preserved : goal.loop-number-preserved
loop-number-preserved g c =
    let line = line_text (record { number = c.loop-number.number; event = c.index-events-number.result }) in
    let text : c.as_slice.result.now ≡ line = c.as_slice.ensures.value ∙ c.in_ok-push_line.ensures ∙ ap (λ (t : List ℕ). t ++ line) c.clear.ensures.items in
    record {
      written = more_written c.args.version _ _ _ c.args.events.now c.loop-number.number c.loop-number.invariant.written c.index-events-number.result c.loop-number-test.true c.index-events-number.is
          (subst (Appends (g.W.Sink.written c.loop-number.sink) (g.W.Sink.written c.write_all-in-loop-number.new.sink)) text c.in_ok-write_all-2.ensures.ok);
      calm = c.in_ok-write_all-2.ensures.calm ∙ c.loop-number.invariant.calm;
    }

pub returns-clause-written : goal.returns-clause-written
returns-clause-written g c =
    let events = c.args.events.now in
    (heading c.args.version ++ text_from 0 events, journal_of c.args.version events (omega arith) c.requires, all_written c.args.version _ _ events c.loop-number.number c.loop-number.invariant.written c.loop-number-test.false)
