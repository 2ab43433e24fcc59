use Rattle.std.proofs.Common.{◌≡◌, refl, rules, ◌∙◌}
use Rattle.amo_desk.specs.Serving.{moment}
use Rattle.amo_live.specs.Service.{shown_by, spelling_of, streams_of, words_of}
use Rattle.amo_live.proofs.Fresh.{bears_on}
use Rattle.amo_live.proofs.Showing.{shows_after, shows_idle}
use Rattle.amo_desk.proofs.Conserving.{line_over, none_moved, none_over, serves_none}
use Rattle.amo_desk.proofs.putting.take_lines.Goals as goal

pub lines-init : goal.lines-init
lines-init g c =
    let input : c.args.desk.now.input ≡ c.args.desk.now.input = search rules in
    record {
      noted = c.in_ok-put_kept.ensures.noted;
      serves = serves_none c.args.desk.now.spelling c.args.desk.now.puts (streams_of c.args.service.now) (moment c.args.desk.now.input c.args.desk.now.kept c.args.service.now.host.pass) (moment c.args.desk.now.input c.put_kept.new.kept c.put_kept.new.service.host.pass)
          input c.in_ok-put_kept.ensures.moves;
      streams = c.in_ok-put_kept.ensures.streams;
      shown = c.in_ok-put_kept.ensures.shown;
      words = c.in_ok-put_kept.ensures.words;
      spells = c.in_ok-put_kept.ensures.spells;
      same = search rules;
    }

pub lines-preserved : goal.lines-preserved
lines-preserved g c =
    let spelling : c.lines.desk.spelling ≡ c.args.desk.now.spelling = search rules in
    let puts : c.lines.desk.puts ≡ c.args.desk.now.puts = search rules in
    let input : c.put_line.new.desk.input ≡ c.next.new.self = search rules in
    record {
      noted = c.in_ok-put_line.ensures.noted;
      serves = line_over c.args.desk.now.spelling c.args.desk.now.puts (streams_of c.args.service.now) c.lines.desk.spelling c.lines.desk.puts (streams_of c.lines.service) (moment c.args.desk.now.input c.args.desk.now.kept c.args.service.now.host.pass)
          c.lines.desk.input c.next.new.self c.put_line.new.desk.input c.lines.desk.kept c.put_line.new.desk.kept c.lines.service.host.pass c.put_line.new.service.host.pass c.in-Some.line c.in_ok-line.field-0
          spelling puts c.lines.invariant.streams c.lines.invariant.serves c.in-Some.is c.in_ok-line.ensures.takes c.in_ok-line.ensures.stays input c.in_ok-put_line.ensures.moves;
      streams = c.in_ok-put_line.ensures.streams ∙ c.lines.invariant.streams;
      shown = shows_after (spelling_of c.args.service.now) (spelling_of c.lines.service) c.args.service.now.host.pass c.lines.service.host.pass c.put_line.new.service.host.pass
          (shown_by c.args.service.now) (shown_by c.lines.service) (shown_by c.put_line.new.service) c.lines.invariant.spells c.lines.invariant.shown c.in_ok-put_line.ensures.shown;
      words = bears_on (words_of c.args.service.now) (words_of c.lines.service) (words_of c.put_line.new.service) c.args.service.now.host.pass c.lines.service.host.pass c.put_line.new.service.host.pass c.lines.invariant.words c.in_ok-put_line.ensures.words;
      spells = c.in_ok-put_line.ensures.spells ∙ c.lines.invariant.spells;
      same = search rules;
    }

pub returns-then-was_rung-clause-serves : goal.returns-then-was_rung-clause-serves
returns-then-was_rung-clause-serves g c =
    let first = moment c.args.desk.now.input c.args.desk.now.kept c.args.service.now.host.pass in
    serves_none c.args.desk.now.spelling c.args.desk.now.puts (streams_of c.args.service.now) first first refl
    (none_moved c.args.desk.now.kept c.args.desk.now.kept c.args.service.now.host.pass c.args.service.now.host.pass refl refl)

pub returns-then-was_rung-clause-shown : goal.returns-then-was_rung-clause-shown
returns-then-was_rung-clause-shown g c =
    let service = c.args.service.now in
    shows_idle (spelling_of service) service.host.pass service.host.pass (shown_by service) (shown_by service) refl refl

pub returns-in_default-clause-serves : goal.returns-in_default-clause-serves
returns-in_default-clause-serves g c =
    none_over c.args.desk.now.spelling c.args.desk.now.puts (streams_of c.args.service.now) c.lines.desk.spelling (moment c.args.desk.now.input c.args.desk.now.kept c.args.service.now.host.pass)
    c.lines.desk.input c.next.new.self c.lines.desk.kept c.lines.service.host.pass c.in_ok-line.field-0 c.lines.invariant.serves c.in_default.is c.in_ok-line.ensures.takes c.in_ok-line.ensures.stays
