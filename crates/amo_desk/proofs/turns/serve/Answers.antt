use Rattle.std.proofs.Common.{[], ◌++◌, refl, ◌∙◌}
use Rattle.amo_desk.specs.Serving.{moment}
use Rattle.amo_live.specs.Service.{shown_by, spelling_of, streams_of, words_of}
use Rattle.amo_live.proofs.Showing.{shown_none, shown_after}
use Rattle.amo_desk.proofs.Conserving.{none_moved, serves_as, serves_none, serves_on}
use Rattle.amo_live.proofs.Fresh.{bears_none, bears_on}
use Rattle.amo_desk.proofs.Readers.{more_taken, none_taken}
use Rattle.amo_desk.proofs.turns.serve.Goals as goal

pub turns-init : goal.turns-init
turns-init g c =
    let first = moment c.args.desk.now.input c.args.desk.now.kept c.args.service.now.host.pass in
    record {
      noted = c.requires;
      bytes = [];
      read = none_taken (g.I.Read.remaining c.args.desk.now.reader);
      serves = serves_none c.args.desk.now.spelling c.args.desk.now.puts (streams_of c.args.service.now) first first refl (none_moved c.args.desk.now.kept c.args.desk.now.kept c.args.service.now.host.pass c.args.service.now.host.pass refl refl);
      streams = refl;
      shown = shown_none (spelling_of c.args.service.now) c.args.service.now.host.pass (shown_by c.args.service.now) (g.O.Write.contents c.args.desk.now.output);
      words = bears_none (words_of c.args.service.now) (words_of c.args.service.now) c.args.service.now.host.pass c.args.service.now.host.pass refl refl;
      spells = refl;
      spelling = refl;
      puts = refl;
      unread = λ shut. refl;
    }

pub turns-preserved : goal.turns-preserved
turns-preserved g c =
    let so_far = c.turns.invariant in let more = c.in_ok-shown.ensures.serves in
    let first = moment c.args.desk.now.input c.args.desk.now.kept c.args.service.now.host.pass in
    let before = moment c.turns.desk.input c.turns.desk.kept c.turns.service.host.pass in
    let after = moment c.turn.new.desk.input c.turn.new.desk.kept c.turn.new.service.host.pass in
    record {
      noted = c.in_ok-shown.ensures.noted;
      bytes = so_far.bytes ++ more.0;
      read = more_taken _ _ _ so_far.bytes more.0 so_far.read more.1;
      serves = serves_on c.args.desk.now.spelling c.args.desk.now.puts (streams_of c.args.service.now) first before after so_far.bytes more.0 so_far.serves
          (serves_as c.args.desk.now.spelling c.args.desk.now.puts (streams_of c.args.service.now) c.turns.desk.spelling c.turns.desk.puts (streams_of c.turns.service) more.0 before after so_far.spelling so_far.puts so_far.streams more.2);
      streams = c.in_ok-shown.ensures.streams ∙ so_far.streams;
      shown = shown_after (spelling_of c.args.service.now) (spelling_of c.turns.service) c.args.service.now.host.pass c.turns.service.host.pass c.turn.new.service.host.pass
          (shown_by c.args.service.now) (shown_by c.turns.service) (shown_by c.turn.new.service) (g.O.Write.contents c.args.desk.now.output) (g.O.Write.contents c.turns.desk.output) (g.O.Write.contents c.turn.new.desk.output)
          so_far.spells so_far.shown c.in_ok-shown.ensures.shown;
      words = bears_on (words_of c.args.service.now) (words_of c.turns.service) (words_of c.turn.new.service) c.args.service.now.host.pass c.turns.service.host.pass c.turn.new.service.host.pass so_far.words c.in_ok-shown.ensures.words;
      spells = c.in_ok-shown.ensures.spells ∙ so_far.spells;
      spelling = c.in_ok-shown.ensures.spelling ∙ so_far.spelling;
      puts = c.in_ok-shown.ensures.puts ∙ so_far.puts;
      unread = λ shut. c.in_ok-shown.ensures.unread (so_far.puts ∙ shut) ∙ so_far.unread shut;
    }
