use Rattle.std.proofs.Common.{◌∙◌, rules}
use Rattle.amo_live.specs.Service.{shown_by, spelling_of, words_of}
use Rattle.amo_live.proofs.Fresh.{bears_on}
use Rattle.amo_live.proofs.Lined.{life_on}
use Rattle.amo_live.proofs.Showing.{shows_after}
use Rattle.amo_live.proofs.service.Service.catch_up.Goals as goal

pub streams-preserved : goal.streams-preserved
streams-preserved g c =
    let so_far = c.streams.invariant in
    let old = c.args.self.now in let middle = c.streams.self in let new = c.begin_in_turn.new.self in
    record {
      noted = search rules;
      life = life_on old.host.pass middle.host.pass new.host.pass old.host.journal middle.host.journal new.host.journal so_far.life c.begin_in_turn.ensures.life;
      moved = search rules;
      streams = c.begin_in_turn.ensures.streams ∙ so_far.streams;
      shown = shows_after (spelling_of old) (spelling_of middle) old.host.pass middle.host.pass new.host.pass (shown_by old) (shown_by middle) (shown_by new) so_far.spelling so_far.shown c.in_ok-begin_in_turn.ensures.shown;
      spelling = c.begin_in_turn.ensures.spelling ∙ so_far.spelling;
      words = bears_on (words_of old) (words_of middle) (words_of new) old.host.pass middle.host.pass new.host.pass so_far.words c.in_ok-begin_in_turn.ensures.words;
    }
